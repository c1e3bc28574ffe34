-- What the calls of the inventory say, by the model's definitions.
-- Assumes nothing.
use Rattle.std.specs.Prelude.{◌≡◌, ℕ, ◌+◌, ◌==◌, true, cond, List, [], ◌∷◌, ◌++◌, map, length, Option, Some, None}
use mathlib.Core.List.{flat_map}
use Rattle.courier_core.specs.declared.ContactId.{ContactId}
use Rattle.table.specs.Lists.{filter}
use Rattle.table.specs.Codec.{table_of, with_table}
use Rattle.rows.specs.declared.Own.{Own}
use Rattle.rows.specs.declared.Carried.{Carried}
use Rattle.rows.specs.declared.Tombstone.{Tombstone}
use Rattle.rows.specs.declared.BadTag.{BadTag}
use Rattle.rows.specs.declared.Reachable.{Reachable}
use Rattle.rows.specs.declared.Exchange.{Exchange}
use Rattle.rows.specs.declared.Reply.{Reply}
use Rattle.rows.specs.declared.Device.{Device}
use Rattle.rows.specs.Rows.{contact_codec, tombstone_codec, bad_tag_codec, offer_codec, reply_codec}
use Rattle.model.specs.Basics.{trunc8}
use Rattle.model.specs.State.{State}
use Rattle.model.specs.Window.{window_rows, prefix_codec}
use Rattle.model.specs.Calls.{Result as Outcome, is_malformed, detail, wrote_of, fetch_reply}
use Rattle.model.specs.Areas.{Areas}
use Rattle.model.specs.Exchange.{Envelope, envelopes, reply_for, in_question, is_offered, halved, offers, insert_offers, fetch_for, tomb_for, searched_count}
use Rattle.model.specs.Lent.{device_in, contacts_in, own_in, carried_in, tombstones_in, bad_tags_in, exchange_in}
use Rattle.holdings.specs.Lends.{exchange_of}
use Rattle.offers.specs.declared.Row.{Row}
use Rattle.table.specs.Tables.{rows_in}
use Rattle.offers.specs.Entries.{Entry, row_of}
use Rattle.inventory.specs.declared.Said.{Said}
use Rattle.inventory.specs.declared.Said.TheVariants as said
use Rattle.inventory.specs.declared.Lookup.{Lookup}

-- ---- inventory of ours

-- the prefix of a row, if one may go
unfoldable pub prefix_for : Option Row → List (List ℕ)
prefix_for (Some r) = trunc8 r.tag ∷ []
prefix_for None = []

abbrev pub prefix_of : Entry → List (List ℕ)
prefix_of e = prefix_for (row_of e)

-- how many prefixes are written, where it is not refused
abbrev pub inventory_says : Outcome → ℕ
inventory_says o = wrote_of (detail o.answer)

-- what the call is lent, set into areas that are anything otherwise
abbrev pub held_in : Device → (contacts own carried : List ℕ) → Areas → Areas
held_in d contacts own carried a = device_in d (contacts_in contacts (own_in own (carried_in carried a)))

-- ---- inventory received: what is replied

-- the tombstones, and the fetches of a listed prefix
abbrev pub tombs : Lookup → List Tombstone
tombs x = rows_in tombstone_codec x.tombstones

abbrev pub fetches : Lookup → List ℕ → List Reply
fetches x = fetch_for (rows_in bad_tag_codec x.bad_tags) (tombs x) (window_rows x.window.now) x.peer

-- the fetch of a tag, if there is one
abbrev pub fetch_of : Option (List ℕ) → List Reply
fetch_of (Some tag) = fetch_reply tag ∷ []
fetch_of None = []

-- half of each envelope that is offered, and the envelopes for which the tombstones are searched
abbrev pub offers_of : ContactId → List Tombstone → List (List ℕ) → List Own → List Carried → List Envelope
offers_of peer ts ls own carried = map halved (filter (is_offered ts ls) (envelopes own carried peer))

abbrev pub searched_of : ContactId → List (List ℕ) → List Own → List Carried → List Envelope
searched_of peer ls own carried = filter (in_question ls) (envelopes own carried peer)

-- the replies to the listed prefixes ls: fetches, tombs, then the offers es
abbrev pub replies_for : List BadTag → List Reachable → ContactId → List Tombstone → List (List ℕ) → List Envelope → List Reply
replies_for bad window peer ts ls es = flat_map (fetch_for bad ts window peer) ls ++ flat_map (tomb_for ts) ls ++ map reply_for es

-- ---- inventory received: the exchange after it

abbrev pub completed_with : Exchange → ℕ → Exchange
completed_with e offers = record e { complete = true; listed = 0; offered = offers }

abbrev pub lengthened_to : Exchange → ℕ → Exchange
lengthened_to e listed = record e { listed = listed }

-- the terminator is answered: with the replies rs and the offers of es, the tombstones searched for so many rows
pub record Terminated (e : Exchange) (rs : List Reply) (es : List Envelope) (searched : ℕ) (replies offers : List ℕ) (e' : Exchange) (r : Said) (replies' offers' : List ℕ) : Type 0 where
  pub exchange : e' ≡ completed_with e (length (insert_offers es []))
  pub said : r ≡ said.Done (length rs) searched
  pub rows : replies' ≡ with_table reply_codec replies rs
  pub table : offers' ≡ with_table offer_codec offers (insert_offers es [])

-- the same, by what a lookup has and by the rows held
abbrev pub Answers : Exchange → Lookup → List Own → List Carried → List (List ℕ) → (replies offers : List ℕ) → Exchange → Said → (replies' offers' : List ℕ) → Type 0
Answers e x own carried ls =
    Terminated e (replies_for (rows_in bad_tag_codec x.bad_tags) (window_rows x.window.now) x.peer (tombs x) ls (offers_of x.peer (tombs x) ls own carried))
    (offers_of x.peer (tombs x) ls own carried) (length (searched_of x.peer ls own carried))

-- the prefixes ls are listed now
pub record Lengthened (e : Exchange) (ls : List (List ℕ)) (prefixes : List ℕ) (e' : Exchange) (prefixes' : List ℕ) : Type 0 where
  pub exchange : e' ≡ lengthened_to e (length ls)
  pub table : prefixes' ≡ with_table prefix_codec prefixes ls

-- ---- the call

-- where it is not refused: malformed, or how many replies are listed, and for how many rows the tombstones were searched
abbrev pub received_says : Outcome → Said
received_says o = cond (is_malformed o.answer) said.Malformed (said.Done (length o.replies) (searched_count o))

-- what the call is lent, set into areas that are anything otherwise
abbrev pub received_in : Device → (contacts own carried tombstones bad_tags : List ℕ) → Exchange → (prefixes offers : List ℕ) → Areas → Areas
received_in d contacts own carried tombstones bad_tags e prefixes offers a =
    device_in d (contacts_in contacts (own_in own (carried_in carried (tombstones_in tombstones (bad_tags_in bad_tags (exchange_in e prefixes offers a))))))

-- the parts of a state that the tests read, by the areas
pub record Reads (s : State) (d : Device) (area : List ℕ) (to : Option ContactId) (prefixes offers : ℕ) : Type 0 where
  pub contacts : s.contacts ≡ table_of contact_codec d.contacts area
  pub peer : s.session.exchange.peer ≡ to
  pub prefix_area : s.session.prefix_area ≡ prefixes
  pub offer_area : s.session.offer_area ≡ offers

-- what the call leaves that is done, where the exchange e stood and the model's state was s: the empty list, which ends it, sets the flag, takes the listed
-- prefixes out and counts the offers; any other list adds its prefixes to the count of those before it
unfoldable pub inventory_leaves : ContactId → (listed : List (List ℕ)) → Exchange → State → Exchange
inventory_leaves peer listed e s =
    cond (length listed == 0)
    (exchange_of e.peer true 0 (length (insert_offers (offers s peer) [])))
    (exchange_of e.peer e.complete (length s.session.exchange.listed + length listed) e.offered)
