-- What taking copies off a row leaves, what the call answers, and what it is lent.
-- Assumes nothing.
use Rattle.std.specs.Prelude.{◌≡◌, ℕ, ◌-◌, min, List, length, slice_index_or}
use Rattle.octets.specs.Bytes.{splice}
use Rattle.table.specs.Lists.{position, remove_at, replace_at}
use Rattle.table.specs.Codec.{Codec, table_of, with_table, TableNow}
use Rattle.rows.specs.declared.Device.{Device}
use Rattle.rows.specs.declared.Exchange.{Exchange}
use Rattle.rows.specs.declared.Own.{Own}
use Rattle.rows.specs.declared.Carried.{Carried}
use Rattle.rows.specs.declared.Action.{Action}
use Rattle.rows.specs.Rows.{own_codec, carried_codec, offer_codec, action_codec, action_bytes}
use Rattle.rows.specs.Limits.{max_offers}
use Rattle.model.specs.Basics.{match_found}
use Rattle.model.specs.State.{State}
use Rattle.model.specs.Calls.{Result as Outcome, put_courier, put_queued}
use Rattle.model.specs.Exchange.{no_carried, no_own, no_offer, lowered, own_lowered, handed_over, handed_actions, offer_of_tag}
use Rattle.model.specs.Areas.{Areas, store_device, bytes_after}
use Rattle.model.specs.Lent.{device_in, contacts_in, own_in, carried_in, tombstones_in, exchange_in}
use Rattle.holdings.specs.Lends.{exchange_of}

-- ---- what is left: a row with fewer copies at i, and its action

pub record TakenOff {A : Type 0} (c : Codec A) (none : A) (low : A → A) (act : A → Action) (count i : ℕ) (a ac : List ℕ) (m : ℕ) (x y : List ℕ) : Type 0 where
  pub rows : TableNow c a (replace_at i (low (slice_index_or (table_of c count a) i none)) (table_of c count a)) m x
  pub action : y ≡ splice ac 0 (action_bytes (act (slice_index_or (table_of c count a) i none)))

abbrev pub put_of : Carried → Action
put_of r = put_courier r.slot

abbrev pub put_of_own : Own → Action
put_of_own o = put_queued o.contact o.msgno

abbrev pub TakenOffCarried : ℕ → (count i : ℕ) (a ac : List ℕ) (m : ℕ) (x y : List ℕ) → Type 0
TakenOffCarried n = TakenOff carried_codec no_carried (lowered n) put_of

abbrev pub TakenOffOwn : ℕ → (count i : ℕ) (a ac : List ℕ) (m : ℕ) (x y : List ℕ) → Type 0
TakenOffOwn n = TakenOff own_codec no_own (own_lowered n) put_of_own

-- the device with other counts of own rows and carried rows
abbrev pub device_with : (own carried : ℕ) → Device → Device
device_with own carried d = record d { own = own; carried = carried }

-- n copies were handed over: the device d is now r, the tables are now x and y, and k actions are listed
pub record HandedAs (d : Device) (tag : List ℕ) (n : ℕ) (own carried ac : List ℕ) (r : Device) (k : ℕ) (x y z : List ℕ) : Type 0 where
  pub device : r ≡ store_device d (handed_over (table_of own_codec d.own own) (table_of carried_codec d.carried carried) tag n)
  pub owned : x ≡ bytes_after own_codec own (handed_over (table_of own_codec d.own own) (table_of carried_codec d.carried carried) tag n).queue.own
  pub held : y ≡ bytes_after carried_codec carried (handed_over (table_of own_codec d.own own) (table_of carried_codec d.carried carried) tag n).held.carried
  pub actions : z ≡ with_table action_codec ac (handed_actions (table_of own_codec d.own own) (table_of carried_codec d.carried carried) tag)
  pub count : k ≡ length (handed_actions (table_of own_codec d.own own) (table_of carried_codec d.carried carried) tag)

-- ---- the call

-- the exchange with another count of offers
abbrev pub exchange_with : ℕ → Exchange → Exchange
exchange_with offered e = record e { offered = offered }

-- the offer at i is cleared, with which n copies were handed: the exchange e is now f, and its offers are now those in w
pub record Cleared (i : ℕ) (e : Exchange) (offers : List ℕ) (n : ℕ) (f : Exchange) (w : List ℕ) : Type 0 where
  pub copies : n ≡ (slice_index_or (table_of offer_codec (min max_offers e.offered) offers) i no_offer).copies
  pub exchange : f ≡ exchange_with (length (remove_at i (table_of offer_codec (min max_offers e.offered) offers))) e
  pub table : w ≡ with_table offer_codec offers (remove_at i (table_of offer_codec (min max_offers e.offered) offers))

-- how many actions are listed, where it is not refused
abbrev pub says : Outcome → ℕ
says o = length o.actions

abbrev pub code_lent : Device → Exchange → (contacts own carried tombstones prefixes offers : List ℕ) → Areas → Areas
code_lent d e contacts own carried tombstones prefixes offers a =
    device_in d (contacts_in contacts (own_in own (carried_in carried (tombstones_in tombstones (exchange_in e prefixes offers a)))))

-- what the call leaves that is done, where the exchange e stood and the model's state was s: one offer less, if there is one with the tag
unfoldable pub code_leaves : (tag : List ℕ) → Exchange → State → Exchange
code_leaves tag e s =
    match_found (position (offer_of_tag tag) s.session.exchange.offered)
    (λ i. exchange_of e.peer e.complete e.listed (length s.session.exchange.offered - 1)) e
