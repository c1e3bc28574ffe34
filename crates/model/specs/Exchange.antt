-- `envelopes`, `inventory`, `receive_inventory` and `handed_over`: the calls inventory received, inventory of ours, fetch and custody code.
-- Assumes nothing.
use Rattle.std.specs.Prelude.{ℕ, ◌+◌, ◌-◌, ◌/◌, Bool, true, cond, not, ◌&&◌, ◌||◌, List, [], ◌∷◌, ◌++◌, map, length, get_or, ◌==◌, nat_lt, slice_index_or}
use mathlib.Core.List.{flat_map}
use Rattle.octets.specs.Bytes.{same_bytes}
use Rattle.courier_core.specs.declared.ContactId.{ContactId}
use Rattle.courier_core.specs.declared.Refusal.{Refusal}
use Rattle.courier_core.specs.declared.Refusal.TheVariants as refusal
use Rattle.table.specs.Rows.{join, ragged}
use Rattle.table.specs.Lists.{any, filter, position, replace_at, remove_at}
use Rattle.courier.specs.declared.Header.{Header}
use Rattle.courier.specs.declared.Custody.{Custody}
use Rattle.courier.specs.Tags.{commitment_of}
use Rattle.rows.specs.declared.Own.{Own}
use Rattle.rows.specs.declared.Carried.{Carried}
use Rattle.rows.specs.declared.Tombstone.{Tombstone}
use Rattle.rows.specs.declared.BadTag.{BadTag}
use Rattle.rows.specs.declared.Offer.{Offer}
use Rattle.rows.specs.declared.Reply.{Reply}
use Rattle.rows.specs.declared.Action.{Action}
use Rattle.rows.specs.declared.Reachable.{Reachable}
use Rattle.rows.specs.Limits.{max_inventory, prefix_area}
use Rattle.rows.specs.Rows.{prefix_width}
use Rattle.model.specs.Basics.{match_found, match_some, find, same_contact, trunc8}
use Rattle.model.specs.State.{State, OpenExchange, Change, nothing, own_now, carried_now, complete_now, listed_now, offered_now, ◌and◌}
use Rattle.model.specs.Calls.{Cells, of_own, of_carried, Result, result, telling, told_at, only, done, malformed, found, missing, wrote, short_replies, short_actions, short_exchange, put_courier, put_queued, fetch_reply, envelope_reply, tomb_reply, done_with}
use Rattle.model.specs.Contacts.{known, is_for}
use Rattle.model.specs.Window.{no_reachable, window_rows, wrong_window, strangers, lookup, is_bad}
use Rattle.model.specs.Cells.{cell_start, cell_length}
use Rattle.model.specs.Custody.{own_of_tag, carried_of_tag, tombstone_of_tag, is_accepted}

-- ---- `envelopes`

-- `Envelope`, and where its ciphertext is
pub record Envelope : Type 0 where
  pub head : Header
  pub cells : Cells
  pub cell : ℕ
  pub len : ℕ

unfoldable pub own_envelope_of : Own → Envelope
own_envelope_of o = record {
  head = record { tag = o.tag; c = commitment_of o.s; expiry_min = o.expiry_min; copies = o.copies };
  cells = of_own;
  cell = o.cell;
  len = o.len;
}

unfoldable pub carried_envelope_of : Carried → Envelope
carried_envelope_of r = record {
  head = record { tag = r.tag; c = r.c; expiry_min = r.expiry_min; copies = r.copies };
  cells = of_carried;
  cell = r.cell;
  len = r.len;
}

abbrev pub not_for : ContactId → Own → Bool
not_for peer o = not (same_contact o.contact peer)

-- own rows by contact as added and message number, never those for this peer, then carried rows by slot
unfoldable pub envelopes : List Own → List Carried → ContactId → List Envelope
envelopes own carried peer = map own_envelope_of (filter (not_for peer) own) ++ map carried_envelope_of carried

abbrev pub reply_for : Envelope → Reply
reply_for e = envelope_reply e.cells e.cell e.head

-- ---- `inventory`: the prefixes of the same rows, tombstoned too, copies of any number, and how many

unfoldable pub inventory : State → ContactId → List (List ℕ)
inventory s peer = map (λ (e : Envelope). trunc8 e.head.tag) (envelopes s.own s.carried peer)

unfoldable pub inventory_tests : State → ℕ → ContactId → List (Bool × Refusal)
inventory_tests s prefixes peer = (nat_lt prefixes prefix_area, refusal.ShortArea) ∷ (not (known s.contacts peer), refusal.UnknownContact) ∷ []

unfoldable pub list_inventory : State → ContactId → Result
list_inventory s peer = record {
  answer = done_with (wrote (length (inventory s peer)));
  replies = [];
  actions = [];
  bytes = join (inventory s peer);
  told = [];
  change = nothing;
}

-- ---- fetch: takes no copies off

unfoldable pub fetch_tests : State → ℕ → ContactId → List (Bool × Refusal)
fetch_tests s replies peer = (short_replies replies, refusal.ShortArea) ∷ (not (known s.contacts peer), refusal.UnknownContact) ∷ []

abbrev pub cell_area : State → Cells → List ℕ
cell_area s of_own = s.own_cells
cell_area s of_carried = s.carried_cells

-- an envelope, and the part of the cell area that is its ciphertext
unfoldable pub fetched : State → Envelope → Result
fetched s e =
    let size : ℕ = length (cell_area s e.cells) in
    result (done_with (found e.cells (cell_start size e.cell) (cell_length size e.cell e.len))) (reply_for e ∷ []) [] nothing

abbrev pub envelope_of_tag : List ℕ → Envelope → Bool
envelope_of_tag tag e = same_bytes e.head.tag tag

unfoldable pub receive_fetch : State → ContactId → List ℕ → Result
receive_fetch s peer tag = match_some (find (envelope_of_tag tag) (envelopes s.own s.carried peer)) (fetched s) (only (done_with missing))

-- ---- `receive_inventory`

unfoldable pub receive_inventory_tests : State → ℕ → List ℕ → ContactId → List ℕ → List (Bool × Refusal)
receive_inventory_tests s replies window peer listed =
    (short_replies replies || short_exchange s, refusal.ShortArea)
    ∷ (wrong_window window || ragged prefix_width listed, refusal.WindowRows)
    ∷ (not (known s.contacts peer) || strangers s.contacts (window_rows window), refusal.UnknownContact)
    ∷ (not (is_for peer s.session.exchange.peer), refusal.WrongExchange)
    ∷ []

-- a tag that is bad for this peer, or a tombstone's, is not fetched
abbrev pub not_fetched : List BadTag → List Tombstone → ContactId → List ℕ → Bool
not_fetched bad ts peer tag = is_bad bad peer tag || any (tombstone_of_tag tag) ts

-- a listed prefix meets the first window row in key order; if that tag is not fetched there is no second look
unfoldable pub fetch_for : List BadTag → List Tombstone → List Reachable → ContactId → List ℕ → List Reply
fetch_for bad ts window peer prefix =
    match_found (lookup window prefix)
    (λ i. cond (not_fetched bad ts peer (get_or window i no_reachable).tag) [] (fetch_reply (get_or window i no_reachable).tag ∷ [])) []

abbrev pub has_prefix : List ℕ → Tombstone → Bool
has_prefix prefix t = same_bytes (trunc8 t.tag) prefix

-- a listed prefix meets the tombstone of lowest slot
unfoldable pub tomb_for : List Tombstone → List ℕ → List Reply
tomb_for ts prefix = match_some (find (has_prefix prefix) ts) (λ t. tomb_reply t.tag t.s ∷ []) []

-- copies 1 are never offered, and a listed prefix is not; any other row is in question
unfoldable pub in_question : List (List ℕ) → Envelope → Bool
in_question listed e = nat_lt 1 e.head.copies && not (any (λ (p : List ℕ). same_bytes p (trunc8 e.head.tag)) listed)

-- a row in question is offered if its tag is not tombstoned
unfoldable pub is_offered : List Tombstone → List (List ℕ) → Envelope → Bool
is_offered ts listed e = in_question listed e && not (any (tombstone_of_tag e.head.tag) ts)

-- the rows for which the tombstones are searched: those in question
unfoldable pub searched_rows : State → ContactId → List Envelope
searched_rows s peer = filter (in_question s.session.exchange.listed) (envelopes s.own s.carried peer)

-- half of the copies is offered
unfoldable pub halved : Envelope → Envelope
halved e = record {
  head = record { tag = e.head.tag; c = e.head.c; expiry_min = e.head.expiry_min; copies = e.head.copies / 2 };
  cells = e.cells;
  cell = e.cell;
  len = e.len;
}

unfoldable pub offers : State → ContactId → List Envelope
offers s peer =
    map halved (filter (is_offered s.tombstones s.session.exchange.listed) (envelopes s.own s.carried peer))

abbrev pub offer_of_tag : List ℕ → Offer → Bool
offer_of_tag tag o = same_bytes o.tag tag

abbrev pub no_offer : Offer
no_offer = record { tag = []; copies = 0 }

-- `BTreeMap::insert`: the offers have one row a tag, the later in the place of the earlier
unfoldable pub insert_offer : Envelope → List Offer → List Offer
insert_offer e os =
    let o : Offer = record { tag = e.head.tag; copies = e.head.copies } in
    match_found (position (offer_of_tag o.tag) os) (λ i. replace_at i o os) (os ++ (o ∷ []))

unfoldable pub insert_offers : List Envelope → List Offer → List Offer
insert_offers [] os = os
insert_offers (e ∷ es) os = insert_offers es (insert_offer e os)

-- the terminator, by what is fetched for a prefix: fetches and tombs for what was listed, then offers, and for how many rows the tombstones
-- are searched; the listed prefixes are taken out
abbrev pub answer_listed : (List ℕ → List Reply) → State → ContactId → Result
answer_listed fetches s peer =
    let e : OpenExchange = s.session.exchange in
    telling (length (searched_rows s peer) ∷ [])
    (result done (flat_map fetches e.listed ++ flat_map (tomb_for s.tombstones) e.listed ++ map reply_for (offers s peer)) []
    (complete_now true and listed_now [] and offered_now (insert_offers (offers s peer) [])))

unfoldable pub answer_inventory : State → List Reachable → ContactId → Result
answer_inventory s window peer = answer_listed (fetch_for s.bad_tags s.tombstones window peer) s peer

-- for how many rows an inventory tells that the tombstones are searched; 0 of a list that is gathered, malformed or refused
abbrev pub searched_count : Result → ℕ
searched_count = told_at 0

unfoldable pub list_more : OpenExchange → List (List ℕ) → Result
list_more e tags =
    result done [] [] (listed_now (e.listed ++ tags))

-- 513 in all is malformed, and so is any inventory after the terminator
unfoldable pub too_many : OpenExchange → ℕ → Bool
too_many e n = e.complete || nat_lt max_inventory (length e.listed + n)

unfoldable pub receive_inventory : State → List Reachable → ContactId → List (List ℕ) → Result
receive_inventory s window peer tags =
    cond (too_many s.session.exchange (length tags)) (only malformed)
    (cond (length tags == 0) (answer_inventory s window peer) (list_more s.session.exchange tags))

-- ---- `handed_over`: copies fall, stopping at 0; a carried row goes before an own one

abbrev pub no_carried : Carried
no_carried = record { slot = 0; depositor = record { 0 = 0 }; tag = []; c = []; expiry_min = 0; copies = 0; len = 0; cell = 0 }

abbrev pub no_own : Own
no_own = record { contact = record { 0 = 0 }; msgno = 0; tag = []; s = []; expiry_min = 0; copies = 0; renewed = 0; len = 0; cell = 0 }

unfoldable pub lowered : ℕ → Carried → Carried
lowered n r = record {
  slot = r.slot;
  depositor = r.depositor;
  tag = r.tag;
  c = r.c;
  expiry_min = r.expiry_min;
  copies = r.copies - n;
  len = r.len;
  cell = r.cell;
}

unfoldable pub own_lowered : ℕ → Own → Own
own_lowered n o = record {
  contact = o.contact;
  msgno = o.msgno;
  tag = o.tag;
  s = o.s;
  expiry_min = o.expiry_min;
  copies = o.copies - n;
  renewed = o.renewed;
  len = o.len;
  cell = o.cell;
}

unfoldable pub handed_over : List Own → List Carried → List ℕ → ℕ → Change
handed_over own carried tag n =
    match_found (position (carried_of_tag tag) carried) (λ i. carried_now (replace_at i (lowered n (slice_index_or carried i no_carried)) carried))
    (match_found (position (own_of_tag tag) own) (λ i. own_now (replace_at i (own_lowered n (slice_index_or own i no_own)) own)) nothing)

unfoldable pub handed_actions : List Own → List Carried → List ℕ → List Action
handed_actions own carried tag =
    match_found (position (carried_of_tag tag) carried) (λ i. put_courier (get_or carried i no_carried).slot ∷ [])
    (match_found (position (own_of_tag tag) own) (λ i. put_queued (get_or own i no_own).contact (get_or own i no_own).msgno ∷ []) [])

-- ---- custody code: clears the offer whatever the code; only Accepted takes the handed copies off

unfoldable pub custody_tests : State → ℕ → ContactId → List (Bool × Refusal)
custody_tests s actions peer =
    (short_exchange s || short_actions s actions, refusal.ShortArea)
    ∷ (not (known s.contacts peer), refusal.UnknownContact)
    ∷ (not (is_for peer s.session.exchange.peer), refusal.WrongExchange)
    ∷ []

unfoldable pub settle : State → List ℕ → Custody → ℕ → Result
settle s tag code i =
    let e : OpenExchange = s.session.exchange in
    result done [] (cond (is_accepted code) (handed_actions s.own s.carried tag) [])
    (offered_now (remove_at i e.offered)
    and cond (is_accepted code) (handed_over s.own s.carried tag (get_or e.offered i no_offer).copies) nothing)

unfoldable pub receive_custody : State → List ℕ → Custody → Result
receive_custody s tag code = match_found (position (offer_of_tag tag) s.session.exchange.offered) (settle s tag code) (only done)
