-- Document 01's marked corners of couriering.rs, about the definitions that the contracts cite.
-- Assumes nothing.
use Rattle.std.proofs.Common.{◌≡◌, ℕ, ◌+◌, ◌*◌, ◌/◌, ◌^◌, ◌<◌, ◌≤◌, min, Bool, true, false, cond, ◌||◌, ltb, leb, ◌⊎◌, ◌↔◌, List, [], ◌∷◌, ◌++◌, length, refl, ap, subst, arith, le-ltb, lt-ltb, ne_eqb, le-leb, Option, Some, None}
use mathlib.Core.List.{Perm}
use borrow.Author.Tests.{lt-leb}
use Rattle.courier_core.specs.declared.ContactId.{ContactId}
use Rattle.table.specs.Lists.{All, position, remove_at}
use Rattle.courier.specs.declared.Header.{Header}
use Rattle.courier.specs.declared.Custody.{Custody}
use Rattle.courier.specs.declared.Custody.TheVariants as custody
use Rattle.courier.specs.Courier.{carried_length, envelope_valid}
use Rattle.courier.specs.Tags.{commitment_of, tombstone_matches}
use Rattle.rows.specs.declared.Own.{Own}
use Rattle.rows.specs.declared.Carried.{Carried}
use Rattle.rows.specs.declared.Tombstone.{Tombstone}
use Rattle.rows.specs.declared.Offer.{Offer}
use Rattle.rows.specs.declared.Reachable.{Reachable}
use Rattle.rows.specs.Limits.{max_inventory}
use Rattle.model.specs.Basics.{match_found, trunc8}
use Rattle.model.specs.State.{State, keep, now, nothing, apply, own_now, carried_now, tombstones_now, bad_tags_now, listed_now, ◌and◌}
use Rattle.model.specs.Calls.{Result, result, only, done, malformed, put_courier, delete_courier, put_queued, tomb_reply, custody_reply}
use Rattle.model.specs.Contacts.{minute_of, end_of, is_verified}
use Rattle.model.specs.Window.{lookup, is_bad}
use Rattle.model.specs.Custody.{quota, carried_total, deposited, duplicate, full, custody_of, is_accepted, answer_custody, receive_envelope}
use Rattle.model.specs.Exchange.{Envelope, no_carried, no_own, no_offer, envelopes, in_question, is_offered, answer_inventory, list_more, too_many, receive_inventory, lowered, own_lowered, offer_of_tag, handed_over, settle, receive_custody}
use Rattle.model.specs.Tombs.{tombstoned, least_expiry, remaining, evicted, store_tombstone, store_actions, stored, carried_at, own_at, wrong, unknown, meets, insert_by_slot, turned, turn, end_own, receive_tomb, no_row_to_meet, no_slot_to_meet, report_opened, report_failed}
use Rattle.model.proofs.Examples.{ThreePeers, three_peers}
use Rattle.model.proofs.Laws.{carried_total_lem}
use Rattle.model.proofs.CornerLaws.{Has, here, has_right, has_any, has_none, OwnHas, CarriedHas, TombstonesHave, OffersHave}
use Rattle.model.proofs.CornerLaws.{FirstOf, first_place, first_row, first_removed, first_replaced, no_place, or_right, duplicate_has, never_decides}
use Rattle.model.proofs.CornerLaws.{OffersCopies, OffersOnly, offers_of, is_offered_lem, offers_without, offers_half}
use Rattle.model.proofs.CornerLaws.{slot_at, SlotsRise, LeastLowest, least_lowest, one_more}

-- no refusal before a test of `custody`: on, and valid
abbrev pub Valid : State → Header → ℕ → Type 0
Valid s head len = (s.courier.enabled ≡ true) × (envelope_valid len head.copies head.expiry_min (minute_of s) ≡ true)

-- An envelope that a peer may see, between those before and after it. No tombstone has its tag, and its prefix is not listed.
pub record Offerable (s : State) (peer : ContactId) (x : List Envelope) (e : Envelope) (y : List Envelope) : Type 0 where
  pub all : envelopes s.own s.carried peer ≡ x ++ (e ∷ y)
  pub not_tombstoned : TombstonesHave s.tombstones e.head.tag → ⊥
  pub not_listed : Has (λ (prefix : List ℕ). prefix) (trunc8 e.head.tag) s.session.exchange.listed → ⊥

-- the first offer, carried row and own row with a tag
abbrev pub FirstOffer : State → List ℕ → List Offer → Offer → List Offer → Type 0
FirstOffer s tag x o y = FirstOf (λ (z : Offer). z.tag) tag s.session.exchange.offered x o y

abbrev pub FirstCarried : State → List ℕ → List Carried → Carried → List Carried → Type 0
FirstCarried s tag x r y = FirstOf (λ (z : Carried). z.tag) tag s.carried x r y

abbrev pub FirstOwn : State → List ℕ → List Own → Own → List Own → Type 0
FirstOwn s tag x r y = FirstOf (λ (z : Own). z.tag) tag s.own x r y

-- so many copies are taken off, stopping at 0
abbrev pub TakenOff : (copies handed left : ℕ) → Type 0
TakenOff copies handed left = (handed ≤ copies → left + handed ≡ copies) × (copies ≤ handed → left ≡ 0)

-- what a tomb does; and a carried row that it turns, since its secret opens the row
abbrev pub tomb_result : State → List ℕ → List ℕ → Result
tomb_result s tag secret = receive_tomb s tag secret (meets s.own s.carried tag secret)

abbrev pub Turns : State → List ℕ → List ℕ → List Carried → Carried → List Carried → Type 0
Turns s tag secret x r y = FirstCarried s tag x r y × (tombstone_matches r.c secret ≡ true)

-- a tomb that needs no row for a tombstone, and no slot
abbrev pub NeedsNone : State → List ℕ → List ℕ → Type 0
NeedsNone s tag secret =
    (no_row_to_meet s tag (meets s.own s.carried tag secret) ≡ false) × (no_slot_to_meet s tag (meets s.own s.carried tag secret) ≡ false)

-- the tombstone that a carried row turns into, and one that is stored
abbrev pub turned_into : Carried → List ℕ → List ℕ → Tombstone
turned_into r tag secret = record { slot = r.slot; tag = tag; s = secret; expiry_min = r.expiry_min }

abbrev pub new_tombstone : State → List ℕ → List ℕ → ℕ → Tombstone
new_tombstone s tag secret expiry = record { slot = s.next_slot; tag = tag; s = secret; expiry_min = expiry }

pub record CourieringCorners : Type 0 where
  -- inventory: listed 512
  pub listed_512 : (s : State) (window : List Reachable) (peer : ContactId) (tags : List (List ℕ)) → s.session.exchange.complete ≡ false
      → 0 < length tags → length s.session.exchange.listed + length tags ≤ 512
      → receive_inventory s window peer tags ≡ result done [] [] (listed_now (s.session.exchange.listed ++ tags))
  -- and then the empty terminator is fine
  pub terminator_fine : (s : State) (window : List Reachable) (peer : ContactId) → s.session.exchange.complete ≡ false
      → length s.session.exchange.listed ≤ 512
      → (receive_inventory s window peer [] ≡ answer_inventory s window peer) × ((answer_inventory s window peer).answer ≡ done)
  -- 513 in all is malformed
  pub listed_513 : (s : State) (window : List Reachable) (peer : ContactId) (tags : List (List ℕ))
      → 513 ≤ length s.session.exchange.listed + length tags → receive_inventory s window peer tags ≡ only malformed
  -- and so is any inventory after the terminator, empty too: the terminator is noted, and what comes then is malformed
  pub terminator_noted : (s : State) (window : List Reachable) (peer : ContactId) → (answer_inventory s window peer).change.session.complete ≡ now true
  pub after_terminator : (s : State) (window : List Reachable) (peer : ContactId) (tags : List (List ℕ)) → s.session.exchange.complete ≡ true
      → receive_inventory s window peer tags ≡ only malformed
  -- copies 1 are never offered, whatever has a tombstone or is listed: the offers are those of the other envelopes
  pub copies_1 : (ts : List Tombstone) (listed : List (List ℕ)) (e : Envelope) → e.head.copies ≡ 1 → is_offered ts listed e ≡ false
  pub copies_1_answered : (s : State) (window : List Reachable) (peer : ContactId) (x y : List Envelope) (e : Envelope)
      → envelopes s.own s.carried peer ≡ x ++ (e ∷ y) → e.head.copies ≡ 1 → OffersOnly s window peer (offers_of s (x ++ y))
  -- 2 offer 1
  pub copies_2 : (s : State) (window : List Reachable) (peer : ContactId) (x y : List Envelope) (e : Envelope) → Offerable s peer x e y
      → e.head.copies ≡ 2 → OffersCopies s window peer e y 1
  -- 5 offer 2
  pub copies_5 : (s : State) (window : List Reachable) (peer : ContactId) (x y : List Envelope) (e : Envelope) → Offerable s peer x e y
      → e.head.copies ≡ 5 → OffersCopies s window peer e y 2
  -- a custody code clears the offer whatever the code
  pub code_clears : (s : State) (tag : List ℕ) (code : Custody) (x y : List Offer) (o : Offer) → FirstOffer s tag x o y
      → (receive_custody s tag code).change.session.offered ≡ now (x ++ y)
  -- only Accepted takes the handed copies off: no other code takes any, and no code takes any where none were handed
  pub only_accepted : (s : State) (tag : List ℕ) (code : Custody) → (code ≡ custody.Accepted → ⊥)
      → ((receive_custody s tag code).change.held.carried ≡ keep) × ((receive_custody s tag code).change.queue.own ≡ keep)
  pub only_handed : (s : State) (tag : List ℕ) (code : Custody) → (OffersHave s.session.exchange.offered tag → ⊥)
      → receive_custody s tag code ≡ only done
  -- Accepted takes them off a carried row
  pub accepted_carried : (s : State) (tag : List ℕ) (u v : List Offer) (o : Offer) (x y : List Carried) (r : Carried)
      → FirstOffer s tag u o v → FirstCarried s tag x r y
      → ((receive_custody s tag custody.Accepted).change.held.carried ≡ now (x ++ (lowered o.copies r ∷ y)))
      × ((receive_custody s tag custody.Accepted).change.queue.own ≡ keep)
  -- or, where no carried row has the tag, off an own row
  pub accepted_own : (s : State) (tag : List ℕ) (u v : List Offer) (o : Offer) (x y : List Own) (r : Own)
      → FirstOffer s tag u o v → (CarriedHas s.carried tag → ⊥) → FirstOwn s tag x r y
      → ((receive_custody s tag custody.Accepted).change.queue.own ≡ now (x ++ (own_lowered o.copies r ∷ y)))
      × ((receive_custody s tag custody.Accepted).change.held.carried ≡ keep)
  -- stopping at 0, of a carried row and of an own row
  pub carried_copies : (r : Carried) (n : ℕ) → TakenOff r.copies n (lowered n r).copies
  pub own_copies : (o : Own) (n : ℕ) → TakenOff o.copies n (own_lowered n o).copies
  -- three peers accepting 2 of 4: 0
  pub three_peers : ThreePeers
  -- custody tests: Off, Invalid, Duplicate, Full; the first that applies is the code
  pub code_off : (s : State) (peer : ContactId) (head : Header) (len : ℕ) → s.courier.enabled ≡ false → custody_of s peer head len ≡ custody.Off
  pub code_invalid : (s : State) (peer : ContactId) (head : Header) (len : ℕ) → s.courier.enabled ≡ true
      → envelope_valid len head.copies head.expiry_min (minute_of s) ≡ false → custody_of s peer head len ≡ custody.Invalid
  pub code_duplicate : (s : State) (peer : ContactId) (head : Header) (len : ℕ) → Valid s head len → duplicate s head.tag ≡ true
      → custody_of s peer head len ≡ custody.Duplicate
  pub code_full : (s : State) (peer : ContactId) (head : Header) (len : ℕ) → Valid s head len → duplicate s head.tag ≡ false
      → full s peer len ≡ true → custody_of s peer head len ≡ custody.Full
  pub code_accepted : (s : State) (peer : ContactId) (head : Header) (len : ℕ) → Valid s head len → duplicate s head.tag ≡ false
      → full s peer len ≡ false → custody_of s peer head len ≡ custody.Accepted
  -- and that code is the reply
  pub code_replied : (s : State) (window : List Reachable) (peer : ContactId) (head : Header) (ct : List ℕ) → lookup window head.tag ≡ None
      → (receive_envelope s window peer head ct).replies ≡ custody_reply head.tag (custody_of s peer head (length ct)) ∷ []
  -- Duplicate looks at own rows and at every held row: it applies exactly if one of them has the tag
  pub duplicate_exactly : (s : State) (tag : List ℕ)
      → duplicate s tag ≡ true ↔ (OwnHas s.own tag ⊎ (CarriedHas s.carried tag ⊎ TombstonesHave s.tombstones tag))
  -- the test against 1,048,576 bytes never decides: of a length that `valid` takes, the number of rows and the depositor's share do
  pub bytes_never_decide : (s : State) (peer : ContactId) (len : ℕ) → carried_length len ≡ true
      → full s peer len ≡ (leb 256 (length s.carried) || leb (quota (is_verified s.contacts peer)) (deposited s.carried peer))
  -- 256 × 2,101 = 537,856
  pub most_bytes : (256 * 2101 ≡ 537856) × ((size : ℕ) (rs : List Carried) → length rs ≤ 256 → carried_total size rs ≤ 537856)
  -- a carried row turned tombstone retains its slot and expiry: it leaves the carried rows, is done, and replies nothing
  pub turned_retains : (s : State) (tag secret : List ℕ) (x y : List Carried) (r : Carried) → Turns s tag secret x r y
      → tomb_result s tag secret
      ≡ result done [] (evicted s.tombstones ++ (put_courier r.slot ∷ []))
      (carried_now (x ++ y) and tombstones_now (insert_by_slot (turned_into r tag secret) (remaining s.tombstones)))
  -- at 1,024 or more it first deletes one of those stored before, whatever tags they have: of least expiry, lowest slot among equals (below)
  pub turned_at_1024 : (s : State) (tag secret : List ℕ) (x y : List Carried) (r : Carried) → Turns s tag secret x r y → 1024 ≤ length s.tombstones
      → ((tomb_result s tag secret).actions ≡ delete_courier (slot_at s.tombstones (least_expiry s.tombstones)) ∷ put_courier r.slot ∷ [])
      × ((tomb_result s tag secret).change.held.tombstones
      ≡ now (insert_by_slot (turned_into r tag secret) (remove_at (least_expiry s.tombstones) s.tombstones)))
  -- below 1,024 none goes
  pub turned_below_1024 : (s : State) (tag secret : List ℕ) (x y : List Carried) (r : Carried) → Turns s tag secret x r y → length s.tombstones < 1024
      → ((tomb_result s tag secret).actions ≡ put_courier r.slot ∷ [])
      × ((tomb_result s tag secret).change.held.tombstones ≡ now (insert_by_slot (turned_into r tag secret) s.tombstones))
  -- it is one more than those that are left
  pub one_tombstone_more : (t : Tombstone) (ts : List Tombstone) → Perm (insert_by_slot t ts) (t ∷ ts)
  -- number 5 is tested after that deletion, and a turned row takes no new slot
  pub turned_fits : (s : State) (tag secret : List ℕ) (x y : List Carried) (r : Carried) → Turns s tag secret x r y
      → (no_row_to_meet s tag (meets s.own s.carried tag secret) ≡ leb s.tombstone_rows (length (remaining s.tombstones)))
      × (no_slot_to_meet s tag (meets s.own s.carried tag secret) ≡ false)
  -- an own row, where no carried row has the tag, ends: its own put comes first, then its tombstone is stored
  pub own_row_ends : (s : State) (tag secret : List ℕ) (x y : List Own) (o : Own) → (CarriedHas s.carried tag → ⊥) → FirstOwn s tag x o y
      → tombstone_matches (commitment_of o.s) secret ≡ true
      → tomb_result s tag secret
      ≡ result done [] (put_queued o.contact o.msgno ∷ store_actions s tag) (own_now (x ++ y) and store_tombstone s tag secret o.expiry_min)
  -- nothing goes for a wrong secret, even if an own row would match it, nor for a tag that is not held; neither meets 5 or 6
  pub wrong_secret : (s : State) (tag secret : List ℕ) (x y : List Carried) (r : Carried) → FirstCarried s tag x r y
      → tombstone_matches r.c secret ≡ false → (tomb_result s tag secret ≡ only malformed) × NeedsNone s tag secret
  pub wrong_own_secret : (s : State) (tag secret : List ℕ) (x y : List Own) (o : Own) → (CarriedHas s.carried tag → ⊥) → FirstOwn s tag x o y
      → tombstone_matches (commitment_of o.s) secret ≡ false → (tomb_result s tag secret ≡ only malformed) × NeedsNone s tag secret
  pub unknown_tag : (s : State) (tag secret : List ℕ) → (CarriedHas s.carried tag → ⊥) → (OwnHas s.own tag → ⊥)
      → (tomb_result s tag secret ≡ only done) × NeedsNone s tag secret
  -- what a stored tombstone, "opened" and "failed" answer: "opened" its tomb, and "failed" that it is malformed
  pub stored_answers : (s : State) (tag secret : List ℕ) (expiry : ℕ)
      → stored s tag secret expiry ≡ result done [] (store_actions s tag) (store_tombstone s tag secret expiry)
  pub opened_answers : (s : State) (tag secret : List ℕ) (expiry : ℕ)
      → report_opened s tag secret expiry
      ≡ result done (tomb_reply tag secret ∷ []) (store_actions s tag) (store_tombstone s tag secret (min expiry (end_of s)))
  pub failed_answers : (s : State) (peer : ContactId) (tag : List ℕ)
      → (is_bad s.bad_tags peer tag ≡ true → report_failed s peer tag ≡ only malformed)
      × (is_bad s.bad_tags peer tag ≡ false → report_failed s peer tag ≡ result malformed [] [] (bad_tags_now (s.bad_tags ++ (record { peer = peer; tag = tag } ∷ []))))
  -- a stored tombstone at 1,024 or more first deletes one
  pub stored_at_1024 : (s : State) (tag secret : List ℕ) (expiry : ℕ) → (TombstonesHave s.tombstones tag → ⊥) → 1024 ≤ length s.tombstones
      → (store_actions s tag ≡ delete_courier (slot_at s.tombstones (least_expiry s.tombstones)) ∷ put_courier s.next_slot ∷ [])
      × ((store_tombstone s tag secret expiry).held.tombstones
      ≡ now (remove_at (least_expiry s.tombstones) s.tombstones ++ (new_tombstone s tag secret expiry ∷ [])))
  -- of least expiry, lowest slot among equals
  pub least_expiry_lowest_slot : (ts : List Tombstone) → 0 < length ts → All (λ (t : Tombstone). t.expiry_min < 2 ^ 32) ts → SlotsRise ts
      → LeastLowest ts (least_expiry ts)
  -- below 1,024 none goes
  pub stored_below_1024 : (s : State) (tag secret : List ℕ) (expiry : ℕ) → (TombstonesHave s.tombstones tag → ⊥) → length s.tombstones < 1024
      → (store_actions s tag ≡ put_courier s.next_slot ∷ [])
      × ((store_tombstone s tag secret expiry).held.tombstones ≡ now (s.tombstones ++ (new_tombstone s tag secret expiry ∷ [])))
  -- nothing is stored if the tag has a tombstone
  pub nothing_stored : (s : State) (tag secret : List ℕ) (expiry : ℕ) → TombstonesHave s.tombstones tag
      → (store_actions s tag ≡ []) × (store_tombstone s tag secret expiry ≡ nothing)
  -- a tag may be carried and tombstoned together
  pub carried_and_tombstoned : (s : State) (tag secret : List ℕ) (expiry : ℕ) → (TombstonesHave s.tombstones tag → ⊥) → CarriedHas s.carried tag
      → CarriedHas (apply s (store_tombstone s tag secret expiry)).carried tag
      × TombstonesHave (apply s (store_tombstone s tag secret expiry)).tombstones tag

-- ---- the parts that take a step

-- a code other than Accepted leaves the rows
pub another_code : (code : Custody) → (code ≡ custody.Accepted → ⊥) → is_accepted code ≡ false
another_code custody.Accepted k = absurd (k refl)
another_code custody.Full k = refl
another_code custody.Duplicate k = refl
another_code custody.Off k = refl
another_code custody.Invalid k = refl

untaken : (s : State) (tag : List ℕ) (code : Custody) (f : Option ℕ) → is_accepted code ≡ false
    → ((match_found f (settle s tag code) (only done)).change.held.carried ≡ keep) × ((match_found f (settle s tag code) (only done)).change.queue.own ≡ keep)
unfolding settle
untaken s tag code (Some i) h = (rw h, rw h)
untaken s tag code None h = (refl, refl)

-- what is left of a row's copies
carried_left : (r : Carried) (n : ℕ) → TakenOff r.copies n (lowered n r).copies
unfolding lowered
carried_left r n = (λ h. omega arith, λ h. omega arith)

own_left : (o : Own) (n : ℕ) → TakenOff o.copies n (own_lowered n o).copies
unfolding own_lowered
own_left o n = (λ h. omega arith, λ h. omega arith)

-- a tomb that turns a row meets it at its place
turns_at : (s : State) (tag secret : List ℕ) (x y : List Carried) (r : Carried) → Turns s tag secret x r y
    → meets s.own s.carried tag secret ≡ carried_at (length x)
unfolding meets
turns_at s tag secret x y r h = rw (first_place h.0, first_row h.0 no_carried, h.1)

meets_own : (s : State) (tag secret : List ℕ) (x y : List Own) (o : Own) (b : Bool) → (CarriedHas s.carried tag → ⊥) → FirstOwn s tag x o y
    → tombstone_matches (commitment_of o.s) secret ≡ b → meets s.own s.carried tag secret ≡ cond b (own_at (length x)) wrong
unfolding meets
meets_own s tag secret x y o b n h k = rw (no_place (λ (z : Carried). z.tag) tag s.carried n, first_place h, first_row h no_own, k)

meets_wrong : (s : State) (tag secret : List ℕ) (x y : List Carried) (r : Carried) → FirstCarried s tag x r y → tombstone_matches r.c secret ≡ false
    → meets s.own s.carried tag secret ≡ wrong
unfolding meets
meets_wrong s tag secret x y r h k = rw (first_place h, first_row h no_carried, k)

meets_none : (s : State) (tag secret : List ℕ) → (CarriedHas s.carried tag → ⊥) → (OwnHas s.own tag → ⊥) → meets s.own s.carried tag secret ≡ unknown
unfolding meets
meets_none s tag secret n m = rw (no_place (λ (z : Carried). z.tag) tag s.carried n, no_place (λ (z : Own). z.tag) tag s.own m)

-- half of the copies of an envelope
half : (s : State) (window : List Reachable) (peer : ContactId) (x y : List Envelope) (e : Envelope) → Offerable s peer x e y → (n : ℕ) → 1 < n
    → e.head.copies ≡ n → OffersCopies s window peer e y (n / 2)
half s window peer x y e o n h k =
    subst (λ (c : ℕ). OffersCopies s window peer e y (c / 2)) k
    (offers_half s peer x y e o.all window (is_offered_lem s.tombstones s.session.exchange.listed e (omega arith) o.not_tombstoned o.not_listed))

-- is there a tombstone of a tag
none_of_tag : (ts : List Tombstone) (tag : List ℕ) → (TombstonesHave ts tag → ⊥) → tombstoned ts tag ≡ false
unfolding tombstoned
none_of_tag ts tag = has_none (λ (t : Tombstone). t.tag) tag ts

one_of_tag : (ts : List Tombstone) (tag : List ℕ) → TombstonesHave ts tag → tombstoned ts tag ≡ true
unfolding tombstoned
one_of_tag ts tag = has_any (λ (t : Tombstone). t.tag) tag ts

pub couriering_corners : CourieringCorners
unfolding receive_inventory answer_inventory list_more too_many is_offered in_question receive_custody settle handed_over custody_of answer_custody receive_envelope turned turn receive_tomb no_row_to_meet no_slot_to_meet end_own stored report_opened report_failed store_actions evicted store_tombstone remaining apply
couriering_corners = record {
  listed_512 = λ s window peer tags h k l.
      rw (h, le-ltb max_inventory (length s.session.exchange.listed + length tags) (omega arith), ne_eqb (length tags) 0 (omega arith));
  terminator_fine = λ s window peer h l. (rw (h, le-ltb max_inventory (length s.session.exchange.listed + 0) (omega arith)), refl);
  listed_513 = λ s window peer tags h.
      let n : ℕ = length s.session.exchange.listed + length tags in
      rw (or_right s.session.exchange.complete (ltb max_inventory n) (lt-ltb max_inventory n (omega arith)));
  terminator_noted = λ s window peer. refl;
  after_terminator = λ s window peer tags h. rw h;
  copies_1 = λ ts listed e h. rw h;
  copies_1_answered = λ s window peer x y e a h. offers_without s peer x y e a window (rw h);
  copies_2 = λ s window peer x y e o. half s window peer x y e o 2 (omega arith);
  copies_5 = λ s window peer x y e o. half s window peer x y e o 5 (omega arith);
  code_clears = λ s tag code x y o h. rw (first_place h) (ap now (first_removed h));
  only_accepted = λ s tag code h. untaken s tag code (position (offer_of_tag tag) s.session.exchange.offered) (another_code code h);
  only_handed = λ s tag code h. rw (no_place (λ (z : Offer). z.tag) tag s.session.exchange.offered h);
  accepted_carried = λ s tag u v o x y r h k.
      (rw (first_place h, first_place k, first_row h no_offer, first_row k no_carried) (ap now (first_replaced k (lowered o.copies r))), rw (first_place h, first_place k));
  accepted_own = λ s tag u v o x y r h n k.
      let e = no_place (λ (z : Carried). z.tag) tag s.carried n in
      (rw (first_place h, e, first_place k, first_row h no_offer, first_row k no_own) (ap now (first_replaced k (own_lowered o.copies r))), rw (first_place h, e, first_place k));
  carried_copies = carried_left;
  own_copies = own_left;
  three_peers = three_peers;
  code_off = λ s peer head len h. rw h;
  code_invalid = λ s peer head len h k. rw (h, k);
  code_duplicate = λ s peer head len h k. rw (k, h.1, h.0);
  code_full = λ s peer head len h k l. rw (l, k, h.1, h.0);
  code_accepted = λ s peer head len h k l. rw (l, k, h.1, h.0);
  code_replied = λ s window peer head ct h. rw h;
  duplicate_exactly = duplicate_has;
  bytes_never_decide = never_decides;
  most_bytes = (refl, λ size rs h. omega (arith, carried_total_lem size rs));
  turned_retains = λ s tag secret x y r h. rw (turns_at s tag secret x y r h, first_row h.0 no_carried, first_removed h.0);
  turned_at_1024 = λ s tag secret x y r h k.
      let e = le-leb 1024 (length s.tombstones) k in
      (rw (turns_at s tag secret x y r h, first_row h.0 no_carried, e), rw (turns_at s tag secret x y r h, first_row h.0 no_carried, e));
  turned_below_1024 = λ s tag secret x y r h k.
      let e = lt-leb 1024 (length s.tombstones) k in
      (rw (turns_at s tag secret x y r h, first_row h.0 no_carried, e), rw (turns_at s tag secret x y r h, first_row h.0 no_carried, e));
  one_tombstone_more = one_more;
  turned_fits = λ s tag secret x y r h. (rw (turns_at s tag secret x y r h), rw (turns_at s tag secret x y r h));
  own_row_ends = λ s tag secret x y o n h k. rw (meets_own s tag secret x y o true n h k, first_row h no_own, first_removed h);
  wrong_secret = λ s tag secret x y r h k. let e = meets_wrong s tag secret x y r h k in (rw e, (rw e, rw e));
  wrong_own_secret = λ s tag secret x y o n h k. let e = meets_own s tag secret x y o false n h k in (rw e, (rw e, rw e));
  unknown_tag = λ s tag secret n m. let e = meets_none s tag secret n m in (rw e, (rw e, rw e));
  stored_answers = λ s tag secret expiry. refl;
  opened_answers = λ s tag secret expiry. refl;
  failed_answers = λ s peer tag. (λ h. rw h, λ h. rw h);
  stored_at_1024 = λ s tag secret expiry h k.
      let e = none_of_tag s.tombstones tag h in
      (rw (e, le-leb 1024 (length s.tombstones) k), rw (e, le-leb 1024 (length s.tombstones) k));
  least_expiry_lowest_slot = least_lowest;
  stored_below_1024 = λ s tag secret expiry h k.
      let e = none_of_tag s.tombstones tag h in
      (rw (e, lt-leb 1024 (length s.tombstones) k), rw (e, lt-leb 1024 (length s.tombstones) k));
  nothing_stored = λ s tag secret expiry h. let e = one_of_tag s.tombstones tag h in (rw e, rw e);
  carried_and_tombstoned = λ s tag secret expiry h k.
      let e = none_of_tag s.tombstones tag h in
      (rw e k, rw e (has_right (remaining s.tombstones) (here refl)));
}
