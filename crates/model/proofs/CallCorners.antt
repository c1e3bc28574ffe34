-- Corners of single calls, computed: which areas are too short, which refusals a call has, which rows it writes and what it leaves.
-- Assumes nothing.
use Rattle.std.proofs.Common.{◌≡◌, ℕ, ◌+◌, Bool, true, false, List, [], ◌∷◌, ◌++◌, map, replicate, refl, Some, None}
use Rattle.courier_core.specs.Core.{refusal_number}
use Rattle.courier_core.specs.declared.Refusal.{Refusal}
use Rattle.courier_core.specs.declared.Verification.TheVariants as verification
use Rattle.courier.specs.declared.Custody.TheVariants as custody
use Rattle.state.specs.Held.{Held}
use Rattle.state.specs.Held as held
use Rattle.rows.specs.declared.Contact.{Contact}
use Rattle.rows.specs.declared.Own.{Own}
use Rattle.rows.specs.declared.Carried.{Carried}
use Rattle.rows.specs.declared.Tombstone.{Tombstone}
use Rattle.rows.specs.declared.Reachable.{Reachable}
use Rattle.model.specs.State.{State, apply, nothing, contacts_now, carried_now, courier_now, clock_now, tombstones_now, bad_tags_now, next_slot_now, ◌and◌}
use Rattle.model.specs.Calls.{short_replies, short_actions, short_exchange, put_courier, delete_courier, put_queued, fetch_reply, envelope_reply, custody_reply, tomb_reply, of_own}
use Rattle.model.specs.Cells
use Rattle.model.specs.Contacts
use Rattle.model.specs.Contacts.{now_min, is_for, put_contact, set_config, set_clock}
use Rattle.model.specs.Window
use Rattle.model.specs.Window.{strangers, keys_rise, lookup}
use Rattle.model.specs.Custody
use Rattle.model.specs.Exchange
use Rattle.model.specs.Tombs
use Rattle.model.specs.Tombs.{store_tombstone, report_opened, report_failed}
use Rattle.model.specs.Own
use Rattle.model.specs.Own.{insert_own, none_made, own_length}
use Rattle.model.specs.Saved.{carried_held, tombstone_held, held_mark, blob_tests}
use Rattle.model.proofs.Examples.{wide, post, id, of_byte, head, rows_of}

-- ---- areas

-- an area of its size is not too short, and one of a byte less is
areas_asked :
    (short_replies 61440 ≡ false) × (short_replies 61439 ≡ true)
    × (short_actions post.state 6708 ≡ false) × (short_actions post.state 6707 ≡ true)
    × (short_exchange (record post.state { session = wide }) ≡ false)
    × (short_exchange (record post.state { session = record wide { prefix_area = 4095 } }) ≡ true)
    × (short_exchange (record post.state { session = record wide { offer_area = 8703 } }) ≡ true)
    × (map (λ (t : Bool × Refusal). t.0) (blob_tests 2110) ≡ false ∷ []) × (map (λ (t : Bool × Refusal). t.0) (blob_tests 2109) ≡ true ∷ [])
unfolding rows_of blob_tests
areas_asked = (refl, refl, refl, refl, refl, refl, refl, refl, refl)

-- ---- refusals

-- the tests of a call that hold, and the numbers that they have
holds : List (Bool × Refusal) → List Bool
holds ts = map (λ (t : Bool × Refusal). t.0) ts

numbers : List (Bool × Refusal) → List ℕ
numbers ts = map (λ (t : Bool × Refusal). refusal_number t.1) ts

-- an envelope from a contact that is not known is refused by 2 alone, though it would be accepted
unknown_peer : holds (Custody.envelope_tests post.state 61440 6708 [] (id 5) (head 17) 48) ≡ false ∷ false ∷ true ∷ false ∷ false ∷ []
unfolding holds rows_of
unknown_peer = refl

-- each call's refusals in document 01's order
numbers_in_order :
    (numbers (Custody.envelope_tests post.state 0 0 [] (id 5) (head 17) 48) ≡ 1 ∷ 12 ∷ 2 ∷ 4 ∷ 6 ∷ [])
    × (numbers (Exchange.receive_inventory_tests post.state 0 [] (id 5) []) ≡ 1 ∷ 12 ∷ 2 ∷ 3 ∷ [])
    × (numbers (Exchange.custody_tests post.state 0 (id 5)) ≡ 1 ∷ 2 ∷ 3 ∷ [])
    × (numbers (Tombs.stored_tests post.state 0 []) ≡ 1 ∷ 5 ∷ 6 ∷ [])
    × (numbers (Tombs.opened_tests post.state 0 0 (id 5) []) ≡ 1 ∷ 2 ∷ 5 ∷ 6 ∷ [])
    × (numbers (Tombs.failed_tests post.state (id 5) []) ≡ 2 ∷ 9 ∷ [])
    × (numbers (Own.own_tests post.state (id 5) 0 0) ≡ 2 ∷ 10 ∷ 11 ∷ 4 ∷ [])
unfolding numbers rows_of Tombs.stored_tests Tombs.opened_tests Tombs.failed_tests Own.own_tests
numbers_in_order = (refl, refl, refl, refl, refl, refl, refl)

-- an exchange that was opened for none is no contact's
opened_for_none : is_for (id 5) None ≡ false
opened_for_none = refl

-- ---- the window

-- a window row of contact n with a tag of one byte
reach : (n b : ℕ) → Reachable
unfolding id of_byte
reach n b = record { contact = id n; dir = 73; generation = 0; idx = b; tag = of_byte b }

person : (n verification : ℕ) → Contact
unfolding id
person n v = record { id = id n; verification = v }

-- any row's contact is asked for; keys that are equal do not rise; a tag is looked for from its first byte on
window_rows_met :
    (strangers (person 5 0 ∷ []) (reach 5 1 ∷ reach 6 2 ∷ []) ≡ true) × (strangers (person 5 0 ∷ person 6 0 ∷ []) (reach 5 1 ∷ reach 6 2 ∷ []) ≡ false)
    × (keys_rise (reach 5 1 ∷ reach 5 1 ∷ []) ≡ false) × (keys_rise (reach 5 1 ∷ reach 5 2 ∷ []) ≡ true)
    × (lookup (reach 5 1 ∷ reach 6 2 ∷ []) (replicate 8 2) ≡ Some 1)
unfolding reach person rows_of Window.key_below
window_rows_met = (refl, refl, refl, refl, refl)

-- ---- contacts, setting, clock

-- a known contact is altered in its place
altered : put_contact (person 5 0 ∷ person 6 0 ∷ []) (id 6) verification.Verified ≡ person 5 0 ∷ person 6 1 ∷ []
unfolding person rows_of
altered = refl

-- a setting switches off too, a clock is set to its seconds, and the minute of a clock stops at 2^32 − 1
set :
    ((set_config false 1 60).change ≡ courier_now (record { enabled = false; copies = 1; lifetime_min = 60 }))
    × ((set_clock 7).change ≡ clock_now 7) × (now_min 119 ≡ 1) × (now_min 257698037760 ≡ 4294967295)
unfolding set_config set_clock now_min
set = (refl, refl, refl, refl)

-- ---- rows of answers

-- the kind of each row
kinds :
    ((put_courier 7).kind ≡ 0) × ((delete_courier 7).kind ≡ 1) × ((put_queued (id 5) 7).kind ≡ 2)
    × ((fetch_reply []).kind ≡ 0) × ((envelope_reply of_own 7 (head 17)).kind ≡ 1) × ((custody_reply [] custody.Full).kind ≡ 2) × ((tomb_reply [] []).kind ≡ 3)
kinds = (refl, refl, refl, refl, refl, refl, refl)

-- ---- tombstones and bad tags

stone : (n b expiry : ℕ) → Tombstone
unfolding of_byte
stone n b expiry = record { slot = n; tag = of_byte b; s = of_byte (b + 1); expiry_min = expiry }

-- a tombstone is stored with its tag, secret and expiry in the next slot, and not where its tag has one
stored_once :
    (store_tombstone post.state (of_byte 1) (of_byte 2) 3 ≡ (tombstones_now (stone 0 1 3 ∷ []) and next_slot_now 1))
    × (store_tombstone (apply post.state (tombstones_now (stone 0 1 3 ∷ []))) (of_byte 1) (of_byte 2) 4 ≡ nothing)
unfolding stone rows_of store_tombstone Tombs.remaining Tombs.tombstoned
stored_once = (refl, refl)

-- a report answers the tomb with its secret, and keeps it no longer than the lifetime of now: 1,440 minutes at minute 0
opened_reported :
    ((report_opened post.state (of_byte 1) (of_byte 2) 5000).replies ≡ tomb_reply (of_byte 1) (of_byte 2) ∷ [])
    × ((report_opened post.state (of_byte 1) (of_byte 2) 5000).change ≡ (tombstones_now (stone 0 1 1440 ∷ []) and next_slot_now 1))
unfolding stone rows_of report_opened store_tombstone Tombs.remaining Tombs.tombstoned
opened_reported = (refl, refl)

-- a bad tag is added once
failed_once :
    ((report_failed post.state (id 5) (of_byte 1)).change ≡ bad_tags_now ((record { peer = id 5; tag = of_byte 1 }) ∷ []))
    × ((report_failed (apply post.state (bad_tags_now ((record { peer = id 5; tag = of_byte 1 }) ∷ []))) (id 5) (of_byte 1)).change ≡ nothing)
unfolding rows_of report_failed
failed_once = (refl, refl)

-- ---- own rows and held rows

own_of : (n msgno : ℕ) → Own
unfolding id
own_of n m = record { contact = id n; msgno = m; tag = []; s = []; expiry_min = 0; copies = 0; renewed = 0; len = 0; cell = 0 }

-- contact 6 was added before contact 5: its rows stand first, and those of one contact by message number
by_contact_added :
    (insert_own (person 6 0 ∷ person 5 0 ∷ []) (own_of 5 1) (own_of 6 2 ∷ own_of 5 2 ∷ []) ≡ own_of 6 2 ∷ own_of 5 1 ∷ own_of 5 2 ∷ [])
    × (insert_own (person 6 0 ∷ person 5 0 ∷ []) (own_of 6 3) (own_of 6 2 ∷ own_of 5 2 ∷ []) ≡ own_of 6 2 ∷ own_of 6 3 ∷ own_of 5 2 ∷ [])
unfolding person own_of rows_of insert_own Own.stands_after Contacts.added_before
by_contact_added = (refl, refl)

-- an inner length of 2,048 makes an envelope, and one of 4,048 none; of 15 bytes there is no inner length
lengths : (none_made [] 2064 ≡ false) × (none_made [] 4064 ≡ true) × (own_length 15 ≡ false)
unfolding none_made own_length
lengths = (refl, refl, refl)

-- a carried row of two bytes in cell 1, and what is held of it
row : Carried
unfolding id of_byte
row = record { slot = 3; depositor = id 5; tag = of_byte 1; c = of_byte 2; expiry_min = 9; copies = 4; len = 2; cell = 1 }

carried_row : List ℕ → Held
unfolding id of_byte
carried_row ct = held.carried (record { depositor = id 5; header = record { tag = of_byte 1; c = of_byte 2; expiry_min = 9; copies = 4 } }) ct

-- a held row has its kind's mark, and the ciphertext of its cell
held_rows_met : (t : Tombstone)
    → (carried_held (replicate 2064 1 ++ replicate 2064 2) row ≡ record { slot = 3; held = carried_row (2 ∷ 2 ∷ []) })
    × (held_mark (carried_row []) ≡ 72 ∷ 67 ∷ []) × (held_mark (tombstone_held t).held ≡ 72 ∷ 84 ∷ [])
unfolding rows_of row carried_row carried_held tombstone_held Cells.ciphertext Cells.cell_start
held_rows_met t = (refl, refl, refl)

-- ---- 4 comes only where an envelope would be accepted

in_cell : (n b : ℕ) → Carried
unfolding id of_byte
in_cell n b = record { slot = n; depositor = id 5; tag = of_byte b; c = []; expiry_min = 9; copies = 4; len = 48; cell = n }

crowded : State
unfolding rows_of in_cell person
crowded = apply post.state (contacts_now (person 5 1 ∷ []) and carried_now (in_cell 0 1 ∷ in_cell 1 2 ∷ []))

-- both cells are used: a new tag meets 4, and one that is held is a duplicate
cells_used_up :
    (holds (Custody.envelope_tests crowded 61440 6708 [] (id 5) (head 17) 48) ≡ false ∷ false ∷ false ∷ true ∷ false ∷ [])
    × (holds (Custody.envelope_tests crowded 61440 6708 [] (id 5) (head 1) 48) ≡ false ∷ false ∷ false ∷ false ∷ false ∷ [])
unfolding holds rows_of crowded in_cell person
cells_used_up = (refl, refl)
