-- `store_tombstone` and `receive_tomb`, and what follows local opening: the calls stored tombstone, tomb, report opened, report failed.
-- Assumes nothing.
use Rattle.std.specs.Prelude.{ℕ, suc, ◌+◌, ◌^◌, min, Bool, false, cond, not, ◌&&◌, ◌||◌, ltb, List, [], ◌∷◌, ◌++◌, length, nat_le, nat_lt, slice_index_or}
use Rattle.courier_core.specs.declared.ContactId.{ContactId}
use Rattle.courier_core.specs.declared.Refusal.{Refusal}
use Rattle.courier_core.specs.declared.Refusal.TheVariants as refusal
use Rattle.table.specs.Lists.{any, position, unwrap_or, insert_at, remove_at}
use Rattle.courier.specs.Tags.{commitment_of, tombstone_matches}
use Rattle.rows.specs.declared.Own.{Own}
use Rattle.rows.specs.declared.Carried.{Carried}
use Rattle.rows.specs.declared.Tombstone.{Tombstone}
use Rattle.rows.specs.declared.Action.{Action}
use Rattle.rows.specs.Limits.{max_tombstones}
use Rattle.model.specs.Basics.{match_found}
use Rattle.model.specs.State.{State, Change, nothing, own_now, carried_now, tombstones_now, bad_tags_now, next_slot_now, ◌and◌}
use Rattle.model.specs.Calls.{Result, result, only, done, malformed, short_replies, short_actions, put_courier, delete_courier, put_queued, tomb_reply}
use Rattle.model.specs.Contacts.{end_of, known}
use Rattle.model.specs.Window.{is_bad}
use Rattle.model.specs.Custody.{own_of_tag, carried_of_tag, tombstone_of_tag, last_slot}
use Rattle.model.specs.Exchange.{no_carried, no_own}

-- ---- `store_tombstone`

abbrev pub no_tombstone : Tombstone
no_tombstone = record { slot = 0; tag = []; s = []; expiry_min = 0 }

unfoldable pub tombstoned : List Tombstone → List ℕ → Bool
tombstoned ts tag = any (tombstone_of_tag tag) ts

-- the place of the least expiry below low, the first among equals; best if there is none
unfoldable pub least_from : ℕ → ℕ → ℕ → List Tombstone → ℕ
least_from i best low [] = best
least_from i best low (t ∷ ts) =
    cond (nat_lt t.expiry_min low) (least_from (suc i) i t.expiry_min ts) (least_from (suc i) best low ts)

-- where the tombstone of least expiry stands, lowest slot among equals
abbrev pub least_expiry : List Tombstone → ℕ
least_expiry ts = least_from 0 0 (2 ^ 32) ts

-- room for one tombstone, stored or turned: at 1,024 or more, one of least expiry goes first. What is left, and its deletion
unfoldable pub remaining : List Tombstone → List Tombstone
remaining ts = cond (nat_le max_tombstones (length ts)) (remove_at (least_expiry ts) ts) ts

unfoldable pub evicted : List Tombstone → List Action
evicted ts = cond (nat_le max_tombstones (length ts)) (delete_courier (slice_index_or ts (least_expiry ts) no_tombstone).slot ∷ []) []

-- after any deletion, all R rows are used
abbrev pub all_rows_used : ℕ → List Tombstone → Bool
all_rows_used rows ts = nat_le rows (length (remaining ts))

-- nothing is stored if the tag has a tombstone
unfoldable pub store_tombstone : State → List ℕ → List ℕ → ℕ → Change
store_tombstone s tag secret expiry =
    cond (tombstoned s.tombstones tag) nothing
    (tombstones_now (remaining s.tombstones ++ (record { slot = s.next_slot; tag = tag; s = secret; expiry_min = expiry } ∷ []))
    and next_slot_now (s.next_slot + 1))

unfoldable pub store_actions : State → List ℕ → List Action
store_actions s tag = cond (tombstoned s.tombstones tag) [] (evicted s.tombstones ++ (put_courier s.next_slot ∷ []))

-- numbers 5 and 6 of a tombstone that is to be stored
unfoldable pub no_row_to_store : State → List ℕ → Bool
no_row_to_store s tag = not (tombstoned s.tombstones tag) && all_rows_used s.tombstone_rows s.tombstones

unfoldable pub no_slot_to_store : State → List ℕ → Bool
no_slot_to_store s tag = not (tombstoned s.tombstones tag) && last_slot s

unfoldable pub stored_tests : State → ℕ → List ℕ → List (Bool × Refusal)
stored_tests s actions tag =
    (short_actions s actions, refusal.ShortArea)
    ∷ (no_row_to_store s tag, refusal.NoTombstoneRow)
    ∷ (no_slot_to_store s tag, refusal.NoSlot)
    ∷ []

unfoldable pub stored : State → List ℕ → List ℕ → ℕ → Result
stored s tag secret expiry = result done [] (store_actions s tag) (store_tombstone s tag secret expiry)

-- ---- `receive_tomb`

-- what a tomb meets: a carried row first, else an own row, at its place and with the right secret; a wrong secret; no such tag
pub data Met : Type 0 where
  carried_at own_at : ℕ → Met
  wrong unknown : Met

unfoldable pub meets : List Own → List Carried → List ℕ → List ℕ → Met
meets own carried tag secret =
    match_found (position (carried_of_tag tag) carried)
    (λ i. cond (tombstone_matches (slice_index_or carried i no_carried).c secret) (carried_at i) wrong)
    (match_found (position (own_of_tag tag) own)
    (λ i. cond (tombstone_matches (commitment_of (slice_index_or own i no_own).s) secret) (own_at i) wrong) unknown)

-- a tombstone among others, by slot
unfoldable pub insert_by_slot : Tombstone → List Tombstone → List Tombstone
insert_by_slot new ts = insert_at (unwrap_or (length ts) (position (λ (t : Tombstone). ltb new.slot t.slot) ts)) new ts

-- a carried row turned tombstone retains its slot and expiry
unfoldable pub turned : Carried → List ℕ → List ℕ → Tombstone
turned r tag secret = record { slot = r.slot; tag = tag; s = secret; expiry_min = r.expiry_min }

-- one of the tombstones stored before may go, and never the row that turns; room is made also where its tag has a tombstone
unfoldable pub turn : State → ℕ → List ℕ → List ℕ → Result
turn s i tag secret =
    let r : Carried = slice_index_or s.carried i no_carried in
    result done [] (evicted s.tombstones ++ (put_courier r.slot ∷ []))
    (carried_now (remove_at i s.carried) and tombstones_now (insert_by_slot (turned r tag secret) (remaining s.tombstones)))

-- an own row is ended, and its tombstone stored
unfoldable pub end_own : State → ℕ → List ℕ → List ℕ → Result
end_own s i tag secret =
    let o : Own = slice_index_or s.own i no_own in
    result done [] (put_queued o.contact o.msgno ∷ store_actions s tag)
    (own_now (remove_at i s.own) and store_tombstone s tag secret o.expiry_min)

unfoldable pub receive_tomb : State → List ℕ → List ℕ → Met → Result
receive_tomb s tag secret (carried_at i) = turn s i tag secret
receive_tomb s tag secret (own_at i) = end_own s i tag secret
receive_tomb s tag secret wrong = only malformed
receive_tomb s tag secret unknown = only done

-- numbers 5 and 6: a row that turns needs one of the R rows and no new slot
unfoldable pub no_row_to_meet : State → List ℕ → Met → Bool
no_row_to_meet s tag (carried_at i) = all_rows_used s.tombstone_rows s.tombstones
no_row_to_meet s tag (own_at i) = no_row_to_store s tag
no_row_to_meet s tag wrong = false
no_row_to_meet s tag unknown = false

unfoldable pub no_slot_to_meet : State → List ℕ → Met → Bool
no_slot_to_meet s tag (carried_at i) = false
no_slot_to_meet s tag (own_at i) = no_slot_to_store s tag
no_slot_to_meet s tag wrong = false
no_slot_to_meet s tag unknown = false

unfoldable pub tomb_tests : State → ℕ → ContactId → List ℕ → Met → List (Bool × Refusal)
tomb_tests s actions peer tag met =
    (short_actions s actions, refusal.ShortArea)
    ∷ (not (known s.contacts peer), refusal.UnknownContact)
    ∷ (no_row_to_meet s tag met, refusal.NoTombstoneRow)
    ∷ (no_slot_to_meet s tag met, refusal.NoSlot)
    ∷ []

-- ---- the end of `receive_envelope`: the host reports "opened" or "failed"

unfoldable pub opened_tests : State → ℕ → ℕ → ContactId → List ℕ → List (Bool × Refusal)
opened_tests s replies actions peer tag =
    (short_replies replies || short_actions s actions, refusal.ShortArea)
    ∷ (not (known s.contacts peer), refusal.UnknownContact)
    ∷ (no_row_to_store s tag, refusal.NoTombstoneRow)
    ∷ (no_slot_to_store s tag, refusal.NoSlot)
    ∷ []

-- the tomb is answered also where the tag has a tombstone
unfoldable pub report_opened : State → List ℕ → List ℕ → ℕ → Result
report_opened s tag secret expiry =
    result done (tomb_reply tag secret ∷ []) (store_actions s tag) (store_tombstone s tag secret (min expiry (end_of s)))

unfoldable pub failed_tests : State → ContactId → List ℕ → List (Bool × Refusal)
failed_tests s peer tag =
    (not (known s.contacts peer), refusal.UnknownContact)
    ∷ (not (is_bad s.bad_tags peer tag) && nat_le s.bad_tag_rows (length s.bad_tags), refusal.NoBadTagRow)
    ∷ []

-- "failed" alone says yes and adds its bad tag
unfoldable pub report_failed : State → ContactId → List ℕ → Result
report_failed s peer tag =
    result malformed [] []
    (cond (is_bad s.bad_tags peer tag) nothing (bad_tags_now (s.bad_tags ++ (record { peer = peer; tag = tag } ∷ []))))
