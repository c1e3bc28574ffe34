-- Room for one tombstone: how many are left; that with R at 1,024 or more no call is refused by number 5, whatever the areas hold; and a tomb beside the rules before Four.
-- Assumes nothing.
use Rattle.std.proofs.Common.{◌≡◌, ℕ, suc, ◌+◌, ◌-◌, ◌/◌, ◌^◌, ◌<◌, ◌≤◌, Bool, true, false, cond, not, ◌&&◌, eqb, ltb, leb, ◌⊎◌, List, [], ◌∷◌, ◌++◌, length, sym, refl, ap, ◌∙◌, subst, inl, inr, arith, le-leb, leb-false, leb-true}
use mathlib.Core.Bool.{and-false, false≢true}
use borrow.Author.Tests.{lt-leb}
use Rattle.courier_core.specs.Core.{refusal_number}
use Rattle.courier_core.specs.declared.ContactId.{ContactId}
use Rattle.courier_core.specs.declared.Refusal.{Refusal}
use Rattle.courier_core.specs.declared.Refusal.TheVariants as refusal
use Rattle.table.specs.Lists.{All, none, more, remove_at}
use Rattle.table.proofs.ListLaws.{length_remove_at, length_insert_at}
use Rattle.table.proofs.RowLaws.{held_le}
use Rattle.table.proofs.FindLaws.{position_le}
use Rattle.table.proofs.TableLaws.{length_table}
use Rattle.rows.specs.declared.Tombstone.{Tombstone}
use Rattle.rows.specs.Rows.{tombstone_width, tombstone_codec}
use Rattle.rows.specs.Limits.{max_tombstones}
use Rattle.model.specs.State.{State}
use Rattle.model.specs.Calls
use Rattle.model.specs.Calls.{Call, Result, refused, only, short_actions, step_of}
use Rattle.model.specs.Contacts.{known, contact_tests, setting_tests, open_exchange_tests}
use Rattle.model.specs.Custody.{envelope_tests}
use Rattle.model.specs.Exchange.{inventory_tests, fetch_tests, receive_inventory_tests, custody_tests}
use Rattle.model.specs.Maintenance.{maintenance_tests}
use Rattle.model.specs.Own.{own_tests}
use Rattle.model.specs.Saved.{blob_tests, save_tests}
use Rattle.model.specs.Screen.{page_tests}
use Rattle.model.specs.Tombs.{tombstoned, least_from, least_expiry, remaining, evicted, all_rows_used, insert_by_slot, Met, carried_at, own_at, wrong, unknown, meets, turn, receive_tomb, no_row_to_store, no_row_to_meet, no_slot_to_meet, stored_tests, tomb_tests, opened_tests, failed_tests}
use Rattle.model.specs.Step.{tests, perform, step}
use Rattle.model.specs.Before.{turn_before_four, tomb_before_four}
use Rattle.model.specs.Areas.{Areas, view}
use Rattle.model.proofs.RefusalLaws.{FirstHolds, refused_exactly}

-- ---- how many are left

-- the place of the least is one of the table's
least_inside : (i best low n : ℕ) (ts : List Tombstone) → best < n → i + length ts ≤ n → least_from i best low ts < n
unfolding least_from
least_inside i best low n [] h k = h
least_inside i best low n (t ∷ ts) h k =
    go (ltb t.expiry_min low) (least_inside (suc i) i t.expiry_min n ts (omega (arith, k)) (omega (arith, k))) (least_inside (suc i) best low n ts h (omega (arith, k)))
  where
    go : (b : Bool) → least_from (suc i) i t.expiry_min ts < n → least_from (suc i) best low ts < n
        → cond b (least_from (suc i) i t.expiry_min ts) (least_from (suc i) best low ts) < n
    go true p q = p
    go false p q = q

-- at 1,024 or more one goes, below none
pub one_left : (ts : List Tombstone) → max_tombstones ≤ length ts → length (remaining ts) ≡ length ts - 1
unfolding remaining
one_left ts h =
    ap (λ (b : Bool). length (cond b (remove_at (least_expiry ts) ts) ts)) (le-leb 1024 (length ts) h)
    ∙ length_remove_at ts (least_expiry ts) (least_inside 0 0 (2 ^ 32) (length ts) ts (omega (arith, h)) (omega arith))

pub all_left : (ts : List Tombstone) → length ts < max_tombstones → remaining ts ≡ ts
unfolding remaining
all_left ts h = ap (λ (b : Bool). cond b (remove_at (least_expiry ts) ts) ts) (lt-leb 1024 (length ts) h)

-- where there are at most n, and n is 1,024 or more, at least one of n rows is free once room is made
pub room_made : (ts : List Tombstone) (n : ℕ) → max_tombstones ≤ n → length ts ≤ n → length (remaining ts) < n
room_made ts n h k = go (leb 1024 (length ts)) refl
  where
    go : (b : Bool) → leb 1024 (length ts) ≡ b → length (remaining ts) < n
    go true e = omega (arith, one_left ts (leb-true 1024 (length ts) e), leb-true 1024 (length ts) e)
    go false e = omega (arith, ap (λ (us : List Tombstone). length us) (all_left ts (leb-false 1024 (length ts) e)), leb-false 1024 (length ts) e)

pub length_by_slot : (t : Tombstone) (ts : List Tombstone) → length (insert_by_slot t ts) ≡ length ts + 1
unfolding insert_by_slot
length_by_slot t ts = omega (arith, length_insert_at ts _ t (position_le (λ (x : Tombstone). ltb t.slot x.slot) ts))

-- ---- number 5

-- a test that is not number 5's, or does not hold
abbrev Quiet : Bool × Refusal → Type 0
Quiet t = (eqb (refusal_number t.1) 5 && t.0) ≡ false

quiet_at : (before after : List (Bool × Refusal)) (t : Bool × Refusal) → All Quiet (before ++ (t ∷ after)) → Quiet t
quiet_at [] after t (more h a) = h
quiet_at (u ∷ us) after t (more h a) = quiet_at us after t a

not_first : (ts : List (Bool × Refusal)) → All Quiet ts → FirstHolds ts refusal.NoTombstoneRow → ⊥
not_first ts a f = false≢true (sym (quiet_at f.before f.after (true, refusal.NoTombstoneRow) (subst (All Quiet) f.in_order a)))

module _ (s : State) (room : all_rows_used s.tombstone_rows s.tombstones ≡ false) where
  room_to_store : (tag : List ℕ) → no_row_to_store s tag ≡ false
  unfolding no_row_to_store
  room_to_store tag = rw room (and-false (not (tombstoned s.tombstones tag)))

  room_to_meet : (tag : List ℕ) (m : Met) → no_row_to_meet s tag m ≡ false
  unfolding no_row_to_meet
  room_to_meet tag (carried_at i) = room
  room_to_meet tag (own_at i) = room_to_store tag
  room_to_meet tag wrong = refl
  room_to_meet tag unknown = refl

  quiet : (c : Call) → All Quiet (tests s c)
  unfolding tests contact_tests setting_tests open_exchange_tests envelope_tests receive_inventory_tests fetch_tests custody_tests tomb_tests opened_tests failed_tests stored_tests own_tests maintenance_tests inventory_tests blob_tests save_tests page_tests
  quiet (Calls.contact id v) = more refl none
  quiet (Calls.setting enabled copies lifetime) = more refl none
  quiet (Calls.clock seconds) = none
  quiet (Calls.open_exchange peer) = more refl (more refl none)
  quiet (Calls.envelope replies actions window peer head ct) = more refl (more refl (more refl (more refl (more refl none))))
  quiet (Calls.inventory_received replies window peer listed) = more refl (more refl (more refl (more refl none)))
  quiet (Calls.fetch replies peer tag) = more refl (more refl none)
  quiet (Calls.custody_answer actions peer tag code) = more refl (more refl (more refl none))
  quiet (Calls.tomb actions peer tag secret) = more refl (more refl (more (room_to_meet tag (meets s.own s.carried tag secret)) (more refl none)))
  quiet (Calls.opened replies actions peer tag secret expiry) = more refl (more refl (more (room_to_store tag) (more refl none)))
  quiet (Calls.failed peer tag) = more refl (more refl none)
  quiet (Calls.stored_tombstone actions tag secret expiry) = more refl (more (room_to_store tag) (more refl none))
  quiet (Calls.add_own id msgno key dir generation idx secret ct) = more refl (more refl (more refl (more refl none)))
  quiet (Calls.maintenance actions) = more refl none
  quiet (Calls.inventory_of_ours prefixes peer) = more refl (more refl none)
  quiet (Calls.row_blob blob slot) = more refl none
  quiet (Calls.save file) = more refl none
  quiet (Calls.page area number) = more refl none

-- with R at 1,024 or more, and no more than R tombstones, no call is refused by number 5
pub never_5 : (s : State) → 1024 ≤ s.tombstone_rows → length s.tombstones ≤ s.tombstone_rows → (c : Call) → (step s c).answer ≡ refused refusal.NoTombstoneRow → ⊥
never_5 s h k c e =
    let room = lt-leb s.tombstone_rows (length (remaining s.tombstones)) (room_made s.tombstones s.tombstone_rows h k) in
    not_first (tests s c) (quiet s room c) ((refused_exactly s c).exact refusal.NoTombstoneRow e)

-- an area holds no more than it has rows for: so with R at 1,024 or more number 5 is never answered on any areas, of any bytes, loaded or not
pub never_5_areas : (a : Areas) → 1024 ≤ length a.tombstones / tombstone_width → (c : Call) → (step (view a) c).answer ≡ refused refusal.NoTombstoneRow → ⊥
unfolding view
never_5_areas a h c =
    never_5 (view a) h (omega (arith, length_table tombstone_codec a.device.tombstones a.tombstones, held_le (length a.tombstones) tombstone_width a.device.tombstones)) c

-- ---- a tomb beside the rules before Four

-- a tomb that is not refused by 1 or 2 turns a row, with 1,024 tombstones or more there
pub record TurnsAtLimit (s : State) (actions : ℕ) (peer : ContactId) (tag secret : List ℕ) : Type 0 where
  pub long : short_actions s actions ≡ false
  pub from_known : known s.contacts peer ≡ true
  pub place : ℕ
  pub meeting : meets s.own s.carried tag secret ≡ carried_at place
  pub many : 1024 ≤ length s.tombstones

none_evicted : (ts : List Tombstone) → length ts < max_tombstones → evicted ts ≡ []
unfolding evicted
none_evicted ts h = rw (lt-leb 1024 (length ts) h)

-- every tomb is answered as it was, or it turns a row at the limit
pub tomb_either : (s : State) (actions : ℕ) (peer : ContactId) (tag secret : List ℕ)
    → (step s (Calls.tomb actions peer tag secret) ≡ tomb_before_four s actions peer tag secret (meets s.own s.carried tag secret))
    ⊎ TurnsAtLimit s actions peer tag secret
unfolding step tests perform tomb_tests no_row_to_meet no_slot_to_meet receive_tomb turn tomb_before_four turn_before_four step_of
tomb_either s actions peer tag secret = go (meets s.own s.carried tag secret) refl (leb 1024 (length s.tombstones)) refl
  where
    Either : Met → Type 0
    Either m = (step_of (tomb_tests s actions peer tag m) (receive_tomb s tag secret m) ≡ tomb_before_four s actions peer tag secret m) ⊎ TurnsAtLimit s actions peer tag secret

    at_limit : (i : ℕ) → meets s.own s.carried tag secret ≡ carried_at i → 1024 ≤ length s.tombstones
        → (short : Bool) → short_actions s actions ≡ short → (is : Bool) → known s.contacts peer ≡ is → Either (carried_at i)
    at_limit i e many true h is k = inl (rw h)
    at_limit i e many false h false k = inl (rw (h, k))
    at_limit i e many false h true k = inr (record { long = h; from_known = k; place = i; meeting = e; many = many })

    go : (m : Met) → meets s.own s.carried tag secret ≡ m → (b : Bool) → leb 1024 (length s.tombstones) ≡ b → Either m
    go (carried_at i) e true k =
        at_limit i e (leb-true 1024 (length s.tombstones) k) (short_actions s actions) refl (known s.contacts peer) refl
    go (carried_at i) e false k =
        let few = leb-false 1024 (length s.tombstones) k in inl (rw (all_left s.tombstones few, none_evicted s.tombstones few))
    go (own_at i) e b k = inl refl
    go wrong e b k = inl refl
    go unknown e b k = inl refl

-- and there it is answered otherwise, of no more than R tombstones: a deletion is listed where none was
pub tomb_differs : (s : State) → length s.tombstones ≤ s.tombstone_rows → (actions : ℕ) (peer : ContactId) (tag secret : List ℕ) → TurnsAtLimit s actions peer tag secret
    → step s (Calls.tomb actions peer tag secret) ≡ tomb_before_four s actions peer tag secret (meets s.own s.carried tag secret) → ⊥
unfolding step tests perform tomb_tests no_row_to_meet no_slot_to_meet receive_tomb turn step_of evicted tomb_before_four turn_before_four
tomb_differs s h actions peer tag secret t e = omega (arith, two, few, ap (λ (o : Result). length o.actions) e)
  where
    room : all_rows_used s.tombstone_rows s.tombstones ≡ false
    room = lt-leb s.tombstone_rows (length (remaining s.tombstones)) (room_made s.tombstones s.tombstone_rows (omega (arith, h, t.many)) h)

    two : length (step s (Calls.tomb actions peer tag secret)).actions ≡ 2
    two = rw (t.meeting, t.long, t.from_known, room, le-leb 1024 (length s.tombstones) t.many)

    one : (b : Bool) → length (cond b (only (refused refusal.NoTombstoneRow)) (turn_before_four s t.place tag secret)).actions ≤ 1
    one true = omega arith
    one false = omega arith

    few : length (tomb_before_four s actions peer tag secret (meets s.own s.carried tag secret)).actions ≤ 1
    few = rw (t.meeting, t.long, t.from_known) (one (leb s.tombstone_rows (length s.tombstones)))
