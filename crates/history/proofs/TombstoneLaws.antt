-- The limit of 1,024 tombstones: every call keeps it, and with R at 1,024 or more none of a list is refused by number 5.
-- Assumes nothing.
use Rattle.std.proofs.Common.{◌≡◌, ℕ, ◌≤◌, not, List, [], ◌∷◌, length, get_or, refl, arith, length-append}
use Rattle.courier_core.specs.declared.Refusal.TheVariants as refusal
use Rattle.table.proofs.ListLaws.{length_filter}
use Rattle.rows.specs.declared.Carried.{Carried}
use Rattle.rows.specs.declared.Tombstone.{Tombstone}
use Rattle.model.specs.State.{State, apply}
use Rattle.model.specs.Calls.{Call, Result, refused}
use Rattle.model.specs.Contacts.{minute_of}
use Rattle.model.specs.Exchange.{no_carried}
use Rattle.model.specs.Maintenance.{tombstone_expired}
use Rattle.model.specs.Tombs.{remaining, turned}
use Rattle.model.specs.Step.{Post, Lent, state_for, answer_to, after, run}
use Rattle.model.proofs.RoomLaws.{room_made, length_by_slot, never_5}
use Rattle.history.proofs.Effects
use Rattle.history.proofs.Effects.{HeldStep}
use Rattle.history.proofs.KeptLaws.{effect_at}
use Rattle.history.specs.Limits.{max_tombstones}

-- let n be 1,024 or more: of at most n tombstones there are at most n after any call
few_kept : (s : State) (o : Result) (n : ℕ) → max_tombstones ≤ n → {c : Call} {carried : List Carried} {ts : List Tombstone} {next : ℕ} {cells : List ℕ}
    → HeldStep s o c carried ts next cells → length s.tombstones ≤ n → length ts ≤ n
few_kept s o n h (Effects.same u) k = k
few_kept s o n h (Effects.gave replies actions window peer head ct p e) k = k
few_kept s o n h (Effects.handed_on actions peer tag i p e) k = k
few_kept s o n h (Effects.stored u t e) k = omega (arith, length-append (remaining s.tombstones) (t ∷ []), room_made s.tombstones n h k)
few_kept s o n h (Effects.turns actions peer tag secret i p m e) k =
    omega (arith, length_by_slot (turned (get_or s.carried i no_carried) tag secret) (remaining s.tombstones), room_made s.tombstones n h k)
few_kept s o n h (Effects.sweeps actions e) k = omega (arith, length_filter (λ (t : Tombstone). not (tombstone_expired (minute_of s) t)) s.tombstones)

few_after : (p : Post) (l : Lent) (n : ℕ) → max_tombstones ≤ n → length p.state.tombstones ≤ n → length (after p l).state.tombstones ≤ n
unfolding after state_for
few_after p l n h k = few_kept (state_for p l) (answer_to p l) n h (effect_at p l).held k

-- so after a list of calls there are at most 1,024, or at most as many as at its start
pub few_run : (p : Post) (ls : List Lent) (n : ℕ) → max_tombstones ≤ n → length p.state.tombstones ≤ n → length (run p ls).state.tombstones ≤ n
unfolding run
few_run p [] n h k = k
few_run p (l ∷ ls) n h k = few_run (after p l) ls n h (few_after p l n h k)

-- R stays
rows_run : (p : Post) (ls : List Lent) → (run p ls).state.tombstone_rows ≡ p.state.tombstone_rows
unfolding run after state_for apply
rows_run p [] = refl
rows_run p (l ∷ ls) = rows_run (after p l) ls

-- with R at 1,024 or more no call of a list is refused by number 5
pub never_5_run : (p : Post) → max_tombstones ≤ p.state.tombstone_rows → length p.state.tombstones ≤ p.state.tombstone_rows → (before : List Lent) (l : Lent)
    → (answer_to (run p before) l).answer ≡ refused refusal.NoTombstoneRow → ⊥
unfolding answer_to state_for
never_5_run p h k before l =
    let few : length (run p before).state.tombstones ≤ p.state.tombstone_rows = few_run p before p.state.tombstone_rows h k in
    never_5 (state_for (run p before) l) (omega (arith, rows_run p before)) (omega (arith, rows_run p before)) l.call
