-- Laws of the load call: refused, and performed.
-- Assumes nothing.
use Rattle.std.proofs.Common.{◌≡◌, ℕ, ◌/◌, ◌≤◌, min, Bool, List, length, sym, refl, ap, ◌∙◌, subst, arith, ltb-false, Result, Ok, Err}
use Rattle.courier_core.specs.declared.Refusal.{Refusal}
use Rattle.table.specs.Codec.{table_of}
use Rattle.rows.specs.declared.Contact.{Contact}
use Rattle.rows.specs.declared.Device.{Device}
use Rattle.rows.specs.Rows.{contact_codec}
use Rattle.rows.specs.Limits.{carried_area}
use Rattle.model.specs.State.{State}
use Rattle.model.specs.Calls.{Result as Outcome, refused, only, done, step_of}
use Rattle.model.specs.Cells.{cell_count}
use Rattle.model.specs.Areas.{Areas, Written, view, store, store_device, store_session}
use Rattle.model.specs.Lent.{no_answers}
use Rattle.model.proofs.CallLaws.{result_by, tested_call, quiet_call, refused_call}
use Rattle.load_tests.specs.Tests.{next_in, carried_count, tombstone_count, load_tests, tested_as}
use Rattle.load_tests.proofs.TestLaws.{fine_none, fine_long, fine_kinds}
use Rattle.load.specs.declared.Counts.{Counts}
use Rattle.load.specs.Load.{loaded, rows_now, load_held_rows, load_step}
use Rattle.load.specs.Laying.{Laid, Fine, says, load_lent}

-- a step by what its tests say
abbrev pub after : Outcome → Result (Unit {0}) Refusal → Outcome
after p r = result_by (λ u. p) r

pub step_tested : (p : Outcome) (ts : List (Bool × Refusal)) → step_of ts p ≡ after p (tested_as ts)
unfolding tested_as
step_tested p ts = tested_call (λ u. p) ts (Ok tt) refl

-- what holds of a refusal, and of what is performed where no test holds, holds of a load
pub load_cases : (s : State) (file : List ℕ) (P : Outcome → Type 0) → ((why : Refusal) → P (only (refused why)))
    → (Ok tt ≡ tested_as (load_tests s.contacts (length s.carried_cells) s.tombstone_rows file) → P (load_held_rows s file)) → P (load_step s file)
unfolding load_step
load_cases s file P f g = subst P (sym (step_tested (load_held_rows s file) ts)) (go (tested_as ts) refl)
  where
    ts : List (Bool × Refusal)
    ts = load_tests s.contacts (length s.carried_cells) s.tombstone_rows file

    go : (r : Result (Unit {0}) Refusal) → tested_as ts ≡ r → P (after (load_held_rows s file) r)
    go (Err why) e = f why
    go (Ok u) e = g (sym e)

pub not_done : (why : Refusal) → refused why ≡ done → ⊥
not_done why e = cc

-- a file that is fine, and room for it in the areas
module _ (cs : List Contact) (file : List ℕ) where
  pub fine_ten : (c r : ℕ) → Ok tt ≡ tested_as (load_tests cs c r file) → 10 ≤ length file
  fine_ten c r e = fine_long cs file (fine_none cs file c r e).0

  pub fine_areas : (carried tombs cells : List ℕ) → length carried ≡ carried_area → Ok tt ≡ tested_as (load_tests cs (length cells) (length tombs / 44) file)
      → Fine file carried tombs cells
  unfolding cell_count
  fine_areas carried tombs cells s e =
      let n = fine_none cs file (length cells) (length tombs / 44) e in
      let c : carried_count file ≤ min 256 (length cells / 2064) = ltb-false (cell_count (length cells)) (carried_count file) n.1.0 in
      let t : tombstone_count file ≤ length tombs / 44 = ltb-false (length tombs / 44) (tombstone_count file) n.1.1 in
      record {
        kinds = fine_kinds cs file n.0;
        few = omega arith;
        carried = omega arith;
        cells = omega arith;
        tombstones = omega arith;
      }

module _ (d : Device) (contacts carried tombs cells file : List ℕ) where
  abbrev cs : List Contact
  cs = table_of contact_codec d.contacts contacts

  abbrev Says : Result (Unit {0}) Refusal → Type 0
  Says r = r ≡ tested_as (load_tests cs (length cells) (length tombs / 44) file)

  module _ (a : Areas) where
    abbrev B : Areas
    B = load_lent d contacts carried tombs cells a

    step_of_lem : (r : Result (Unit {0}) Refusal) → Says r → load_step (view B) file ≡ after (load_held_rows (view B) file) r
    unfolding load_step view
    step_of_lem r e = step_tested (load_held_rows (view B) file) (load_tests cs (length cells) (length tombs / 44) file) ∙ ap (after (load_held_rows (view B) file)) (sym e)

    pub load_refused : (why : Refusal) → Says (Err why) → Written says (load_step (view B) file) (Err why) B B no_answers no_answers
    load_refused why e = refused_call why (step_of_lem (Err why) e) refl refl

    pub load_performed : Says (Ok tt) → {h : Counts} {x y z : List ℕ} {next : ℕ} → Laid carried tombs (loaded cells file) h x y z → next ≡ next_in file
        → Written says (load_step (view B) file) (Ok tt) B
        (load_lent (record d { carried = h.carried; tombstones = h.tombstones; next_slot = next }) contacts x y z a) no_answers no_answers
    unfolding load_held_rows view store store_device store_session
    load_performed e L en =
        quiet_call done (rows_now (loaded cells file) (next_in file)) (step_of_lem (Ok tt) e) refl
        (λ j. load_lent (record d { carried = L.carried.count j; tombstones = L.tombstones.count j; next_slot = en j }) contacts (L.carried.area j) (L.tombstones.area j) (L.cells j) a)
