-- A carried row that is not read back is saved all the same, and its file is refused by number 8.
-- Assumes nothing.
use Rattle.std.proofs.Common.{◌≡◌, ℕ, ◌≤◌, Bool, true, ◌||◌, leb, List, [], ◌∷◌, map, length, take, sym, refl, ap, ◌∙◌, subst, arith, None}
use Rattle.std.proofs.lemmas.Bool.{cond_both}
use mathlib.Core.Bool.{or-true}
use Rattle.courier_core.specs.declared.Refusal.{Refusal}
use Rattle.courier_core.specs.declared.Refusal.TheVariants as refusal
use Rattle.table.specs.Lists.{All, any}
use Rattle.table.proofs.ListLaws.{all_imp, all_map}
use Rattle.state.specs.Held.{held_row, held_decode, held_read}
use Rattle.state.proofs.HeldLaws.{reads_back_not, carried_refused}
use Rattle.rows.specs.declared.Contact.{Contact}
use Rattle.rows.specs.declared.Carried.{Carried}
use Rattle.rows.specs.Proper.{ProperCarried, ProperTombstone}
use Rattle.model.specs.Basics.{merge}
use Rattle.model.specs.State.{State}
use Rattle.model.specs.Calls.{Result, refused}
use Rattle.model.specs.Cells.{ciphertext, cell_count}
use Rattle.model.specs.Saved.{Slotted, carried_held, saved_record, save_held}
use Rattle.history.specs.Order.{◌∈◌, here, there}
use Rattle.history.proofs.SortedLaws.{all_in}
use Rattle.model.proofs.Laws.{all_merge}
use Rattle.load_tests.specs.Records.{records}
use Rattle.load_tests.specs.Tests.{kind_tests, record_tests, fails, next_in, wrongs, holds, load_tests}
use Rattle.load_tests.proofs.BlobLaws.{kind_tested}
use Rattle.load_tests.proofs.TestLaws.{fails_kind, file_wrong, tested_wrong}
use Rattle.load.specs.Load.{load_held_rows, load_step}
use Rattle.load.proofs.CallLaws.{after, step_tested}
use Rattle.load.proofs.SavedLaws.{Short, carried_rows, tombstone_rows, rows_of, file_of, same_file, same_records, as_held, proper_held, carried_short, tombstone_short, blob_saved}
use Rattle.load.proofs.FineLaws.{Begins, begins_saved}

-- ---- a test that holds of one holds of some

any_in : {A : Type 0} (p : A → Bool) {x : A} {xs : List A} → x ∈ xs → p x ≡ true → any p xs ≡ true
unfolding any
any_in p {xs = y ∷ ys} here e = ap (λ (t : Bool). t || any p ys) e
any_in p {xs = y ∷ ys} (there m) e = ap (λ (t : Bool). p y || t) (any_in p m e) ∙ or-true (p y)
any_in {A = A} p {xs = []} h e = elim h [ ]

in_map : {A B : Type 0} (f : A → B) {x : A} {xs : List A} → x ∈ xs → f x ∈ map f xs
in_map f here = here
in_map f (there m) = there (in_map f m)

in_merge : (key : Slotted → ℕ) {x : Slotted} (xs ys : List Slotted) → x ∈ xs → x ∈ merge key xs ys
unfolding merge
in_merge key (z ∷ zs) [] m = m
in_merge key (z ∷ zs) (y ∷ ys) here = cond_both (leb (key z) (key y)) _ _ (λ (l : List Slotted). z ∈ l) (λ e. here) (λ e. there (in_merge key (z ∷ zs) ys here))
in_merge key {x} (z ∷ zs) (y ∷ ys) (there m) =
    cond_both (leb (key z) (key y)) _ _ (λ (l : List Slotted). x ∈ l) (λ e. there (in_merge key zs (y ∷ ys) m)) (λ e. there (in_merge key (z ∷ zs) ys (there m)))
in_merge key {x = x} [] ys m = elim m [ ]

-- ---- the file

module _ (s : State) (C : All ProperCarried s.carried) (T : All ProperTombstone s.tombstones) (fits : length s.carried ≤ cell_count (length s.carried_cells)) (r : Carried)
    (m : r ∈ s.carried) (lost : r.expiry_min ≡ 0) where
  abbrev hs : List Slotted
  hs = rows_of s

  abbrev file : List ℕ
  file = file_of s

  abbrev row : Slotted
  row = carried_held s.carried_cells r

  shorts : All Short hs
  shorts =
      all_merge (λ (h : Slotted). h.slot) (carried_rows s) (tombstone_rows s) (all_map (carried_held s.carried_cells) s.carried (all_imp (carried_short s.carried_cells) s.carried C))
      (all_map _ s.tombstones (all_imp tombstone_short s.tombstones T))

  -- `decode` refuses its blob
  blob_refused : held_decode (held_row row.held) ≡ None
  unfolding carried_held
  blob_refused =
      let ct : List ℕ = ciphertext s.carried_cells r.cell r.len in
      carried_refused (as_held r) (proper_held r (all_in C m)) ct (reads_back_not (length (take 2064 ct)) r.expiry_min (λ h k. omega (arith, lost)))

  kind_fails : true ≡ fails kind_tests (saved_record row)
  kind_fails = kind_tested (saved_record row) None (sym (ap held_read (ap held_decode (blob_saved row) ∙ blob_refused)))

  module _ (cs : List Contact) where
    records_wrong : any (fails (record_tests (next_in file) cs (records file))) (records file) ≡ true
    records_wrong =
        ap (λ (bs : List (List ℕ)). any (fails (record_tests (next_in file) cs (records file))) bs) (same_records s fits shorts)
        ∙ any_in (fails (record_tests (next_in file) cs (records file)))
        (in_map saved_record (in_merge (λ (h : Slotted). h.slot) (carried_rows s) (tombstone_rows s) (in_map (carried_held s.carried_cells) m)))
        (sym (fails_kind (next_in file) cs (records file) (saved_record row) kind_fails))

    file_wrongs : true ≡ holds (wrongs cs file)
    file_wrongs =
        let B : Begins file = subst Begins (sym (same_file s fits)) (begins_saved s.next_slot hs shorts) in
        file_wrong cs file true B.long B.mark refl refl B.whole (sym records_wrong)

  -- A carried row whose expiry is 0: no post loads the file.
  pub unread_refused : (t : State) → (load_step t (save_held s).bytes).answer ≡ refused refusal.SavedFile
  unfolding load_step load_held_rows save_held
  unread_refused t =
      let ts : List (Bool × Refusal) = load_tests t.contacts (length t.carried_cells) t.tombstone_rows file in
      ap (λ (o : Result). o.answer) (step_tested (load_held_rows t file) ts
      ∙ ap (after (load_held_rows t file)) (sym (tested_wrong t.contacts file (length t.carried_cells) t.tombstone_rows (file_wrongs t.contacts) refl)))
