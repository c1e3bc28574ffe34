-- The file of a state that is `Savable` is never refused by a post that takes its rows, and gives it the same held rows and next slot.
-- Assumes nothing.
use Rattle.std.proofs.Common.{◌≡◌, ℕ, ◌+◌, ◌<◌, ◌≤◌, Bool, true, false, ◌||◌, List, map, length, sym, refl, ap, ◌∙◌, subst, ap₂, arith, le-ltb, Ok}
use mathlib.Core.Bool.{false≢true}
use lib.ListN.{length-map}
use Rattle.courier_core.specs.declared.Refusal.{Refusal}
use Rattle.table.specs.Lists.{All, any, count_by}
use Rattle.table.proofs.ListLaws.{all_imp, all_map, count_map}
use Rattle.rows.specs.declared.Contact.{Contact}
use Rattle.rows.specs.declared.Carried.{Carried}
use Rattle.model.specs.Basics.{same_contact}
use Rattle.model.specs.State.{State}
use Rattle.model.specs.Calls.{Result, done}
use Rattle.model.specs.Cells.{cell_count}
use Rattle.model.specs.Contacts.{known}
use Rattle.model.specs.Custody.{deposited}
use Rattle.model.specs.Saved.{Slotted, carried_held, tombstone_held, saved_record, save_held}
use Rattle.history.specs.Order.{Sorted}
use Rattle.history.proofs.SortedLaws.{all_both}
use Rattle.model.proofs.Laws.{all_merge}
use Rattle.load_tests.specs.Records.{records, is_carried, is_tombstone}
use Rattle.load_tests.specs.Tests.{record_tests, row_tests, fails, next_in, carried_count, tombstone_count, wrongs, holds, load_tests, tested_as}
use Rattle.load_tests.proofs.TestLaws.{none_any, fails_row, file_many, tested_fine}
use Rattle.load.specs.Reload.{Savable, Takes, Reloaded}
use Rattle.load.specs.Load.{load_held_rows, load_step}
use Rattle.load.proofs.CallLaws.{after, step_tested}
use Rattle.load.proofs.SavedLaws.{Back, Short, of_carried, of_tombstone, carried_rows, tombstone_rows, each_carried, each_tombstone, rows_of, file_of, same_file, same_records, all_rows_lem, next_saved, sorted_map, saved_loaded}
use Rattle.load.proofs.FineLaws.{depositor_of, TagsApart, of_depositor, sorted_merge, count_merge, count_none, count_all, marked_saved, marked_tomb, kind_saved, past_saved, once_saved, known_saved, tag_once_saved, few_of_one_saved, Begins, begins_saved}

module _ (s : State) (W : Savable s) where
  abbrev xs : List Slotted
  xs = carried_rows s

  abbrev ys : List Slotted
  ys = tombstone_rows s

  abbrev hs : List Slotted
  hs = rows_of s

  abbrev rs : List (List ℕ)
  rs = map saved_record hs

  abbrev file : List ℕ
  file = file_of s

  backs : All Back hs
  backs = all_imp (λ h p. p.0) hs (all_rows_lem s W)

  shorts : All Short hs
  shorts = all_imp (λ h B. B.short) hs backs

  its_records : records file ≡ rs
  its_records = same_records s W.fits shorts

  -- ---- as many records of a kind as rows

  -- one kind is among the rows of both tables
  kind_counted : (is : List ℕ → Bool) (of : Slotted → Bool) → ((h : Slotted) → is (saved_record h) ≡ of h) → count_by is (records file) ≡ count_by of xs + count_by of ys
  kind_counted is of e = ap (count_by is) its_records ∙ sym (count_map saved_record of is (λ h. sym (e h)) hs) ∙ count_merge of (λ (h : Slotted). h.slot) xs ys

  carried_counted : carried_count file ≡ length s.carried
  unfolding carried_held tombstone_held
  carried_counted =
      kind_counted is_carried of_carried marked_saved
      ∙ omega (
        arith,
        count_all of_carried xs (each_carried s (λ r. refl)),
        length-map s.carried (carried_held s.carried_cells),
        count_none of_carried ys (each_tombstone s (λ t. refl)),
      )

  tombstones_counted : tombstone_count file ≡ length s.tombstones
  unfolding carried_held tombstone_held
  tombstones_counted =
      kind_counted is_tombstone of_tombstone marked_tomb
      ∙ omega (
        arith,
        count_none of_tombstone xs (each_carried s (λ r. refl)),
        length-map s.tombstones tombstone_held,
        count_all of_tombstone ys (each_tombstone s (λ t. refl)),
      )

  of_one_lem : (id : ℕ) → count_by (of_depositor id) hs ≤ 32
  unfolding carried_held tombstone_held deposited
  of_one_lem id =
      omega (
        arith,
        count_merge (of_depositor id) (λ (h : Slotted). h.slot) xs ys,
        count_none (of_depositor id) ys (each_tombstone s (λ t. refl)),
        count_map (carried_held s.carried_cells) (λ (r : Carried). same_contact r.depositor (record { 0 = id })) (of_depositor id) (λ r. refl) s.carried,
        W.quota (record { 0 = id }),
      )

  -- ---- no slot and no carried tag is there twice

  slots_differ : Sorted (λ (a b : Slotted). a.slot ≡ b.slot → ⊥) hs
  unfolding carried_held tombstone_held
  slots_differ =
      sorted_merge (λ (h : Slotted). h.slot) (λ a b f e. f (sym e)) xs ys
      (sorted_map (carried_held s.carried_cells) (λ a b k e. omega (arith, k, e)) s.carried W.order.carried_rise)
      (sorted_map tombstone_held (λ a b k e. omega (arith, k, e)) s.tombstones W.order.tombstones_rise)
      (all_map (carried_held s.carried_cells) s.carried (all_imp (λ r a. all_map tombstone_held s.tombstones a) s.carried W.order.apart))

  tags_apart : Sorted TagsApart hs
  unfolding carried_held tombstone_held
  tags_apart =
      sorted_merge (λ (h : Slotted). h.slot) (λ a b f p q e. f q p (sym e)) xs ys
      (sorted_map (carried_held s.carried_cells) (λ a b k p q e. k e) s.carried W.tags_differ)
      (sorted_map tombstone_held (λ a b k p q e. false≢true p) s.tombstones W.order.tombstones_rise)
      (each_carried s (λ r. each_tombstone s (λ t p q e. false≢true q)))

  -- ---- each record

  module _ (cs : List Contact) (k : All (λ (r : Carried). known cs r.depositor ≡ true) s.carried) where
    -- its slot is below the next, and its depositor is known
    abbrev Fair : Slotted → Type 0
    Fair h = (h.slot < s.next_slot) × (of_carried h ≡ true → known cs (record { 0 = depositor_of h.held }) ≡ true)

    fair : All Fair hs
    unfolding carried_held tombstone_held
    fair =
        all_merge (λ (h : Slotted). h.slot) xs ys
        (all_map (carried_held s.carried_cells) s.carried (all_imp (λ r q. (q.0, λ e. q.1)) s.carried (all_both s.carried W.order.carried_below k)))
        (all_map tombstone_held s.tombstones (all_imp (λ t b. (b, λ p. absurd (false≢true p))) s.tombstones W.order.tombstones_below))

    row_fine : (h : Slotted) → Back h → Fair h → fails (row_tests s.next_slot cs rs) (saved_record h) ≡ false
    unfolding fails any
    row_fine h B f =
        λ j. past_saved h B s.next_slot f.0 j || (once_saved hs backs slots_differ h B j
        || (known_saved h B cs f.1 j || (tag_once_saved hs backs tags_apart h B j || (few_of_one_saved hs backs h B (of_one_lem (depositor_of h.held)) j || false))))

    record_fine : (h : Slotted) → Back h → Fair h → fails (record_tests s.next_slot cs rs) (saved_record h) ≡ false
    record_fine h B f = sym (fails_row s.next_slot cs rs (saved_record h) (sym (kind_saved h B)) (sym (row_fine h B f)))

    records_fine : any (fails (record_tests (next_in file) cs (records file))) (records file) ≡ false
    records_fine =
        ap₂ (λ (n : ℕ) (bs : List (List ℕ)). any (fails (record_tests n cs bs)) bs) (next_saved s W) its_records
        ∙ none_any (fails (record_tests s.next_slot cs rs)) rs (all_map saved_record hs (all_imp (λ h k. record_fine h k.0 k.1) hs (all_both hs backs fair)))

    -- ---- the file

    saved_fine : false ≡ holds (wrongs cs file)
    unfolding is_carried cell_count
    saved_fine =
        let B : Begins file = subst Begins (sym (same_file s W.fits)) (begins_saved s.next_slot hs shorts) in
        file_many cs file false B.long B.mark refl B.whole (sym records_fine) refl
        (sym (le-ltb 256 (carried_count file) (omega (arith, carried_counted, W.fits))))

    tested_saved : (cells room : ℕ) → length s.carried ≤ cell_count cells → length s.tombstones ≤ room → Ok tt ≡ tested_as (load_tests cs cells room file)
    unfolding cell_count is_carried is_tombstone
    tested_saved cells room h k =
        tested_fine cs file cells room saved_fine refl refl refl (omega (arith, carried_counted, h)) refl (omega (arith, tombstones_counted, k))

module _ (s t : State) (W : Savable s) (T : Takes t s) where
  is_done_lem : (load_step t (save_held s).bytes).answer ≡ done
  unfolding load_step load_held_rows save_held
  is_done_lem =
      let f : List ℕ = file_of s in
      let ts : List (Bool × Refusal) = load_tests t.contacts (length t.carried_cells) t.tombstone_rows f in
      ap (λ (o : Result). o.answer) (step_tested (load_held_rows t f) ts
      ∙ ap (after (load_held_rows t f)) (sym (tested_saved s W t.contacts T.depositors (length t.carried_cells) t.tombstone_rows T.cells T.rows)))

  -- The file of a state that is `Savable` is not refused by any post that takes its rows, and the load gives that post the same held rows, with
  -- their ciphertexts, and next slot.
  pub reloaded : Reloaded t s
  reloaded = let q = saved_loaded s t W T.cells is_done_lem in record { answer = is_done_lem; held = q.0; next_slot = q.1 }
