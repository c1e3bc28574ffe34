-- Laws of the save call: each way out as the model's step, and what it leaves.
-- Assumes nothing.
use Rattle.std.proofs.Common.{◌≡◌, ℕ, ◌+◌, ◌*◌, ◌/◌, ◌≤◌, min, Bool, true, false, ltb, leb, List, [], ◌∷◌, map, length, take, sym, refl, ap, ◌∙◌, subst, ap₂, arith, take_all, ltb-false, leb-false, leb-true, Result, Ok, Err}
use lib.Seq.{take-append_seam}
use Rattle.octets.specs.Bytes.{splice}
use Rattle.courier_core.specs.declared.Refusal.{Refusal}
use Rattle.courier_core.specs.declared.Refusal.TheVariants as refusal
use Rattle.table.specs.Rows.{held, rows}
use Rattle.table.specs.Codec.{Codec, table_of}
use Rattle.std.proofs.lemmas.List.{take-map}
use Rattle.table.proofs.RowLaws.{length_rows, take_rows}
use Rattle.table.specs.declared.lent.Table.{Table}
use Rattle.rows.specs.declared.Device.{Device}
use Rattle.rows.specs.declared.Carried.{Carried}
use Rattle.rows.specs.declared.Tombstone.{Tombstone}
use Rattle.rows.specs.Rows.{carried_codec, tombstone_codec}
use Rattle.model.specs.Basics.{merge}
use Rattle.model.specs.State.{State}
use Rattle.model.specs.Calls.{Call, save, step_of}
use Rattle.model.specs.Cells.{cell_count}
use Rattle.model.specs.Saved.{Slotted, carried_held, tombstone_held, saved_file, saved_rows, saved_size, save_tests, save_held, IsSaved}
use Rattle.model.specs.Step.{tests, perform, step}
use Rattle.model.specs.Areas.{Areas, AnswerAreas, Written, view, answer_areas}
use Rattle.model.proofs.Laws.{saved}
use Rattle.model.proofs.CallLaws.{refused_here, not_here, no_test, refused_call, bytes_call}
use Rattle.model.specs.Lent.{bytes_lent}
use Rattle.by_slot.specs.declared.held.Held.{Held}
use Rattle.by_slot.specs.BySlot.{Fitted, rows_left}
use Rattle.by_slot.proofs.SlotLaws.{carried_fitted, tombstones_fitted}
use Rattle.saved.specs.Blobs.{held_in}
use Rattle.saved.specs.Saving.{left, Rooms, Filled, save_says}
use Rattle.saved.specs.declared.HeldRows.{HeldRows}

-- no more rows of a table than a cap
rows_capped : (w n cap : ℕ) (a : List ℕ) → take cap (rows w n a) ≡ rows w (min n cap) a
rows_capped w n cap a = go (leb cap n) refl
  where
    go : (b : Bool) → leb cap n ≡ b → take cap (rows w n a) ≡ rows w (min n cap) a
    go true e =
        let h : cap ≤ n = leb-true cap n e in
        let k : cap ≡ min n cap = omega arith in
        take_rows w cap n a h ∙ ap (λ (i : ℕ). rows w i a) k
    go false e =
        let k : n ≡ min n cap = omega (arith, leb-false cap n e) in
        take_all cap (rows w n a) (omega (arith, leb-false cap n e, length_rows w n a)) ∙ ap (λ (i : ℕ). rows w i a) k

table_capped : {A : Type 0} (c : Codec A) (count cap : ℕ) (a : List ℕ) → take cap (table_of c count a) ≡ table_of c (min count cap) a
unfolding table_of held
table_capped c count cap a =
    let m : ℕ = min count (length a / c.width) in
    let k : min m cap ≡ min (min count cap) (length a / c.width) = omega arith in
    take-map c.decode cap (rows c.width m a) ∙ ap (map c.decode) (rows_capped c.width m cap a ∙ ap (λ (i : ℕ). rows c.width i a) k)

-- a file that is not too short has room for every record
pub rooms : {T : Table 57} {U : Table 44} {h : Held} → Fitted T U h → (file count : ℕ) → T.count ≤ count
    → ltb file (10 + 2122 * count + 49 * (length U.area.now / 44)) ≡ false → Rooms h file
unfolding held
rooms {U = U} F file count le f =
    let l = ltb-false file (10 + 2122 * count + 49 * (length U.area.now / 44)) f in
    omega (arith, l, F.carried_count, F.tombstones_count)

module _ (d : Device) (carried tombs cells lent : List ℕ) (a : Areas) (count : ℕ) (counted : count ≡ cell_count (length cells)) where
  abbrev B : Areas
  B = held_in d carried tombs cells a

  abbrev C : Call
  C = save (length lent)

  abbrev Says : Result ℕ Refusal → List ℕ → Type 0
  Says r back = Written save_says (step (view B) C) r B B (bytes_lent lent) (bytes_lent back)

  abbrev size : ℕ
  size = 10 + 2122 * count + 49 * (length tombs / 44)

  tested : {b : Bool} → ltb (length lent) size ≡ b → ltb (length lent) (10 + 2122 * cell_count (length cells) + 49 * (length tombs / 44)) ≡ b
  tested e = ap (λ (k : ℕ). ltb (length lent) (10 + 2122 * k + 49 * (length tombs / 44))) (sym counted) ∙ e

  pub says_no_room : ltb (length lent) size ≡ true → Says (Err refusal.ShortArea) lent
  unfolding step tests perform save_tests view
  says_no_room e = refused_call refusal.ShortArea (refused_here _ _ _ (tested e)) refl refl

-- the file of held rows, as many as there are cells for
module _ (d : Device) (h : HeldRows) (lent : List ℕ) (a : Areas) (count : ℕ) (counted : count ≡ cell_count (length h.cells.now)) {T : Table 57} {U : Table 44}
    (F : Fitted T U h.rows) (et : T.count ≡ min d.carried count) (eu : U.count ≡ d.tombstones) where
  abbrev H : Areas
  H = held_in d T.area.now U.area.now h.cells.now a

  same_rows : left h 0 0 ≡ saved_rows (view H)
  unfolding left rows_left saved_rows view
  same_rows =
      ap₂ (λ (x : List Carried) (y : List Tombstone). merge (λ (s : Slotted). s.slot) (map (carried_held h.cells.now) x) (map tombstone_held y))
      (carried_fitted F ∙ ap (λ (n : ℕ). table_of carried_codec n T.area.now) et ∙ sym (table_capped carried_codec d.carried count T.area.now)
      ∙ ap (λ (k : ℕ). take k (table_of carried_codec d.carried T.area.now)) counted)
      (tombstones_fitted F ∙ ap (λ (n : ℕ). table_of tombstone_codec n U.area.now) eu)

  pub says_saved : (fits : ltb (length lent) (10 + 2122 * count + 49 * (length U.area.now / 44)) ≡ false) (r : ℕ) (back : List ℕ)
      → Filled (saved_file d.next_slot (left h 0 0)) lent r back → Says d T.area.now U.area.now h.cells.now lent a count counted (Ok r) back
  unfolding step tests perform save_tests save_held view
  says_saved fits r back S =
      bytes_call (saved_file d.next_slot (saved_rows (view H))) (not_here _ _ _ (tested d T.area.now U.area.now h.cells.now lent a count counted fits) (no_test _))
      (ap Ok (S.count ∙ ap (λ (l : List Slotted). length (saved_file d.next_slot l)) same_rows))
      (S.area ∙ ap (λ (l : List Slotted). splice lent 0 (saved_file d.next_slot l)) same_rows)

-- A file that the call wrote is what document 01 fixes of one: its bytes are those of the held rows, each once.
pub is_saved : (s : State) (before after : Areas) (lent back : List ℕ) (n : ℕ)
    → Written save_says (step s (save (length lent))) (Ok n) before after (bytes_lent lent) (bytes_lent back) → IsSaved s (take n back)
unfolding step step_of tests perform save_tests save_held answer_areas splice
is_saved s before after lent back n W = go (ltb (length lent) (saved_size s)) W
  where
    go : (b : Bool)
        → Written save_says (step_of ((b, refusal.ShortArea) ∷ []) (save_held s)) (Ok n) before after (bytes_lent lent) (bytes_lent back)
        → IsSaved s (take n back)
    go true w = let e = w.answer in let z : ◌≡◌ {A = ℕ} 0 1 = cc in absurd (omega arith)
    go false w =
        let q = w.answer in
        let e : n ≡ length (save_held s).bytes = cc in
        let f : back ≡ splice lent 0 (save_held s).bytes = ap (λ (x : AnswerAreas). x.bytes) w.answers in
        subst (IsSaved s) (sym ((λ i. take (e i) (f i)) ∙ take-append_seam (save_held s).bytes _)) (saved s)
