-- Laws of a record of the saved file: its bytes, run by run.
-- Assumes nothing.
use Rattle.std.proofs.Common.{◌≡◌, ℕ, ◌+◌, ◌-◌, ◌≤◌, List, [], ◌∷◌, ◌++◌, map, length, take, replicate, sym, refl, ap, ◌∙◌, arith, length-append}
use lib.Seq.{take-append_seam}
use Rattle.octets.specs.Bytes.{splice, be}
use Rattle.octets.proofs.Parts.{splice_then, splice_all, length_splice}
use Rattle.octets.proofs.Numbers.{length_be}
use Rattle.table.specs.Rows.{join}
use Rattle.state.specs.Held.{held_row}
use Rattle.model.specs.Saved.{Slotted, held_mark, saved_record, saved_file}
use Rattle.saved.specs.Blobs.{Blobbed}
use Rattle.saved.specs.Saving.{record_bytes, RecordPut, Recorded, Records, Filled}

pub mark_made : (mark : List ℕ) (number : ℕ) (x y : List ℕ) → length mark ≡ 2 → x ≡ splice (replicate 10 0) 0 mark → y ≡ splice x 2 (be 8 number)
    → y ≡ mark ++ be 8 number
mark_made mark number x y l ex ey =
    splice_then (replicate 10 0) x y 0 2 mark (be 8 number) ex ey (omega (arith, l)) (omega (arith, l, length_be 8 number))
    ∙ splice_all _ _ (omega (arith, l, length-append mark (be 8 number), length_be 8 number))

-- mark and slot, then the length, then the row
pub record_put : (mark : List ℕ) (slot : ℕ) (row : List ℕ) (at : ℕ) (file x y z head : List ℕ) → length mark ≡ 2 → head ≡ mark ++ be 8 slot → x ≡ splice file at head
    → y ≡ splice x (at + 10) (be 2 (length row)) → z ≡ splice y (at + 12) row → at + 12 + length row ≤ length file
    → RecordPut mark slot row at file (at + 12 + length row) z
unfolding record_bytes
record_put mark slot row at file x y z head em eh ex ey ez room =
    let n : List ℕ = be 2 (length row) in
    let ln : length n ≡ 2 = length_be 2 (length row) in
    let lh : length head ≡ 10 = omega (arith, ap length eh, length-append mark (be 8 slot), em, length_be 8 slot) in
    let fy : y ≡ splice file at (head ++ n) = splice_then file x y at (at + 10) head n ex ey (omega arith) (omega arith) in
    let fz : z ≡ splice file at (head ++ n ++ row) =
    splice_then file y z at (at + 12) (head ++ n) row fy ez (omega (arith, length-append head n)) (omega arith) in
    record { end = refl; area = fz ∙ ap (λ (h : List ℕ). splice file at (h ++ n ++ row)) eh }

length_record : (mark : List ℕ) (slot : ℕ) (row : List ℕ) → length mark ≡ 2 → length (record_bytes mark slot row) ≡ 12 + length row
unfolding record_bytes
length_record mark slot row e = simp (length-append, length_be, e) (omega arith)

-- the record of a held row, of its blob
module _ (most : ℕ) (mark : List ℕ) (h : Slotted) (two : length mark ≡ 2) (marked : held_mark h.held ≡ mark) where
  pub recorded : (area blob : List ℕ) (n slot at : ℕ) (file : List ℕ) (r : ℕ) (after : List ℕ) → Blobbed most h area n blob → h.slot ≡ slot
      → RecordPut mark slot (take (n - 0) blob) at file r after → Recorded (12 + most) h at file r after
  unfolding splice saved_record record_bytes
  recorded area blob n slot at file r after B es P =
      let row : List ℕ = held_row h.held in
      let z : n - 0 ≡ length row = omega (arith, B.count) in
      let eb : take (n - 0) blob ≡ row =
      (λ i. take (z i) (B.area i)) ∙ take-append_seam row _ in
      let e : record_bytes mark slot (take (n - 0) blob) ≡ saved_record h =
      λ i. sym marked i ++ be 8 (sym es i) ++ be 2 (length (eb i)) ++ eb i in
      let l : length (saved_record h) ≡ 12 + length row = ap length (sym e) ∙ length_record mark slot (take (n - 0) blob) two ∙ ap (λ (x : List ℕ). 12 + length x) eb in
      record {
        end = omega (arith, P.end, ap length eb);
        within = omega (arith, P.end, ap length eb, B.count, B.within);
        area = P.area ∙ ap (splice file at) e;
      }

-- the next slot, then the records
pub file_filled : (next : ℕ) (rows : List Slotted) (lent x after head : List ℕ) (r : ℕ) → 10 ≤ length lent → head ≡ (72 ∷ 78 ∷ []) ++ be 8 next → x ≡ splice lent 0 head
    → Records rows x r after → Filled (saved_file next rows) lent r after
unfolding saved_file
file_filled next rows lent x after head r h eh ex D =
    let records : List ℕ = join (map saved_record rows) in
    let lh : length head ≡ 10 = omega (arith, ap length eh, length_be 8 next) in
    let lx : length x ≡ length lent = ap length ex ∙ length_splice lent 0 head (omega arith) in
    record {
      count = D.end ∙ omega (arith, length-append ((72 ∷ 78 ∷ []) ++ be 8 next) records, length_be 8 next);
      area = splice_then lent x after 0 10 head records ex D.area (omega arith) (omega (arith, D.end, D.within))
          ∙ ap (λ (l : List ℕ). splice lent 0 (l ++ records)) eh;
    }
