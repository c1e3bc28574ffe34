-- Laws of rows as they are written: their bytes, run by run, and a blob area.
-- Assumes nothing.
use Rattle.std.proofs.Common.{◌≡◌, ℕ, suc, ◌+◌, ◌-◌, ◌^◌, ◌<◌, ◌≤◌, min, true, false, ltb, List, [], ◌∷◌, ◌++◌, length, take, replicate, sym, refl, ap, ◌∙◌, arith, length-append, length-take, le-ltb, lt-ltb}
use Rattle.std.proofs.lemmas.List.{take_min}
use Rattle.octets.specs.Bytes.{splice, be}
use Rattle.octets.proofs.Parts.{splice_then, splice_all}
use Rattle.octets.proofs.Numbers.{length_be}
use Rattle.courier.specs.Courier.{header_bytes}
use Rattle.courier_core.specs.declared.Refusal.TheVariants as refusal
use Rattle.state.specs.declared.Carried.{Carried}
use Rattle.state.specs.declared.Tombstone.{Tombstone}
use Rattle.std.specs.Prelude.{Ok, Err}
use Rattle.state.specs.Held.{carried, tombstone, carried_head, held_row, row_answered, row_area, RowWritten}

-- what the types of a tombstone's fields say of them
pub record ProperTombstone (t : Tombstone) : Type 0 where
  pub tag : length t.tag ≡ 16
  pub s : length t.s ≡ 16
  pub expiry : t.expiry_min < 2 ^ 32

-- a carried row's head, written run by run over zeros
pub head_made : (r : Carried) (h x y : List ℕ) → h ≡ header_bytes r.header → length h ≡ 37 → x ≡ splice (replicate 46 0) 1 (be 8 r.depositor.0)
    → y ≡ splice x 9 h → y ≡ carried_head r
unfolding carried_head splice
head_made r h x y eh lh ex ey =
    let z : List ℕ = replicate 46 0 in
    let d : List ℕ = be 8 r.depositor.0 in
    let k : List ℕ = 0 ∷ [] in
    let ld : length d ≡ 8 = length_be 8 r.depositor.0 in
    let x' : x ≡ splice z 0 (k ++ d) = splice_then z z x 0 1 k d refl ex refl (omega arith) in
    let y' : y ≡ splice z 0 (k ++ d ++ h) = splice_then z x y 0 9 (k ++ d) h x' ey (omega arith) (omega arith) in
    y' ∙ splice_all z (k ++ d ++ h) (omega (arith, length-append (k ++ d) h)) ∙ ap (λ (l : List ℕ). k ++ d ++ l) eh

-- a tombstone, written run by run over ones
pub tombstone_made : (t : Tombstone) (x y w : List ℕ) → length t.tag ≡ 16 → length t.s ≡ 16 → x ≡ splice (replicate 37 1) 1 t.tag → y ≡ splice x 17 t.s
    → w ≡ splice y 33 (be 4 t.expiry_min) → w ≡ held_row (tombstone t)
unfolding held_row splice
tombstone_made t x y w lt ls ex ey ew =
    let z : List ℕ = replicate 37 1 in
    let k : List ℕ = 1 ∷ [] in
    let e : List ℕ = be 4 t.expiry_min in
    let le : length e ≡ 4 = length_be 4 t.expiry_min in
    let l1 : length (k ++ t.tag) ≡ 17 = ap suc lt in
    let l2 : length (k ++ t.tag ++ t.s) ≡ 33 = omega (arith, length-append (k ++ t.tag) t.s, ls) in
    let x' : x ≡ splice z 0 (k ++ t.tag) = splice_then z z x 0 1 k t.tag refl ex refl (omega (arith, lt)) in
    let y' : y ≡ splice z 0 (k ++ t.tag ++ t.s) = splice_then z x y 0 17 (k ++ t.tag) t.s x' ey (omega arith) (omega (arith, ls)) in
    let w' : w ≡ splice z 0 (k ++ t.tag ++ t.s ++ e) = splice_then z y w 0 33 (k ++ t.tag ++ t.s) e y' ew (omega arith) (omega arith) in
    w' ∙ splice_all z (k ++ t.tag ++ t.s ++ e) (omega (arith, length-append (k ++ t.tag ++ t.s) e))

-- ---- the area

module _ (row area : List ℕ) where
  pub row_refused : length area < 2110 → RowWritten row area (Err refusal.ShortArea) area
  unfolding row_answered row_area
  row_refused h =
      let e : ltb (length area) 2110 ≡ true = lt-ltb (length area) 2110 h in
      record { answer = rw e; number = rw e; area = rw e }

  pub row_answered_lem : 2110 ≤ length area → row_answered row area ≡ Ok (length row)
  unfolding row_answered
  row_answered_lem h = rw (le-ltb (length area) 2110 h)

  -- the row's bytes, however they were made, at the front of the area
  pub row_written : (b : List ℕ) (n : ℕ) (after : List ℕ) → 2110 ≤ length area → b ≡ row → length b ≡ n → after ≡ splice area 0 b
      → RowWritten row area (Ok n) after
  unfolding row_answered row_area
  row_written b n after h eb en ea =
      let e : ltb (length area) 2110 ≡ false = le-ltb (length area) 2110 h in
      record { answer = ap Ok (sym en ∙ ap length eb) ∙ rw e; number = rw e; area = ea ∙ ap (splice area 0) eb ∙ rw e }

-- a carried row: its head, then what lies inside the cell
pub carried_written : (r : Carried) (ct area h x after : List ℕ) (n : ℕ) → 2110 ≤ length area → h ≡ carried_head r → length h ≡ 46
    → n ≡ min 2064 (length ct) → x ≡ splice area 0 h → after ≡ splice x 46 (take (n - 0) ct)
    → RowWritten (held_row (carried r ct)) area (Ok (46 + n)) after
unfolding held_row
carried_written r ct area h x after n ha eh lh en ex ea =
    let z : n - 0 ≡ n = omega arith in
    let c : take (n - 0) ct ≡ take 2064 ct = ap (λ (k : ℕ). take k ct) (z ∙ en) ∙ take_min 2064 ct in
    let lc : length (take 2064 ct) ≡ n = length-take 2064 ct ∙ sym en in
    row_written (carried_head r ++ take 2064 ct) area (h ++ take 2064 ct) (46 + n) after ha (ap (λ (l : List ℕ). l ++ take 2064 ct) eh)
    (omega (arith, length-append h (take 2064 ct)))
    (splice_then area x after 0 46 h (take 2064 ct) ex (ea ∙ ap (splice x 46) c) (omega arith) (omega arith))
