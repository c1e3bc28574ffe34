-- Laws of the cells that rows name, of their marks, of the first cell that none names, and of the part of a cell that is a ciphertext.
-- Assumes nothing.
use Rattle.std.proofs.Common.{◌≡◌, ℕ, zero, suc, ◌+◌, ◌-◌, ◌*◌, ◌/◌, ◌<◌, ◌≤◌, min, Bool, true, false, cond, not, ◌||◌, eqb, List, [], ◌∷◌, ◌++◌, map, length, get_or, take, drop, drop-cons, set, replicate, sym, refl, ap, ◌∙◌, ap₂, add-one, arith, length-append, suc-mul, length-set, get_or-set_other, get_or-set_same, eqb-true, Option, Some}
use mathlib.Core.Bool.{or-false}
use borrow.Author.Tests.{eqb-false}
use lib.ListN.{length-replicate, get_or-replicate}
use lib.Seq.{set_out, take_at, drop_at}
use Rattle.std.specs.List.{position, position_from}
use Rattle.std.proofs.lemmas.Iterator.Adapters.{position_from-zero}
use Rattle.octets.specs.Bytes.{part, num}
use Rattle.table.specs.Lists.{any}
use Rattle.table.specs.Rows.{held, rows, Fits}
use Rattle.table.specs.Codec.{Codec, table_of}
use Rattle.state.specs.Sizes.{cell_size}
use Rattle.model.specs.Cells.{cell_start, cell_length, ciphertext, free_from, free_cell, cell_count}
use Rattle.holdings.specs.Named.{cells_named, mark_of, Marked}

-- ---- marks

-- these marks, and those that the cells left will set, are the marks of all
pub record Marking (named left : List ℕ) (marks : List Bool) : Type 0 where
  pub size : length marks ≡ 256
  pub at : (cell : ℕ) → cell < 256 → mark_of left cell (get_or marks cell false) ≡ mark_of named cell false

pub mark_none : (named : List ℕ) → Marking named named (replicate 256 false)
mark_none named = record { size = length-replicate {A = Bool} 256 false; at = λ cell h. ap (mark_of named cell) (get_or-replicate 256 cell false false h) }

-- the mark of a cell is set now, or by the cells left, or is what it was
mark_first : (v cell : ℕ) (left : List ℕ) (marks : List Bool) → cell < length marks
    → mark_of (v ∷ left) cell (get_or marks cell false) ≡ mark_of left cell (get_or (set marks v true) cell false)
unfolding mark_of any
mark_first v cell left marks h =
    go (eqb v cell) (any (λ (k : ℕ). eqb k cell) left) _ _ (λ e. rw (eqb-true v cell e) (get_or-set_same marks cell true false h))
    (λ e. get_or-set_other marks v cell true false (λ same. eqb-false v cell e (sym same)))
  where
    go : (now later x y : Bool) → (now ≡ true → y ≡ true) → (now ≡ false → y ≡ x) → ((now || later) || x) ≡ (later || y)
    go true true x y sets keeps = refl
    go true false x y sets keeps = sym (sets refl)
    go false true x y sets keeps = refl
    go false false x y sets keeps = sym (keeps refl)

mark_one : (named : List ℕ) (v : ℕ) (left : List ℕ) (marks : List Bool) → Marking named (v ∷ left) marks → Marking named left (set marks v true)
mark_one named v left marks m =
    record { size = length-set marks v true ∙ m.size; at = λ cell h. sym (mark_first v cell left marks (omega (arith, m.size))) ∙ m.at cell h }

-- a cell is named just where it is marked
pub mark_tells : (named : List ℕ) (marks : List Bool) (cell : ℕ) → Marked named marks → cell < 256
    → any (λ (k : ℕ). eqb k cell) named ≡ get_or marks cell false
unfolding Marked mark_of
mark_tells named marks cell marked h = sym (or-false _) ∙ sym (marked cell h)

-- ---- the cells that rows name

abbrev cell_of : ℕ → List ℕ → ℕ
cell_of o b = num (part b o 2)

-- n rows are left, at the front of the bytes that are left
module _ (w o : ℕ) where
  -- what a loop over them keeps: the cells of the rows left are yet to be marked
  pub record Chunked (named : List ℕ) (n size : ℕ) (rest : List ℕ) (marks : List Bool) : Type 0 where
    pub marking : Marking named (cells_named w o n rest) marks
    pub inside : n * w ≤ length rest
    pub wide : size ≡ w

  chunk_named : (n k : ℕ) (row rest after : List ℕ) → k + 1 ≡ n → length row ≡ w → rest ≡ row ++ after
      → cells_named w o n rest ≡ num (part row o 2) ∷ cells_named w o k after
  unfolding cells_named rows
  chunk_named n k row rest after e l r =
      ap (λ (m : ℕ). map (cell_of o) (rows w m rest)) (sym e ∙ add-one k)
      ∙ ap₂ (λ (x y : List ℕ). num (part x o 2) ∷ map (cell_of o) (rows w k y))
      (ap (take w) r ∙ take_at row after w l) (ap (drop w) r ∙ drop_at row after w l)

module _ {w o : ℕ} where
  pub chunk_first : {count n size : ℕ} {a rest : List ℕ} → Fits (length a) w count n → rest ≡ a → size ≡ w
      → Chunked w o (cells_named w o (held (length a) w count) a) n size rest (replicate 256 false)
  chunk_first f r s = record {
    marking = rw (r, f.is) (mark_none _);
    inside = omega (arith, f.inside, ap length r);
    wide = s;
  }

  module _ {named : List ℕ} {n k size next : ℕ} (row : List ℕ) {rest after : List ℕ} {marks : List Bool} (so_far : Chunked w o named n size rest marks)
      (e : k + 1 ≡ n) (same : next ≡ size) (r : rest ≡ row ++ after) (l : length row ≡ size) where
    pub chunk_next : {v : ℕ} → v ≡ num (part row o 2) → Chunked w o named k next after (set marks v true)
    chunk_next {v} f =
        let left : n * w ≡ w + k * w = omega (arith, suc-mul k w, ap (λ (m : ℕ). m * w) (sym e ∙ add-one k)) in
        let whole : length rest ≡ length row + length after = ap length r ∙ length-append row after in
        record {
          marking = mark_one named v (cells_named w o k after) marks (rw (chunk_named w o n k row rest after e (l ∙ so_far.wide) r, ← f) at so_far.marking);
          inside = omega (arith, so_far.inside, left, whole, l, so_far.wide);
          wide = same ∙ so_far.wide;
        }

    pub chunk_past : {v : ℕ} → v ≡ num (part row o 2) → 256 ≤ v → Chunked w o named k next after marks
    chunk_past {v} f past = rw (set_out marks v true (omega (arith, so_far.marking.size))) at (chunk_next f)

  pub chunk_end : {named : List ℕ} {n size : ℕ} {rest : List ℕ} {marks : List Bool} → Chunked w o named n size rest marks → (0 < n → length rest < size) → Marked named marks
  unfolding cells_named rows Marked mark_of any
  chunk_end {n = zero} c h = λ cell inside. c.marking.at cell inside
  chunk_end {n = suc n} c h = absurd (omega (arith, h (omega arith), c.inside, c.wide, suc-mul n w))

-- the first free cell, by the cells that typed rows name
pub free_table : {A : Type 0} (c : Codec A) (cell : A → ℕ) (o size count : ℕ) (a : List ℕ) (f : Option ℕ) → ((b : List ℕ) → num (part b o 2) ≡ cell (c.decode b)) → f ≡ free_cell size (cells_named c.width o (held (length a) c.width count) a) → f ≡ free_cell size (map cell (table_of c count a))
unfolding cells_named table_of
free_table {A} c cell o size count a f same q = q ∙ ap (free_cell size) (go (rows c.width (held (length a) c.width count) a))
  where
    go : (rs : List (List ℕ)) → map (cell_of o) rs ≡ map cell (map c.decode rs)
    go [] = refl
    go (r ∷ rs) = ap₂ (λ (x : ℕ) (xs : List ℕ). x ∷ xs) (same r) (go rs)

-- ---- the first cell that is not marked

module _ (named : List ℕ) (marks : List Bool) (size : length marks ≡ 256) (marked : Marked named marks) where
  blank_from : (n i : ℕ) → n + i ≤ 256 → position_from not i (take n (drop i marks)) ≡ free_from n i named
  unfolding free_from
  blank_from zero i h = refl
  blank_from (suc n) i h =
      let x : Bool = get_or marks i false in
      let inside : i < length marks = omega arith in
      ap (λ (l : List Bool). position_from not i (take (suc n) l)) (drop-cons marks i false inside)
      ∙ ap (λ (j : ℕ). cond (not x) (Some i) (position_from not j (take n (drop (suc i) marks)))) (add-one i)
      ∙ ap (cond (not x) (Some i)) (blank_from n (suc i) (omega arith)) ∙ swap x (free_from n (suc i) named) (Some i)
      ∙ ap (λ (b : Bool). cond b (free_from n (suc i) named) (Some i)) (sym (mark_tells named marks i marked (omega arith)))
    where
      swap : (b : Bool) (f g : Option ℕ) → cond (not b) g f ≡ cond b f g
      swap true f g = refl
      swap false f g = refl

  pub first_free : (n bytes : ℕ) → n ≡ min 256 (bytes / 2064) → position not (take n marks) ≡ free_cell bytes named
  unfolding free_cell cell_count
  first_free n bytes e =
      position_from-zero not (take n marks) ∙ blank_from n 0 (omega arith) ∙ ap (λ (k : ℕ). free_from k 0 named) e

-- ---- the ciphertext

-- a part that starts inside the area and has the ciphertext's length
pub part_lent : (a : List ℕ) (cell len : ℕ) {at n : ℕ} → at ≡ min (cell * cell_size) (length a) → n ≡ cell_length (length a) cell len
    → take (at + n - at) (drop at a) ≡ ciphertext a cell len
unfolding ciphertext cell_start part
part_lent a cell len {at} {n} e l =
    let y : at + n - at ≡ n = omega arith in
    ap₂ (λ (s k : ℕ). take k (drop s a)) e (y ∙ l)
