-- Laws of cells: the free one that a new row gets, and the ciphertexts that stay where they are.
-- Assumes nothing.
use Rattle.std.proofs.Common.{◌≡◌, ℕ, zero, suc, ◌+◌, ◌*◌, ◌<◌, ◌≤◌, Bool, true, false, cond, not, ◌||◌, eqb, ltb, List, [], ◌∷◌, length, sym, refl, ap, ◌∙◌, arith, ltb-false, ltb-true, ne_eqb, eqb-true, Option, Some, None}
use mathlib.Core.Bool.{false≢true}
use borrow.Author.Tests.{eqb-false}
use Rattle.octets.specs.Bytes.{part, splice}
use Rattle.octets.proofs.Parts.{length_splice, read_same, read_before, read_past}
use Rattle.table.specs.Lists.{All, any, filter, count_by, is_at}
use Rattle.table.proofs.ListLaws.{all_imp}
use Rattle.table.proofs.FindLaws.{any_none}
use Rattle.model.specs.Cells.{ciphertext, cell_count, free_from, free_cell, cells_used}
use Rattle.model.proofs.Laws.{ciphertext_inside}
use Rattle.model.proofs.CellLaws.{free_counts, in_area as cell_inside}

-- ---- the free cell

pub cell_free : (size : ℕ) (named : List ℕ) (c : ℕ) → free_cell size named ≡ Some c → (c < cell_count size) × All (λ (m : ℕ). m ≡ c → ⊥) named
cell_free size named c e =
    let z = free_counts size named c e in
    (z.0, all_imp (λ m q. eqb-false m c q) named (any_none (λ (m : ℕ). eqb m c) named z.1))

-- ---- there is a free cell while there are fewer rows than cells

module _ {A : Type 0} (p : A → Bool) where
  pub length_split : (xs : List A) → length xs ≡ count_by p xs + length (filter (λ (x : A). not (p x)) xs)
  unfolding count_by filter
  length_split [] = refl
  length_split (x ∷ xs) = go (p x) (length_split xs)
    where
      go : (b : Bool) → length xs ≡ count_by p xs + length (filter (λ (y : A). not (p y)) xs)
          → suc (length xs) ≡ cond b (suc (count_by p xs)) (count_by p xs) + length (cond (not b) (x ∷ filter (λ (y : A). not (p y)) xs) (filter (λ (y : A). not (p y)) xs))
      go true h = omega arith
      go false h = omega arith

  any_count : (xs : List A) → any p xs ≡ true → 0 < count_by p xs
  unfolding count_by any
  any_count [] e = absurd (false≢true e)
  any_count (x ∷ xs) e = go (p x) e (any_count xs)
    where
      go : (b : Bool) → (b || any p xs) ≡ true → (any p xs ≡ true → 0 < count_by p xs) → 0 < cond b (suc (count_by p xs)) (count_by p xs)
      go true e f = omega arith
      go false e f = f e

  any_filter : (q : A → Bool) (xs : List A) → ((x : A) → p x ≡ true → q x ≡ true) → any p xs ≡ true → any p (filter q xs) ≡ true
  unfolding any filter
  any_filter q [] h e = e
  any_filter q (x ∷ xs) h e = go (p x) (q x) refl refl e (any_filter q xs h)
    where
      go : (a b : Bool) → p x ≡ a → q x ≡ b → (a || any p xs) ≡ true → (any p xs ≡ true → any p (filter q xs) ≡ true)
          → any p (cond b (x ∷ filter q xs) (filter q xs)) ≡ true
      go true true i j e f = ap (λ (t : Bool). t || any p (filter q xs)) i
      go true false i j e f = absurd (false≢true (sym j ∙ h x i))
      go false true i j e f = ap (λ (t : Bool). t || any p (filter q xs)) i ∙ f e
      go false false i j e f = f e

-- numbers among which are all below n are n at least
covers : (n : ℕ) (named : List ℕ) → ((j : ℕ) → j < n → any (λ (m : ℕ). eqb m j) named ≡ true) → n ≤ length named
covers zero named h = omega arith
covers (suc n) named h =
    let is : ℕ → Bool = λ m. eqb m n in
    let rest : List ℕ = filter (λ (m : ℕ). not (is m)) named in
    let few : n ≤ length rest =
    covers n rest (λ j l. any_filter (λ (m : ℕ). eqb m j) (λ (m : ℕ). not (is m)) named
    (λ m e. let z : eqb m n ≡ false = ne_eqb m n (λ q. let y : m ≡ j = eqb-true m j e in let x : j ≡ n = sym y ∙ q in omega (arith, x)) in ap not z)
    (h j (omega arith))) in
    omega (arith, few, length_split is named, any_count is named (h n (omega arith)))

free_none : (n i : ℕ) (named : List ℕ) → free_from n i named ≡ None → (j : ℕ) → i ≤ j → j < i + n → any (λ (m : ℕ). eqb m j) named ≡ true
unfolding free_from
free_none zero i named e j h k = absurd (omega arith)
free_none (suc n) i named e j h k = go (any (λ (m : ℕ). eqb m i) named) refl e (λ e l. free_none n (suc i) named e j l (omega arith))
  where
    go : (b : Bool) → any (λ (m : ℕ). eqb m i) named ≡ b → cond b (free_from n (suc i) named) (Some i) ≡ None
        → (free_from n (suc i) named ≡ None → suc i ≤ j → any (λ (m : ℕ). eqb m j) named ≡ true) → any (λ (m : ℕ). eqb m j) named ≡ true
    go false q e f = cc
    go true q e f = by (ltb i j) refl
      where
        by : (b : Bool) → ltb i j ≡ b → any (λ (m : ℕ). eqb m j) named ≡ true
        by true l = f e (omega (arith, ltb-true i j l))
        by false l = let z : i ≡ j = omega (arith, ltb-false i j l) in ap (λ (k : ℕ). any (λ (m : ℕ). eqb m k) named) (sym z) ∙ q

pub cells_left : (size : ℕ) (named : List ℕ) → length named < cell_count size → cells_used size named ≡ false
unfolding cells_used free_cell
cells_left size named h = go (free_from (cell_count size) 0 named) refl
  where
    go : (f : Option ℕ) → free_from (cell_count size) 0 named ≡ f → not (is_at f) ≡ false
    go (Some i) e = refl
    go None e = absurd (omega (arith, covers (cell_count size) named (λ j l. free_none (cell_count size) 0 named e j (omega arith) (omega arith))))

-- ---- ciphertexts

pub in_area : (size c : ℕ) → c < cell_count size → c * 2064 + 2064 ≤ size
in_area size c h = (cell_inside size c h).1

-- a ciphertext that lies inside its cell
pub inside : (area : List ℕ) (d len : ℕ) → d < cell_count (length area) → len ≤ 2064 → ciphertext area d len ≡ part area (d * 2064) len
inside area d len h k =
    let z = cell_inside (length area) d h in
    ciphertext_inside area d len z.0 k (omega (arith, z.1))

module _ (area : List ℕ) (c : ℕ) (ct : List ℕ) (h : c < cell_count (length area)) (k : length ct ≤ 2064) where
  fits : c * 2064 + length ct ≤ length area
  fits = omega (arith, in_area (length area) c h)

  pub length_after : length (splice area (c * 2064) ct) ≡ length area
  length_after = length_splice area (c * 2064) ct fits

  there : (d : ℕ) → d < cell_count (length area) → d < cell_count (length (splice area (c * 2064) ct))
  there d l = rw length_after l

  -- what a row reads that was given this cell
  pub ciphertext_new : ciphertext (splice area (c * 2064) ct) c (length ct) ≡ ct
  ciphertext_new = inside (splice area (c * 2064) ct) c (length ct) (there c h) k ∙ read_same area (c * 2064) ct fits

  -- what every other row reads
  pub ciphertext_kept : (d len : ℕ) → d < cell_count (length area) → len ≤ 2064 → (d ≡ c → ⊥) → ciphertext (splice area (c * 2064) ct) d len ≡ ciphertext area d len
  ciphertext_kept d len l m n =
      inside (splice area (c * 2064) ct) d len (there d l) m ∙ go (ltb d c) refl ∙ sym (inside area d len l m)
    where
      go : (b : Bool) → ltb d c ≡ b → part (splice area (c * 2064) ct) (d * 2064) len ≡ part area (d * 2064) len
      go true e = read_before area (c * 2064) ct (d * 2064) len fits (omega (arith, ltb-true d c e))
      go false e = read_past area (c * 2064) ct (d * 2064) len fits (by (eqb d c) refl)
        where
          by : (b : Bool) → eqb d c ≡ b → c * 2064 + length ct ≤ d * 2064
          by true q = absurd (n (eqb-true d c q))
          by false q = let z : c < d = above (ltb c d) refl in omega arith
            where
              above : (b : Bool) → ltb c d ≡ b → c < d
              above true y = ltb-true c d y
              above false y = absurd (n (omega (arith, ltb-false c d y, ltb-false d c e)))
