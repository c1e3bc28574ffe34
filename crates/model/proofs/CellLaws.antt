-- Laws of the first free cell: it is one of those that count, no row names it, and it lies in its area.
-- Assumes nothing.
use Rattle.std.proofs.Common.{◌≡◌, ℕ, zero, suc, ◌+◌, ◌*◌, ◌/◌, ◌<◌, ◌≤◌, Bool, true, false, cond, eqb, List, sym, refl, ap, ◌∙◌, arith, div-mul-le_self, Some}
use native.Mathlib.Nat.{min-le_left, min-le_right}
use Rattle.table.specs.Lists.{any}
use Rattle.state.specs.Sizes.{cell_size}
use Rattle.rows.specs.Limits.{max_cells}
use Rattle.model.specs.Cells.{cell_count, free_from, free_cell}

free_at : (n i : ℕ) (named : List ℕ) (c : ℕ) → free_from n i named ≡ Some c → (c < i + n) × (any (λ (m : ℕ). eqb m c) named ≡ false)
unfolding free_from
free_at zero i named c e = cc
free_at (suc n) i named c e = go (any (λ (m : ℕ). eqb m i) named) refl e (free_at n (suc i) named c)
  where
    go : (b : Bool) → any (λ (m : ℕ). eqb m i) named ≡ b → cond b (free_from n (suc i) named) (Some i) ≡ Some c
        → (free_from n (suc i) named ≡ Some c → (c < suc i + n) × (any (λ (m : ℕ). eqb m c) named ≡ false))
        → (c < i + suc n) × (any (λ (m : ℕ). eqb m c) named ≡ false)
    go true q e f = let z = f e in (omega (arith, z.0), z.1)
    go false q e f = let z : i ≡ c = cc in (omega arith, ap (λ (k : ℕ). any (λ (m : ℕ). eqb m k) named) (sym z) ∙ q)

-- it is one of those that count, and no row names it
pub free_counts : (size : ℕ) (named : List ℕ) (c : ℕ) → free_cell size named ≡ Some c → (c < cell_count size) × (any (λ (m : ℕ). eqb m c) named ≡ false)
unfolding free_cell
free_counts size named c e = let z = free_at (cell_count size) 0 named c e in (omega (arith, z.0), z.1)

-- a cell that counts is one of max_cells, and ends inside the area
pub in_area : (size c : ℕ) → c < cell_count size → (c < max_cells) × (c * cell_size + cell_size ≤ size)
unfolding cell_count
in_area size c h =
    (omega (arith, h, min-le_left 256 (size / 2064)), omega (arith, h, min-le_right 256 (size / 2064), div-mul-le_self size 2064))

pub free_inside : (size : ℕ) (named : List ℕ) (c : ℕ) → free_cell size named ≡ Some c → (c < max_cells) × (c * cell_size + cell_size ≤ size)
free_inside size named c e = in_area size c (free_counts size named c e).0
