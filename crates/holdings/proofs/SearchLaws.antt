-- Laws of a search: a row that is found is one of its table, and its bytes lie in the area.
-- Assumes nothing.
use Rattle.std.proofs.Common.{◌≡◌, ℕ, ◌+◌, ◌*◌, ◌<◌, ◌≤◌, Bool, List, length, refl, sym, arith, Some}
use Rattle.table.specs.Lists.{position}
use Rattle.table.specs.Rows.{held}
use Rattle.table.specs.Codec.{Codec, table_of}
use Rattle.table.proofs.RowLaws.{row_in, held_inside}
use Rattle.table.proofs.TableLaws.{length_table}
use Rattle.table.proofs.FindLaws.{position_first}

-- (How many rows there are is said once more, so that the check finds the law by it, where a function names it by `using`.)
pub row_within : (len w count i : ℕ) → i < held len w count → (held len w count ≡ held len w count) × (i * w + w ≤ len)
row_within len w count i h = (refl, omega (arith, row_in i (held len w count) w h, held_inside len w count))

module _ {A : Type 0} (c : Codec A) (count : ℕ) (a : List ℕ) (q : A → Bool) (d : A) {i : ℕ} (e : Some i ≡ position q (table_of c count a)) where
  pub found_inside : i < held (length a) c.width count
  found_inside = omega (arith, (position_first q (table_of c count a) d i (sym e)).inside, length_table c count a)

  pub found_row : i * c.width + c.width ≤ length a
  found_row = (row_within (length a) c.width count i found_inside).1
