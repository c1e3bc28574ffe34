-- The cells that the rows of a table name, for a table of carried rows and of own rows alike, and the marks of them.
-- Assumes nothing.
use Rattle.std.specs.Prelude.{◌≡◌, ℕ, ◌<◌, Bool, false, ◌||◌, List, map, nat_eq, slice_index_or}
use Rattle.octets.specs.Bytes.{part, num}
use Rattle.table.specs.Lists.{any}
use Rattle.table.specs.Rows.{rows}
use Rattle.rows.specs.Limits.{max_cells}

-- the cells that n rows of w bytes name, in two bytes at an offset
unfoldable pub cells_named : ℕ → ℕ → ℕ → List ℕ → List ℕ
cells_named w offset n a = map (λ (b : List ℕ). num (part b offset 2)) (rows w n a)

-- is a cell named, or was it marked before
unfoldable pub mark_of : List ℕ → ℕ → Bool → Bool
mark_of named cell had = any (λ (k : ℕ). nat_eq k cell) named || had

-- marks of the cells that count: true at each that is named, false at any other
unfoldable pub Marked : List ℕ → List Bool → Type 0
Marked named marks = (cell : ℕ) → cell < max_cells → slice_index_or marks cell false ≡ mark_of named cell false
