-- Cells of 2,064 bytes: the ciphertext of a row, and the cell that a new row gets.
-- Assumes nothing.
use Rattle.std.specs.Prelude.{ℕ, zero, suc, ◌-◌, ◌*◌, ◌/◌, min, Bool, cond, not, List, length, nat_eq, Option, Some, None}
use Rattle.octets.specs.Bytes.{part}
use Rattle.table.specs.Lists.{any, is_at, unwrap_or}
use Rattle.state.specs.Sizes.{cell_size}
use Rattle.rows.specs.Limits.{max_cells}

-- Where a ciphertext starts in an area of so many bytes, and its length. A row that no call left may name a cell or a length past a
-- cell's or the area's end, or a cell that does not count: then the ciphertext is what lies inside the cells that count.
unfoldable pub cell_start : ℕ → ℕ → ℕ
cell_start size cell = min (cell * cell_size) size

unfoldable pub cell_length : ℕ → ℕ → ℕ → ℕ
cell_length size cell len = min (min len cell_size) (min size (max_cells * cell_size) - cell * cell_size)

unfoldable pub ciphertext : List ℕ → ℕ → ℕ → List ℕ
ciphertext area cell len = part area (cell_start (length area) cell) (cell_length (length area) cell len)

-- the cells of an area that count
unfoldable pub cell_count : ℕ → ℕ
cell_count size = min max_cells (size / cell_size)

-- the first of n cells, from i on, that no row names
unfoldable pub free_from : ℕ → ℕ → List ℕ → Option ℕ
free_from zero i named = None
free_from (suc n) i named = cond (any (λ (n : ℕ). nat_eq n i) named) (free_from n (suc i) named) (Some i)

unfoldable pub free_cell : ℕ → List ℕ → Option ℕ
free_cell size named = free_from (cell_count size) 0 named

-- number 4: each cell that counts is named by a row
unfoldable pub cells_used : ℕ → List ℕ → Bool
cells_used size named = not (is_at (free_cell size named))

-- the cell that a new row gets, where there is one
unfoldable pub new_cell : ℕ → List ℕ → ℕ
new_cell size named = unwrap_or 0 (free_cell size named)
