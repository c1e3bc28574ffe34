-- Carried rows, each with a tag of 16 bytes at 16.
-- Assumes nothing.
use Rattle.std.specs.Prelude.{ℕ, zero, suc, ◌+◌, ◌*◌, cond, List}
use Rattle.octets.specs.Bytes.{part, same_bytes}
use Rattle.rows.specs.Rows.{carried_width}

-- how many of the first n rows have the tag
unfoldable pub tagged : (rows tag : List ℕ) (n : ℕ) → ℕ
tagged rows tag zero = 0
tagged rows tag (suc n) = tagged rows tag n + cond (same_bytes (part rows (carried_width * n + 16) 16) tag) 1 0
