-- A table of rows of w bytes each in an area of bytes. A row is its bytes, and the table is the list of its rows.
-- Assumes nothing.
use Rattle.std.specs.Prelude.{ℕ, zero, suc, ◌*◌, ◌/◌, ◌%◌, ◌≤◌, min, ◌≡◌, Bool, List, [], ◌∷◌, ◌++◌, length, take, drop, ltb}
use Rattle.octets.specs.Bytes.{Bytes, part, same_bytes}
use Rattle.table.specs.Lists.{filter}

-- how many rows a count, which may be anything, says that an area of len bytes has: a count above what fits is what fits
unfoldable pub held : ℕ → ℕ → ℕ → ℕ
held len w count = min count (len / w)

-- the first n rows of an area
unfoldable pub rows : ℕ → ℕ → List ℕ → List (List ℕ)
rows w zero a = []
rows w (suc n) a = take w a ∷ rows w n (drop w a)

-- the rows that fit an area; is the area not whole rows
unfoldable pub all_rows : ℕ → List ℕ → List (List ℕ)
all_rows w a = rows w (length a / w) a

unfoldable pub ragged : ℕ → List ℕ → Bool
ragged w a = ltb 0 (length a % w)

-- the bytes of rows, one after the other
unfoldable pub join : List (List ℕ) → List ℕ
join [] = []
join (r ∷ rs) = r ++ join rs

-- an area with the rows at its front, and what stood behind them as it was
unfoldable pub written : List ℕ → List (List ℕ) → List ℕ
written a rs = join rs ++ drop (length (join rs)) a

-- has the row the key at the offset
unfoldable pub has_key : ℕ → List ℕ → List ℕ → Bool
has_key o key r = same_bytes (part r o (length key)) key

-- ---- what the functions say

-- r is the count that fits
pub record Fits (len w count r : ℕ) : Type 0 where
  pub is : r ≡ held len w count
  pub inside : r * w ≤ len

-- the area a is now x, and has m rows, which are rs
pub record RowsNow (w : ℕ) (a : List ℕ) (rs : List (List ℕ)) (m : ℕ) (x : List ℕ) : Type 0 where
  pub count : m ≡ length rs
  pub area : x ≡ written a rs
  pub rows : rows w m x ≡ rs
  pub inside : m * w ≤ length x
  pub bytes : Bytes a

-- rows that fail a test are taken out in place: i of the n rows of a are gone through, k of them are kept, and the area is now x
pub record Retaining (p : List ℕ → Bool) (w n : ℕ) (a : List ℕ) (i k : ℕ) (x : List ℕ) : Type 0 where
  pub within : i ≤ n
  pub below : k ≤ i
  pub count : k ≡ length (filter p (take i (rows w n a)))
  pub area : x ≡ written a (filter p (take i (rows w n a)))
  pub size : length x ≡ length a
