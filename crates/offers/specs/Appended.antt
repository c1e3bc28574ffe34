-- Rows written behind others.
-- Assumes nothing.
use Rattle.std.specs.Prelude.{◌≡◌, ℕ, ◌+◌, ◌*◌, List, length}
use Rattle.octets.specs.Bytes.{splice}
use Rattle.table.specs.Rows.{join}

-- the area a had n rows of w bytes at its front; behind them now stand the rows rs, the area is x and has m
pub record Appended (w : ℕ) (a : List ℕ) (n : ℕ) (rs : List (List ℕ)) (m : ℕ) (x : List ℕ) : Type 0 where
  pub count : m ≡ n + length rs
  pub wide : length (join rs) ≡ length rs * w
  pub area : x ≡ splice a (n * w) (join rs)
  pub size : length x ≡ length a
