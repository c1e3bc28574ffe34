-- Laws of a line: its columns are put one behind the other.
-- Assumes nothing.
use Rattle.std.proofs.Common.{◌≡◌, ℕ, ◌+◌, ◌≤◌, List, ◌++◌, length, ◌∙◌, ap₂, arith, length-append}
use Rattle.octets.specs.Bytes.{splice}
use Rattle.octets.proofs.Parts.{splice_then}

-- the n bytes v stand at a place of an area that was a and is now x
pub record Put (a : List ℕ) (at : ℕ) (v : List ℕ) (n : ℕ) (x : List ℕ) : Type 0 where
  pub area : x ≡ splice a at v
  pub size : length v ≡ n

-- and m bytes behind them
pub behind : {a v x y : List ℕ} {at n m : ℕ} (w : List ℕ) → Put a at v n x → y ≡ splice x (at + n) w → length w ≡ m → at + (n + m) ≤ length a → Put a at (v ++ w) (n + m) y
behind {a} {v} {x} {y} {at} {n} {m} w P e l h = record {
  area = splice_then a x y at (at + n) v w P.area e (omega (arith, P.size)) (omega arith);
  size = length-append v w ∙ ap₂ ◌+◌ P.size l;
}
