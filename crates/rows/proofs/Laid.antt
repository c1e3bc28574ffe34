-- Fields written one after the other from the front of an area on: what stands there is the fields side by side.
-- Assumes nothing.
use Rattle.std.proofs.Common.{◌≡◌, ℕ, ◌+◌, ◌≤◌, List, [], ◌++◌, length, sym, refl, ◌∙◌, ap₂, arith, length-append}
use Rattle.octets.specs.Bytes.{splice, be}
use Rattle.octets.proofs.Parts.{splice_nil, splice_all, splice_then}
use Rattle.octets.proofs.Numbers.{length_be}

-- x is z with the n bytes v at its front, if they fit
pub record Laid (z v : List ℕ) (n : ℕ) (x : List ℕ) : Type 0 where
  pub size : length v ≡ n
  pub is : n ≤ length z → x ≡ splice z 0 v

pub start : {z : List ℕ} → Laid z [] 0 z
start {z} = record { size = refl; is = λ h. sym (splice_nil z 0) }

-- one run more, and one number more
pub run : {z v x y : List ℕ} {n m : ℕ} (w : List ℕ) → Laid z v n x → (y ≡ splice x n w) × (length w ≡ m) → Laid z (v ++ w) (n + m) y
run {z} {v} {x} {y} {n} {m} w L p = record {
  size = length-append v w ∙ ap₂ ◌+◌ L.size p.1;
  is = λ h. splice_then z x y 0 n v w (L.is (omega arith)) p.0 (omega (arith, L.size)) (omega (arith, p.1));
}

pub number : {z v x y : List ℕ} {n : ℕ} (m k : ℕ) → Laid z v n x → y ≡ splice x n (be m k) → Laid z (v ++ be m k) (n + m) y
number m k L e = run (be m k) L (e, length_be m k)

-- all of the area
pub whole : {z v x : List ℕ} {n : ℕ} → Laid z v n x → length z ≡ n → x ≡ v
whole {z} {v} L e = L.is (omega arith) ∙ splice_all z v (L.size ∙ sym e)
