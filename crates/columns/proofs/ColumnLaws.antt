-- Laws of columns. Assumes nothing.
use Rattle.std.proofs.Common.{◌≡◌, ℕ, zero, suc, ◌+◌, ◌*◌, ◌/◌, ◌%◌, ◌≤◌, ◌<◌, List, [], ◌∷◌, ◌++◌, length, take, get_or, set, refl, sym, ap, ◌∙◌, arith, add-one, length-append, length-take-le, take-suc}
use lib.Seq.{append_snoc}
use Rattle.std.proofs.lemmas.List.{length-set}
use Rattle.std.proofs.lemmas.Grind.{common_steps}
use Rattle.octets.specs.Bytes.{splice}
use Rattle.octets.proofs.Parts.{set_splice, splice_under, splice_then, length_splice}
use Rattle.columns.specs.Columns.{blanks, column, hex_digit, hexes}

pub column_none : (w n : ℕ) → w ≡ 0 → column w n ≡ []
unfolding column
column_none zero n e = refl
column_none (suc w) n e = absurd (omega arith)

pub length_column : (w n : ℕ) → length (column w n) ≡ w
unfolding column
length_column zero n = refl
length_column (suc w) n = grind (arith, common_steps, length_column w (n / 10))

-- one digit written at the right end of a column of k + 1, and what is left of it
module _ (out : List ℕ) (at k v : ℕ) (fits : at + (k + 1) ≤ length out) where
  last : (x : List ℕ) → length x ≡ k → splice (set out (at + k) (48 + v % 10)) at x ≡ splice out at (x ++ ((48 + v % 10) ∷ []))
  last x e = grind (arith, set_splice out (at + k) (48 + v % 10), splice_under out x ((48 + v % 10) ∷ []) at (at + k))

  pub column_last : v < 10 → splice (set out (at + k) (48 + v % 10)) at (blanks k) ≡ splice out at (column (k + 1) v)
  unfolding column
  column_last h = grind (arith, common_steps, last (blanks k), add-one)

  pub column_more : 10 ≤ v → splice (set out (at + k) (48 + v % 10)) at (column k (v / 10)) ≡ splice out at (column (k + 1) v)
  unfolding column
  column_more h = grind (arith, common_steps, last (column k (v / 10)), length_column k (v / 10), add-one)

-- ---- bytes in hexadecimal

pub hexes_none : hexes [] ≡ []
unfolding hexes
hexes_none = refl

pub length_hexes : (x : List ℕ) → length (hexes x) ≡ 2 * length x
unfolding hexes
length_hexes [] = refl
length_hexes (b ∷ x) = omega (arith, length_hexes x)

hexes_append : (x y : List ℕ) → hexes (x ++ y) ≡ hexes x ++ hexes y
unfolding hexes
hexes_append [] y = refl
hexes_append (b ∷ x) y = grind (arith, hexes_append x y)

hexes_next : (t : List ℕ) (i : ℕ) → i < length t → hexes (take (i + 1) t) ≡ hexes (take i t) ++ (hex_digit (get_or t i 0 / 16) ∷ hex_digit (get_or t i 0 % 16) ∷ [])
unfolding hexes
hexes_next t i h = ap hexes (ap (λ (m : ℕ). take m t) (add-one i) ∙ take-suc t i 0 h) ∙ hexes_append (take i t) (get_or t i 0 ∷ [])

-- one more byte's two digits
pub hexes_put : (t o x : List ℕ) (at i : ℕ) {u v : ℕ} → i < length t → at + 2 * length t ≤ length o → u ≡ hex_digit (get_or t i 0 / 16) → v ≡ hex_digit (get_or t i 0 % 16)
    → x ≡ splice o at (hexes (take i t)) → set (set x (at + 2 * i) u) (at + 2 * i + 1) v ≡ splice o at (hexes (take (i + 1) t))
hexes_put t o x at i {u} {v} h fits eu ev e =
    let H : List ℕ = hexes (take i t) in
    let n : length H ≡ 2 * i = length_hexes (take i t) ∙ ap (λ (k : ℕ). 2 * k) (length-take-le i t (omega arith)) in
    let size : length x ≡ length o = ap length e ∙ length_splice o at H (omega arith) in
    let a : set x (at + 2 * i) u ≡ splice o at (H ++ (u ∷ [])) =
    splice_then o x _ at (at + 2 * i) H (u ∷ []) e (set_splice x (at + 2 * i) u (omega arith)) (omega arith) (omega arith) in
    let l : length (H ++ (u ∷ [])) ≡ 2 * i + 1 = length-append H (u ∷ []) ∙ omega (arith, n) in
    let b : set (set x (at + 2 * i) u) (at + 2 * i + 1) v ≡ splice o at ((H ++ (u ∷ [])) ++ (v ∷ [])) =
    splice_then o (set x (at + 2 * i) u) _ at (at + 2 * i + 1) (H ++ (u ∷ [])) (v ∷ []) a
    (set_splice (set x (at + 2 * i) u) (at + 2 * i + 1) v (omega (arith, length-set x (at + 2 * i) u))) (omega arith) (omega arith) in
    b ∙ ap (splice o at) (append_snoc H u (v ∷ []) ∙ ap (λ (l : List ℕ). H ++ l) (λ j. eu j ∷ ev j ∷ []) ∙ sym (hexes_next t i h))
