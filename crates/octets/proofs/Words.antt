-- Byte strings compared by the numbers that they spell, the lowest byte first.
-- Assumes nothing.
use mathlib.Core.Path.{◌≡◌, refl, sym, ap, ap₂, ◌∙◌}
use mathlib.Core.Bool.{◌&&◌}
use mathlib.Core.List.{List, [], ◌∷◌}
use Prim.Native.Nat.{ℕ, ◌+◌, ◌*◌, ◌≤◌, ◌<◌}
use native.Mathlib.Omega.{arith}
use lib.ListN.{length}
use lib.Dec.{eqb}
use lib.Bits.{bit_or, bit_xor, or_zero_l}
use Rattle.octets.specs.Bytes.{Bytes, part, low_first, same_bytes}
use Rattle.octets.proofs.Parts.{length_part, part_add}
use Rattle.octets.proofs.Numbers.{bytes_drop, bytes_part}
use Rattle.octets.proofs.Compare.{gathered, same_append}

-- ---- comparison

step : (x y p q : ℕ) → x < 256 → y < 256 → eqb (x + 256 * p) (y + 256 * q) ≡ (eqb x y && eqb p q)
step x y p q hx hy = grind arith

low_same : (x y : List ℕ) → Bytes x → Bytes y → length x ≡ length y → eqb (low_first x) (low_first y) ≡ same_bytes x y
unfolding low_first same_bytes Bytes
low_same [] [] hx hy e = refl
low_same [] (y ∷ ys) hx hy e = absurd (omega arith)
low_same (x ∷ xs) [] hx hy e = absurd (omega arith)
low_same (x ∷ xs) (y ∷ ys) hx hy e =
    grind (
      arith,
      step x y (low_first xs) (low_first ys) (hx 0) (hy 0),
      low_same xs ys (bytes_drop 1 (x ∷ xs) hx) (bytes_drop 1 (y ∷ ys) hy),
    )

module _ (a b : List ℕ) (ha : Bytes a) (hb : Bytes b) where
  pub same_8 : (at bt : ℕ) {x y : ℕ} → at + 8 ≤ length a → bt + 8 ≤ length b → x ≡ low_first (part a at 8) → y ≡ low_first (part b bt 8)
      → eqb x y ≡ same_bytes (part a at 8) (part b bt 8)
  same_8 at bt la lb ex ey =
      let na : length (part a at 8) ≡ 8 = length_part a at 8 la in
      let nb : length (part b bt 8) ≡ 8 = length_part b bt 8 lb in
      ap₂ eqb ex ey
      ∙ low_same (part a at 8) (part b bt 8) (bytes_part a at 8 ha) (bytes_part b bt 8 hb) (na ∙ sym nb)

  pub same_16 : (at bt : ℕ) {x y z w : ℕ} → at + 16 ≤ length a → bt + 16 ≤ length b → x ≡ low_first (part a at 8) → y ≡ low_first (part b bt 8)
      → z ≡ low_first (part a (at + 8) 8) → w ≡ low_first (part b (bt + 8) 8)
      → eqb (bit_or (bit_xor x y) (bit_xor z w)) 0 ≡ same_bytes (part a at 16) (part b bt 16)
  same_16 at bt {x} {y} {z} {w} la lb ex ey ez ew =
      let none : eqb (bit_xor x y) 0 ≡ eqb x y = ap (λ (k : ℕ). eqb k 0) (sym (or_zero_l (bit_xor x y))) ∙ gathered 0 x y in
      let na : length (part a at 8) ≡ 8 = length_part a at 8 (omega arith) in
      let nb : length (part b bt 8) ≡ 8 = length_part b bt 8 (omega arith) in
      gathered (bit_xor x y) z w
      ∙ ap₂ ◌&&◌ (none ∙ same_8 at bt (omega arith) (omega arith) ex ey) (same_8 (at + 8) (bt + 8) (omega arith) (omega arith) ez ew)
      ∙ sym (same_append (part a at 8) (part b bt 8) (part a (at + 8) 8) (part b (bt + 8) 8) (na ∙ sym nb))
      ∙ ap₂ same_bytes (sym (part_add a at 8 8)) (sym (part_add b bt 8 8))
