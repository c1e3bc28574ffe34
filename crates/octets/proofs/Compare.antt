-- Laws of comparison with no early exit: the differences are gathered.
-- Assumes nothing.
use Rattle.std.proofs.Common.{◌≡◌, ℕ, ◌+◌, ◌<◌, true, ◌&&◌, List, [], ◌∷◌, ◌++◌, length, get_or, refl, arith}
use mathlib.Core.Bool.{and_assoc}
use lib.Dec.{eqb}
use lib.Bits.{bit_or, bit_xor, or_add_and, xor_add_and, xor_self, and_le_l, and_le_r}
use Rattle.octets.specs.Bytes.{part, same_bytes}
use Rattle.octets.proofs.Parts.{length_part, part_add, part_one}

-- byte strings that are the same are equal, and the other way round
pub same_refl : (x : List ℕ) → same_bytes x x ≡ true
unfolding same_bytes
same_refl [] = refl
same_refl (x ∷ xs) = grind (arith, same_refl xs)

pub same_eq : (x y : List ℕ) → same_bytes x y ≡ true → x ≡ y
unfolding same_bytes
same_eq [] [] e = refl
same_eq [] (y ∷ ys) e = grind arith
same_eq (x ∷ xs) [] e = grind arith
same_eq (x ∷ xs) (y ∷ ys) e = grind (arith, same_eq xs ys)

-- one more difference: none so far and none here
pub gathered : (acc x y : ℕ) → eqb (bit_or acc (bit_xor x y)) 0 ≡ (eqb acc 0 && eqb x y)
gathered acc x y =
    grind (
      arith,
      xor_self x,
      xor_add_and x y,
      and_le_l x y,
      and_le_r x y,
      or_add_and acc (bit_xor x y),
      and_le_l acc (bit_xor x y),
      and_le_r acc (bit_xor x y),
    )

pub same_append : (x u y v : List ℕ) → length x ≡ length u → same_bytes (x ++ y) (u ++ v) ≡ (same_bytes x u && same_bytes y v)
unfolding same_bytes
same_append [] [] y v e = refl
same_append [] (b ∷ u) y v e = absurd (omega arith)
same_append (a ∷ x) [] y v e = absurd (omega arith)
same_append (a ∷ x) (b ∷ u) y v e = grind (arith, same_append x u y v, and_assoc)

same_one : (x y : ℕ) → same_bytes (x ∷ []) (y ∷ []) ≡ eqb x y
unfolding same_bytes
same_one x y = grind arith

-- the bytes of a part and a key, from none on, one more at a time
pub same_none : (a b : List ℕ) (at : ℕ) → same_bytes (part a at 0) (part b 0 0) ≡ true
unfolding same_bytes part
same_none a b at = refl

pub same_more : (a b : List ℕ) (at k acc : ℕ) → at + k < length a → k < length b
    → eqb acc 0 ≡ same_bytes (part a at k) (part b 0 k)
    → eqb (bit_or acc (bit_xor (get_or a (at + k) 0) (get_or b k 0))) 0 ≡ same_bytes (part a at (k + 1)) (part b 0 (k + 1))
same_more a b at k acc ha hb e =
    let x = get_or a (at + k) 0 in
    let y = get_or b k 0 in
    grind (
      arith,
      gathered acc x y,
      same_one x y,
      same_append (part a at k) (part b 0 k) (x ∷ []) (y ∷ []),
      length_part a at k,
      length_part b 0 k,
      part_add a at k 1,
      part_add b 0 k 1,
      part_one a (at + k),
      part_one b k,
    )
