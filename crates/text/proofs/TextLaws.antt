-- Laws of digits. Assumes nothing.
use mathlib.Core.Path.{◌≡◌, refl, sym, ap, ap₂, ◌∙◌, subst}
use mathlib.Core.Bool.{Bool, true, false, cond}
use mathlib.Core.List.{List, [], ◌∷◌, ◌++◌, append_assoc}
use Prim.Native.Nat.{ℕ, zero, suc, ◌+◌, ◌-◌, ◌*◌, ◌/◌, ◌%◌, ◌^◌, ◌≤◌, ◌<◌}
use native.Mathlib.Nat.{mod-eq_of_lt, pow-suc, pow-le-pow_right}
use native.Mathlib.Omega.{arith}
use borrow.Author.Tests.{lt-ltb, le-ltb, leb-true, leb-false, ltb-true, ltb-false}
use lib.Dec.{leb, ltb}
use lib.ListN.{length, length-append}
use Rattle.octets.proofs.Parts.{splice_then, splice_nil}
use Rattle.io.specs.Digits.{hex_digit_ascii, last_digits, IsDigitCount}
use Rattle.columns.specs.Columns.{blanks, column}
use Rattle.text.specs.Text.{decimals, decimal, Puts}

-- the digits of the fewest places are the decimals
pub digits_decimals : (f k n : ℕ) → IsDigitCount 10 1 n k → k ≤ f → last_digits 10 k n ≡ decimals f n
unfolding decimals
digits_decimals zero k n h l = absurd (omega arith)
digits_decimals (suc f) zero n h l = absurd (omega arith)
digits_decimals (suc f) (suc zero) n h l =
    let s : n < 10 = h.1 in
    rw (mod-eq_of_lt s, lt-ltb n 10 s)
digits_decimals (suc f) (suc (suc j)) n h l =
    let p : 10 ^ suc j ≡ 10 ^ j * 10 = pow-suc 10 j in
    let q : 10 ^ suc (suc j) ≡ 10 ^ suc j * 10 = pow-suc 10 (suc j) in
    let b : 10 ^ suc j ≤ n = ap_le (h.2 (omega arith)) in
    let z : 0 < 10 ^ j = pos j in
    let back : j ≡ suc j - 1 = omega arith in
    let down : 10 ^ j ≤ n / 10 → 10 ^ (suc j - 1) ≤ n / 10 = λ w. subst (λ (e : ℕ). 10 ^ e ≤ n / 10) back w in
    rw (le-ltb n 10 (omega arith))
    (ap (λ (l : List ℕ). l ++ (hex_digit_ascii (n % 10) ∷ []))
    (digits_decimals f (suc j) (n / 10) (omega arith, omega arith, λ o. down (omega arith)) (omega arith)))
  where
    ap_le : 10 ^ (suc (suc j) - 1) ≤ n → 10 ^ suc j ≤ n
    ap_le h = subst (λ (e : ℕ). 10 ^ e ≤ n) (omega arith) h

    pos : (j : ℕ) → 0 < 10 ^ j
    pos zero = omega arith
    pos (suc j) = omega (arith, pos j, pow-suc 10 j)

pub digits_decimal : (k n : ℕ) → IsDigitCount 10 1 n k → k ≤ 20 → last_digits 10 k n ≡ decimal n
unfolding decimal
digits_decimal k n h l = digits_decimals 20 k n h l

-- 64 bits have at most 20
pub few : (k n : ℕ) → IsDigitCount 10 1 n k → n < 18446744073709551616 → k ≤ 20
few k n h b = go (leb k 20) refl
  where
    go : (t : Bool) → leb k 20 ≡ t → k ≤ 20
    go true e = leb-true k 20 e
    go false e =
        let l : 20 < k = leb-false k 20 e in
        let m : 100000000000000000000 ≤ 10 ^ (k - 1) = pow-le-pow_right {n = 10} (omega arith) {i = 20} {j = k - 1} (omega arith) in
        absurd (omega (arith, h.2 (omega arith), m))

pub length_digits : (b k n : ℕ) → length (last_digits b k n) ≡ k
length_digits b zero n = refl
length_digits b (suc k) n = length-append (last_digits b k (n / b)) (hex_digit_ascii (n % b) ∷ []) ∙ omega (arith, length_digits b k (n / b))

-- ---- a number in a column

-- a number from 10 on has more than one digit
two_digits : (w n : ℕ) → n < 10 ^ suc w → 10 ≤ n → 0 < w
two_digits zero n b h = absurd (omega arith)
two_digits (suc w) n b h = omega arith

-- the digits are the same, however many suffice
decimals_enough : (w v n : ℕ) → 0 < w → w ≤ v → n < 10 ^ w → decimals w n ≡ decimals v n
unfolding decimals
decimals_enough zero v n o h b = absurd (omega arith)
decimals_enough (suc w) zero n o h b = absurd (omega arith)
decimals_enough (suc w) (suc v) n o h b = go (ltb n 10) refl (λ k. decimals_enough w v (n / 10) k (omega arith) (omega (arith, pow-suc 10 w)))
  where
    go : (t : Bool) → ltb n 10 ≡ t → (0 < w → decimals w (n / 10) ≡ decimals v (n / 10))
        → cond t (hex_digit_ascii n ∷ []) (decimals w (n / 10) ++ (hex_digit_ascii (n % 10) ∷ [])) ≡ cond t (hex_digit_ascii n ∷ []) (decimals v (n / 10) ++ (hex_digit_ascii (n % 10) ∷ []))
    go true e I = refl
    go false e I = ap (λ (l : List ℕ). l ++ (hex_digit_ascii (n % 10) ∷ [])) (I (two_digits w n b (ltb-false n 10 e)))

-- a digit below 10
glyph_ten : (d : ℕ) → d < 10 → 48 + d ≡ hex_digit_ascii d
glyph_ten d h = rw (lt-ltb d 10 h)

-- in a column of w bytes: the digits to the right, blanks before them
pub record InColumn (w n : ℕ) : Type 0 where
  pub bytes : column w n ≡ blanks (w - length (decimals w n)) ++ decimals w n
  pub fits : length (decimals w n) ≤ w

in_column : (w n : ℕ) → n < 10 ^ w → InColumn w n
unfolding column decimals
in_column zero n b = record { bytes = refl; fits = omega arith }
in_column (suc w) n b = go (ltb n 10) refl (in_column w (n / 10) (omega (arith, pow-suc 10 w)))
  where
    go : (t : Bool) → ltb n 10 ≡ t → InColumn w (n / 10) → InColumn (suc w) n
    go true e I =
        let h : n < 10 = ltb-true n 10 e in
        let m : n % 10 ≡ n = mod-eq_of_lt h in
        let g : 48 + n % 10 ≡ 48 + n = ap (λ (d : ℕ). 48 + d) m in
        let k : w ≡ suc w - 1 = omega arith in
        record { bytes = rw e (ap₂ (λ (i d : ℕ). blanks i ++ (d ∷ [])) k g); fits = rw e (omega arith) }
    go false e I =
        let D : List ℕ = decimals w (n / 10) in
        let l : length (D ++ (hex_digit_ascii (n % 10) ∷ [])) ≡ length D + 1 = length-append D (hex_digit_ascii (n % 10) ∷ []) in
        let k : w - length D ≡ suc w - length (D ++ (hex_digit_ascii (n % 10) ∷ [])) = omega (arith, l, I.fits) in
        record {
          bytes = rw e
              (ap₂ (λ (x : List ℕ) (d : ℕ). x ++ (d ∷ [])) I.bytes (glyph_ten (n % 10) (omega arith)) ∙ append_assoc (blanks (w - length D)) D (hex_digit_ascii (n % 10) ∷ [])
              ∙ ap (λ (i : ℕ). blanks i ++ (D ++ (hex_digit_ascii (n % 10) ∷ []))) k);
          fits = rw e (omega (arith, l, I.fits));
        }

-- a number's decimal digits stand to the right of a column of w bytes, blanks before them, and nothing is cut
abbrev pub Stands : (w n : ℕ) → Type 0
Stands w n = (column w n ≡ blanks (w - length (decimal n)) ++ decimal n) × (length (decimal n) ≤ w)

stands : (w n : ℕ) → 0 < w → w ≤ 20 → n < 10 ^ w → Stands w n
unfolding decimal
stands w n o h b =
    let I : InColumn w n = in_column w n b in
    let e : decimals w n ≡ decimals 20 n = decimals_enough w 20 n o h b in
    (I.bytes ∙ ap (λ (d : List ℕ). blanks (w - length d) ++ d) e, omega (arith, I.fits, ap length e))

-- so every number of the screen page does, whatever its value: slots and depositors in 20 bytes, minutes in 10, copies in 3
pub record NumbersStand : Type 0 where
  pub slots : (n : ℕ) → n < 2 ^ 64 → Stands 20 n
  pub minutes : (n : ℕ) → n < 2 ^ 32 → Stands 10 n
  pub copies : (n : ℕ) → n < 2 ^ 8 → Stands 3 n

pub numbers_stand : NumbersStand
numbers_stand = record {
  slots = λ n b. stands 20 n (omega arith) (omega arith) (omega arith);
  minutes = λ n b. stands 10 n (omega arith) (omega arith) (omega arith);
  copies = λ n b. stands 3 n (omega arith) (omega arith) (omega arith);
}

-- ---- a text, and one behind it

module _ {m n : ℕ} {o x y : List ℕ} {at r q : ℕ} {a b : List ℕ} where
  pub puts_then : Puts m o at a r x → Puts n x r b q y → at + (m + n) ≤ length o → Puts (m + n) o at (a ++ b) q y
  puts_then f g h =
      let l : length (a ++ b) ≡ length a + length b = length-append a b in
      record {
        area = splice_then o x y at r a b f.area g.area f.next (omega (arith, f.next, f.near, g.near));
        next = omega (arith, f.next, g.next, l);
        near = omega (arith, f.near, g.near, l);
      }

-- the same text, with another bound
pub puts_within : {m n : ℕ} {o x : List ℕ} {at r : ℕ} {a : List ℕ} → m ≤ n → Puts m o at a r x → Puts n o at a r x
puts_within h f = record { area = f.area; next = f.next; near = omega (arith, f.near) }

-- no text
pub puts_none : (o : List ℕ) (at : ℕ) → Puts 0 o at [] at o
puts_none o at = record { area = sym (splice_nil o at); next = omega arith; near = omega arith }
