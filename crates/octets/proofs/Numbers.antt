-- Laws of bytes and of big-endian numbers, over any width.
-- Assumes nothing.
use Rattle.std.proofs.Common.{◌≡◌, ℕ, zero, suc, ◌+◌, ◌-◌, ◌*◌, ◌/◌, ◌%◌, ◌^◌, ◌≤◌, ◌<◌, List, [], ◌∷◌, ◌++◌, length, take, drop, get_or, refl, sym, ap, ap₂, subst, ◌∙◌, arith}
use Rattle.std.proofs.lemmas.Grind.{common_steps}
use native.Mathlib.Nat.{add_assoc, mul_assoc, add-mul, mod-one, mod-eq_of_lt, mul-le-mul_right, mul-add-div_right, div-one, pow-suc, mul_comm}
use lib.ListN.{length-append}
use lib.Seq.{get_or-drop}
use lib.Pow.{mod-pow-add, pow-add, pow_pos, high, shr-shr, field, mod-mod-pow}
use mir.Syntax.{w8}
use mir.Val.{Fits}
use Rattle.std.specs.Int.{byte_at, bytes_high_first, byte_worth, sum_through}
use Rattle.octets.specs.Bytes.{Bytes, part, num, be, low_first}
use Rattle.octets.proofs.Parts.{length_part, part_one}

-- ---- bytes

-- what is taken of bytes is bytes
pub bytes_take : (n : ℕ) (a : List ℕ) → Bytes a → Bytes (take n a)
unfolding Bytes
bytes_take n a h = grind (arith, common_steps)

pub bytes_drop : (n : ℕ) (a : List ℕ) → Bytes a → Bytes (drop n a)
unfolding Bytes
bytes_drop n a h i = rw get_or-drop (h (n + i))

pub bytes_append : (x y : List ℕ) → Bytes x → Bytes y → Bytes (x ++ y)
unfolding Bytes
bytes_append x y p q = grind (arith, common_steps)

-- an array's elements, which fit their type, are bytes
pub bytes_of : (a : List ℕ) → ((i : ℕ) → Fits w8 (get_or a i 0)) → Bytes a
unfolding Bytes
bytes_of a h i = (h i).fits

pub bytes_part : (a : List ℕ) (at n : ℕ) → Bytes a → Bytes (part a at n)
unfolding part
bytes_part a at n h = bytes_take n (drop at a) (bytes_drop at a h)

-- ---- numbers and their bytes

pub length_be : (n v : ℕ) → length (be n v) ≡ n
unfolding be
length_be zero v = refl
length_be (suc n) v = ap suc (length_be n v)

-- one byte more
pow_step : (n : ℕ) → 2 ^ (8 * suc n) ≡ 256 * 2 ^ (8 * n)
pow_step n = grind (arith, pow-add 2 8 (8 * n))

-- the bytes of two runs, one after the other
pub num_append : (x y : List ℕ) → num (x ++ y) ≡ num x * 2 ^ (8 * length y) + num y
unfolding num
num_append [] y = omega arith
num_append (b ∷ x) y =
    let e : 8 * (length x + length y) ≡ 8 * length x + 8 * length y = omega arith in
    ap₂ (λ (p q : ℕ). b * p + q) (ap (λ (k : ℕ). 2 ^ (8 * k)) (length-append x y) ∙ ap (λ (k : ℕ). 2 ^ k) e ∙ pow-add 2 (8 * length x) (8 * length y)) (num_append x y)
    ∙ ap (λ (k : ℕ). k + (num x * 2 ^ (8 * length y) + num y)) (sym (mul_assoc b (2 ^ (8 * length x)) (2 ^ (8 * length y))))
    ∙ sym (add_assoc (b * 2 ^ (8 * length x) * 2 ^ (8 * length y)) (num x * 2 ^ (8 * length y)) (num y))
    ∙ ap (λ (k : ℕ). k + num y) (sym (add-mul (b * 2 ^ (8 * length x)) (num x) (2 ^ (8 * length y))))

-- the low bytes of a number spell what they say of it
pub num_be_mod : (n v : ℕ) → num (be n v) ≡ v % 2 ^ (8 * n)
unfolding num be
num_be_mod zero v = sym (mod-one v)
num_be_mod (suc n) v = grind (arith, num_be_mod n v, length_be n v, mod-pow-add v 8 (8 * n))

-- a number that fits is read back
pub num_be : (n v : ℕ) → v < 2 ^ (8 * n) → num (be n v) ≡ v
num_be n v h = num_be_mod n v ∙ mod-eq_of_lt h

pub num_lt : (xs : List ℕ) → Bytes xs → num xs < 2 ^ (8 * length xs)
unfolding num Bytes
num_lt [] h = omega arith
num_lt (x ∷ xs) h =
    let m : ℕ = 2 ^ (8 * length xs) in
    let b : x < 256 = h 0 in
    omega (arith, num_lt xs (bytes_drop 1 (x ∷ xs) h), pow_step (length xs), add-mul x 1 m, mul-le-mul_right {m = x + 1} {n = 256} m (omega arith))

-- the low bytes do not see what stands above them
be_add : (n k v : ℕ) → be n (k * 2 ^ (8 * n) + v) ≡ be n v
unfolding be
be_add zero k v = refl
be_add (suc n) k v =
    let m : ℕ = 2 ^ (8 * n) in
    let e : k * 2 ^ (8 * suc n) ≡ k * 256 * m = ap (λ (p : ℕ). k * p) (pow_step n) ∙ sym (mul_assoc k 256 m) in
    let d : (k * 256 * m + v) / m ≡ k * 256 + v / m = mul-add-div_right (pow_pos (8 * n)) (k * 256) v in
    let b : (k * 256 * m + v) / m % 256 ≡ v / m % 256 = omega arith in
    ap (λ (p : ℕ). (p + v) / m % 256 ∷ be n (p + v)) e ∙ ap₂ (λ (p : ℕ) (l : List ℕ). p ∷ l) b (be_add n (k * 256) v)

-- bytes are written back as they were read
pub be_num : (xs : List ℕ) → Bytes xs → be (length xs) (num xs) ≡ xs
unfolding num be Bytes
be_num [] h = refl
be_num (x ∷ xs) h =
    let l : num xs < 2 ^ (8 * length xs) = num_lt xs (bytes_drop 1 (x ∷ xs) h) in
    ap₂ (λ (p : ℕ) (r : List ℕ). p ∷ r) (ap (λ (p : ℕ). p % 256) (high x (8 * length xs) l) ∙ mod-eq_of_lt (h 0))
    (be_add (length xs) x (num xs) ∙ be_num xs (bytes_drop 1 (x ∷ xs) h))

pub be_1 : (v : ℕ) → v < 256 → be 1 v ≡ v ∷ []
unfolding be
be_1 v h = grind arith

pub bytes_be : (n v : ℕ) → Bytes (be n v)
unfolding Bytes be
bytes_be zero v i = omega arith
bytes_be (suc n) v zero = omega arith
bytes_be (suc n) v (suc i) = bytes_be n v i

-- a number read of bytes fits their number, and is written back as it was read
pub num_part_lt : (a : List ℕ) (at n : ℕ) → at + n ≤ length a → Bytes a → num (part a at n) < 2 ^ (8 * n)
num_part_lt a at n h b =
    subst (λ (k : ℕ). num (part a at n) < 2 ^ (8 * k)) (length_part a at n h) (num_lt (part a at n) (bytes_part a at n b))

pub be_num_part : (a : List ℕ) (at n : ℕ) → at + n ≤ length a → Bytes a → be n (num (part a at n)) ≡ part a at n
be_num_part a at n h b =
    ap (λ (k : ℕ). be k (num (part a at n))) (sym (length_part a at n h)) ∙ be_num (part a at n) (bytes_part a at n b)

pub num_one : (a : List ℕ) (at : ℕ) → at < length a → num (part a at 1) ≡ get_or a at 0
unfolding num
num_one a at h = ap num (part_one a at h) ∙ omega arith

-- ---- std's words: `to_be_bytes`, `from_be_bytes` and `from_le_bytes` at any width

pow_256 : (n : ℕ) → 256 ^ n ≡ 2 ^ (8 * n)
pow_256 zero = refl
pow_256 (suc n) = omega (arith, pow-suc 256 n, pow_256 n, pow_step n)

byte_is : (n v : ℕ) → byte_at n v ≡ v / 2 ^ (8 * n) % 256
byte_is zero v = simp div-one
byte_is (suc n) v = ap (λ (m : ℕ). v / m % 256) (pow_256 (suc n))

-- at any width: `to_be_bytes`
pub high_first : (n v : ℕ) → bytes_high_first n v ≡ be n v
unfolding be
high_first zero v = refl
high_first (suc n) v = ap₂ ◌∷◌ (byte_is n v) (high_first n v)

-- the first term of a sum apart from the others
sum_first : (f : ℕ → ℕ) (k : ℕ) → sum_through f (suc k) ≡ f 0 + sum_through (λ i. f (suc i)) k
sum_first f zero = refl
sum_first f (suc k) = omega (arith, sum_first f k)

sum_same : (f g : ℕ → ℕ) (k : ℕ) → ((i : ℕ) → f i ≡ g i) → sum_through f k ≡ sum_through g k
sum_same f g zero e = e 0
sum_same f g (suc k) e = ap₂ ◌+◌ (sum_same f g k e) (e (suc k))

worth_is : (n b : ℕ) → byte_worth n b ≡ b * 2 ^ (8 * n)
worth_is zero b = omega arith
worth_is (suc n) b = grind (arith, pow_256 (suc n))

worth_at : (m k b : ℕ) → m ≡ suc k → byte_worth m b ≡ b * 2 ^ (8 * suc k)
worth_at m k b e = worth_is m b ∙ ap (λ (n : ℕ). b * 2 ^ (8 * n)) e

-- at any width: `from_be_bytes`
pub num_sum : (xs : List ℕ) (k : ℕ) → length xs ≡ suc k → sum_through (λ i. byte_worth (k - i) (get_or xs i 0)) k ≡ num xs
unfolding num
num_sum [] k e = absurd (omega arith)
num_sum (x ∷ []) zero e = omega arith
num_sum (x ∷ y ∷ xs) zero e = absurd (omega arith)
num_sum (x ∷ xs) (suc k) e =
    let l : length xs ≡ suc k = omega arith in
    sum_first (λ i. byte_worth (suc k - i) (get_or (x ∷ xs) i 0)) k
    ∙ ap₂ ◌+◌ (worth_at (suc k - 0) k x (omega arith) ∙ ap (λ (n : ℕ). x * 2 ^ (8 * n)) (sym l))
    (sum_same (λ i. byte_worth (suc k - suc i) (get_or xs i 0)) (λ i. byte_worth (k - i) (get_or xs i 0)) k
    (λ i. let d : suc k - suc i ≡ k - i = omega arith in ap (λ (n : ℕ). byte_worth n (get_or xs i 0)) d)
    ∙ num_sum xs k l)

-- a number read of a part of k + 1 bytes
pub num_read : (a : List ℕ) (at k : ℕ) {bs : List ℕ} {v : ℕ} → at + suc k ≤ length a → bs ≡ part a at (suc k)
    → v ≡ sum_through (λ i. byte_worth (k - i) (get_or bs i 0)) k → v ≡ num (part a at (suc k))
num_read a at k {bs} h e ev = ev ∙ num_sum bs k (ap length e ∙ length_part a at (suc k) h) ∙ ap num e

worth_more : (n b : ℕ) → byte_worth (suc n) b ≡ 256 * byte_worth n b
worth_more n b =
    let m : ℕ = 2 ^ (8 * n) in
    worth_is (suc n) b ∙ ap (λ (k : ℕ). b * k) (pow_step n) ∙ sym (mul_assoc b 256 m) ∙ ap (λ (k : ℕ). k * m) (mul_comm b 256) ∙ mul_assoc 256 b m
    ∙ ap (λ (k : ℕ). 256 * k) (sym (worth_is n b))

sum_scaled : (f : ℕ → ℕ) (k : ℕ) → sum_through (λ i. 256 * f i) k ≡ 256 * sum_through f k
sum_scaled f zero = refl
sum_scaled f (suc k) = omega (arith, sum_scaled f k)

-- at any width: `from_le_bytes`
low_sum : (xs : List ℕ) (k : ℕ) → length xs ≡ suc k → sum_through (λ i. byte_worth i (get_or xs i 0)) k ≡ low_first xs
unfolding low_first
low_sum [] k e = absurd (omega arith)
low_sum (x ∷ []) zero e = omega arith
low_sum (x ∷ y ∷ xs) zero e = absurd (omega arith)
low_sum (x ∷ xs) (suc k) e =
    sum_first (λ i. byte_worth i (get_or (x ∷ xs) i 0)) k
    ∙ ap (λ (n : ℕ). x + n)
    (sum_same (λ i. byte_worth (suc i) (get_or xs i 0)) (λ i. 256 * byte_worth i (get_or xs i 0)) k (λ i. worth_more i (get_or xs i 0))
    ∙ sum_scaled (λ i. byte_worth i (get_or xs i 0)) k
    ∙ ap (λ (n : ℕ). 256 * n) (low_sum xs k (omega arith)))

pub low_read : (a : List ℕ) (at k : ℕ) {bs : List ℕ} {v : ℕ} → at + suc k ≤ length a → bs ≡ part a at (suc k)
    → v ≡ sum_through (λ i. byte_worth i (get_or bs i 0)) k → v ≡ low_first (part a at (suc k))
low_read a at k {bs} h e ev = ev ∙ low_sum bs k (ap length e ∙ length_part a at (suc k) h) ∙ ap low_first e

-- ---- the bytes of a number in two runs

-- a number of j + k bytes: the high j, then the low k
pub be_append : (j k v : ℕ) → be (j + k) v ≡ be j (v / 2 ^ (8 * k)) ++ be k v
unfolding be
be_append zero k v = let e : zero + k ≡ k = omega arith in rw e
be_append (suc j) k v =
    let e : suc j + k ≡ suc (j + k) = omega arith in
    let d : 8 * (j + k) ≡ 8 * k + 8 * j = omega arith in
    ap (λ (i : ℕ). be i v) e
    ∙ ap₂ (λ (b : ℕ) (l : List ℕ). b ∷ l)
    (ap (λ (i : ℕ). v / 2 ^ i % 256) d ∙ ap (λ (q : ℕ). q % 256) (sym (shr-shr v (8 * k) (8 * j)))) (be_append j k v)

-- the low bytes do not see what stands above them
pub be_mod : (k j v : ℕ) → be k (v % 2 ^ (j + 8 * k)) ≡ be k v
unfolding be
be_mod zero j v = refl
be_mod (suc k) j v =
    let e : j + 8 * suc k ≡ j + 8 + 8 * k = omega arith in
    ap (λ (i : ℕ). be (suc k) (v % 2 ^ i)) e
    ∙ ap₂ (λ (b : ℕ) (l : List ℕ). b ∷ l)
    (ap (λ (q : ℕ). q % 256) (field v (j + 8) (8 * k)) ∙ mod-mod-pow (v / 2 ^ (8 * k)) j 8) (be_mod k (j + 8) v)
