-- FIPS 180-4, sections 2.2.2, 3.2 and 4.1.3, for words of w = 64 bits. A word is a number below 2 ^ 64.
-- Assumes nothing.
use Rattle.std.specs.Prelude.{ℕ, ◌+◌, ◌-◌, ◌*◌, ◌/◌, ◌%◌, ◌^◌}
use Rattle.std.specs.Int.Bits.{bit_and, bit_or, bit_xor}

-- 2.2.2: ∧, ∨ and ⊕ are `bit_and`, `bit_or` and `bit_xor`; ¬ x has each bit of x flipped
abbrev pub not64 : ℕ → ℕ
not64 x = 2 ^ 64 - 1 - x

-- 2.2.2: x << n drops the left n bits of x and puts n zeros on the right
abbrev pub shl : ℕ → ℕ → ℕ
shl n x = x * 2 ^ n % 2 ^ 64

-- 3.2, 2: addition modulo 2 ^ 64
abbrev pub add64 : ℕ → ℕ → ℕ
add64 x y = (x + y) % 2 ^ 64

-- 3.2, 3: SHR n x = x >> n drops the right n bits of x and puts n zeros on the left (2.2.2)
abbrev pub SHR : ℕ → ℕ → ℕ
SHR n x = x / 2 ^ n

-- 3.2, 4: ROTR n x = (x >> n) ∨ (x << (w - n))
unfoldable pub ROTR : ℕ → ℕ → ℕ
ROTR n x = bit_or (SHR n x) (shl (64 - n) x)

-- (4.8)
unfoldable pub Ch : ℕ → ℕ → ℕ → ℕ
Ch x y z = bit_xor (bit_and x y) (bit_and (not64 x) z)

-- (4.9)
unfoldable pub Maj : ℕ → ℕ → ℕ → ℕ
Maj x y z = bit_xor (bit_xor (bit_and x y) (bit_and x z)) (bit_and y z)

-- (4.10)
unfoldable pub Σ0 : ℕ → ℕ
Σ0 x = bit_xor (bit_xor (ROTR 28 x) (ROTR 34 x)) (ROTR 39 x)

-- (4.11)
unfoldable pub Σ1 : ℕ → ℕ
Σ1 x = bit_xor (bit_xor (ROTR 14 x) (ROTR 18 x)) (ROTR 41 x)

-- (4.12)
unfoldable pub σ0 : ℕ → ℕ
σ0 x = bit_xor (bit_xor (ROTR 1 x) (ROTR 8 x)) (SHR 7 x)

-- (4.13)
unfoldable pub σ1 : ℕ → ℕ
σ1 x = bit_xor (bit_xor (ROTR 19 x) (ROTR 61 x)) (SHR 6 x)
