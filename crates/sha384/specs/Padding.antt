-- FIPS 180-4, 5.1.2: the padding of a message of whole bytes, of fewer than 2 ^ 128 bits.
-- Assumes nothing.
use Rattle.std.specs.Prelude.{ℕ, ◌+◌, ◌-◌, ◌*◌, ◌/◌, ◌%◌, ◌≤◌, ◌≡◌, List, ◌∷◌, ◌++◌, length, replicate}
use Rattle.std.proofs.Common.{arith}
use Rattle.octets.specs.Bytes.{be}

-- k, the smallest non-negative solution of ℓ + 1 + k = 896 mod 1024, where ℓ is the message's length in bits
abbrev pub zero_bits : (ℓ : ℕ) → ℕ
zero_bits ℓ = (1919 - ℓ % 1024) % 1024

pub zero_bits_solves : (ℓ : ℕ) → (ℓ + 1 + zero_bits ℓ) % 1024 ≡ 896
zero_bits_solves ℓ = omega arith

pub zero_bits_smallest : (ℓ k : ℕ) → (ℓ + 1 + k) % 1024 ≡ 896 → zero_bits ℓ ≤ k
zero_bits_smallest ℓ k e = omega arith

-- what follows a message of n bytes, ℓ = 8 n: the bit 1 and k bits 0, then ℓ in 128 bits, the highest first.
-- The bit 1 and the first seven of the bits 0 are the byte 0x80, and the others are k / 8 bytes 0
unfoldable pub padding : (n : ℕ) → List ℕ
padding n = 0x80 ∷ replicate (zero_bits (8 * n) / 8) 0 ++ be 16 (8 * n)

pub zero_bits_bytes : (n : ℕ) → zero_bits (8 * n) ≡ 7 + 8 * (zero_bits (8 * n) / 8)
zero_bits_bytes n = omega arith

-- the padded message
unfoldable pub padded : (m : List ℕ) → List ℕ
padded m = m ++ padding (length m)
