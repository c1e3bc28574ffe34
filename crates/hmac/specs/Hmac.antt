-- FIPS 198-1 with H = SHA-384: B = 128 bytes to a block, L = 48 bytes to a hash.
-- Assumes nothing.
use Rattle.std.specs.Prelude.{ℕ, ◌-◌, cond, List, ◌++◌, map, length, replicate, eqb, ltb}
use Rattle.std.specs.Int.Bits.{bit_xor}
use Rattle.sha384.specs.Sha384.{sha384}

-- section 4, steps 1 to 3: a key of B bytes, a longer one, a shorter one
unfoldable pub K0 : (key : List ℕ) → List ℕ
K0 key =
    cond (eqb (length key) 128) key
    (cond (ltb 128 (length key)) (sha384 key ++ replicate (128 - 48) 0)
    (key ++ replicate (128 - length key) 0))

-- section 2.3: the inner pad, the byte x'36', and the outer pad, the byte x'5c', each repeated B times
abbrev pub ipad : ℕ
ipad = 0x36

abbrev pub opad : ℕ
opad = 0x5c

-- steps 4 and 7: K0 ⊕ pad
unfoldable pub padded : (k0 : List ℕ) (pad : ℕ) → List ℕ
padded k0 pad = map (λ (x : ℕ). bit_xor x pad) k0

-- steps 4 to 9: H((K0 ⊕ opad) ‖ H((K0 ⊕ ipad) ‖ text))
unfoldable pub keyed : (k0 text : List ℕ) → List ℕ
keyed k0 text = sha384 (padded k0 opad ++ sha384 (padded k0 ipad ++ text))

unfoldable pub hmac : (key text : List ℕ) → List ℕ
hmac key text = keyed (K0 key) text
