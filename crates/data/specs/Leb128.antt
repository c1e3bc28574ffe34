-- data.rs, `leb128`: a number of 32 bits, seven bits a byte, the lowest first, each byte but the last with its high bit set.
-- Assumes nothing.
use Rattle.std.specs.Prelude.{ℕ, zero, suc, ◌+◌, ◌-◌, ◌/◌, ◌%◌, cond, List, [], ◌∷◌, ◌++◌, length, replicate, leb}
use Rattle.data.specs.declared.Encoded.{Encoded}

-- in at most n + 1 bytes
unfoldable pub leb_in : ℕ → ℕ → List ℕ
leb_in zero v = v ∷ []
leb_in (suc n) v = cond (leb 128 v) ((v % 128 + 128) ∷ leb_in n (v / 128)) (v ∷ [])

-- 32 bits are in at most five
unfoldable pub leb128 : ℕ → List ℕ
leb128 v = leb_in 4 v

-- the encoding in an array of five bytes, zeros behind it
unfoldable pub encoded : List ℕ → Encoded
encoded b = record { bytes = b ++ replicate (5 - length b) 0; len = length b }
