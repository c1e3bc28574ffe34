-- FIPS 180-4, 6.5: SHA-384 of a message of whole bytes.
-- Assumes nothing.
use Rattle.std.specs.Prelude.{ℕ, ◌*◌, ◌/◌, List, [], ◌∷◌, ◌++◌, length, take}
use Rattle.octets.specs.Bytes.{part, be}
use Rattle.sha_block.specs.Loop.{turns}
use Rattle.sha_block.specs.Block.{compress}
use Rattle.sha384.specs.Padding.{padded}

-- 5.3.4: the initial hash value
unfoldable pub H0 : List ℕ
H0 =
    0xcbbb_9d5d_c105_9ed8 ∷
    0x629a_292a_367c_d507 ∷
    0x9159_015a_3070_dd17 ∷
    0x152f_ecd8_f70e_5939 ∷
    0x6733_2667_ffc0_0b31 ∷
    0x8eb4_4a87_6858_1511 ∷
    0xdb0c_2e0d_64f9_8fa7 ∷
    0x47b5_481d_befa_4fa4 ∷
    []

-- 5.2.2 and 6.4.2: the hash value after the block i of p, counted from 0, from the hash value h before it
unfoldable pub next : (p h : List ℕ) (i : ℕ) → List ℕ
next p h i = compress h (part p (128 * i) 128)

-- the hash value after each block of p, from h
unfoldable pub hashed : (h p : List ℕ) → List ℕ
hashed h p = turns (next p) (length p / 128) 0 h

-- words as bytes, one word after the other
unfoldable pub bytes : (ws : List ℕ) → List ℕ
bytes [] = []
bytes (w ∷ ws) = be 8 w ++ bytes ws

-- 6.5: the digest is H_0, .., H_5
unfoldable pub digest : (h : List ℕ) → List ℕ
digest h = bytes (take 6 h)

unfoldable pub sha384 : (m : List ℕ) → List ℕ
sha384 m = digest (hashed H0 (padded m))
