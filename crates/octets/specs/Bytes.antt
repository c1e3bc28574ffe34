-- Lists of bytes: a run read at a place, a run written at a place, big-endian numbers of any width, comparison.
-- Assumes nothing.
use Rattle.std.specs.Prelude.{ℕ, zero, suc, ◌+◌, ◌*◌, ◌/◌, ◌%◌, ◌^◌, ◌<◌, Bool, true, false, ◌&&◌, List, [], ◌∷◌, ◌++◌, length, get_or, take, drop, eqb}

-- every element is a byte
unfoldable pub Bytes : List ℕ → Type 0
Bytes a = (i : ℕ) → get_or a i 0 < 256

-- the n bytes of a from index at on
unfoldable pub part : List ℕ → ℕ → ℕ → List ℕ
part a at n = take n (drop at a)

-- a, with the bytes v in place of those from index at on
unfoldable pub splice : List ℕ → ℕ → List ℕ → List ℕ
splice a at v = take at a ++ v ++ drop (at + length v) a

-- the number that bytes spell, the highest first
unfoldable pub num : List ℕ → ℕ
num [] = 0
num (x ∷ xs) = x * 2 ^ (8 * length xs) + num xs

-- the low n bytes of a number, the highest first
unfoldable pub be : ℕ → ℕ → List ℕ
be zero v = []
be (suc n) v = v / 2 ^ (8 * n) % 256 ∷ be n v

-- the number that bytes spell, the lowest first
unfoldable pub low_first : List ℕ → ℕ
low_first [] = 0
low_first (x ∷ xs) = x + 256 * low_first xs

-- are two byte strings equal, in length too
unfoldable pub same_bytes : List ℕ → List ℕ → Bool
same_bytes [] [] = true
same_bytes [] (y ∷ ys) = false
same_bytes (x ∷ xs) [] = false
same_bytes (x ∷ xs) (y ∷ ys) = eqb x y && same_bytes xs ys
