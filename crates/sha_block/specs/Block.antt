-- FIPS 180-4, 5.2.2 and 6.4.2: one block of 1024 bits, which is 128 bytes.
-- A hash value H_0, .., H_7 and the working variables a, .., h are lists of eight words.
-- Assumes nothing.
use Rattle.std.specs.Prelude.{ℕ, ◌+◌, ◌-◌, ◌*◌, ◌%◌, ◌^◌, cond, List, [], ◌∷◌, ◌++◌, nat_lt, slice_index}
use Rattle.octets.specs.Bytes.{part, num}
use Rattle.sha_word.specs.Word.{add64, Ch, Maj, Σ0, Σ1, σ0, σ1}
use Rattle.sha_block.specs.Loop.{turns}
use Rattle.sha_block.specs.Constants.{K}

-- 5.2.2: M_t, the word t of the block b, its first byte on the left
unfoldable pub M : (b : List ℕ) (t : ℕ) → ℕ
M b t = num (part b (8 * t) 8)

-- 6.4.2, step 1: the sum for 16 ≤ t, of W_(t-2), W_(t-7), W_(t-15) and W_(t-16)
unfoldable pub mixed : (x y z v : ℕ) → ℕ
mixed x y z v = (σ1 x + y + σ0 z + v) % 2 ^ 64

-- W_t, from the words w before it
unfoldable pub W : (b w : List ℕ) (t : ℕ) → ℕ
W b w t = cond (nat_lt t 16) (M b t) (mixed (slice_index w (t - 2)) (slice_index w (t - 7)) (slice_index w (t - 15)) (slice_index w (t - 16)))

-- the schedule of the block b: for t = 0 to 79, W_t is put behind the words w before it
unfoldable pub longer : (b w : List ℕ) (t : ℕ) → List ℕ
longer b w t = w ++ (W b w t ∷ [])

unfoldable pub schedule : (b : List ℕ) → List ℕ
schedule b = turns (longer b) 80 0 []

-- step 3: T1 and T2, where K_t is k and W_t is w
unfoldable pub T1 : (e f g h k w : ℕ) → ℕ
T1 e f g h k w = (h + Σ1 e + Ch e f g + k + w) % 2 ^ 64

unfoldable pub T2 : (a b c : ℕ) → ℕ
T2 a b c = (Σ0 a + Maj a b c) % 2 ^ 64

-- h = g, g = f, f = e, e = d + T1, d = c, c = b, b = a, a = T1 + T2: the list has a first
abbrev pub moved : (a b c d e f g T1 T2 : ℕ) → List ℕ
moved a b c d e f g T1 T2 = add64 T1 T2 ∷ a ∷ b ∷ c ∷ add64 d T1 ∷ e ∷ f ∷ g ∷ []

unfoldable pub turned : (s : List ℕ) (k w : ℕ) → List ℕ
turned s k w =
    moved (slice_index s 0) (slice_index s 1) (slice_index s 2) (slice_index s 3) (slice_index s 4) (slice_index s 5) (slice_index s 6)
    (T1 (slice_index s 4) (slice_index s 5) (slice_index s 6) (slice_index s 7) k w) (T2 (slice_index s 0) (slice_index s 1) (slice_index s 2))

-- round t, with the schedule w
unfoldable pub round : (w s : List ℕ) (t : ℕ) → List ℕ
round w s t = turned s (slice_index K t) (slice_index w t)

-- step 4: H_j = (a, .., h)_j + H_j
unfoldable pub summed : (s h : List ℕ) → List ℕ
summed s h =
    add64 (slice_index s 0) (slice_index h 0) ∷ add64 (slice_index s 1) (slice_index h 1) ∷ add64 (slice_index s 2) (slice_index h 2) ∷ add64 (slice_index s 3) (slice_index h 3)
    ∷ add64 (slice_index s 4) (slice_index h 4) ∷ add64 (slice_index s 5) (slice_index h 5) ∷ add64 (slice_index s 6) (slice_index h 6) ∷ add64 (slice_index s 7) (slice_index h 7) ∷ []

-- steps 1 to 4: the hash value after the block b, from the hash value h before it: (a, .., h) = H (step 2), rounds for t = 0 to 79
unfoldable pub compress : (h b : List ℕ) → List ℕ
compress h b = summed (turns (round (schedule b)) 80 0 h) h
