-- Numbers in decimal, and a text put into an area.
-- Assumes nothing.
use Rattle.std.specs.Prelude.{ℕ, zero, suc, ◌+◌, ◌/◌, ◌%◌, ◌≤◌, ◌≡◌, List, [], ◌∷◌, ◌++◌, cond, ltb, length}
use Rattle.octets.specs.Bytes.{splice}
use Rattle.io.specs.Digits.{hex_digit_ascii}

-- n's decimal digits, of which k suffice
unfoldable pub decimals : ℕ → ℕ → List ℕ
decimals zero n = []
decimals (suc k) n = cond (ltb n 10) (hex_digit_ascii n ∷ []) (decimals k (n / 10) ++ (hex_digit_ascii (n % 10) ∷ []))

-- a 64-bit number's decimal digits
unfoldable pub decimal : ℕ → List ℕ
decimal n = decimals 20 n

-- a space and a number
unfoldable pub spaced : ℕ → List ℕ
spaced n = (32 ∷ []) ++ decimal n

-- The text w, of so many bytes at most, stands at a place of an area that was o and is now x; the place behind it is r.
pub record Puts (most : ℕ) (o : List ℕ) (at : ℕ) (w : List ℕ) (r : ℕ) (x : List ℕ) : Type 0 where
  pub area : x ≡ splice o at w
  pub next : r ≡ at + length w
  pub near : length w ≤ most
