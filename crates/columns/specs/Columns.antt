-- Columns of a line of text: a number to the right, blanks, and bytes in hexadecimal.
-- Assumes nothing.
use Rattle.std.specs.Prelude.{ℕ, zero, suc, ◌+◌, ◌/◌, ◌%◌, cond, List, [], ◌∷◌, ◌++◌, replicate, ltb}

abbrev pub blank : ℕ
blank = 32

-- so many blanks
abbrev pub blanks : ℕ → List ℕ
blanks n = replicate n blank

-- a number to the right of a column of so many bytes, blanks before it
unfoldable pub column : ℕ → ℕ → List ℕ
column zero n = []
column (suc w) n = cond (ltb n 10) (blanks w) (column w (n / 10)) ++ ((48 + n % 10) ∷ [])

-- the digit of a number below 16: from `0` on, and from `a` on for 10 to 15
abbrev pub hex_digit : ℕ → ℕ
hex_digit d = cond (ltb d 10) (48 + d) (87 + d)

-- two digits for each byte
unfoldable pub hexes : List ℕ → List ℕ
hexes [] = []
hexes (b ∷ bs) = hex_digit (b / 16) ∷ hex_digit (b % 16) ∷ hexes bs
