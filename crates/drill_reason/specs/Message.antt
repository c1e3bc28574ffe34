-- What standard error says at number 13: which record it was, at which byte it begins, and why.
-- Assumes nothing.
use Rattle.std.specs.Prelude.{ℕ, List, [], ◌∷◌, ◌++◌}
use Rattle.text.specs.Text.{decimal}
use Rattle.drill_reason.specs.declared.Reason.{Reason}
use Rattle.drill_reason.specs.declared.Reason.TheVariants as reason

-- a reason's words; 10 ends the line
abbrev pub words_of : Reason → List ℕ
words_of reason.Mark = 117 ∷ 110 ∷ 107 ∷ 110 ∷ 111 ∷ 119 ∷ 110 ∷ 32 ∷ 109 ∷ 97 ∷ 114 ∷ 107 ∷ 10 ∷ []  -- unknown mark
words_of reason.Length = 98 ∷ 111 ∷ 100 ∷ 121 ∷ 32 ∷ 111 ∷ 118 ∷ 101 ∷ 114 ∷ 32 ∷ 56 ∷ 49 ∷ 57 ∷ 50 ∷ 32 ∷ 98 ∷ 121 ∷ 116 ∷ 101 ∷ 115 ∷ 10 ∷ []  -- body over 8192 bytes
words_of reason.Shape = 98 ∷ 111 ∷ 100 ∷ 121 ∷ 32 ∷ 111 ∷ 102 ∷ 32 ∷ 119 ∷ 114 ∷ 111 ∷ 110 ∷ 103 ∷ 32 ∷ 115 ∷ 104 ∷ 97 ∷ 112 ∷ 101 ∷ 10 ∷ []  -- body of wrong shape
words_of reason.Code = 99 ∷ 111 ∷ 100 ∷ 101 ∷ 32 ∷ 97 ∷ 98 ∷ 111 ∷ 118 ∷ 101 ∷ 32 ∷ 52 ∷ 10 ∷ []  -- code above 4
words_of reason.Verification = 118 ∷ 101 ∷ 114 ∷ 105 ∷ 102 ∷ 105 ∷ 99 ∷ 97 ∷ 116 ∷ 105 ∷ 111 ∷ 110 ∷ 32 ∷ 97 ∷ 98 ∷ 111 ∷ 118 ∷ 101 ∷ 32 ∷ 50 ∷ 10 ∷ []  -- verification above 2
words_of reason.Enabled = 101 ∷ 110 ∷ 97 ∷ 98 ∷ 108 ∷ 101 ∷ 100 ∷ 32 ∷ 97 ∷ 98 ∷ 111 ∷ 118 ∷ 101 ∷ 32 ∷ 49 ∷ 10 ∷ []  -- enabled above 1
words_of reason.Contacts = 97 ∷ 32 ∷ 50 ∷ 53 ∷ 55 ∷ 116 ∷ 104 ∷ 32 ∷ 99 ∷ 111 ∷ 110 ∷ 116 ∷ 97 ∷ 99 ∷ 116 ∷ 10 ∷ []  -- a 257th contact
words_of reason.End = 101 ∷ 110 ∷ 100 ∷ 32 ∷ 111 ∷ 102 ∷ 32 ∷ 105 ∷ 110 ∷ 112 ∷ 117 ∷ 116 ∷ 32 ∷ 105 ∷ 110 ∷ 115 ∷ 105 ∷ 100 ∷ 101 ∷ 32 ∷ 105 ∷ 116 ∷ 10 ∷ []  -- end of input inside it

-- the most bytes that a reason's words have; that a place has, with two numbers of 20 digits; that the message has
abbrev pub longest_words : ℕ
longest_words = 23

abbrev pub longest_place : ℕ
longest_place = 56

abbrev pub longest_message : ℕ
longest_message = 93

-- which record, and the byte at which it begins
unfoldable pub place_of : (number byte : ℕ) → List ℕ
place_of number byte = (114 ∷ 101 ∷ 99 ∷ 111 ∷ 114 ∷ 100 ∷ 32 ∷ []) ++ decimal number ++ (32 ∷ 97 ∷ 116 ∷ 32 ∷ 98 ∷ 121 ∷ 116 ∷ 101 ∷ 32 ∷ []) ++ decimal byte  -- record, at byte

unfoldable pub message_of : (number byte : ℕ) → Reason → List ℕ
message_of number byte why = place_of number byte ++ (58 ∷ 32 ∷ 114 ∷ 101 ∷ 102 ∷ 117 ∷ 115 ∷ 101 ∷ 100 ∷ 32 ∷ 49 ∷ 51 ∷ 58 ∷ 32 ∷ []) ++ words_of why  -- : refused 13:
