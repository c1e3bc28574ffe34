-- The post's screen page: every held row by slot, 19 to a page, a line each.
-- Assumes nothing.
use Rattle.std.specs.Prelude.{ℕ, ◌-◌, ◌*◌, Bool, cond, List, [], ◌∷◌, ◌++◌, map, take, drop, nat_lt}
use Rattle.courier_core.specs.declared.Refusal.{Refusal}
use Rattle.courier_core.specs.declared.Refusal.TheVariants as refusal
use Rattle.table.specs.Rows.{join}
use Rattle.columns.specs.Columns.{blank, blanks, column, hexes}
use Rattle.rows.specs.declared.Carried.{Carried}
use Rattle.rows.specs.declared.Tombstone.{Tombstone}
use Rattle.model.specs.Basics.{merge, trunc8}
use Rattle.model.specs.State.{State}
use Rattle.model.specs.Calls.{Result}
use Rattle.model.specs.Contacts.{minute_of}
use Rattle.model.specs.Saved.{writes}

-- ---- which rows

-- a held row of either kind
pub data HeldRow : Type 0 where
  carried_row : Carried → HeldRow
  tombstone_row : Tombstone → HeldRow

abbrev pub slot_of : HeldRow → ℕ
slot_of (carried_row r) = r.slot
slot_of (tombstone_row t) = t.slot

-- every held row, by slot: in the order of the saved file
unfoldable pub shown : State → List HeldRow
shown s = merge slot_of (map carried_row s.carried) (map tombstone_row s.tombstones)

-- the most rows of a page
abbrev pub page_size : ℕ
page_size = 19

-- the rows of a page: none where it is past the last
unfoldable pub page_rows : State → ℕ → List HeldRow
page_rows s n = take page_size (drop (page_size * n) (shown s))

-- ---- lines

abbrev pub line_end : ℕ
line_end = 10

-- the letters of the kinds, `C` and `T`
abbrev pub carried_kind : ℕ
carried_kind = 67

abbrev pub tombstone_kind : ℕ
tombstone_kind = 84

-- `past`
abbrev pub past : List ℕ
past = 112 ∷ 97 ∷ 115 ∷ 116 ∷ []

-- slot, kind and prefix, and a blank behind each: 40 bytes
unfoldable pub line_front : (slot kind : ℕ) (tag : List ℕ) → List ℕ
line_front slot kind tag = column 20 slot ++ (blank ∷ kind ∷ blank ∷ []) ++ hexes (trunc8 tag) ++ (blank ∷ [])

-- minutes left or, at 0 and below, `past`: 10 bytes
unfoldable pub minutes_left : (minute expiry : ℕ) → List ℕ
minutes_left minute expiry = cond (nat_lt minute expiry) (column 10 (expiry - minute)) (blanks 6 ++ past)

-- the rest of a carried row's line, copies and depositor in it: 31 bytes
unfoldable pub carried_end : (copies depositor : ℕ) → List ℕ
carried_end copies depositor = (blank ∷ []) ++ column 3 copies ++ (blank ∷ []) ++ column 20 depositor ++ (blanks 5 ++ (line_end ∷ []))

-- a row at the minute: 81 bytes; of a tombstone the last two columns are blank
unfoldable pub screen_line : ℕ → HeldRow → List ℕ
screen_line minute (carried_row r) =
    line_front r.slot carried_kind r.tag ++ minutes_left minute r.expiry_min ++ carried_end r.copies r.depositor.0
screen_line minute (tombstone_row t) = line_front t.slot tombstone_kind t.tag ++ minutes_left minute t.expiry_min ++ blanks 30 ++ (line_end ∷ [])

-- `HELD`
unfoldable pub heading : List ℕ
heading = (72 ∷ 69 ∷ 76 ∷ 68 ∷ []) ++ (blanks 76 ++ (line_end ∷ []))

-- ---- the call

unfoldable pub page_bytes : State → ℕ → List ℕ
page_bytes s n = heading ++ join (map (screen_line (minute_of s)) (page_rows s n))

-- heading and 19 rows, however many lines the page has
abbrev pub page_area : ℕ
page_area = 1620

unfoldable pub page_tests : ℕ → List (Bool × Refusal)
page_tests area = (nat_lt area page_area, refusal.ShortArea) ∷ []

unfoldable pub show_page : State → ℕ → Result
show_page s n = writes (page_bytes s n)
