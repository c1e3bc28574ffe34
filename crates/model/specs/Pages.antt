-- What request One says of all the pages of a post, read off what the call answers.
-- Assumes nothing.
use Rattle.std.specs.Prelude.{◌≡◌, ℕ, zero, suc, ◌+◌, ◌-◌, ◌*◌, ◌<◌, ◌≤◌, min, List, [], ◌++◌, map, length, take, drop}
use mathlib.Core.List.{Perm}
use Rattle.courier_core.specs.declared.Refusal.TheVariants as refusal
use Rattle.table.specs.Lists.{All}
use Rattle.table.specs.Rows.{join}
use Rattle.model.specs.State.{State}
use Rattle.model.specs.Calls
use Rattle.model.specs.Calls.{Result, only, refused, wrote, done_with}
use Rattle.model.specs.Contacts.{minute_of}
use Rattle.model.specs.Screen.{HeldRow, carried_row, tombstone_row, screen_line, heading}
use Rattle.model.specs.Step.{step}

-- every held row
abbrev pub held : State → List HeldRow
held s = map carried_row s.carried ++ map tombstone_row s.tombstones

abbrev pub tag_of : HeldRow → List ℕ
tag_of (carried_row r) = r.tag
tag_of (tombstone_row t) = t.tag

-- each has a tag of 16 bytes, as what is read off areas has
abbrev pub WholeTags : State → Type 0
WholeTags s = All (λ (r : HeldRow). length (tag_of r) ≡ 16) (held s)

-- a page, with an area that suffices
abbrev pub page_of : State → ℕ → Result
page_of s n = step s (Calls.page 1620 n)

-- the lines of the pages before page n, one after the other, their headings left out
unfoldable pub lines_before : State → ℕ → List ℕ
lines_before s zero = []
lines_before s (suc n) = lines_before s n ++ drop 81 (page_of s n).bytes

pub record ScreenPages (s : State) (order : List HeldRow) : Type 0 where
  -- an area under 1,620 bytes meets 1, and another is as good as one of 1,620
  pub short : (area n : ℕ) → area < 1620 → step s (Calls.page area n) ≡ only (refused refusal.ShortArea)
  pub enough : (area n : ℕ) → 1620 ≤ area → step s (Calls.page area n) ≡ page_of s n
  -- the byte count is answered: 19 rows on every page but the last
  pub counted : (n : ℕ) → (page_of s n).answer ≡ done_with (wrote (81 * (1 + min 19 (length (held s) - 19 * n))))
  pub size : (n : ℕ) → length (page_of s n).bytes ≡ 81 * (1 + min 19 (length (held s) - 19 * n))
  -- the heading stands first, and alone past the last page
  pub first : (n : ℕ) → take 81 (page_of s n).bytes ≡ heading
  pub past : (n : ℕ) → length (held s) ≤ 19 * n → (page_of s n).bytes ≡ heading
  -- each held row stands once in the order
  pub once : Perm order (held s)
  -- a page has the lines of the next 19 rows of the order, and the pages before it those of all rows before: each row is on one page, and on no other
  pub rows : (n : ℕ) → drop 81 (page_of s n).bytes ≡ join (map (screen_line (minute_of s)) (take 19 (drop (19 * n) order)))
  pub lines : (n : ℕ) → lines_before s n ≡ join (map (screen_line (minute_of s)) (take (19 * n) order))
  -- a line has 81 bytes
  pub line : All (λ (r : HeldRow). length (screen_line (minute_of s) r) ≡ 81) (held s)
