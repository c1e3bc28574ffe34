-- The rows of a page along the two tables, line by line, and what the page call says.
-- Assumes nothing.
use Rattle.std.specs.Prelude.{◌≡◌, ℕ, ◌+◌, ◌*◌, ◌≤◌, List, ◌∷◌, map, length, take, drop}
use Rattle.octets.specs.Bytes.{splice}
use Rattle.table.specs.Rows.{join}
use Rattle.rows.specs.declared.Device.{Device}
use Rattle.model.specs.Calls.{Result as Outcome}
use Rattle.model.specs.Areas.{Areas}
use Rattle.model.specs.Lent.{device_in, carried_in, tombstones_in}
use Rattle.model.specs.Screen.{HeldRow, carried_row, tombstone_row, slot_of, screen_line}
use Rattle.by_slot.specs.declared.held.Held.{Held}
use Rattle.by_slot.specs.declared.Cursor.{Cursor}
use Rattle.by_slot.specs.BySlot.{rows_left}

-- held rows from carried row p and tombstone q on
unfoldable pub left : Held → (p q : ℕ) → List HeldRow
left h p q = rows_left slot_of carried_row tombstone_row h p q

-- k of the rows are passed
pub record Passed (h : Held) (k : ℕ) (t : Cursor) : Type 0 where
  pub rest : left h t.carried t.tombstones ≡ drop k (left h 0 0)
  pub count : t.carried + t.tombstones ≡ k
  pub within : t.carried ≤ h.carried.count
  pub below : t.tombstones ≤ h.tombstones.count

-- the line of the next row stands at a place of an area that was before and is now after
pub record RowPut (h : Held) (minute : ℕ) (t : Cursor) (at : ℕ) (before : List ℕ) (r : Cursor) (after : List ℕ) : Type 0 where
  pub row : HeldRow
  pub next : left h t.carried t.tombstones ≡ row ∷ left h r.carried r.tombstones
  pub area : after ≡ splice before at (screen_line minute row)
  pub size : length (screen_line minute row) ≡ 81
  pub on : r.carried + r.tombstones ≡ t.carried + t.tombstones + 1
  pub within : r.carried ≤ h.carried.count
  pub below : r.tombstones ≤ h.tombstones.count

-- so many rows are left from t on, and their lines fit behind the heading of an area of so many bytes
pub record RowsFit (h : Held) (t : Cursor) (count area : ℕ) : Type 0 where
  pub within : t.carried ≤ h.carried.count
  pub below : t.tombstones ≤ h.tombstones.count
  pub more : t.carried + t.tombstones + count ≤ h.carried.count + h.tombstones.count
  pub room : 81 + 81 * count ≤ area

-- the lines of the first j rows from a place on stand behind the heading of an area that was lent, and the rows from t on are left
pub record Showing (h : Held) (minute : ℕ) (from : Cursor) (lent : List ℕ) (j : ℕ) (t : Cursor) (area : List ℕ) : Type 0 where
  pub rest : left h t.carried t.tombstones ≡ drop j (left h from.carried from.tombstones)
  pub bytes : area ≡ splice lent 81 (join (map (screen_line minute) (take j (left h from.carried from.tombstones))))
  pub end : length (join (map (screen_line minute) (take j (left h from.carried from.tombstones)))) ≡ 81 * j
  pub size : length area ≡ length lent
  pub on : t.carried + t.tombstones ≡ from.carried + from.tombstones + j
  pub within : t.carried ≤ h.carried.count
  pub below : t.tombstones ≤ h.tombstones.count

-- the lines of the first so many rows from t on stand behind the heading
pub record RowsPut (h : Held) (minute : ℕ) (t : Cursor) (count : ℕ) (before after : List ℕ) : Type 0 where
  pub area : after ≡ splice before 81 (join (map (screen_line minute) (take count (left h t.carried t.tombstones))))
  pub size : length (join (map (screen_line minute) (take count (left h t.carried t.tombstones)))) ≡ 81 * count

-- ---- the call

abbrev pub page_says : Outcome → ℕ
page_says o = length o.bytes

-- the held rows that are lent, set into areas that are anything otherwise
abbrev pub held_in : Device → (carried tombstones : List ℕ) → Areas → Areas
held_in d carried tombstones a = device_in d (carried_in carried (tombstones_in tombstones a))
