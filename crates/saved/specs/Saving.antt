-- The saved file, record by record, and what the save call says.
-- Assumes nothing.
use Rattle.std.specs.Prelude.{◌≡◌, ℕ, ◌+◌, ◌*◌, ◌≤◌, List, ◌∷◌, ◌++◌, map, length}
use Rattle.octets.specs.Bytes.{splice, be}
use Rattle.table.specs.Rows.{join}
use Rattle.state.specs.Sizes.{file_head, record_head, carried_record, tombstone_record}
use Rattle.model.specs.Calls.{Result as Outcome}
use Rattle.model.specs.Saved.{Slotted, carried_held, tombstone_held, saved_record}
use Rattle.by_slot.specs.declared.held.Held.{Held}
use Rattle.by_slot.specs.BySlot.{rows_left}
use Rattle.saved.specs.declared.HeldRows.{HeldRows}
use Rattle.saved.specs.declared.Progress.{Progress}

-- ---- a record

-- `saved_record` by its parts: the mark, the slot, the row's bytes
unfoldable pub record_bytes : List ℕ → ℕ → List ℕ → List ℕ
record_bytes mark slot row = mark ++ be 8 slot ++ be 2 (length row) ++ row

-- a record stands at a place of a file that was before and is now after, and ends at r
pub record RecordPut (mark : List ℕ) (slot : ℕ) (row : List ℕ) (at : ℕ) (before : List ℕ) (r : ℕ) (after : List ℕ) : Type 0 where
  pub end : r ≡ at + record_head + length row
  pub area : after ≡ splice before at (record_bytes mark slot row)

-- the same of a held row, whose record has at most so many bytes
pub record Recorded (most : ℕ) (h : Slotted) (at : ℕ) (before : List ℕ) (r : ℕ) (after : List ℕ) : Type 0 where
  pub end : r ≡ at + length (saved_record h)
  pub within : r ≤ at + most
  pub area : after ≡ splice before at (saved_record h)

-- ---- the records, by slot

-- the file, of so many bytes, has room for the records of the rows, and the next record goes to t's place
pub record RoomFor (h : Held) (t : Progress) (file : ℕ) : Type 0 where
  pub size : file_head + (carried_record * h.carried.count + tombstone_record * h.tombstones.count) ≤ file
  pub place : t.at ≤ file_head + (carried_record * t.next.carried + tombstone_record * t.next.tombstones)

-- what is left to save of held rows: from carried row p and tombstone q on
unfoldable pub left : HeldRows → (p q : ℕ) → List Slotted
left h p q = rows_left (λ (s : Slotted). s.slot) (carried_held h.cells.now) tombstone_held h.rows p q

-- one row more is saved
pub record More (h : HeldRows) (t : Progress) (before : List ℕ) (r : Progress) (after : List ℕ) : Type 0 where
  pub row : Slotted
  pub next : left h t.next.carried t.next.tombstones ≡ row ∷ left h r.next.carried r.next.tombstones
  pub area : after ≡ splice before t.at (saved_record row)
  pub end : r.at ≡ t.at + length (saved_record row)
  pub on : r.next.carried + r.next.tombstones ≡ t.next.carried + t.next.tombstones + 1
  pub within : r.next.carried ≤ h.rows.carried.count
  pub below : r.next.tombstones ≤ h.rows.tombstones.count
  pub room : r.at + (carried_record * t.next.carried + tombstone_record * t.next.tombstones) ≤ t.at + (carried_record * r.next.carried + tombstone_record * r.next.tombstones)

-- the rows done so far, in a file that was lent and is now area
pub record Saving (h : HeldRows) (lent area : List ℕ) (t : Progress) : Type 0 where
  pub done : List Slotted
  pub all : done ++ left h t.next.carried t.next.tombstones ≡ left h 0 0
  pub bytes : area ≡ splice lent file_head (join (map saved_record done))
  pub end : t.at ≡ file_head + length (join (map saved_record done))
  pub size : length area ≡ length lent
  pub within : t.next.carried ≤ h.rows.carried.count
  pub below : t.next.tombstones ≤ h.rows.tombstones.count
  pub room : t.at ≤ file_head + (carried_record * t.next.carried + tombstone_record * t.next.tombstones)

-- a file of so many bytes has room for the records of the rows
abbrev pub Rooms : Held → (file : ℕ) → Type 0
Rooms h file = file_head + (carried_record * h.carried.count + tombstone_record * h.tombstones.count) ≤ file

-- the records of rows stand behind a file's mark and next slot, and end at r
pub record Records (rows : List Slotted) (lent : List ℕ) (r : ℕ) (after : List ℕ) : Type 0 where
  pub end : r ≡ file_head + length (join (map saved_record rows))
  pub within : r ≤ length lent
  pub area : after ≡ splice lent file_head (join (map saved_record rows))

-- every byte of the file that was lent, and how many are the file's
pub record Filled (bytes lent : List ℕ) (r : ℕ) (after : List ℕ) : Type 0 where
  pub count : r ≡ length bytes
  pub area : after ≡ splice lent 0 bytes

-- ---- the call

-- how many bytes the file has, where it is not refused
abbrev pub save_says : Outcome → ℕ
save_says o = length o.bytes
