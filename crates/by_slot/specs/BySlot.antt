-- Carried rows and tombstones as one list by slot: where two cursors stand, which row is next, and what is left.
-- Assumes nothing.
use Rattle.std.specs.Prelude.{ℕ, ◌+◌, ◌≤◌, ◌<◌, ◌≡◌, Bool, true, false, List, map, drop, length}
use Rattle.table.specs.declared.lent.Table.{Table}
use Rattle.table.specs.Rows.{held, rows}
use Rattle.table.specs.Tables.{rows_in}
use Rattle.rows.specs.declared.Carried.{Carried}
use Rattle.rows.specs.declared.Tombstone.{Tombstone}
use Rattle.rows.specs.Rows.{carried_codec, tombstone_codec, carried_width, tombstone_width}
use Rattle.model.specs.Basics.{merge}
use Rattle.by_slot.specs.declared.held.Held.{Held}
use Rattle.by_slot.specs.declared.Cursor.{Cursor}

-- the rows of two tables by counts that may be anything
pub record Fitted (carried : Table carried_width) (tombstones : Table tombstone_width) (h : Held) : Type 0 where
  pub carried_count : h.carried.count ≡ held (length carried.area.now) carried_width carried.count
  pub carried_area : h.carried.area.now ≡ carried.area.now
  pub tombstones_count : h.tombstones.count ≡ held (length tombstones.area.now) tombstone_width tombstones.count
  pub tombstones_area : h.tombstones.area.now ≡ tombstones.area.now

-- a walk is inside both tables, and a row is left
pub record Reached (h : Held) (t : Cursor) : Type 0 where
  pub within : t.carried ≤ h.carried.count
  pub below : t.tombstones ≤ h.tombstones.count
  pub more : t.carried + t.tombstones < h.carried.count + h.tombstones.count

-- a walk past the next tombstone, or past the next carried row
abbrev pub past : Bool → Cursor → Cursor
past true t = record { carried = t.carried; tombstones = t.tombstones + 1 }
past false t = record { carried = t.carried + 1; tombstones = t.tombstones }

-- is the next tombstone, of slot b, before the next carried row, of slot a
pub record TombstoneFirst (h : Held) (t : Cursor) (a b : ℕ) (r : Bool) : Type 0 where
  pub tombstone : r ≡ true → (t.tombstones < h.tombstones.count) × (t.carried < h.carried.count → b < a)
  pub carried : r ≡ false → (t.carried < h.carried.count) × (t.tombstones < h.tombstones.count → a ≤ b)

-- the rows from carried row p and tombstone q on, each made into something that has a slot
unfoldable pub rows_left : {A : Type 0} (slot : A → ℕ) (carried_row : Carried → A) (tombstone_row : Tombstone → A) → Held → (p q : ℕ) → List A
rows_left slot carried_row tombstone_row h p q =
    merge slot (drop p (map carried_row (rows_in carried_codec h.carried))) (drop q (map tombstone_row (rows_in tombstone_codec h.tombstones)))

-- the same of n rows and m rows of any two areas, each made of the bytes of its row by any function
unfoldable pub rows_left_of : {A : Type 0} (slot : A → ℕ) (carried_row tombstone_row : List ℕ → A) (carried tombstones : List ℕ) (n m p q : ℕ) → List A
rows_left_of slot carried_row tombstone_row carried tombstones n m p q =
    merge slot (drop p (map carried_row (rows carried_width n carried))) (drop q (map tombstone_row (rows tombstone_width m tombstones)))
