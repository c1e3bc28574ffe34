-- Held rows by slot, and as blobs; what the row blob call says.
-- Assumes nothing.
use Rattle.std.specs.Prelude.{◌≡◌, ℕ, ◌≤◌, Bool, List, length, ◌==◌, Option, Some, None}
use Rattle.octets.specs.Bytes.{part, splice, num}
use Rattle.state.specs.declared.Carried.{Carried as HeldCarried}
use Rattle.state.specs.declared.Tombstone.{Tombstone as HeldTombstone}
use Rattle.state.specs.Held.{held_row}
use Rattle.rows.specs.declared.Carried.{Carried}
use Rattle.rows.specs.declared.Tombstone.{Tombstone}
use Rattle.rows.specs.declared.Device.{Device}
use Rattle.model.specs.Calls.{Detail, wrote, Result as Outcome, detail}
use Rattle.model.specs.Areas.{Areas}
use Rattle.model.specs.Lent.{device_in, carried_in, tombstones_in, carried_cells_in}
use Rattle.model.specs.Saved.{Slotted}

-- ---- rows by slot: every row of the two tables starts with it

unfoldable pub has_slot : ℕ → List ℕ → Bool
has_slot slot b = num (part b 0 8) == slot

abbrev pub carried_in_slot : ℕ → Carried → Bool
carried_in_slot slot r = r.slot == slot

abbrev pub tombstone_in_slot : ℕ → Tombstone → Bool
tombstone_in_slot slot t = t.slot == slot

-- ---- what `Held::row` is given

abbrev pub held_carried : Carried → HeldCarried
held_carried r = record { depositor = r.depositor; header = record { tag = r.tag; c = r.c; expiry_min = r.expiry_min; copies = r.copies } }

abbrev pub held_tombstone : Tombstone → HeldTombstone
held_tombstone t = record { tag = t.tag; s = t.s; expiry_min = t.expiry_min }

-- the row's n bytes, at most so many, stand at the front of an area that was before and is now after
pub record Blobbed (most : ℕ) (h : Slotted) (before : List ℕ) (n : ℕ) (after : List ℕ) : Type 0 where
  pub count : n ≡ length (held_row h.held)
  pub within : n ≤ most
  pub area : after ≡ splice before 0 (held_row h.held)

-- ---- the call

-- how many bytes are written, where it is not refused: none where no row has the slot
abbrev pub blob_of : Detail → Option ℕ
blob_of (wrote count) = Some count
blob_of other = None

abbrev pub blob_says : Outcome → Option ℕ
blob_says o = blob_of (detail o.answer)

-- the held rows that are lent, set into areas that are anything otherwise
abbrev pub held_in : Device → (carried tombstones carried_cells : List ℕ) → Areas → Areas
held_in d carried tombstones carried_cells a = device_in d (carried_in carried (tombstones_in tombstones (carried_cells_in carried_cells a)))
