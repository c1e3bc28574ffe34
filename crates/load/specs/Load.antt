-- A load: the records of the file, each put in by its slot, in place of all held rows and the next slot. The sentences between quotation
-- marks are document 01's.
-- Assumes nothing.
use Rattle.std.specs.Prelude.{ℕ, ◌*◌, List, [], ◌∷◌, length, nat_lt}
use Rattle.octets.specs.Bytes.{splice, num}
use Rattle.table.specs.Lists.{position, unwrap_or, insert_at}
use Rattle.state.specs.declared.Carried.{Carried as HeldCarried}
use Rattle.state.specs.declared.Tombstone.{Tombstone as HeldTombstone}
use Rattle.state.specs.Held.{Held, held_decode}
use Rattle.state.specs.Held as held
use Rattle.state.specs.Sizes.{cell_size}
use Rattle.rows.specs.declared.Carried.{Carried}
use Rattle.rows.specs.declared.Tombstone.{Tombstone}
use Rattle.model.specs.Basics.{match_some}
use Rattle.model.specs.State.{State, Change, now, nothing}
use Rattle.model.specs.Calls.{Result, result, done, step_of}
use Rattle.load_tests.specs.Records.{records, slot_in, blob_in}
use Rattle.load_tests.specs.Tests.{next_in, load_tests}

-- an element among others by a number of each: before the first of a higher one
unfoldable pub insert_by : {A : Type 0} → (A → ℕ) → A → List A → List A
insert_by key new rs = insert_at (unwrap_or (length rs) (position (λ (r : _). nat_lt (key new) (key r)) rs)) new rs

abbrev pub carried_slot : Carried → ℕ
carried_slot r = r.slot

abbrev pub tombstone_slot : Tombstone → ℕ
tombstone_slot t = t.slot

-- the rows of a decoded blob: a carried one has its ciphertext's length and its cell
abbrev pub carried_row : (slot len cell : ℕ) → HeldCarried → Carried
carried_row slot len cell r = record {
  slot = slot;
  depositor = r.depositor;
  tag = r.header.tag;
  c = r.header.c;
  expiry_min = r.header.expiry_min;
  copies = r.header.copies;
  len = len;
  cell = cell;
}

abbrev pub tombstone_row : ℕ → HeldTombstone → Tombstone
tombstone_row slot t = record { slot = slot; tag = t.tag; s = t.s; expiry_min = t.expiry_min }

-- what the records so far gave: the tables, and the carried cells, every byte
pub record Rows : Type 0 where
  pub carried : List Carried
  pub tombstones : List Tombstone
  pub cells : List ℕ

-- one row more. A carried row gets the first cell that none before it in the file got, and its ciphertext is copied there.
unfoldable pub load_held : Rows → ℕ → Held → Rows
load_held l slot (held.carried r ct) = record {
  carried = insert_by carried_slot (carried_row slot (length ct) (length l.carried) r) l.carried;
  tombstones = l.tombstones;
  cells = splice l.cells (length l.carried * cell_size) ct;
}
load_held l slot (held.tombstone t) = record {
  carried = l.carried;
  tombstones = insert_by tombstone_slot (tombstone_row slot t) l.tombstones;
  cells = l.cells;
}

unfoldable pub load_record : Rows → List ℕ → Rows
load_record l b = match_some (held_decode (blob_in b)) (λ h. load_held l (num (slot_in b)) h) l

-- "Rows may stand in any order": the tables are by slot all the same
unfoldable pub load_records : Rows → List (List ℕ) → Rows
load_records l [] = l
load_records l (b ∷ bs) = load_records (load_record l b) bs

-- no row yet, and the cells as they are
abbrev pub no_rows : List ℕ → Rows
no_rows cells = record { carried = []; tombstones = []; cells = cells }

unfoldable pub loaded : List ℕ → List ℕ → Rows
loaded cells file = load_records (no_rows cells) (records file)

-- "A load replaces held rows and next slot, nothing else."
abbrev pub rows_now : Rows → ℕ → Change
rows_now l next = record nothing {
  held = record { carried = now l.carried; tombstones = now l.tombstones; carried_cells = now l.cells };
  next_slot = now next;
}

unfoldable pub load_held_rows : State → List ℕ → Result
load_held_rows s file = result done [] [] (rows_now (loaded s.carried_cells file) (next_in file))

-- the load call: number 8, then 4 and 5; "Nothing changes on a refusal."
unfoldable pub load_step : State → List ℕ → Result
load_step s file = step_of (load_tests s.contacts (length s.carried_cells) s.tombstone_rows file) (load_held_rows s file)
