-- Held rows as blobs: the row blob call, and the saved file.
-- Assumes nothing.
use Rattle.std.specs.Prelude.{◌≡◌, ℕ, ◌+◌, ◌*◌, Bool, List, [], ◌∷◌, ◌++◌, map, length, take, nat_eq, nat_lt}
use mathlib.Core.List.{Perm}
use Rattle.octets.specs.Bytes.{be}
use Rattle.courier_core.specs.declared.Refusal.{Refusal}
use Rattle.courier_core.specs.declared.Refusal.TheVariants as refusal
use Rattle.table.specs.Rows.{join}
use Rattle.state.specs.Held.{Held, held_row}
use Rattle.state.specs.Held as held
use Rattle.state.specs.Sizes.{blob_size, file_head, carried_record, tombstone_record}
use Rattle.rows.specs.declared.Carried.{Carried}
use Rattle.rows.specs.declared.Tombstone.{Tombstone}
use Rattle.model.specs.Basics.{match_some, find, merge}
use Rattle.model.specs.State.{State, nothing}
use Rattle.model.specs.Calls.{Result, only, missing, wrote, done_with}
use Rattle.model.specs.Cells.{ciphertext, cell_count}

-- a held row and its slot
pub record Slotted : Type 0 where
  pub slot : ℕ
  pub held : Held

unfoldable pub carried_held : List ℕ → Carried → Slotted
carried_held cells r = record {
  slot = r.slot;
  held = held.carried
      (record { depositor = r.depositor; header = record { tag = r.tag; c = r.c; expiry_min = r.expiry_min; copies = r.copies } })
      (ciphertext cells r.cell r.len);
}

unfoldable pub tombstone_held : Tombstone → Slotted
tombstone_held t = record { slot = t.slot; held = held.tombstone (record { tag = t.tag; s = t.s; expiry_min = t.expiry_min }) }

-- a result that writes bytes to the area that was lent for them
abbrev pub writes : List ℕ → Result
writes b = record { answer = done_with (wrote (length b)); replies = []; actions = []; bytes = b; told = []; change = nothing }

-- ---- row blob

unfoldable pub held_rows : State → List Slotted
held_rows s = map (carried_held s.carried_cells) s.carried ++ map tombstone_held s.tombstones

unfoldable pub blob_tests : ℕ → List (Bool × Refusal)
blob_tests blob = (nat_lt blob blob_size, refusal.ShortArea) ∷ []

-- `Held::row` of the row in a slot
unfoldable pub row_blob_of : State → ℕ → Result
row_blob_of s slot = match_some (find (λ (h : Slotted). nat_eq h.slot slot) (held_rows s)) (λ h. writes (held_row h.held)) (only (done_with missing))

-- ---- the saved file

-- the marks `HN`, `HC` and `HT`
abbrev pub held_mark : Held → List ℕ
held_mark (held.carried r ct) = 72 ∷ 67 ∷ []
held_mark (held.tombstone t) = 72 ∷ 84 ∷ []

-- mark, 8-byte slot, 2-byte length, row blob
unfoldable pub saved_record : Slotted → List ℕ
saved_record h = held_mark h.held ++ be 8 h.slot ++ be 2 (length (held_row h.held)) ++ held_row h.held

-- `HN` and the 8-byte next slot, once, first; then the rows
unfoldable pub saved_file : ℕ → List Slotted → List ℕ
saved_file next rows = (72 ∷ 78 ∷ []) ++ be 8 next ++ join (map saved_record rows)

-- The rows that are saved. In areas that no call left there may be more carried rows than cells, and the file has room for one a cell.
abbrev pub saved_carried : State → List Slotted
saved_carried s = map (carried_held s.carried_cells) (take (cell_count (length s.carried_cells)) s.carried)

abbrev pub saved_tombstones : State → List Slotted
saved_tombstones s = map tombstone_held s.tombstones

-- ours is the order of slots
unfoldable pub saved_rows : State → List Slotted
saved_rows s = merge (λ (h : Slotted). h.slot) (saved_carried s) (saved_tombstones s)

abbrev pub saved_size : State → ℕ
saved_size s = file_head + carried_record * cell_count (length s.carried_cells) + tombstone_record * s.tombstone_rows

unfoldable pub save_tests : State → ℕ → List (Bool × Refusal)
save_tests s file = (nat_lt file (saved_size s), refusal.ShortArea) ∷ []

unfoldable pub save_held : State → Result
save_held s = writes (saved_file s.next_slot (saved_rows s))

-- what document 01 fixes of a saved file: rows may stand in any order, each held row once
pub record IsSaved (s : State) (file : List ℕ) : Type 0 where
  pub rows : List Slotted
  pub once : Perm rows (saved_carried s ++ saved_tombstones s)
  pub bytes : file ≡ saved_file s.next_slot rows
