-- What is asked of a state whose saved file is read back as it was written, and of the post that loads it.
-- Assumes nothing.
use Rattle.std.specs.Prelude.{◌≡◌, ◌^◌, ◌<◌, ◌≤◌, true, length, ◌≢◌}
use Rattle.courier_core.specs.declared.ContactId.{ContactId}
use Rattle.table.specs.Lists.{All}
use Rattle.courier.specs.Courier.{carried_length}
use Rattle.rows.specs.declared.Carried.{Carried}
use Rattle.rows.specs.Proper.{ProperCarried, ProperTombstone}
use Rattle.model.specs.State.{State, apply}
use Rattle.model.specs.Calls.{done}
use Rattle.model.specs.Contacts.{known}
use Rattle.model.specs.Custody.{deposited}
use Rattle.model.specs.Cells.{cell_count}
use Rattle.model.specs.Saved.{held_rows, save_held}
use Rattle.history.specs.Order.{Sorted, HeldOrder}
use Rattle.load.specs.Load.{load_step}

-- A carried row that is read back, whatever its copies: its ciphertext has a length that a courier carries, and its expiry is above 0.
pub record ReadBack (r : Carried) : Type 0 where
  pub len : carried_length r.len ≡ true
  pub expiry : 0 < r.expiry_min

-- A state whose file number 8 does not refuse where the depositors are known: its tables are in order, their rows fit their fields,
-- and there are no more carried rows than cells; no "carried tag twice", none "over 256 carried or 32 for one"; and each row is read back.
pub record Savable (s : State) : Type 0 where
  pub carried : All ProperCarried s.carried
  pub tombstones : All ProperTombstone s.tombstones
  pub next_slot : s.next_slot < 2 ^ 64
  pub order : HeldOrder s.carried s.tombstones s.next_slot s.carried_cells
  pub fits : length s.carried ≤ cell_count (length s.carried_cells)
  pub tags_differ : Sorted (λ (a b : Carried). a.tag ≢ b.tag) s.carried
  pub quota : (id : ContactId) → deposited s.carried id ≤ 32
  pub back : All ReadBack s.carried

-- The post t knows the depositors of the rows of s, and has cells and tombstone rows for them.
pub record Takes (t s : State) : Type 0 where
  pub depositors : All (λ (r : Carried). known t.contacts r.depositor ≡ true) s.carried
  pub cells : length s.carried ≤ cell_count (length t.carried_cells)
  pub rows : length s.tombstones ≤ t.tombstone_rows

-- What s saves t loads: it is not refused, and "replaces held rows and next slot" of t by those of s.
pub record Reloaded (t s : State) : Type 0 where
  pub answer : (load_step t (save_held s).bytes).answer ≡ done
  pub held : held_rows (apply t (load_step t (save_held s).bytes).change) ≡ held_rows s
  pub next_slot : (apply t (load_step t (save_held s).bytes).change).next_slot ≡ s.next_slot
