-- What is claimed of saving and loading after every list of calls and loads.
-- Assumes nothing.
use Rattle.std.specs.Prelude.{◌≡◌, ℕ, ◌<◌, ◌≤◌, true, false, List, length, ◌≢◌, Some}
use Rattle.courier_core.specs.declared.ContactId.{ContactId}
use Rattle.courier_core.specs.declared.Refusal.TheVariants as refusal
use Rattle.table.specs.Lists.{All}
use Rattle.state.specs.Held.{held_row, held_decode}
use Rattle.rows.specs.declared.Carried.{Carried}
use Rattle.model.specs.State.{State}
use Rattle.model.specs.Calls
use Rattle.model.specs.Calls.{is_refused}
use Rattle.model.specs.Contacts.{known}
use Rattle.model.specs.Custody.{deposited}
use Rattle.model.specs.Cells.{cell_count}
use Rattle.model.specs.Saved.{Slotted, held_rows, save_held}
use Rattle.model.specs.Step.{Post, Lent, answer_to}
use Rattle.model.specs.Areas.{PostAreas, view_post}
use Rattle.history.specs.Order.{Sorted, ◌∈◌, HeldOrder, OwnOrder}
use Rattle.history.specs.Limits.{max_carried, max_per_verified}
use Rattle.load.specs.Load.{load_step}
use Rattle.load.specs.Reload.{Reloaded}
use Rattle.reload.specs.Doings.{Doing, ProperDoing, run_doings, run_doings_areas}
use Rattle.reload.specs.ScreenHistory.{ScreenHistory}

-- Of a list of calls and loads from a post: whatever rows it holds after the list are read back, those with no copies too.
pub record ReadBackHistory (p : Post) (ds : List Doing) : Type 0 where
  -- `Held::decode` of each row's bytes is the row, its ciphertext too
  pub rows : All (λ (h : Slotted). held_decode (held_row h.held) ≡ Some h.held) (held_rows (run_doings p ds).state)
  -- It has saved after the list, and what is loaded is that file. A post that knows the depositors, with as many cells and tombstone rows at
  -- least, loads it: it is not refused, and gives the same held rows and next slot.
  pub loads : (t : State) → cell_count (length (run_doings p ds).state.carried_cells) ≤ cell_count (length t.carried_cells)
      → (run_doings p ds).state.tombstone_rows ≤ t.tombstone_rows → All (λ (r : Carried). known t.contacts r.depositor ≡ true) (run_doings p ds).state.carried
      → Reloaded t (run_doings p ds).state
  -- The post itself loads it, at once or after any further calls and loads: there the depositors are known.
  pub loads_itself : (rest : List Doing) → All ProperDoing rest → Reloaded (run_doings (run_doings p ds) rest).state (run_doings p ds).state

-- Of a list of calls and loads from a post, whatever its setting.
pub record SavedHistory (p : Post) (ds : List Doing) : Type 0 where
  -- the tables are in order after loads as they are without
  pub held_order : HeldOrder (run_doings p ds).state.carried (run_doings p ds).state.tombstones (run_doings p ds).state.next_slot (run_doings p ds).state.carried_cells
  pub own_order : OwnOrder (run_doings p ds).state.contacts (run_doings p ds).state.own (run_doings p ds).state.own_cells
  -- the limits that number 8 asks of a file hold of the holdings
  pub tags_differ : Sorted (λ (a b : Carried). a.tag ≢ b.tag) (run_doings p ds).state.carried
  pub few : length (run_doings p ds).state.carried ≤ max_carried
  pub quota : (id : ContactId) → deposited (run_doings p ds).state.carried id ≤ max_per_verified
  -- a save call that is not refused writes the file
  pub saves : (session area : ℕ) → let l : Lent = record { session = session; call = Calls.save area } in is_refused (answer_to (run_doings p ds) l).answer ≡ false
      → (answer_to (run_doings p ds) l).bytes ≡ (save_held (run_doings p ds).state).bytes
  -- Where the lifetime at the start is above 0, as that of each setting that a setting call takes, each carried row's expiry is.
  pub above_0 : 0 < p.state.courier.lifetime_min → All (λ (r : Carried). 0 < r.expiry_min) (run_doings p ds).state.carried
  -- where each carried row's expiry is above 0, whatever is held is read back; where one is 0, no post loads the file
  pub read_back : All (λ (r : Carried). 0 < r.expiry_min) (run_doings p ds).state.carried → ReadBackHistory p ds
  pub refuses : (t : State) (r : Carried) → r ∈ (run_doings p ds).state.carried → r.expiry_min ≡ 0
      → (load_step t (save_held (run_doings p ds).state).bytes).answer ≡ Calls.refused refusal.SavedFile

-- Of a list of calls and loads on areas: what they hold after it, seen as rows, is what the model's run has, of which all that holds.
pub record SavedOnAreas (p : PostAreas) (ds : List Doing) : Type 0 where
  pub seen : view_post (run_doings_areas p ds) ≡ run_doings (view_post p) ds
  pub history : SavedHistory (view_post p) ds
  -- with a lifetime above 0 at the start, and nothing asked of the rows
  pub read_back : 0 < p.areas.device.courier.lifetime_min → ReadBackHistory (view_post p) ds
  pub screen : ScreenHistory (view_post p) ds
