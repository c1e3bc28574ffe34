-- What becomes of an envelope, what holding it leaves, and what the call answers, by the model's definitions.
-- Assumes nothing.
use Rattle.std.specs.Prelude.{◌≡◌, ℕ, ◌+◌, ◌*◌, ◌<◌, ◌≤◌, min, cond, List, [], ◌∷◌, ◌++◌, length, ◌==◌, Result, Ok, Err}
use Rattle.octets.specs.Bytes.{splice}
use Rattle.courier_core.specs.Core.{first_of}
use Rattle.courier_core.specs.declared.ContactId.{ContactId}
use Rattle.courier_core.specs.declared.Refusal.{Refusal}
use Rattle.courier_core.specs.declared.Refusal.TheVariants as refusal
use Rattle.courier.specs.declared.Header.{Header}
use Rattle.courier.specs.declared.Custody.{Custody}
use Rattle.table.specs.Rows.{held}
use Rattle.table.specs.Codec.{table_of, with_table}
use Rattle.state.specs.Sizes.{cell_size}
use Rattle.rows.specs.declared.Device.{Device}
use Rattle.rows.specs.declared.Carried.{Carried}
use Rattle.rows.specs.declared.Reachable.{Reachable}
use Rattle.rows.specs.Rows.{carried_codec, carried_width}
use Rattle.rows.specs.Limits.{max_cells, u64_max}
use Rattle.model.specs.Basics.{match_found}
use Rattle.model.specs.State.{State}
use Rattle.model.specs.Calls as calls
use Rattle.model.specs.Calls.{Result as Outcome}
use Rattle.model.specs.Contacts.{lifetime_end}
use Rattle.model.specs.Window.{window_rows, lookup}
use Rattle.model.specs.Cells.{cells_used, new_cell}
use Rattle.model.specs.Custody.{is_accepted, custody_of, carried_named, carried_cell, envelope_tests}
use Rattle.model.specs.Areas.{Areas}
use Rattle.model.specs.Lent.{device_in, contacts_in, own_in, carried_in, tombstones_in, carried_cells_in}
use Rattle.envelope.specs.declared.Choice.{Choice}
use Rattle.envelope.specs.declared.Choice.TheVariants as choice
use Rattle.envelope.specs.declared.Answer.{Answer}
use Rattle.envelope.specs.declared.Answer.TheVariants as answer

-- ---- what becomes of an envelope

-- the model's tests, then the window, then the code: an accepted one gets a cell
unfoldable pub envelope_choice : State → ℕ → ℕ → List ℕ → ContactId → Header → ℕ → Result Choice Refusal
envelope_choice s replies actions window peer head len =
    let code : Custody = custody_of s peer head len in
    first_of (envelope_tests s replies actions window peer head len) Err
    (match_found (lookup (window_rows window) head.tag) (λ i. Ok (choice.Ours i)) (cond (is_accepted code) (Ok (choice.Take (carried_cell s))) (Ok (choice.Code code))))

-- a cell that is taken, or why none is
abbrev pub taken : Result ℕ Refusal → Result Choice Refusal
taken (Err why) = Err why
taken (Ok cell) = Ok (choice.Take cell)

-- `NoCell` and `NoSlot` of an accepted envelope, in a cell area of so many bytes whose rows name these cells, or the cell that it gets
unfoldable pub placed : ℕ → List ℕ → ℕ → Result Choice Refusal
placed size named next =
    first_of ((cells_used size named, refusal.NoCell) ∷ ((next == u64_max), refusal.NoSlot) ∷ []) Err
    (Ok (choice.Take (new_cell size named)))

-- what the code says of an envelope that is not in the window
unfoldable pub custody_choice : State → ContactId → Header → ℕ → Result Choice Refusal
custody_choice s peer head len =
    let code : Custody = custody_of s peer head len in
    cond (is_accepted code) (placed (length s.carried_cells) (carried_named s) s.next_slot) (Ok (choice.Code code))

-- ---- what holding it leaves

-- `new_carried` by the device
unfoldable pub new_row : Device → ContactId → Header → ℕ → ℕ → Carried
new_row d depositor head len cell = record {
  slot = d.next_slot;
  depositor = depositor;
  tag = head.tag;
  c = head.c;
  expiry_min = min head.expiry_min (lifetime_end d.now_s d.courier);
  copies = min head.copies d.courier.copies;
  len = len;
  cell = cell;
}

-- one carried row more: so many are held now, and the next slot is taken
unfoldable pub device_after : Device → ℕ → Device
device_after d n = record d { carried = n; next_slot = d.next_slot + 1 }

-- there is a row, a slot and a cell for a ciphertext of len bytes
pub record Room (d : Device) (len cell carried cells : ℕ) : Type 0 where
  pub row : held carried carried_width d.carried * carried_width + carried_width ≤ carried
  pub slot : d.next_slot < u64_max
  pub one : cell < max_cells
  pub whole : cell * cell_size + cell_size ≤ cells
  pub fits : len ≤ cell_size

-- the device, the carried rows and the cells once an envelope is held
pub record Carries (d : Device) (depositor : ContactId) (head : Header) (ct : List ℕ) (cell : ℕ) (r : Device) (a x c y : List ℕ) : Type 0 where
  pub device : r ≡ device_after d (length (table_of carried_codec d.carried a ++ (new_row d depositor head (length ct) cell ∷ [])))
  pub rows : x ≡ with_table carried_codec a (table_of carried_codec d.carried a ++ (new_row d depositor head (length ct) cell ∷ []))
  pub cells : y ≡ splice c (cell * cell_size) ct

-- ---- the call

abbrev pub ours_of : Reachable → Answer
ours_of r = answer.Ours r.contact r.generation r.idx

-- where it is not refused: what is ours, or how many replies and actions are listed
abbrev pub says_of : calls.Detail → ℕ → ℕ → Answer
says_of (calls.ours contact generation idx) replies actions = answer.Ours contact generation idx
says_of other replies actions = answer.Done replies actions

unfoldable pub envelope_says : Outcome → Answer
envelope_says o = says_of (calls.detail o.answer) (length o.replies) (length o.actions)

-- what the call is lent, set into areas that are anything otherwise
abbrev pub envelope_in : Device → (contacts own carried tombstones carried_cells : List ℕ) → Areas → Areas
envelope_in d contacts own carried tombstones carried_cells a =
    device_in d (contacts_in contacts (own_in own (carried_in carried (tombstones_in tombstones (carried_cells_in carried_cells a)))))
