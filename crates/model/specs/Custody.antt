-- `receive_envelope`, `custody` and `carry`: the envelope call.
-- Assumes nothing.
use Rattle.std.specs.Prelude.{ℕ, ◌+◌, ◌*◌, min, Bool, true, false, cond, not, ◌&&◌, ◌||◌, List, [], ◌∷◌, ◌++◌, map, length, ◌==◌, nat_le, nat_lt, slice_index_or}
use Rattle.octets.specs.Bytes.{same_bytes, splice}
use Rattle.courier_core.specs.declared.ContactId.{ContactId}
use Rattle.courier_core.specs.declared.Refusal.{Refusal}
use Rattle.courier_core.specs.declared.Refusal.TheVariants as refusal
use Rattle.table.specs.Lists.{any, count_by, is_at}
use Rattle.courier.specs.declared.Header.{Header}
use Rattle.courier.specs.declared.Custody.{Custody}
use Rattle.courier.specs.declared.Custody.TheVariants as custody
use Rattle.courier.specs.Courier.{envelope_valid, envelope_header}
use Rattle.state.specs.Sizes.{cell_size}
use Rattle.rows.specs.declared.Own.{Own}
use Rattle.rows.specs.declared.Carried.{Carried}
use Rattle.rows.specs.declared.Tombstone.{Tombstone}
use Rattle.rows.specs.declared.Reachable.{Reachable}
use Rattle.rows.specs.Limits.{max_carried, max_carried_bytes, max_per_depositor, max_per_verified, u64_max}
use Rattle.model.specs.Basics.{match_found, same_contact}
use Rattle.model.specs.State.{State, Change, nothing, carried_now, carried_cells_now, next_slot_now, ◌and◌}
use Rattle.model.specs.Calls.{Result, result, only, done, ours, short_replies, short_actions, put_courier, custody_reply, done_with}
use Rattle.model.specs.Contacts.{minute_of, end_of, known, is_verified}
use Rattle.model.specs.Window.{no_reachable, window_rows, wrong_window, strangers, lookup}
use Rattle.model.specs.Cells.{cell_length, cells_used, new_cell}

-- ---- rows by tag

abbrev pub own_of_tag : List ℕ → Own → Bool
own_of_tag tag o = same_bytes o.tag tag

abbrev pub carried_of_tag : List ℕ → Carried → Bool
carried_of_tag tag r = same_bytes r.tag tag

abbrev pub tombstone_of_tag : List ℕ → Tombstone → Bool
tombstone_of_tag tag t = same_bytes t.tag tag

-- ---- `custody`

-- the carried rows that a contact may have
abbrev pub quota : Bool → ℕ
quota verified = cond verified max_per_verified max_per_depositor

-- header and ciphertext bytes of carried rows, in a cell area of so many bytes
unfoldable pub carried_total : ℕ → List Carried → ℕ
carried_total size [] = 0
carried_total size (r ∷ rs) = envelope_header + cell_length size r.cell r.len + carried_total size rs

unfoldable pub deposited : List Carried → ContactId → ℕ
deposited rs peer = count_by (λ (r : Carried). same_contact r.depositor peer) rs

-- Duplicate looks at own rows and at every held row
unfoldable pub duplicate : State → List ℕ → Bool
duplicate s tag = any (own_of_tag tag) s.own || any (carried_of_tag tag) s.carried || any (tombstone_of_tag tag) s.tombstones

unfoldable pub full : State → ContactId → ℕ → Bool
full s peer len =
    nat_le max_carried (length s.carried)
    || nat_lt max_carried_bytes (carried_total (length s.carried_cells) s.carried + (envelope_header + len))
    || nat_le (quota (is_verified s.contacts peer)) (deposited s.carried peer)

-- the tests Off, Invalid, Duplicate, Full: the first that applies is the code
unfoldable pub custody_of : State → ContactId → Header → ℕ → Custody
custody_of s peer head len =
    cond (not s.courier.enabled) custody.Off
    (cond (not (envelope_valid len head.copies head.expiry_min (minute_of s))) custody.Invalid
    (cond (duplicate s head.tag) custody.Duplicate
    (cond (full s peer len) custody.Full custody.Accepted)))

abbrev pub is_accepted : Custody → Bool
is_accepted custody.Accepted = true
is_accepted custody.Full = false
is_accepted custody.Duplicate = false
is_accepted custody.Off = false
is_accepted custody.Invalid = false

-- ---- `carry`

abbrev pub carried_named : State → List ℕ
carried_named s = map (λ (r : Carried). r.cell) s.carried

abbrev pub carried_cell : State → ℕ
carried_cell s = new_cell (length s.carried_cells) (carried_named s)

-- the new row: copies and expiry become the lesser of their own and the configured
unfoldable pub new_carried : State → ContactId → Header → ℕ → Carried
new_carried s depositor head len = record {
  slot = s.next_slot;
  depositor = depositor;
  tag = head.tag;
  c = head.c;
  expiry_min = min head.expiry_min (end_of s);
  copies = min head.copies s.courier.copies;
  len = len;
  cell = carried_cell s;
}

unfoldable pub carry : State → ContactId → Header → List ℕ → Change
carry s depositor head ct =
    carried_now (s.carried ++ (new_carried s depositor head (length ct) ∷ []))
    and carried_cells_now (splice s.carried_cells (carried_cell s * cell_size) ct)
    and next_slot_now (s.next_slot + 1)

-- ---- the envelope call

-- an envelope in the window is ours, whatever else would be said of it
unfoldable pub accepts : State → List Reachable → ContactId → Header → ℕ → Bool
accepts s window peer head len = not (is_at (lookup window head.tag)) && is_accepted (custody_of s peer head len)

-- number 6: a new slot is needed and next slot is 2^64 − 1
abbrev pub last_slot : State → Bool
last_slot s = s.next_slot == u64_max

unfoldable pub envelope_tests : State → ℕ → ℕ → List ℕ → ContactId → Header → ℕ → List (Bool × Refusal)
envelope_tests s replies actions window peer head len =
    (short_replies replies || short_actions s actions, refusal.ShortArea)
    ∷ (wrong_window window, refusal.WindowRows)
    ∷ (not (known s.contacts peer) || strangers s.contacts (window_rows window), refusal.UnknownContact)
    ∷ (accepts s (window_rows window) peer head len && cells_used (length s.carried_cells) (carried_named s), refusal.NoCell)
    ∷ (accepts s (window_rows window) peer head len && last_slot s, refusal.NoSlot)
    ∷ []

unfoldable pub ours_at : Reachable → Result
ours_at entry = only (done_with (ours entry.contact entry.generation entry.idx))

-- the reply is the code; Accepted alone holds a row
unfoldable pub answer_custody : State → ContactId → Header → List ℕ → Custody → Result
answer_custody s peer head ct code =
    result done (custody_reply head.tag code ∷ []) (cond (is_accepted code) (put_courier s.next_slot ∷ []) [])
    (cond (is_accepted code) (carry s peer head ct) nothing)

unfoldable pub receive_envelope : State → List Reachable → ContactId → Header → List ℕ → Result
receive_envelope s window peer head ct =
    match_found (lookup window head.tag) (λ i. ours_at (slice_index_or window i no_reachable))
    (answer_custody s peer head ct (custody_of s peer head (length ct)))
