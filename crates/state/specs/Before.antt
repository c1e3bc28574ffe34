-- The row reader as it was before request Five of document 02. A theorem cites it to say what the request changes; no contract does.
-- Assumes nothing.
use Rattle.std.specs.Prelude.{◌≡◌, ℕ, ◌-◌, ◌≤◌, cond, ◌&&◌, List, length, drop, ◌==◌, nat_le, slice_index, slice_set, Some, None, Option}
use Rattle.courier.specs.Courier.{envelope_valid}
use Rattle.state.specs.declared.Carried.{Carried}
use Rattle.state.specs.Held.{Held, carried, tombstone, carried_of, tombstone_in, held_decode}

-- a carried row was read as an envelope that is valid at minute 0: it needed one copy
unfoldable pub carried_in_before_five : List ℕ → Option Held
carried_in_before_five b =
    cond (nat_le 46 (length b) && envelope_valid (length b - 46) (carried_of b).header.copies (carried_of b).header.expiry_min 0)
    (Some (carried (carried_of b) (drop 46 b))) None

unfoldable pub held_decode_before_five : List ℕ → Option Held
held_decode_before_five b = cond (slice_index b 0 == 0) (carried_in_before_five b) (cond (slice_index b 0 == 1) (tombstone_in b) None)

-- is what is read a carried row with no copies
abbrev pub NoCopies : Option Held → Type 0
NoCopies None = ⊥
NoCopies (Some (carried r ct)) = r.header.copies ≡ 0
NoCopies (Some (tombstone t)) = ⊥

-- the row with no copies
abbrev pub without_copies : Carried → Carried
without_copies r = record {
  depositor = r.depositor;
  header = record { tag = r.header.tag; c = r.header.c; expiry_min = r.header.expiry_min; copies = 0 };
}

abbrev pub read_without_copies : Option Held → Option Held
read_without_copies None = None
read_without_copies (Some (carried r ct)) = Some (carried (without_copies r) ct)
read_without_copies (Some (tombstone t)) = Some (tombstone t)

-- What request Five changes of what is read of a blob: "only such rows leave the comparison".
pub record OnlyNoCopies (b : List ℕ) : Type 0 where
  -- what is no carried row with no copies is read as before
  pub same : (NoCopies (held_decode b) → ⊥) → held_decode b ≡ held_decode_before_five b
  -- such a row was refused
  pub refused : NoCopies (held_decode b) → held_decode_before_five b ≡ None
  -- a carried blob with 0 in its byte of copies is read as it was with 1 there, its copies 0 again
  pub as_with_1 : slice_index b 0 ≡ 0 → 46 ≤ length b → slice_index b 45 ≡ 0
      → held_decode b ≡ read_without_copies (held_decode_before_five (slice_set b 45 1))
