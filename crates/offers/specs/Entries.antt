-- The held rows, own rows first, then carried ones, and whether each may go to a peer.
-- Assumes nothing.
use Rattle.std.specs.Prelude.{ℕ, ◌-◌, ◌*◌, Bool, true, cond, ◌&&◌, List, ◌++◌, map, nat_lt, Option, Some, None}
use Rattle.octets.specs.Bytes.{part}
use Rattle.courier_core.specs.declared.ContactId.{ContactId}
use Rattle.rows.specs.declared.Own.{Own}
use Rattle.rows.specs.declared.Carried.{Carried}
use Rattle.rows.specs.Rows.{own_of, carried_of, own_width, carried_width}
use Rattle.model.specs.Exchange.{Envelope, own_envelope_of, carried_envelope_of, not_for}
use Rattle.offers.specs.declared.Row.{Row}
use Rattle.offers.specs.declared.HeldRow.{HeldRow}
use Rattle.offers.specs.declared.HeldRow.TheVariants as kind

-- of a held row, by its kind
abbrev pub by_kind : {X : Type 0} → (Own → X) → (Carried → X) → HeldRow → X
by_kind of_own of_carried (kind.Own o) = of_own o
by_kind of_own of_carried (kind.Carried r) = of_carried r

-- of each held row, own rows first; and of the row at i, where there are n own rows
module _ {X : Type 0} (of_own : Own → X) (of_carried : Carried → X) where
  unfoldable pub held_by : List Own → List Carried → List X
  held_by own carried = map of_own own ++ map of_carried carried

  unfoldable pub held_by_at : List ℕ → ℕ → List ℕ → ℕ → X
  held_by_at own n carried i = cond (nat_lt i n) (of_own (own_of (part own (i * own_width) own_width))) (of_carried (carried_of (part carried ((i - n) * carried_width) carried_width)))

-- their envelopes
abbrev pub held_envelopes : List Own → List Carried → List Envelope
held_envelopes = held_by own_envelope_of carried_envelope_of

abbrev pub envelope_at : List ℕ → ℕ → List ℕ → ℕ → Envelope
envelope_at = held_by_at own_envelope_of carried_envelope_of

-- a held row: may it go to the peer, and its envelope
pub record Entry : Type 0 where
  pub goes : Bool
  pub envelope : Envelope

abbrev pub own_entry : ContactId → Own → Entry
own_entry peer o = record { goes = not_for peer o; envelope = own_envelope_of o }

abbrev pub carried_entry : Carried → Entry
carried_entry r = record { goes = true; envelope = carried_envelope_of r }

abbrev pub entries : ContactId → List Own → List Carried → List Entry
entries peer = held_by (own_entry peer) carried_entry

abbrev pub entry_at : ContactId → List ℕ → ℕ → List ℕ → ℕ → Entry
entry_at peer = held_by_at (own_entry peer) carried_entry

-- what is asked of it, if it may go
unfoldable pub row_of : Entry → Option Row
row_of e = cond e.goes (Some (record { tag = e.envelope.head.tag; copies = e.envelope.head.copies })) None

-- it may go, and the test holds of its envelope
abbrev pub passes : (Envelope → Bool) → Entry → Bool
passes p e = e.goes && p e.envelope
