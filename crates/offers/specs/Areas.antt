-- The rows that lie in areas, as lists.
-- Assumes nothing.
use Rattle.std.specs.Prelude.{ℕ, ◌+◌, List}
use Rattle.table.specs.Codec.{Codec, table_of}
use Rattle.rows.specs.declared.Own.{Own}
use Rattle.rows.specs.declared.Carried.{Carried}
use Rattle.courier_core.specs.declared.ContactId.{ContactId}
use Rattle.model.specs.Exchange.{Envelope}
use Rattle.rows.specs.Rows.{own_codec, carried_codec}
use Rattle.offers.specs.declared.area.Rows.{Rows}
use Rattle.offers.specs.declared.Held.{Held}
use Rattle.offers.specs.declared.HeldRow.{HeldRow}
use Rattle.offers.specs.declared.HeldRow.TheVariants as kind
use Rattle.offers.specs.Entries.{held_by_at, Entry, entry_at, envelope_at}

abbrev pub rows_of : {A : Type 0} {w : ℕ} → Codec A → Rows w → List A
rows_of c r = table_of c r.n r.area.now

abbrev pub how_many : Held → ℕ
how_many h = h.own.n + h.carried.n

abbrev pub own_of : Held → List Own
own_of h = rows_of own_codec h.own

abbrev pub carried_of : Held → List Carried
carried_of h = rows_of carried_codec h.carried

-- the held row at i, own rows first
abbrev pub held_row : Held → ℕ → HeldRow
held_row h = held_by_at kind.Own kind.Carried h.own.area.now h.own.n h.carried.area.now

-- what it is to a peer, and its envelope
abbrev pub held_entry : ContactId → Held → ℕ → Entry
held_entry peer h = entry_at peer h.own.area.now h.own.n h.carried.area.now

abbrev pub held_envelope : Held → ℕ → Envelope
held_envelope h = envelope_at h.own.area.now h.own.n h.carried.area.now
