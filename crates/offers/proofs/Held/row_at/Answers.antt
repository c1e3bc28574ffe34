-- The row's own fields, by its kind.
use Rattle.std.proofs.Common.{ap, sym, lt-ltb, le-ltb}
use Rattle.model.specs.Exchange.{own_envelope_of, carried_envelope_of}
use Rattle.offers.specs.Entries.{held_by_at, own_entry, carried_entry, row_of}
use Rattle.offers.proofs.Held.row_at.Goals as goal

pub returns-then-eq : goal.returns-then-eq
unfolding held_by_at row_of own_envelope_of
returns-then-eq c = rw (lt-ltb _ _ c.if-i-self.true) (rw (sym c.if-eq.ensures) at (ap (λ o. row_of (own_entry c.args.peer o)) c.read-row.ensures))

pub returns-then-i-self : goal.returns-then-i-self
unfolding held_by_at row_of own_envelope_of
returns-then-i-self c = rw (lt-ltb _ _ c.if-i-self.true) (rw (sym c.if-eq.ensures) at (ap (λ o. row_of (own_entry c.args.peer o)) c.read-row.ensures))

pub returns : goal.returns
unfolding held_by_at row_of carried_envelope_of
returns c = rw (le-ltb _ _ c.if-i-self.false) (ap (λ r. row_of (carried_entry r)) c.read-copies.ensures)
