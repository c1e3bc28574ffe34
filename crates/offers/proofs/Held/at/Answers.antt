-- Own rows come first.
use Rattle.std.proofs.Common.{ap, lt-ltb, le-ltb}
use Rattle.offers.specs.Entries.{held_by_at}
use Rattle.offers.specs.declared.HeldRow.TheVariants as kind
use Rattle.offers.proofs.Held.at.Goals as goal

pub returns-then-i-self : goal.returns-then-i-self
unfolding held_by_at
returns-then-i-self c = rw (lt-ltb _ _ c.if-i-self.true) (ap kind.Own c.read.ensures)

pub returns : goal.returns
unfolding held_by_at
returns c = rw (le-ltb _ _ c.if-i-self.false) (ap kind.Carried c.read-2.ensures)
