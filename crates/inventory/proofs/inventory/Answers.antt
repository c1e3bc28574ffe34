-- Each way out is one row of the model's tests, or its list.
use Rattle.std.proofs.Common.{sym}
use Rattle.inventory.proofs.OursLaws.{says_short, says_stranger, says_listed}
use Rattle.inventory.proofs.inventory.Goals as goal

pub returns-then-prefixes-lt-PREFIX_AREA : goal.returns-then-prefixes-lt-PREFIX_AREA
returns-then-prefixes-lt-PREFIX_AREA c = λ a. says_short _ _ _ _ _ _ a c.if-prefixes-lt-PREFIX_AREA.true

pub returns-then-not-known : goal.returns-then-not-known
returns-then-not-known c = λ a. says_stranger _ _ _ _ _ _ a c.if-prefixes-lt-PREFIX_AREA.false (sym c.if-not-known.ensures)

pub returns : goal.returns
returns c = λ a.
    says_listed _ _ _ _ _ _ a c.if-prefixes-lt-PREFIX_AREA.false (sym c.if-not-known.ensures)
    c.held_here-held.ensures.own c.held_here-held.ensures.carried c.list_prefixes.ensures
