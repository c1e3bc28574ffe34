-- `fresh_exchange`: by its tests, in document 01's order. Assumes nothing.
use Rattle.std.proofs.Common.{sym}
use Rattle.contacts.proofs.ContactLaws.{too_short, stranger, opens}
use Rattle.contacts.proofs.FreshLaws.{fresh_lends}
use Rattle.contacts.proofs.fresh_exchange.Goals as goal

pub returns-then-short_exchange : goal.returns-then-short_exchange
returns-then-short_exchange c = fresh_lends (λ a. too_short c.args.device _ _ _ _ _ a (sym c.if-short_exchange.ensures))

pub returns-then-not-known : goal.returns-then-not-known
returns-then-not-known c =
    fresh_lends (λ a. stranger c.args.device _ _ _ _ _ a (sym c.if-short_exchange.ensures) (sym c.if-not-known.ensures))

pub returns : goal.returns
returns c =
    fresh_lends (λ a. opens c.args.device _ _ _ _ _ a (sym c.if-short_exchange.ensures) (sym c.if-not-known.ensures) c.fresh.ensures)
