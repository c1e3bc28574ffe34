-- The tests in order, and then one match on what is found.
use Rattle.std.proofs.Common.{sym, ap, ◌∙◌}
use Rattle.tombs.specs.Tombs.{met_of}
use Rattle.tombs.proofs.CallLaws.{tomb_short, tomb_stranger, tomb_turned, tomb_ended, tomb_wrong, tomb_unknown}
use Rattle.tombs.proofs.receive_tomb.Goals as goal

pub returns-then-short_actions : goal.returns-then-short_actions
returns-then-short_actions c a = tomb_short _ _ _ _ _ _ _ _ _ a c.if-short_actions.ensures

pub returns-then-not-known : goal.returns-then-not-known
returns-then-not-known c a =
    tomb_stranger _ _ _ _ _ _ _ _ _ a c.if-short_actions.ensures c.if-not-known.ensures

pub returns-in-CarriedAt : goal.returns-in-CarriedAt
returns-in-CarriedAt c a =
    tomb_turned _ _ _ _ _ _ _ _ _ a c.if-short_actions.ensures c.if-not-known.ensures (ap met_of (sym c.in-CarriedAt.is) ∙ c.find.ensures.is) c.end_carried.ensures

pub returns-in-OwnAt : goal.returns-in-OwnAt
returns-in-OwnAt c a =
    tomb_ended _ _ _ _ _ _ _ _ _ a c.if-short_actions.ensures c.if-not-known.ensures (ap met_of (sym c.in-OwnAt.is) ∙ c.find.ensures.is) c.end_own.ensures

pub returns-in-WrongSecret : goal.returns-in-WrongSecret
returns-in-WrongSecret c a =
    tomb_wrong _ _ _ _ _ _ _ _ _ a c.if-short_actions.ensures c.if-not-known.ensures c.find.ensures.is (ap met_of c.in-WrongSecret.is)

pub returns-in-UnknownTag : goal.returns-in-UnknownTag
returns-in-UnknownTag c a =
    tomb_unknown _ _ _ _ _ _ _ _ _ a c.if-short_actions.ensures c.if-not-known.ensures c.find.ensures.is (ap met_of c.in-UnknownTag.is)
