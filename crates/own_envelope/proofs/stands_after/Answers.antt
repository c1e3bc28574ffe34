-- `stands_after`: the number decides for a row of the same contact, else the contacts. Assumes nothing.
use Rattle.std.proofs.Common.{sym, ◌∙◌, le-ltb, eqb-true}
use Rattle.std.proofs.lemmas.Bool.{eqb-false}
use Rattle.own_envelope.proofs.OwnLaws.{after_message, after_contact, not_after}
use Rattle.own_envelope.proofs.stands_after.Goals as goal

pub returns-then-eq : goal.returns-then-eq
returns-then-eq c = after_message _ _ _ _ (eqb-true _ _ (sym c.if-eq.ensures))

pub returns-then-mine-place : goal.returns-then-mine-place
returns-then-mine-place c =
    after_contact _ _ _ _ c.requires.0 (eqb-false _ _ (sym c.if-eq.ensures)) c.added_before.ensures

pub returns-else-mine-place : goal.returns-else-mine-place
returns-else-mine-place c =
    le-ltb _ _ c.if-mine-place.false ∙ not_after _ _ _ _ c.requires.0 (eqb-false _ _ (sym c.if-eq.ensures)) c.requires.1 c.if-mine-place.false
