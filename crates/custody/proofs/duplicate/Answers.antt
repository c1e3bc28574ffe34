-- `custody::duplicate`: the first of the three tables that has the tag decides. Assumes nothing.
use Rattle.std.proofs.Common.{true, false, sym, refl, ◌∙◌}
use Rattle.holdings.proofs.RowLaws.{clash}
use Rattle.custody.proofs.Laws.{duplicate_of}
use Rattle.custody.proofs.duplicate.Goals as goal
use Rattle.custody.proofs.duplicate.Goals.{then-own_tagged, else-own_tagged}

pub returns-then-carried_tagged : goal.returns-then-carried_tagged
returns-then-carried_tagged c = λ a ed eo ec et.
    elim c.if-own_tagged.branch [
      | then-own_tagged w ↦ c.if-carried_tagged.true ∙ sym (duplicate_of _ a ed eo ec et true _ _ (sym c.own_tagged.ensures ∙ w.if-own_tagged.true) refl refl)
      | else-own_tagged w ↦
          c.if-carried_tagged.true ∙ sym (duplicate_of _ a ed eo ec et false true _ (sym c.own_tagged.ensures ∙ w.if-own_tagged.false)
          (sym w.carried_tagged.ensures ∙ sym w.value-is ∙ c.if-carried_tagged.true) refl)
    ]

pub returns-else-carried_tagged : goal.returns-else-carried_tagged
returns-else-carried_tagged c = λ a ed eo ec et.
    elim c.if-own_tagged.branch [
      | then-own_tagged w ↦ clash _ (w.value-is ∙ w.if-own_tagged.true) c.if-carried_tagged.false
      | else-own_tagged w ↦
          sym (duplicate_of _ a ed eo ec et false false _ (sym c.own_tagged.ensures ∙ w.if-own_tagged.false)
          (sym w.carried_tagged.ensures ∙ sym w.value-is ∙ c.if-carried_tagged.false) (sym c.tombstoned.ensures))
    ]
