-- Each way out is one row of the model's tests.
use Rattle.std.proofs.Common.{not, refl, sym, ap, ◌∙◌}
use Rattle.holdings.proofs.FindLaws.{same_peer}
use Rattle.inventory.proofs.TestLaws.{is_short, is_wrong, is_unknown, is_other_lem, is_passed}
use Rattle.inventory.proofs.tested.Goals as goal

pub returns-then-too_short : goal.returns-then-too_short
returns-then-too_short c = λ s r. is_short _ _ _ _ _ _ _ _ _ s r (sym c.if-too_short.ensures)

pub returns-then-wrong_rows : goal.returns-then-wrong_rows
returns-then-wrong_rows c = λ s r. is_wrong _ _ _ _ _ _ _ _ _ s r (sym c.if-too_short.ensures) (sym c.if-wrong_rows.ensures)

pub returns-then-unknown : goal.returns-then-unknown
returns-then-unknown c = λ s r.
    is_unknown _ _ _ _ _ _ _ _ _ s r (sym c.if-too_short.ensures)
    (sym c.if-wrong_rows.ensures) (sym c.if-unknown.ensures)

pub returns-then-ne : goal.returns-then-ne
returns-then-ne c = λ s r.
    is_other_lem _ _ _ _ _ _ _ _ _ s r (sym c.if-too_short.ensures)
    (sym c.if-wrong_rows.ensures) (sym c.if-unknown.ensures)
    (ap not (sym (same_peer _ _ (λ p. refl) c.args.to)) ∙ sym c.if-ne.ensures)

pub returns : goal.returns
returns c = λ s r.
    is_passed _ _ _ _ _ _ _ _ _ s r (sym c.if-too_short.ensures)
    (sym c.if-wrong_rows.ensures) (sym c.if-unknown.ensures)
    (ap not (sym (same_peer _ _ (λ p. refl) c.args.to)) ∙ sym c.if-ne.ensures)
