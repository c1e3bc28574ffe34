-- `custody_choice`: by the code. Assumes nothing.
use Rattle.std.proofs.Common.{sym, ap, ◌∙◌}
use Rattle.std.proofs.lemmas.Result.{err_from_is_err_and}
use Rattle.model.specs.Custody.{is_accepted}
use Rattle.model.proofs.Corners.{another_code}
use Rattle.envelope.specs.Answers.{taken}
use Rattle.envelope.proofs.ChoiceLaws.{taken_in, not_taken}
use Rattle.envelope.proofs.custody_choice.Goals as goal

pub returns-in_err-place-in-Accepted : goal.returns-in_err-place-in-Accepted
returns-in_err-place-in-Accepted c = λ a L.
    let e = c.custody.ensures a L in
    let p = err_from_is_err_and c.from_residual.result c.from_residual.ensures.1 in
    rw (p.1, p.2) (ap taken (sym c.in_err-place-in-Accepted.was) ∙ c.place.ensures ∙ taken_in L _ _ _ _ e (ap is_accepted c.in-Accepted.is))

pub returns-in_ok-place-in-Accepted : goal.returns-in_ok-place-in-Accepted
returns-in_ok-place-in-Accepted c = λ a L.
    let e = c.custody.ensures a L in
    ap taken (sym c.in_ok-place-in-Accepted.was) ∙ c.place.ensures ∙ taken_in L _ _ _ _ e (ap is_accepted c.in-Accepted.is)

pub returns-in_default : goal.returns-in_default
returns-in_default c = λ a L.
    let e = c.custody.ensures a L in
    not_taken L _ _ _ _ e (another_code _ c.in_default.not-Accepted)
