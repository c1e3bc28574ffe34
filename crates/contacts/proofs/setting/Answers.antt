-- `setting`: by what `CourierConfig::new` says. Assumes nothing.
use Rattle.std.proofs.Common.{sym, ◌∙◌}
use Rattle.std.proofs.lemmas.Result.{err_from_is_err_and}
use Rattle.contacts.proofs.ContactLaws.{set, not_set}
use Rattle.contacts.proofs.setting.Goals as goal

pub returns : goal.returns
returns c = set _ _ _ _ (sym c.in_ok-device.was ∙ c.new.ensures.answer)

pub returns-in_err-device : goal.returns-in_err-device
returns-in_err-device c a =
    let p = err_from_is_err_and c.from_residual.result c.from_residual.ensures.1 in
    rw (p.1, p.2) (not_set _ _ _ _ (sym c.in_err-device.was ∙ c.new.ensures.answer) a)
