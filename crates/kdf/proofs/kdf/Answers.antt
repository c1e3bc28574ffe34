use mathlib.Core.Path.{◌∙◌}
use Rattle.hmac.specs.Hkdf.{longest}
use Rattle.kdf.proofs.KdfLaws.{kept_done, kept_refused, kdf_bytes}
use Rattle.kdf.proofs.kdf.Goals as goal

pub returns-in_err-allowed-clause-out_after : goal.returns-in_err-allowed-clause-out_after
returns-in_err-allowed-clause-out_after c = kept_refused c.args.label.now longest _ c.args.out.now c.in_err-allowed.ensures.value

pub returns-clause-out_after : goal.returns-clause-out_after
returns-clause-out_after c =
    let fits = c.in_ok-allowed.ensures.fits in
    kdf_bytes c.args.ikm.now c.args.salt.now c.args.label.now c.args.info.now _ _ c.args.out.now _ c.head_of-head.ensures c.extract-prk.ensures c.expand.ensures
    ∙ kept_done c.args.label.now longest _ c.args.out.now fits.0 fits.1
