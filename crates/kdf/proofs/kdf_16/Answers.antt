use mathlib.Core.Path.{◌∙◌}
use native.Mathlib.Omega.{arith}
use Rattle.hmac.specs.Hkdf.{longest}
use Rattle.kdf.specs.Kdf.{kdf}
use Rattle.kdf.proofs.KdfLaws.{key_made, key_refused}
use Rattle.kdf.proofs.kdf_16.Goals as goal

pub returns-in_err-ok : goal.returns-in_err-ok
returns-in_err-ok c = c.from_residual.ensures ∙ key_refused c.args.label.now _ longest (omega arith) c.kdf.ensures.value c.in_err-ok.ensures.variant

pub returns : goal.returns
returns c =
    key_made c.args.label.now (kdf c.args.ikm.now c.args.salt.now c.args.label.now c.args.info.now 16) longest (omega arith) c.kdf.ensures.value
    c.in_ok-ok.ensures.variant c.kdf.ensures.out_after
