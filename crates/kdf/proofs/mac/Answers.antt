use mathlib.Core.Path.{◌∙◌}
use native.Mathlib.Omega.{arith}
use Rattle.kdf.specs.Kdf.{tag, mac, longest_tag}
use Rattle.kdf.proofs.KdfLaws.{key_made, key_refused}
use Rattle.kdf.proofs.mac.Goals as goal

pub returns-in_err-ok : goal.returns-in_err-ok
returns-in_err-ok c = c.from_residual.ensures ∙ key_refused c.args.label.now _ longest_tag (omega arith) c.tag.ensures.value c.in_err-ok.ensures.variant

pub returns : goal.returns
unfolding mac
returns c =
    key_made c.args.label.now (tag 16 c.args.key.now c.args.label.now c.args.x.now) longest_tag (omega arith) c.tag.ensures.value c.in_ok-ok.ensures.variant
    c.tag.ensures.out_after
