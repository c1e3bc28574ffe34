use mathlib.Core.Path.{ap, ◌∙◌}
use native.Mathlib.Omega.{arith}
use Rattle.std.specs.Prelude.{Some}
use Rattle.kdf.specs.Kdf.{digest_as}
use Rattle.kdf.proofs.KdfLaws.{label_fits, label_too_long}
use Rattle.kdf.proofs.hash.Goals as goal

pub returns-then-label-gt-LONGEST_LABEL : goal.returns-then-label-gt-LONGEST_LABEL
unfolding digest_as
returns-then-label-gt-LONGEST_LABEL c = label_too_long c.args.label.now _ _ (omega arith)

pub returns : goal.returns
unfolding digest_as
returns c = ap Some c.hash_of.ensures ∙ label_fits c.args.label.now _ _ (omega arith)
