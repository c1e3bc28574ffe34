use native.Mathlib.Omega.{arith}
use Rattle.kdf.proofs.KdfLaws.{told_done, told_label, told_out}
use Rattle.kdf.proofs.allowed.Goals as goal

pub returns-then-label-gt-LONGEST_LABEL-clause-value : goal.returns-then-label-gt-LONGEST_LABEL-clause-value
returns-then-label-gt-LONGEST_LABEL-clause-value c = told_label c.args.label.now _ _ (omega arith)

pub returns-then-most-n-clause-value : goal.returns-then-most-n-clause-value
returns-then-most-n-clause-value c = told_out c.args.label.now _ _ (omega arith) (omega arith)

pub returns-clause-value : goal.returns-clause-value
returns-clause-value c = told_done c.args.label.now _ _ (omega arith) (omega arith)
