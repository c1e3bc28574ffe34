-- The space, then the number.
use Rattle.text.specs.Text.{spaced}
use Rattle.text.proofs.TextLaws.{puts_then}
use Rattle.text.proofs.put_spaced.Goals as goal

pub returns : goal.returns
unfolding spaced
returns c = puts_then c.put_run-p.ensures c.put_decimal.ensures c.requires
