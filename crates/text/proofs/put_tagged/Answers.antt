use Rattle.text.proofs.TextLaws.{puts_then}
use Rattle.text.proofs.put_tagged.Goals as goal

pub returns : goal.returns
returns c = puts_then c.put_run-p.ensures c.put_hex.ensures c.requires
