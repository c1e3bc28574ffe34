use Rattle.std.proofs.Common.{ap, ◌∙◌}
use Rattle.octets.specs.Bytes.{splice}
use Rattle.table.proofs.typed.Row.put.Goals as goal

pub returns : goal.returns
returns g c = c.copy_in.ensures ∙ ap (splice c.args.area.now c.args.at) c.bytes.ensures.value
