-- `carry`: the row, the ciphertext and the device. Assumes nothing.
use Rattle.std.proofs.Common.{refl}
use Rattle.envelope.specs.Answers.{device_after}
use Rattle.envelope.proofs.CallLaws.{carries}
use Rattle.envelope.proofs.carry.Goals as goal

pub returns : goal.returns
unfolding device_after
returns c = carries c.new_row-row.ensures c.push-n.ensures c.copy_in.ensures refl
