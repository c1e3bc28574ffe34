-- `octets::move_down`: the first k bytes are moved. Assumes nothing.
use Rattle.std.proofs.Common.{◌≡◌}
use Rattle.octets.specs.Bytes.{part, splice}
use Rattle.octets.proofs.move_down.Given as goal

abbrev pub invariant-loop-k : goal.invariant-loop-k
invariant-loop-k l = l.area ≡ splice l.initial.area l.to (part l.initial.area l.from l.k)
