-- `octets::move_up`: the bytes from k on are moved. Assumes nothing.
use Rattle.std.proofs.Common.{◌≡◌, ◌+◌, ◌-◌}
use Rattle.octets.specs.Bytes.{part, splice}
use Rattle.octets.proofs.move_up.Given as goal

abbrev pub invariant-loop-k : goal.invariant-loop-k
invariant-loop-k l = l.area ≡ splice l.initial.area (l.to + l.k) (part l.initial.area (l.from + l.k) (l.n - l.k))
