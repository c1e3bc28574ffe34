-- `octets::copy_in`: the first k bytes are copied. Assumes nothing.
use Rattle.std.proofs.Common.{◌≡◌}
use Rattle.octets.specs.Bytes.{part, splice}
use Rattle.octets.proofs.copy_in.Given as goal

abbrev pub invariant-loop-k : goal.invariant-loop-k
invariant-loop-k l = l.dst ≡ splice l.initial.dst l.at (part l.src 0 l.k)
