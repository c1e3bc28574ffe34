-- `octets::same_run`: the differences gathered so far are 0 just where the first k bytes are the same. Assumes nothing.
use Rattle.std.proofs.Common.{◌≡◌}
use lib.Dec.{eqb}
use Rattle.octets.specs.Bytes.{part, same_bytes}
use Rattle.octets.proofs.same_run.Given as goal

abbrev pub invariant-loop-k : goal.invariant-loop-k
invariant-loop-k l = eqb l.acc 0 ≡ same_bytes (part l.area l.at l.k) (part l.key 0 l.k)
