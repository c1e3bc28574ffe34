-- `octets::get_array`: the first k bytes are copied. Assumes nothing.
use Rattle.std.proofs.Common.{◌≡◌, length, take}
use Rattle.octets.specs.Bytes.{part}
use Rattle.octets.proofs.get_array.Given as goal

abbrev pub invariant-loop-k : goal.invariant-loop-k
invariant-loop-k g l = (take l.k l.bytes ≡ part l.area l.at l.k) × (length l.bytes ≡ g.row.N)
