-- The digits of the bytes before i stand at their place.
use mathlib.Core.Path.{◌≡◌}
use lib.ListN.{take}
use Rattle.octets.specs.Bytes.{splice}
use Rattle.columns.specs.Columns.{hexes}
use Rattle.columns.proofs.put_hex.Given as goal

abbrev pub invariant-loop-i : goal.invariant-loop-i
invariant-loop-i l = l.out ≡ splice l.initial.out l.at (hexes (take l.i l.bytes))
