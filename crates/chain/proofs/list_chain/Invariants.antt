-- `chain::list_chain` meets its contract: after i turns the keys of i indices are written. Assumes nothing.
use Rattle.std.proofs.Common.{◌≡◌, map, length}
use Rattle.octets.specs.Bytes.{splice}
use Rattle.table.specs.Rows.{join}
use Rattle.chain.specs.Chain.{count, key_row}
use Rattle.chain.proofs.list_chain.Given as goal

abbrev pub invariant-loop-i : goal.invariant-loop-i
invariant-loop-i l = (l.room ≡ splice l.initial.room 0 (join (map (key_row l.chain) (count l.next l.i)))) × (length l.room ≡ length l.initial.room)
