-- `chain::list_chains` meets its contract: the chains from i on are listed, and a turn lists the one before them. Assumes nothing.
use Rattle.std.proofs.Common.{◌≡◌, ◌/◌, length, drop}
use Rattle.table.specs.Rows.{all_rows}
use Rattle.chain.specs.Chain.{chains_keys, ChainsListed}
use Rattle.chain.proofs.list_chains.Given as goal

abbrev pub invariant-loop-i : goal.invariant-loop-i
invariant-loop-i l =
    ChainsListed (chains_keys (length l.initial.room / 6) (drop l.i (all_rows 10 l.chains))) l.initial.room l.room l.n × (length l.room ≡ length l.initial.room)
