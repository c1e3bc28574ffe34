-- The rounds before 4 i are done.
use Rattle.std.proofs.Common.{◌≡◌, ◌*◌}
use Rattle.sha_block.specs.Block.{round}
use Rattle.sha_block.specs.Loop.{turns}
use Rattle.sha_block.proofs.rounds.Given as goal

abbrev pub invariant-loop-i : goal.invariant-loop-i
invariant-loop-i l = l.s ≡ turns (round l.w) (4 * l.i) 0 l.initial.s
