-- The blocks before i are hashed.
use Rattle.std.proofs.Common.{◌≡◌}
use Rattle.sha_block.specs.Loop.{turns}
use Rattle.sha384.specs.Sha384.{next}
use Rattle.sha384.proofs.blocks.Given as goal

abbrev pub invariant-loop-i : goal.invariant-loop-i
invariant-loop-i l = l.h ≡ turns (next l.m) l.i 0 l.initial.h
