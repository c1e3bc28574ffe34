-- What is left of the schedule: of the 80 words, those from t on. They do not depend on the block.
use Rattle.std.proofs.Common.{◌≡◌, ℕ, ◌-◌, List, length, take}
use Rattle.sha_block.specs.Block.{longer}
use Rattle.sha_block.specs.Loop.{turns}
use Rattle.sha_block.proofs.extend.Given as goal

abbrev pub invariant-loop-t : goal.invariant-loop-t
invariant-loop-t l =
    (length l.w ≡ 80) × ((b : List ℕ) → turns (longer b) 64 16 (take 16 l.initial.w) ≡ turns (longer b) (80 - l.t) l.t (take l.t l.w))
