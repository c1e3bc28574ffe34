-- What is left of the schedule: of the 80 words, those from t on.
use Rattle.std.proofs.Common.{◌≡◌, ◌-◌, length, take}
use Rattle.octets.specs.Bytes.{part}
use Rattle.sha_block.specs.Block.{longer, schedule}
use Rattle.sha_block.specs.Loop.{turns}
use Rattle.sha_block.proofs.load.Given as goal

abbrev pub invariant-loop-t : goal.invariant-loop-t
invariant-loop-t l =
    (length l.w ≡ 80) × (schedule (part l.m l.at 128) ≡ turns (longer (part l.m l.at 128)) (80 - l.t) l.t (take l.t l.w))
