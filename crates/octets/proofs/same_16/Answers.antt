-- Two words that differ nowhere are equal, and so are their bytes.
use Rattle.std.proofs.Common.{ap, ◌∙◌, arith}
use Rattle.octets.specs.Bytes.{part, same_bytes}
use Rattle.octets.proofs.Parts.{part_whole}
use Rattle.octets.proofs.Words.{same_16}
use Rattle.octets.proofs.same_16.Goals as goal

pub returns : goal.returns
returns c =
    same_16 c.args.area.now c.args.key.now c.low_first.ensures.1 c.low_first-2.ensures.1 c.args.at 0 c.requires.0 (omega (arith, c.requires.1)) c.low_first.ensures.0 c.low_first-2.ensures.0
    c.low_first-3.ensures.0 c.low_first-4.ensures.0
    ∙ ap (same_bytes (part c.args.area.now c.args.at 16)) (part_whole c.args.key.now 16 c.requires.1)
