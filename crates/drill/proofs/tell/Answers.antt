-- The message stands at the front of its area, and is sent from there. Assumes nothing.
use Rattle.std.proofs.Common.{◌-◌, arith}
use Rattle.octets.specs.Bytes.{part}
use Rattle.drill_reason.specs.Reason.{reason_of}
use Rattle.drill_reason.specs.Message.{message_of}
use Rattle.drill.specs.Written.{told_of}
use Rattle.drill.proofs.WrittenLaws.{takes_text}
use Rattle.drill.proofs.tell.Goals as goal

pub returns : goal.returns
unfolding told_of part
returns c =
    takes_text (omega arith) c.message_at-n.ensures
    (λ i. message_of (c.further-number.ensures i) (c.further-byte.ensures i) (reason_of (part c.args.input.now c.args.turn.from (c.args.turn.have - c.args.turn.from))))
    c.write_front.ensures
