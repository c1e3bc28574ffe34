-- The place, what it is, and the words of the reason. Assumes nothing.
use Rattle.std.proofs.Common.{ap, ◌∙◌, arith}
use Rattle.drill_reason.specs.Message.{words_of, message_of}
use Rattle.drill_reason.proofs.MessageLaws.{words_put, texts3}
use Rattle.drill_reason.proofs.message_at.Goals as goal

pub returns : goal.returns
unfolding message_of
returns c =
    texts3 c.put_place-p.ensures c.put_run-p.ensures (words_put _ (c.words.ensures ∙ ap words_of c.reason_of-reason.ensures) c.put_run.ensures) (omega arith)
    c.requires
