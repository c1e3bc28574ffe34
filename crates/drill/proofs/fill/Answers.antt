-- Bytes are read behind what is kept, and there is room for them where more input is wanted. Assumes nothing.
use Rattle.std.proofs.Common.{Some, None, ◌∙◌, sym, rules}
use denote.Enum.Bare.{differs_false}
use Rattle.drill_log.specs.contracts.Why.{the_type}
use Rattle.drill_log.specs.declared.Why.TheVariants as cause
use Rattle.drill_turn.proofs.StreamLaws.{room_to_read}
use Rattle.drill.proofs.WrittenLaws.{filled}
use Rattle.drill.proofs.fill.Goals as goal

pub read_behind-requires : goal.read_behind-requires
read_behind-requires c =
    room_to_read c.args.turn _ c.args.input.now _ c.requires c.keep-kept.ensures c.keep-kept.array_long
    (differs_false the_type tt c.args.turn.why cause.More (sym c.ne.ensures ∙ c.if-ne.false))

pub returns-in-Ok : goal.returns-in-Ok
returns-in-Ok c =
    filled (Some _) c.requires c.keep-kept.ensures c.keep-kept.array_long c.in-Ok.ensures (search rules)
    (differs_false the_type tt c.args.turn.why cause.More (sym c.ne.ensures ∙ c.if-ne.false)) c.grow.ensures

pub returns-in-Err : goal.returns-in-Err
returns-in-Err c =
    filled None c.requires c.keep-kept.ensures c.keep-kept.array_long c.in-Err.ensures (search rules)
    (differs_false the_type tt c.args.turn.why cause.More (sym c.ne.ensures ∙ c.if-ne.false)) c.grow-in-Err.ensures
