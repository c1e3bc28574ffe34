-- The call is the record's.
use Rattle.std.proofs.Common.{refl, rules}
use Rattle.wire.specs.Log as log
use Rattle.drill_calls.specs.Asking.{told_with, done_said, tables_in}
use Rattle.drill_calls.proofs.AskLaws.{asked, mapped}
use Rattle.drill_calls.proofs.DrillLaws.{on_none}
use Rattle.drill_calls.proofs.StepLaws.{session_told}
use Rattle.drill_calls.proofs.open_session.Goals as goal

pub returns : goal.returns
returns c =
    asked (told_with done_said) (log.session c.args.peer) refl (λ s. session_told s _)
    (on_none _ (tables_in c.args.device c.args.exchange.now c.args.tables.now) _ _ c.fresh_exchange-answer.ensures.does) (mapped done_said c.fresh_exchange-answer.result (λ a s h. search rules) c.map.ensures.cases)
