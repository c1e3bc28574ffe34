-- The call is the record's.
use Rattle.std.proofs.Common.{◌≡◌, length, rules}
use Rattle.model.specs.Calls as calls
use Rattle.wire.specs.Log as log
use Rattle.drill_calls.specs.Asking.{told_with, acted_said, tables_in}
use Rattle.drill_calls.proofs.AskLaws.{asked, mapped}
use Rattle.drill_calls.proofs.DrillLaws.{on_actions}
use Rattle.drill_calls.proofs.StepLaws.{custody_told_lem}
use Rattle.drill_calls.proofs.receive_custody.Goals as goal
use Rattle.drill_run.specs.Drill.{drill_actions}

pub returns : goal.returns
returns c =
    let k : length c.args.tables.now.actions ≡ drill_actions = search rules in
    asked (told_with acted_said) (log.custody c.args.peer c.args.tag c.args.code) (λ i. calls.custody_answer (k i) c.args.peer c.args.tag c.args.code)
    (λ s. custody_told_lem s _ _ _ _) (on_actions _ (tables_in c.args.device.now c.args.exchange.now c.args.tables.now) _ c.handed_over-answer.ensures.does) (mapped acted_said c.handed_over-answer.result (λ a s h. search rules) c.map.ensures.cases)
