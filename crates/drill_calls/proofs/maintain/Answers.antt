-- The call is the record's.
use Rattle.std.proofs.Common.{◌≡◌, ap, length, rules}
use Rattle.model.specs.Calls as calls
use Rattle.wire.specs.Log as log
use Rattle.drill_calls.specs.Asking.{told_with, acted_said, tables_in}
use Rattle.drill_calls.proofs.AskLaws.{asked, mapped}
use Rattle.drill_calls.proofs.DrillLaws.{on_actions}
use Rattle.drill_calls.proofs.StepLaws.{maintenance_told}
use Rattle.drill_calls.proofs.maintain.Goals as goal
use Rattle.drill_run.specs.Drill.{drill_actions}

pub returns : goal.returns
returns c =
    let k : length c.args.tables.now.actions ≡ drill_actions = search rules in
    asked (told_with acted_said) log.maintenance (ap calls.maintenance k) (λ s. maintenance_told s _)
    (on_actions _ (tables_in c.args.device.now c.args.exchange c.args.tables.now) _ c.maintain_couriers-answer.ensures) (mapped acted_said c.maintain_couriers-answer.result (λ a s h. search rules) c.map.ensures.cases)
