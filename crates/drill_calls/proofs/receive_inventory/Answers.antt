-- The prefixes are what follows the peer, and the call is the record's.
use Rattle.std.proofs.Common.{◌≡◌, [], drop, length, rules}
use Rattle.std.proofs.lemmas.List.{take_rest}
use Rattle.rows.specs.Limits.{reply_area}
use Rattle.model.specs.Calls as calls
use Rattle.wire.specs.Log as log
use Rattle.drill_calls.specs.Asking.{told_with, inventory_said, tables_in}
use Rattle.drill_calls.proofs.AskLaws.{asked, mapped}
use Rattle.drill_calls.proofs.DrillLaws.{on_replies}
use Rattle.drill_calls.proofs.StepLaws.{inventory_told_lem}
use Rattle.drill_calls.proofs.receive_inventory.Goals as goal

pub returns : goal.returns
returns c =
    let l : length c.args.tables.now.replies ≡ reply_area = search rules in
    asked (told_with inventory_said) (log.inventory c.args.peer (drop 8 c.args.body.now)) (λ i. calls.inventory_received (l i) [] c.args.peer (take_rest c.args.body.now 8 i))
    (λ s. inventory_told_lem s _ _ _ _) (on_replies _ (tables_in c.args.device c.args.exchange.now c.args.tables.now) _ c.receive_inventory-answer.ensures.does) (mapped inventory_said c.receive_inventory-answer.result (λ a s h. search rules) c.map.ensures.cases)
