-- The call is the record's.
use Rattle.std.proofs.Common.{◌≡◌, length, rules}
use Rattle.rows.specs.Limits.{reply_area}
use Rattle.model.specs.Calls as calls
use Rattle.wire.specs.Log as log
use Rattle.drill_calls.specs.Asking.{told_with, fetch_said, tables_in}
use Rattle.drill_calls.proofs.AskLaws.{asked}
use Rattle.drill_calls.proofs.DrillLaws.{on_replies}
use Rattle.drill_calls.proofs.StepLaws.{fetch_told_lem}
use Rattle.drill_calls.proofs.fetch_tagged.Goals as goal

pub returns : goal.returns
returns c =
    let l : length c.args.tables.now.replies ≡ reply_area = search rules in
    asked (told_with fetch_said) (log.fetch c.args.peer c.args.tag) (λ i. calls.fetch (l i) c.args.peer c.args.tag)
    (λ s. fetch_told_lem s _ _ _ _ _) (on_replies _ (tables_in c.args.device c.args.exchange c.args.tables.now) _ c.fetch.ensures) c.fetch_said.ensures
