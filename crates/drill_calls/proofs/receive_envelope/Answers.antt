-- The header is whole, and the call is the record's.
use Rattle.std.proofs.Common.{◌≡◌, [], drop, length, rules}
use Rattle.octets.specs.Bytes.{part}
use Rattle.courier.specs.Courier.{header_of}
use Rattle.std.proofs.lemmas.List.{take_rest}
use Rattle.rows.specs.Limits.{reply_area}
use Rattle.model.specs.Calls as calls
use Rattle.wire.specs.Log as log
use Rattle.drill_calls.specs.Asking.{told_with, envelope_said, tables_in}
use Rattle.drill_calls.proofs.AskLaws.{asked, mapped, header_whole, envelope_whole}
use Rattle.drill_calls.proofs.DrillLaws.{on_both}
use Rattle.drill_calls.proofs.StepLaws.{envelope_told_lem}
use Rattle.drill_calls.proofs.receive_envelope.Goals as goal
use Rattle.drill_run.specs.Drill.{drill_actions}

pub unwrap-header-requires : goal.unwrap-header-requires
unwrap-header-requires c = envelope_whole _ c.requires c.decode.ensures

pub returns : goal.returns
returns c =
    let l : length c.args.tables.now.replies ≡ reply_area = search rules in
    let k : length c.args.tables.now.actions ≡ drill_actions = search rules in
    asked (told_with envelope_said) (log.envelope c.args.peer (header_of (part c.args.body.now 8 37)) (drop 45 c.args.body.now))
    (λ i. calls.envelope (l i) (k i) [] c.args.peer (header_whole _ c.requires c.decode.ensures c.unwrap-header.ensures i) (take_rest c.args.body.now 45 i))
    (λ s. envelope_told_lem s _ _ _ _ _ _) (on_both _ (tables_in c.args.device.now c.args.exchange c.args.tables.now) c.envelope-answer.ensures) (mapped envelope_said c.envelope-answer.result (λ a s h. search rules) c.map.ensures.cases)
