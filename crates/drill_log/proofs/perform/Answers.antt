-- The call's contract and the lines' are those of the model's step. Assumes nothing.
use Rattle.model.specs.Areas.{no_areas}
use Rattle.std.proofs.Common.{arith, rules}
use Rattle.octets.proofs.Numbers.{bytes_of}
use Rattle.drill_run.proofs.RecordLaws.{body_proper}
use Rattle.drill_log.proofs.RunLaws.{lines_room, lines_within}
use Rattle.drill_log.proofs.PerformLaws.{performs}
use Rattle.drill_log.proofs.perform.Goals as goal

pub record_lines-put-requires : goal.record_lines-put-requires
record_lines-put-requires c = lines_room _ _ _ _ _ _ (search rules) (search rules) (omega (arith, c.requires))

pub returns : goal.returns
returns c = record {
  within = lines_within _ _ _ _ (search rules) (search rules) (c.record_lines-put.ensures no_areas);
  done = performs _ (body_proper _ (bytes_of c.args.body.now (λ i. search rules)) _) _ (search rules) (search rules)
      c.ask-said.ensures c.record_lines-put.ensures (omega (arith, c.requires)) c.stops.ensures;
}
