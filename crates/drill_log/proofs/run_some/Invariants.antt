-- From record to record, the lines so far and those of the rest are what the whole prints. Assumes nothing.
use Rattle.std.proofs.Common.{◌-◌, length}
use Rattle.drill_calls.specs.Asking.{tables_areas}
use Rattle.drill_log.proofs.RunLaws.{InRun}
use Rattle.drill_log.proofs.run_some.Given as goal

abbrev pub invariant-loop-ran : goal.invariant-loop-ran
invariant-loop-ran l =
    InRun (tables_areas l.initial.device l.initial.exchange l.initial.tables) (tables_areas l.device l.exchange l.tables) l.input l.out l.ran.used l.ran.put l.ran.count l.ran.why

abbrev pub decreases-loop-ran : goal.decreases-loop-ran
decreases-loop-ran l = length l.input - l.ran.used
