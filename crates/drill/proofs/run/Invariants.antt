-- Between two turns the areas hold what the run of the bytes so far leaves, the rest stands in the buffer, and all lines so far were sent. Assumes nothing.
use Rattle.std.specs.Prelude.{replicate}
use Rattle.drill_run.specs.Drill.{drill_start}
use Rattle.drill_calls.specs.Asking.{tables_areas}
use Rattle.drill.specs.Written.{Sending}
use Rattle.drill.proofs.run.Given as goal

abbrev pub invariant-loop : goal.invariant-loop
invariant-loop l =
    Sending (drill_start (replicate 33024 0) (replicate 33024 0)) (tables_areas l.turn.device l.turn.exchange l.tables) l.turn l.input l.total
