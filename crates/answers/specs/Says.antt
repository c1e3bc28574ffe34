-- What the calls tomb, report opened and report failed say that are not refused.
-- Assumes nothing.
use Rattle.std.specs.Prelude.{cond, length}
use Rattle.model.specs.Calls.{Result as Outcome, is_malformed}
use Rattle.answers.specs.declared.Said.{Said}
use Rattle.answers.specs.declared.Said.TheVariants as said

-- malformed, or how many actions are listed
abbrev pub says : Outcome → Said
says o = cond (is_malformed o.answer) said.Malformed (said.Done (length o.actions))
