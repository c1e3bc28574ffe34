-- What the call stored tombstone says that is not refused.
-- Assumes nothing.
use Rattle.std.specs.Prelude.{ℕ, length}
use Rattle.model.specs.Calls.{Result as Outcome}

-- how many actions are listed
abbrev pub says_stored : Outcome → ℕ
says_stored o = length o.actions
