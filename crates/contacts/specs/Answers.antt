-- What the calls of this crate answer, in document 01's terms.
-- Assumes nothing.
use Rattle.model.specs.Calls.{Result as Outcome}

-- nothing more, where it is not refused
abbrev pub said_of : Outcome → Unit {0}
said_of o = tt
