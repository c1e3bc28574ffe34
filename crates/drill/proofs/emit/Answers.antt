-- They are whole where as many were sent as were asked. Assumes nothing.
use Rattle.drill.proofs.WrittenLaws.{wrote}
use Rattle.drill.proofs.emit.Goals as goal

pub returns-then-not-whole : goal.returns-then-not-whole
returns-then-not-whole c = wrote _ c.write_front-took.ensures

pub returns-else-not-whole : goal.returns-else-not-whole
returns-else-not-whole c = wrote _ c.write_front-took.ensures
