-- `insert_own`: the row is put in at its place. Assumes nothing.
use Rattle.std.proofs.Common.{refl}
use Rattle.own_envelope.proofs.OwnLaws.{place_le, inserted}
use Rattle.own_envelope.proofs.insert_own.Goals as goal

pub insert-requires-clause-place : goal.insert-requires-clause-place
insert-requires-clause-place c = place_le _ _ _ _ _ c.own_place-i.ensures refl

pub returns : goal.returns
returns c = inserted _ _ _ c.own_place-i.ensures c.insert.ensures
