-- Four texts, one behind the other. Assumes nothing.
use native.Mathlib.Omega.{arith}
use Rattle.drill_reason.specs.Message.{place_of}
use Rattle.drill_reason.proofs.MessageLaws.{texts4}
use Rattle.drill_reason.proofs.put_place.Goals as goal

pub returns : goal.returns
unfolding place_of
returns c =
    texts4 c.put_run-p.ensures c.put_decimal-p.ensures c.put_run-p-2.ensures c.put_decimal.ensures
    (omega arith) c.requires
