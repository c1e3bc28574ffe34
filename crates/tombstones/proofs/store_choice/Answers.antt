-- Each way out is one row of the model's tests, or what they leave; what the writes rely on comes from the same tests.
use Rattle.std.proofs.Common.{true, false, refl, arith}
use Rattle.std.proofs.lemmas.Bool.Decides.{nat_tests}
use Rattle.tombstones.proofs.ChoiceLaws.{choose}
use Rattle.tombstones.proofs.store_choice.Goals as goal

pub returns-then-tombstoned : goal.returns-then-tombstoned
returns-then-tombstoned c = (choose _ _ _ true _ _ c.if-tombstoned.ensures refl refl, tt)

pub returns-then-all_rows_used : goal.returns-then-all_rows_used
returns-then-all_rows_used c = (choose _ _ _ false true _ c.if-tombstoned.ensures c.if-all_rows_used.ensures refl, tt)

pub returns-then-device-eq18446744073709551615 : goal.returns-then-device-eq18446744073709551615
returns-then-device-eq18446744073709551615 c =
    (choose _ _ _ false false true c.if-tombstoned.ensures c.if-all_rows_used.ensures (grind (arith, nat_tests)), tt)

pub returns : goal.returns
returns c = (
  choose _ _ _ false false false c.if-tombstoned.ensures c.if-all_rows_used.ensures (grind (arith, nat_tests)),
  record { rows = grind (arith, nat_tests); slot = omega arith },
)
