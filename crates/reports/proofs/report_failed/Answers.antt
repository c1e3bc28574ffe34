-- Each way out is one row of the model's tests, or what is left to do.
use Rattle.std.proofs.Common.{refl, arith}
use Rattle.table.specs.Rows.{held}
use Rattle.reports.proofs.CallLaws.{failed_stranger, failed_again, failed_full, failed_added}
use Rattle.reports.proofs.report_failed.Goals as goal

pub returns-then-not-known : goal.returns-then-not-known
returns-then-not-known c a = failed_stranger _ _ _ _ _ a c.if-not-known.ensures

pub returns-then-is_bad : goal.returns-then-is_bad
returns-then-is_bad c a =
    failed_again _ _ _ _ _ a c.if-not-known.ensures c.if-is_bad.ensures

pub returns-then-bad_tags-device : goal.returns-then-bad_tags-device
unfolding held
returns-then-bad_tags-device c a =
    failed_full _ _ _ _ _ a c.if-not-known.ensures c.if-is_bad.ensures refl (omega arith)

pub push-device-requires : goal.push-device-requires
unfolding held
push-device-requires c = omega arith

pub returns : goal.returns
unfolding held
returns c a =
    failed_added _ _ _ _ _ a c.if-not-known.ensures c.if-is_bad.ensures refl (omega arith) c.push-device.ensures
