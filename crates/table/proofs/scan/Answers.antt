use Rattle.std.proofs.Common.{◌-◌, true, false, sym, ◌∙◌, arith}
use Rattle.table.proofs.FindLaws.{find_next, rows_end, found_at}
use Rattle.table.proofs.scan.Goals as goal

pub loop-i-init : goal.loop-i-init
loop-i-init c = sym (rows_end _ _ _ _ c.args.n (omega arith))

pub loop-i-preserved-then-same : goal.loop-i-preserved-then-same
loop-i-preserved-then-same c = sym (find_next _ _ _ _ _ c.requires.1 (c.loop-i.i - 1) (omega arith) true _ c.same.ensures c.if-same.true)

pub loop-i-preserved : goal.loop-i-preserved
loop-i-preserved c =
    found_at _ _ (omega arith) c.loop-i.invariant
    ∙ sym (find_next _ _ _ _ _ c.requires.1 (c.loop-i.i - 1) (omega arith) false _ c.same.ensures c.if-same.false)
