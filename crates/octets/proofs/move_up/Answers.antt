use Rattle.std.proofs.Common.{◌≡◌, ◌+◌, ◌-◌, arith}
use Rattle.octets.proofs.Parts.{moved_under, splice_nil, part_nil}
use Rattle.octets.proofs.move_up.Goals as goal

pub loop-k-init : goal.loop-k-init
loop-k-init c =
    let e : c.args.n - c.args.n ≡ 0 = omega arith in
    grind (arith, e, part_nil c.args.area.now (c.args.from + c.args.n), splice_nil c.args.area.now (c.args.to + c.args.n))

pub loop-k-preserved : goal.loop-k-preserved
loop-k-preserved c =
    let k = c.loop-k.k - 1 in
    let e : k + 1 ≡ c.loop-k.k = omega (arith, c.loop-k-test.true) in
    moved_under c.args.area.now c.loop-k.area c.args.to c.args.from c.args.n k c.requires.0 c.requires.1 (omega arith) (rw e c.loop-k.invariant)
