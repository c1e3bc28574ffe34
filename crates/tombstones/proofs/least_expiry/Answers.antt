use Rattle.std.proofs.Common.{◌<◌, length, refl, sym, ap, ◌∙◌, arith}
use Rattle.table.specs.Rows.{held}
use Rattle.tombstones.proofs.LeafLaws.{bound, least_hit, least_next, least_end, leads_on}
use Rattle.tombstones.proofs.least_expiry.Goals as goal
use Rattle.tombstones.proofs.least_expiry.Goals.{then-e-low, else-e-low}

pub loop-i-init : goal.loop-i-init
loop-i-init c = (refl, record { place = omega arith; start = λ z. refl })

pub loop-i-preserved : goal.loop-i-preserved
loop-i-preserved c =
    let h : c.loop-i.i < held (length c.args.tombstones.area.now) 44 c.args.tombstones.count = omega (arith, c.len-i-end.ensures.is) in
    elim c.if-e-low.branch [
      | then-e-low w ↦ rw (w.best-is, w.low-is) (least_hit _ _ c.loop-i.i c.loop-i.best c.loop-i.low _ _ c.loop-i.invariant.0 c.loop-i.invariant.1 h (ap (λ t. t.expiry_min) c.read-e.ensures) w.if-e-low.true, leads_on _ _ _ (omega arith))
      | else-e-low w ↦ rw (w.best-is, w.low-is) (least_next _ _ c.loop-i.i c.loop-i.best c.loop-i.low _ _ c.loop-i.invariant.0 c.loop-i.invariant.1 h (ap (λ t. t.expiry_min) c.read-e.ensures) (omega arith) w.if-e-low.false, leads_on _ _ _ (omega (arith, c.loop-i.invariant.1.place)))
    ]

pub returns : goal.returns
returns c =
    let e = sym (least_end _ _ c.loop-i.i c.loop-i.best (bound c.loop-i.i c.loop-i.low) (omega (arith, c.len-i-end.ensures.is))) ∙ c.loop-i.invariant.0 in
    record { is = e; inside = omega (arith, c.loop-i.invariant.1.place, c.loop-i.auto.i-end, c.len-i-end.ensures.is) }
