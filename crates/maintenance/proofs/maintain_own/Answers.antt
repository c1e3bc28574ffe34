use Rattle.std.proofs.Common.{sym, ap, ◌∙◌, arith, rules}
use Rattle.octets.proofs.Numbers.{bytes_of}
use Rattle.rows.specs.Rows.{own_bytes}
use Rattle.rows.proofs.Laws.{own_laws}
use Rattle.model.specs.Maintenance.{maintain_own}
use Rattle.maintenance.proofs.RewriteLaws.{rewrite_start, rewrite_keep, rewrite_drop, rewrite_end}
use Rattle.model.proofs.KeepRows.{renew_proper}
use Rattle.maintenance.proofs.maintain_own.Goals as goal
use Rattle.maintenance.proofs.maintain_own.Goals.{then-stays, else-stays}

pub loop-i-init : goal.loop-i-init
loop-i-init c = rewrite_start own_laws _ _ (λ r. renew_proper c.args.minute r (search rules) (search rules)) _ _ (bytes_of _ (λ i. search rules))

pub loop-i-preserved : goal.loop-i-preserved
loop-i-preserved c = elim c.if-stays.branch [
  | then-stays w ↦ rewrite_keep own_laws _ _ (λ r. renew_proper c.args.minute r (search rules) (search rules)) _ _ (bytes_of _ (λ i. search rules)) _ _ _ c.loop-i.invariant
      (omega (arith, c.fit-n.ensures.is)) c.read-row.ensures _ _ _ (sym c.stays.ensures ∙ w.if-stays.true) w.k-is
      (ap own_bytes w.renew_expired.ensures) (w.own-is ∙ w.put.ensures)
  | else-stays w ↦ rewrite_drop own_laws _ _ (λ r. renew_proper c.args.minute r (search rules) (search rules)) _ _ (bytes_of _ (λ i. search rules)) _ _ _ c.loop-i.invariant
      (omega (arith, c.fit-n.ensures.is)) c.read-row.ensures _ _ (sym c.stays.ensures ∙ w.if-stays.false) w.k-is w.own-is
]

pub returns : goal.returns
unfolding maintain_own
returns c =
    rewrite_end own_laws _ _ (λ r. renew_proper c.args.minute r (search rules) (search rules)) _ _ (bytes_of _ (λ i. search rules)) _ _ _ c.loop-i.invariant
    (omega (arith, c.fit-n.ensures.is))
