use Rattle.std.proofs.Common.{mul-le-mul_right, rules, length, refl, sym, ap, ◌∙◌, arith}
use Rattle.octets.specs.Bytes.{part}
use Rattle.octets.proofs.Numbers.{bytes_of}
use Rattle.table.proofs.RowLaws.{row_in, row_at, length_row}
use Rattle.table.proofs.RetainLaws.{retain_start, retain_keep, retain_drop, retain_end}
use Rattle.table.proofs.retain.Goals as goal
use Rattle.table.proofs.retain.Goals.{then-test, else-test}

pub loop-from-init : goal.loop-from-init
loop-from-init g c = record { below = omega arith; size = refl; retaining = λ p t. retain_start p _ _ _ }

pub keep_row-requires : goal.keep_row-requires
keep_row-requires g c = (
  omega (arith, c.loop-from.invariant.below),
  omega (
    arith,
    c.loop-from.invariant.size,
    c.requires.fits.1,
    row_in c.loop-from.from c.args.n c.args.width c.loop-from-test.true,
    mul-le-mul_right c.args.width c.loop-from.invariant.below,
  ),
)

pub loop-from-preserved : goal.loop-from-preserved
unfolding part
loop-from-preserved g c = elim c.if-test.branch [
  | then-test w ↦ record {
    below = omega (arith, w.kept-is, c.loop-from.invariant.below);
    size = omega (arith, ap length w.area-is, w.keep_row.auto.area, c.loop-from.invariant.size);
    retaining = λ p t.
        let a = c.loop-from.area in
        let i = c.loop-from.from in
        let b = t _ _ (length_row a c.args.width i _ c.loop-from-test.true (omega (arith, c.loop-from.invariant.size, c.requires.fits.1))) c.test.ensures in
        retain_keep p _ _ _ c.requires.fits.1 _ _ _ (c.loop-from.invariant.retaining p t) c.loop-from-test.true _ _
        (sym (ap p (row_at a c.args.width i c.args.n)) ∙ sym b ∙ w.if-test.true) w.kept-is (w.area-is ∙ w.keep_row.ensures);
  }
  | else-test w ↦ record {
    below = omega (arith, w.kept-is, c.loop-from.invariant.below);
    size = ap length w.area-is ∙ c.loop-from.invariant.size;
    retaining = λ p t.
        let a = c.loop-from.area in
        let i = c.loop-from.from in
        let b = t _ _ (length_row a c.args.width i _ c.loop-from-test.true (omega (arith, c.loop-from.invariant.size, c.requires.fits.1))) c.test.ensures in
        retain_drop p _ _ _ c.requires.fits.1 _ _ _ (c.loop-from.invariant.retaining p t) c.loop-from-test.true _ _
        (sym (ap p (row_at a c.args.width i c.args.n)) ∙ sym b ∙ w.if-test.false) w.kept-is w.area-is;
  }
]

pub returns : goal.returns
returns g c = λ p t.
    retain_end p _ _ _ c.requires.fits.1 _ _ _ (c.loop-from.invariant.retaining p t) (bytes_of _ (λ i. search rules)) c.loop-from-test.false
