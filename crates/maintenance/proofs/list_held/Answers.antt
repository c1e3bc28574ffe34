use Rattle.std.proofs.Common.{◌≡◌, refl, sym, ◌∙◌, arith, rules}
use Rattle.maintenance.proofs.MergeLaws.{merging_start}
use Rattle.maintenance.proofs.StepLaws.{within, listed_all}
use Rattle.maintenance.proofs.list_held.Goals as goal

pub loop-row-init : goal.loop-row-init
loop-row-init c =
    let e : c.default-next.result ≡ record { carried = 0; tombstones = 0 } = search rules in
    record { merging = rw e (merging_start _ _ _ _ _); size = refl; done = rw e refl }

pub list_one-requires : goal.list_one-requires
list_one-requires c =
    let w = within _ c.args.held _ _ _ _ _ _ c.loop-row.invariant.merging in
    record {
      reached = record { within = w.0; below = w.1; more = omega (arith, c.loop-row.invariant.done) };
      space = omega (arith, c.loop-row.invariant.merging.below, c.loop-row.invariant.size, c.requires);
    }

pub loop-row-preserved : goal.loop-row-preserved
loop-row-preserved c = record {
  merging = c.list_one.ensures.merging _ _ (sym c.loop-row.invariant.size) c.loop-row.invariant.merging;
  size = c.list_one.auto.actions ∙ c.loop-row.invariant.size;
  done = omega (arith, c.list_one.ensures.further, c.loop-row.invariant.done);
}

pub returns : goal.returns
returns c = listed_all _ c.args.held _ _ _ _ _ _ c.loop-row.invariant.merging (omega (arith, c.loop-row.invariant.done))
