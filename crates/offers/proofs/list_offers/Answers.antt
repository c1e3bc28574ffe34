use Rattle.std.proofs.Common.{◌≡◌, ◌<◌, length, true, false, sym, ◌∙◌, ◌+◌, arith, rules, le-ltb, lt-ltb, set-set}
use Rattle.offers.proofs.OfferLaws.{stays, last_copy, was_listed, was_tombstoned, is_offered_lem}
use Rattle.offers.proofs.ListingLaws.{listed_next, listed_end, tombstoned_next, tombstoned_end, listing_start, listing_next, listing_end}
use Rattle.offers.proofs.list_offers.Goals as goal
use Rattle.offers.proofs.list_offers.Goals.{in_default, in-Some+then-row-le1, in-Some+else-row-le1+then-loop-j-test+then-same, in-Some+else-row-le1+else-loop-j-test+then-loop-t-test+then-same-2, in-Some+else-row-le1+else-loop-j-test+else-loop-t-test}

pub loop-i-init : goal.loop-i-init
loop-i-init c = listing_start _ _ _ _ _ _ _

pub loop-j-preserved : goal.loop-j-preserved
loop-j-preserved c =
    c.loop-j.invariant ∙ listed_next _ _ _ c.args.listed.in_bounds _ false (search rules) c.loop-j-test.true c.same.ensures c.if-same.false

pub loop-t-preserved : goal.loop-t-preserved
loop-t-preserved c =
    c.loop-t.invariant ∙ tombstoned_next _ _ _ c.args.tombstones.in_bounds _ false (search rules) c.loop-t-test.true c.same-in-loop-t.ensures c.if-same-2.false

pub loop-i-preserved : goal.loop-i-preserved
loop-i-preserved c =
    let next = listing_next _ _ _ _ _ _ _ c.requires c.loop-i.invariant in
    let more : c.loop-i.i < c.args.held.now.own.n + c.args.held.now.carried.n = omega arith in
    elim c.match-row.branch [
      | in_default w ↦ next false false more (stays _ _ _ (sym w.in_default.is ∙ c.row_at.ensures)) _ _ w.searched-is w.flags-is
      | in-Some+then-row-le1 w ↦
          next false false more (last_copy _ _ _ (sym w.in-Some.is ∙ c.row_at.ensures) (le-ltb _ _ w.if-row-le1.true)) _ _ w.searched-is w.flags-is
      | in-Some+else-row-le1+then-loop-j-test+then-same w ↦
          let wide : length w.in-Some.row.tag ≡ 16 = search rules in
          next false false more
          (was_listed _ _ _ (sym w.in-Some.is ∙ c.row_at.ensures)
          (w.loop-j.invariant ∙ listed_next _ _ _ c.args.listed.in_bounds _ true wide w.loop-j-test.true w.same.ensures w.if-same.true))
          _ _ w.searched-is w.flags-is
      | in-Some+else-row-le1+else-loop-j-test+then-loop-t-test+then-same-2 w ↦
          let wide : length w.in-Some.row.tag ≡ 16 = search rules in
          next true false more
          (was_tombstoned _ _ _ (sym w.in-Some.is ∙ c.row_at.ensures) (lt-ltb _ _ w.if-row-le1.false) (w.loop-j.invariant ∙ listed_end _ _ _ c.args.listed.in_bounds w.loop-j.j w.loop-j-test.false)
          (w.loop-t.invariant ∙ tombstoned_next _ _ _ c.args.tombstones.in_bounds _ true wide w.loop-t-test.true w.same-in-loop-t.ensures w.if-same-2.true))
          _ _ w.searched-is w.flags-is
      | in-Some+else-row-le1+else-loop-j-test+else-loop-t-test w ↦
          next true true more
          (is_offered_lem _ _ _ (sym w.in-Some.is ∙ c.row_at.ensures) (lt-ltb _ _ w.if-row-le1.false) (w.loop-j.invariant ∙ listed_end _ _ _ c.args.listed.in_bounds w.loop-j.j w.loop-j-test.false)
          (w.loop-t.invariant ∙ tombstoned_end _ _ _ c.args.tombstones.in_bounds w.loop-t.t w.loop-t-test.false))
          _ _ w.searched-is (w.flags-is ∙ set-set c.loop-i.flags c.loop-i.i false true)
    ]

pub returns : goal.returns
returns c =
    listing_end _ _ _ _ _ _ _ c.requires c.loop-i.invariant (omega arith)
