-- The tests, and then what the call does.
use Rattle.std.proofs.Common.{◌+◌, ◌/◌, ◌≤◌, min, length, sym, arith}
use Rattle.std.proofs.lemmas.Result.{err_from_is_err_and}
use Rattle.table.specs.Rows.{Fits}
use Rattle.inventory.proofs.TestLaws.{capped, not_many, Room, has_room}
use Rattle.inventory.proofs.LeaveLaws.{inventory_lends}
use Rattle.inventory.proofs.ReceiveLaws.{says_refused, says_performed, says_malformed, says_answered, says_listed}
use Rattle.inventory.proofs.receive_inventory.Goals as goal
use Rattle.inventory.proofs.receive_inventory.Goals.{After-min-l}

-- the areas are as long as the tests ask, and 512 prefixes are listed at most
room : (c : After-min-l) → Room (length c.args.replies.now) (length c.args.prefixes.now) (length c.args.offers.now) c.args.listed.now
room c = has_room _ _ _ _ _ _ _ _ _ c.tested.ensures c.in_ok-tested.was

listed_before : (c : After-min-l) → Fits (length c.args.prefixes.now) 8 (min 512 c.args.exchange.now.listed) c.min-l.result × (c.min-l.result ≤ 512)
listed_before c = capped _ _ (room c).prefixes c.min-l.ensures

pub returns-in_err-tested : goal.returns-in_err-tested
returns-in_err-tested c =
    let p = err_from_is_err_and c.from_residual.result c.from_residual.ensures.1 in
    rw (p.1, p.2) (inventory_lends (λ a. says_refused _ _ _ _ _ _ _ _ _ _ _ _ _ a c.tested.ensures c.in_err-tested.was))

pub too_many-requires : goal.too_many-requires
too_many-requires c = ((listed_before (goal.at.too_many-requires c).After-min-l).1, omega (arith, c.well_formed))

pub returns-then-too_many : goal.returns-then-too_many
returns-then-too_many c = inventory_lends (λ a.
    says_performed _ _ _ _ _ _ _ _ _ _ _ _ _ a c.tested.ensures c.in_ok-tested.was
    (says_malformed _ _ _ _ _ _ _ _ _ _ _ _ _ a _ (listed_before (goal.at.returns-then-too_many c).After-min-l).0.is (sym c.if-too_many.ensures)))

pub list_more-requires : goal.list_more-requires
list_more-requires c =
    let r = room (goal.at.list_more-requires c).After-min-l in
    let few = not_many c.args.exchange.now.complete (c.min-l.result + length c.args.listed.now / 8) (sym c.if-too_many.ensures) in
    (r.whole, omega (arith, few, r.whole, r.prefixes))

pub returns-then-more-gt0 : goal.returns-then-more-gt0
returns-then-more-gt0 c = inventory_lends (λ a.
    says_performed _ _ _ _ _ _ _ _ _ _ _ _ _ a c.tested.ensures c.in_ok-tested.was
    (says_listed _ _ _ _ _ _ _ _ _ _ _ _ _ a _ (listed_before (goal.at.returns-then-more-gt0 c).After-min-l).0.is (sym c.if-too_many.ensures)
    _ _ (λ z. omega (arith, z, c.if-more-gt0.true)) c.list_more.ensures))

pub invariant_of-all : goal.invariant_of-all
invariant_of-all c =
    let l = listed_before (goal.at.invariant_of-all c).After-min-l in
    record { in_bounds = l.0.inside; few = omega (arith, l.1) }

pub answer_inventory-requires-clause-in_bounds : goal.answer_inventory-requires-clause-in_bounds
answer_inventory-requires-clause-in_bounds c = let r = room (goal.at.answer_inventory-requires-clause-in_bounds c).After-min-l in (r.offers, r.replies)

pub returns : goal.returns
returns c = inventory_lends (λ a.
    says_performed _ _ _ _ _ _ _ _ _ _ _ _ _ a c.tested.ensures c.in_ok-tested.was
    (says_answered _ _ _ _ _ _ _ _ _ _ _ _ _ a _ (listed_before (goal.at.returns c).After-min-l).0.is (sym c.if-too_many.ensures)
    _ _ _ _ (omega arith)
    c.held_here-held.ensures.own c.held_here-held.ensures.carried c.answer_inventory.ensures))
