-- The carried row first, and by its secret; then the own row.
use Rattle.std.proofs.Common.{◌+◌, ◌*◌, ◌≤◌, length, arith}
use Rattle.rows.specs.Rows.{own_codec, carried_codec}
use Rattle.model.specs.Custody.{own_of_tag, carried_of_tag}
use Rattle.model.specs.Exchange.{no_own, no_carried}
use Rattle.holdings.proofs.SearchLaws.{found_row}
use Rattle.tombs.proofs.FindLaws.{finds_carried, finds_wrong, finds_own, finds_other, finds_unknown}
use Rattle.tombs.proofs.find.Goals as goal
use Rattle.tombs.proofs.find.Goals.{In-Some, In-Some-own_of_tag}

carried_row : (c : In-Some) → c.in-Some.i * 57 + 57 ≤ length c.args.carried.area.now
carried_row c = found_row carried_codec c.args.carried.count c.args.carried.area.now (carried_of_tag c.args.tomb.tag) no_carried c.in-Some.ensures

own_row : (c : In-Some-own_of_tag) → c.in-Some-own_of_tag.i * 54 + 54 ≤ length c.args.own.area.now
own_row c = found_row own_codec c.args.own.count c.args.own.area.now (own_of_tag c.args.tomb.tag) no_own c.in-Some-own_of_tag.ensures

pub overflow_mul-i : goal.overflow_mul-i
overflow_mul-i c = omega (arith, carried_row (goal.at.overflow_mul-i c).In-Some)

pub read-row-requires : goal.read-row-requires
read-row-requires c = carried_row (goal.at.read-row-requires c).In-Some

pub returns-then-tombstone_matches : goal.returns-then-tombstone_matches
returns-then-tombstone_matches c = finds_carried _ _ _ _ c.in-Some.ensures c.read-row.ensures c.if-tombstone_matches.ensures

pub returns-else-tombstone_matches : goal.returns-else-tombstone_matches
returns-else-tombstone_matches c = finds_wrong _ _ _ _ c.in-Some.ensures c.read-row.ensures c.if-tombstone_matches.ensures

pub overflow_mul-i-in-Some-own_of_tag : goal.overflow_mul-i-in-Some-own_of_tag
overflow_mul-i-in-Some-own_of_tag c = omega (arith, own_row (goal.at.overflow_mul-i-in-Some-own_of_tag c).In-Some-own_of_tag)

pub read-row-requires-in-Some-own_of_tag : goal.read-row-requires-in-Some-own_of_tag
read-row-requires-in-Some-own_of_tag c = own_row (goal.at.read-row-requires-in-Some-own_of_tag c).In-Some-own_of_tag

pub returns-then-tombstone_matches-2 : goal.returns-then-tombstone_matches-2
returns-then-tombstone_matches-2 c = finds_own _ _ _ _ c.in-None.ensures c.in-Some-own_of_tag.ensures c.read-row-in-Some-own_of_tag.ensures c.commitment.ensures c.if-tombstone_matches-2.ensures

pub returns-else-tombstone_matches-2 : goal.returns-else-tombstone_matches-2
returns-else-tombstone_matches-2 c = finds_other _ _ _ _ c.in-None.ensures c.in-Some-own_of_tag.ensures c.read-row-in-Some-own_of_tag.ensures c.commitment.ensures c.if-tombstone_matches-2.ensures

pub returns-in-None-own_of_tag : goal.returns-in-None-own_of_tag
returns-in-None-own_of_tag c = finds_unknown _ _ _ _ c.in-None.ensures c.in-None-own_of_tag.ensures
