-- What the lookup finds, and whether it is bad or tombstoned.
use Rattle.std.proofs.Common.{sym}
use Rattle.inventory.proofs.ListedLaws.{fetch_none, fetch_bad, fetch_tombstoned, fetch_tag}
use Rattle.inventory.proofs.Lookup.tag_to_fetch.Goals as goal

pub returns-in_err-i : goal.returns-in_err-i
returns-in_err-i c = rw c.from_residual.ensures (fetch_none _ _ _ _ _ c.in_err-i.ensures)

pub returns-then-is_bad : goal.returns-then-is_bad
returns-then-is_bad c = fetch_bad _ _ _ _ _ _ c.in_ok-i.ensures _ c.get_array-tag.ensures (sym c.if-is_bad.ensures)

pub returns-then-tombstoned : goal.returns-then-tombstoned
returns-then-tombstoned c =
    fetch_tombstoned _ _ _ _ _ _ c.in_ok-i.ensures _ c.get_array-tag.ensures (sym c.if-is_bad.ensures)
    (sym c.if-tombstoned.ensures)

pub returns : goal.returns
returns c =
    fetch_tag _ _ _ _ _ _ c.in_ok-i.ensures _ c.get_array-tag.ensures (sym c.if-is_bad.ensures)
    (sym c.if-tombstoned.ensures)
