-- The area is too short, or the page is the model's.
use Rattle.std.proofs.Common.{refl, le-ltb, lt-ltb}
use Rattle.screen.proofs.CallLaws.{says_short, says_page}
use Rattle.screen.proofs.page.Goals as goal

pub returns-then-area-lt-PAGE : goal.returns-then-area-lt-PAGE
returns-then-area-lt-PAGE c a = says_short _ _ _ _ _ a (lt-ltb _ 1620 c.if-area-lt-PAGE.true)

pub returns : goal.returns
returns c a =
    says_page _ _ _ _ a c.fit-rows.ensures refl refl _ _ _ _ c.len-total.ensures c.rows_before-k.ensures c.min-count.ensures c.pass_rows-from.ensures
    (le-ltb _ 1620 c.if-area-lt-PAGE.false) _ _ _ c.now_min.ensures c.put_heading.ensures c.put_rows.ensures
