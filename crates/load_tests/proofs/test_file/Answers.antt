-- `test_file`: 8, then 4, then 5. Assumes nothing.
use Rattle.table.specs.Rows.{held}
use Rattle.load_tests.proofs.TestLaws.{tested_wrong, tested_cells, tested_rooms, tested_fine}
use Rattle.load_tests.proofs.test_file.Goals as goal

pub returns-then-wrong_file : goal.returns-then-wrong_file
returns-then-wrong_file c = tested_wrong _ _ _ _ c.wrong_file.ensures c.if-wrong_file.true

pub returns-then-fit-count : goal.returns-then-fit-count
unfolding held
returns-then-fit-count c = tested_cells _ _ _ _ c.wrong_file.ensures c.if-wrong_file.false c.fit.ensures.is c.count.ensures c.if-fit-count.true

pub returns-then-room-count : goal.returns-then-room-count
unfolding held
returns-then-room-count c = tested_rooms _ _ _ _ c.wrong_file.ensures c.if-wrong_file.false c.fit.ensures.is c.count.ensures c.if-fit-count.false c.count-2.ensures c.if-room-count.true

pub returns : goal.returns
unfolding held
returns c = tested_fine _ _ _ _ c.wrong_file.ensures c.if-wrong_file.false c.fit.ensures.is c.count.ensures c.if-fit-count.false c.count-2.ensures c.if-room-count.false
