-- `wrong_records`: the tests of kinds, and then those of rows. Assumes nothing.
use Rattle.load_tests.proofs.TestLaws.{kinds_wrong, rows_wrong}
use Rattle.std.proofs.Common.{sym, ◌∙◌}
use Rattle.load_tests.proofs.wrong_records.Goals as goal

pub returns-then-wrong_kinds : goal.returns-then-wrong_kinds
returns-then-wrong_kinds c = kinds_wrong _ _ _ _ (sym c.if-wrong_kinds.true ∙ c.wrong_kinds.ensures)

pub returns : goal.returns
returns c = rows_wrong _ _ _ _ (sym c.wrong_kinds.ensures ∙ c.if-wrong_kinds.false) c.wrong_rows.ensures
