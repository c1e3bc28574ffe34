-- `wrong_rows`: the row of a record is wrong; each is of the right kind. Assumes nothing.
use Rattle.std.proofs.Common.{◌≡◌, false, subst, sym, ◌∙◌, rules, tests, List, ℕ}
use Rattle.std.proofs.lemmas.Iterator.Consumers.{YieldsList-from_first}
use Rattle.std.proofs.lemmas.Iterator.Adapters.{serves_from_places}
use Rattle.std.proofs.lemmas.Iterator.Search.{any_from_yields_List}
use Rattle.table.specs.Tables.{rows_in}
use Rattle.table.proofs.ListLaws.{all_get}
use Rattle.table.proofs.FindLaws.{any_none}
use Rattle.rows.specs.Rows.{contact_codec}
use Rattle.load_tests.specs.Records.{records, left}
use Rattle.load_tests.specs.Tests.{fails, kind_tests, row_tests}
use Rattle.load_tests.proofs.RecordLaws.{list_any_is}
use Rattle.load_tests.proofs.Against.wrong_rows.Goals as goal

pub any-requires-clause-callable : goal.any-requires-clause-callable
any-requires-clause-callable c =
    let all = records c.args.self.now.file.now in
    serves_from_places (YieldsList-from_first (λ x. x.now) left all c.records.ensures) (λ k. search (rules, tests))
    (λ x k h e.
    let l : fails kind_tests x.now ≡ false = subst (λ (r : List ℕ). fails kind_tests r ≡ false) (sym e) (all_get k all x.now (any_none (fails kind_tests) all c.requires) h) in
    search rules)

pub returns : goal.returns
returns c =
    let all = records c.args.self.now.file.now in
    let test = fails (row_tests c.args.self.now.next (rows_in contact_codec c.args.self.now.contacts) all) in
    any_from_yields_List test _ _ c.any.result c.any.ensures.ran (YieldsList-from_first (λ x. x.now) left all c.records.ensures)
    (λ x b q k. search (rules, tests))
    ∙ list_any_is test all
