-- `wrong_kinds`: a record is of the wrong kind. Assumes nothing.
use Rattle.std.proofs.Common.{◌≤◌, length, subst, sym, ◌∙◌, rules, tests, List, ℕ}
use Rattle.std.proofs.lemmas.Iterator.Consumers.{YieldsList-from_first}
use Rattle.std.proofs.lemmas.Iterator.Adapters.{serves_from_places}
use Rattle.std.proofs.lemmas.Iterator.Search.{any_from_yields_List}
use Rattle.table.proofs.ListLaws.{all_get}
use Rattle.load_tests.specs.Records.{records, left}
use Rattle.load_tests.specs.Tests.{fails, kind_tests}
use Rattle.load_tests.proofs.RecordLaws.{records_long, list_any_is}
use Rattle.load_tests.proofs.wrong_kinds.Goals as goal

pub any-requires-clause-callable : goal.any-requires-clause-callable
any-requires-clause-callable c =
    serves_from_places (YieldsList-from_first (λ x. x.now) left (records c.args.file.now) c.records.ensures) (λ k. search (rules, tests))
    (λ x k h e.
    let l : 12 ≤ length x.now = subst (λ (r : List ℕ). 12 ≤ length r) (sym e) (all_get k (records c.args.file.now) x.now (records_long c.args.file.now) h) in
    search rules)

pub returns : goal.returns
returns c =
    any_from_yields_List (fails kind_tests) _ _ c.any.result c.any.ensures.ran (YieldsList-from_first (λ x. x.now) left (records c.args.file.now) c.records.ensures)
    (λ x b q k. search (rules, tests))
    ∙ list_any_is (fails kind_tests) (records c.args.file.now)
