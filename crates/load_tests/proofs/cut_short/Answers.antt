-- `cut_short`: the lengths of the records, summed. Assumes nothing.
use Rattle.std.proofs.Common.{◌≡◌, length, arith, rules, tests}
use Rattle.std.specs.List.{sum_by}
use Rattle.std.proofs.lemmas.Iterator.{YieldsList-from_map}
use Rattle.std.proofs.lemmas.Iterator.Consumers.{YieldsList-from_first, YieldsList-at, sum_by_from_yields_List, fits_by_from_yields_list}
use Rattle.load_tests.specs.Records.{records, left}
use Rattle.load_tests.proofs.RecordLaws.{sum_within, cut_lem}
use Rattle.load_tests.proofs.cut_short.Goals as goal

pub sum-all-requires-clause-fits : goal.sum-all-requires-clause-fits
sum-all-requires-clause-fits c =
    fits_by_from_yields_list length (records c.args.file.now) c.map.result _
    (YieldsList-from_map _ length (YieldsList-at c.map.ensures.source (YieldsList-from_first (λ x. x.now) left (records c.args.file.now) c.records.ensures))
    c.map.ensures.closure (λ x r q k. search (rules, tests)))
    (omega (arith, sum_within c.args.file.now, c.well_formed))

total : (c : goal.After-sum-all) → c.sum-all.result ≡ sum_by length (records c.args.file.now)
total c =
    sum_by_from_yields_List length (records c.args.file.now) c.map.result _ c.sum-all.ensures.ran
    (YieldsList-from_map _ length (YieldsList-at c.map.ensures.source (YieldsList-from_first (λ x. x.now) left (records c.args.file.now) c.records.ensures))
    c.map.ensures.closure (λ x r q k. search (rules, tests)))

pub overflow_add-result : goal.overflow_add-result
overflow_add-result c = omega (arith, total c, sum_within c.args.file.now, c.well_formed)

pub returns : goal.returns
returns c = cut_lem c.args.file.now c.sum-all.result (total c)
