-- `count`: those that a test takes. Assumes nothing.
use Rattle.std.proofs.Common.{◌∙◌, ap, length, arith, rules, tests}
use Rattle.std.proofs.lemmas.Iterator.Consumers.{YieldsList-from_first, YieldsList-from_filter, YieldsList-at, count_from_yields_List}
use mathlib.Core.Logic.{inl}
use Rattle.table.specs.Rows.{has_key}
use Rattle.load_tests.specs.declared.RecordIter.{RecordIter}
use Rattle.load_tests.specs.Records.{records, left}
use Rattle.load_tests.proofs.RecordLaws.{few_records, count_filter}
use Rattle.load_tests.proofs.count.Goals as goal

pub count-requires-clause-fits : goal.count-requires-clause-fits
count-requires-clause-fits c =
    inl (omega (
      arith,
      ap (λ (walk : RecordIter). length (left walk)) c.filter.ensures.source,
      ap length c.records.ensures,
      few_records c.args.file.now,
      c.well_formed,
    ))

pub returns : goal.returns
returns c =
    count_from_yields_List c.filter.result _ c.count.ensures.ran
    (YieldsList-from_filter _ (has_key c.args.offset c.args.key.now)
    (YieldsList-at c.filter.ensures.source (YieldsList-from_first (λ x. x.now) left (records c.args.file.now) c.records.ensures)) c.filter.ensures.closure
    (λ x r q k. search (rules, tests)))
    ∙ count_filter (has_key c.args.offset c.args.key.now) (records c.args.file.now)
