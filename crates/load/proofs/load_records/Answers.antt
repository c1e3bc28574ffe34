use Rattle.std.proofs.Common.{◌≡◌, ap, ◌∙◌, rules}
use Rattle.load_tests.specs.Records.{left}
use Rattle.load.proofs.LoadLaws.{loading_start, record_room, loading_next, loading_end}
use Rattle.load.proofs.load_records.Goals as goal

pub loop-record-init : goal.loop-record-init
loop-record-init c =
    let e : c.default-counts.result ≡ record { carried = 0; tombstones = 0 } = search rules in
    record {
      can = tt;
      finite = tt;
      loading = rw e (loading_start c.requires (ap left c.into_iter-record-iterator.ensures.into_iter_gives ∙ c.records-record-items.ensures));
    }

pub load_record-requires : goal.load_record-requires
load_record-requires c = record_room c.requires c.loop-record.invariant.loading c.in-Some.ensures.steps

pub loop-record-preserved : goal.loop-record-preserved
loop-record-preserved c = record {
  can = tt;
  finite = tt;
  loading = loading_next c.requires c.loop-record.invariant.loading c.in-Some.ensures.steps c.load_record.ensures;
}

pub returns : goal.returns
returns c = loading_end c.loop-record.invariant.loading c.in-None.ensures.steps.0
