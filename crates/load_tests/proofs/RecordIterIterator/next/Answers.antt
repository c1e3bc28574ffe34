-- `next`: a record that is whole, or none is left. Assumes nothing.
use Rattle.std.proofs.Common.{length, ap, arith}
use Rattle.load_tests.specs.Records.{left}
use Rattle.load_tests.proofs.RecordLaws.{size_least, sized, records_none, records_next}
use Rattle.load_tests.proofs.RecordIterIterator.next.Goals as goal

pub returns-then-self-lt-RECORD_HEAD-clause-steps : goal.returns-then-self-lt-RECORD_HEAD-clause-steps
unfolding left
returns-then-self-lt-RECORD_HEAD-clause-steps c =
    let b = c.args.self.now.rest.now in
    let e = records_none (length b) b (omega (arith, size_least b, c.if-self-lt-RECORD_HEAD.true)) in
    (e, e)

pub returns-in_err-record-clause-steps : goal.returns-in_err-record-clause-steps
unfolding left
returns-in_err-record-clause-steps c =
    let b = c.args.self.now.rest.now in
    let e = records_none (length b) b (omega (arith, sized b c.get_u16.ensures, c.in_err-record.ensures.cases)) in
    rw c.from_residual.ensures (e, e)

pub returns-clause-steps : goal.returns-clause-steps
unfolding left
returns-clause-steps c =
    let s = c.in_ok-record.ensures.cases in
    rw (s.1, s.2) (records_next _ _ (sized _ c.get_u16.ensures) s.0)

pub returns-clause-goes : goal.returns-clause-goes
returns-clause-goes c = record {
  on = λ _. (tt, tt, omega (arith, ap length (returns-clause-steps c)));
  keeps = tt;
  rests = λ _. tt;
}
