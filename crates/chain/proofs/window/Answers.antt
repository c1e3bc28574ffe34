-- `chain::window` meets its contract: the tests in their order; then the skipped rows and the chains' keys are one run. Assumes nothing.
use Rattle.std.proofs.Common.{sym, refl, ap, ◌∙◌, le-ltb, Ok}
use Rattle.octets.specs.Bytes.{part}
use Rattle.chain.specs.Chain.{window_says, window_number, window_area, window_tests}
use Rattle.chain.proofs.Keys.{right_rows, window_put}
use Rattle.chain.proofs.window.Goals as goal

pub returns : goal.returns
unfolding window_says window_number window_area window_tests part
returns c =
    let long = le-ltb _ _ c.if-answer-lt-ANSWER.false in
    let right = sym c.wrong_rows.ensures ∙ c.if-wrong_rows.false in
    let done = window_put c.args.skipped.now c.args.chains.now c.args.answer.now _ _ _ (right_rows c.args.skipped.now c.args.chains.now right)
    c.if-answer-lt-ANSWER.false c.copy_in.ensures c.list_chains-listed.ensures in
    record {
      value = simp (long, right) (ap Ok done.0);
      number = simp (long, right) refl;
      answer_after = simp (long, right) done.1;
    }
