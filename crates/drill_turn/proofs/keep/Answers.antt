-- The turn with what is kept at the front. Assumes nothing.
use Rattle.std.proofs.Common.{◌≡◌, ℕ, List, ◌-◌, ap, ◌∙◌, arith}
use Rattle.octets.specs.Bytes.{part}
use Rattle.drill_log.specs.declared.Why.TheVariants as cause
use Rattle.drill_turn.specs.Stream.{with_input}
use Rattle.drill_turn.proofs.StreamLaws.{moved_front}
use Rattle.drill_turn.proofs.keep.Goals as goal
use Rattle.drill_turn.proofs.keep.Goals.{then-turn-gt0, else-turn-gt0}

pub returns : goal.returns
returns c =
    let t = c.args.turn in
    let front : List ℕ → List ℕ = λ (b : List ℕ). part b 0 (t.have - t.from) in
    record {
      turn = ap (with_input t 0 (t.have - t.from) cause.More) c.further.ensures;
      bytes = elim c.if-turn-gt0.branch [
        | then-turn-gt0 w ↦ ap front w.input-is ∙ moved_front _ _ t.from t.have c.requires.order (omega (arith, c.requires.room)) w.copy_within.ensures.after
        | else-turn-gt0 w ↦
            let e : 0 ≡ t.from = omega (arith, w.if-turn-gt0) in
            ap front w.input-is ∙ ap (λ (at : ℕ). part c.args.input.now at (t.have - t.from)) e
      ];
    }
