-- The run over the bytes that are not done. Assumes nothing.
use Rattle.std.proofs.Common.{◌-◌, refl, arith}
use Rattle.octets.specs.Bytes.{part}
use Rattle.drill_turn.proofs.StreamLaws.{left_most}
use Rattle.drill_turn.proofs.advance.Goals as goal

pub returns : goal.returns
unfolding part
returns c =
    let t = c.args.turn in
    record {
      used = c.run_some-p.result.used;
      from = refl;
      inside = record { order = omega (arith, c.run_some-p.ensures.ended.high, left_most c.args.input.now t.from (t.have - t.from), c.requires.order); room = c.requires.room };
      runs = c.run_some-p.ensures;
      have = refl;
      bytes = refl;
    }
