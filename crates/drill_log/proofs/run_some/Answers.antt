-- The record at the front of what is left is performed, and what is behind it is left then. Assumes nothing.
use Rattle.std.proofs.Common.{length, refl, sym, ap, ◌∙◌, arith, rules, Ok, length-drop}
use Rattle.std.proofs.lemmas.List.{take_rest}
use lib.Seq.{drop-drop}
use Rattle.wire.specs.Log.{head_of}
use Rattle.wire.proofs.HeadLaws.{of_whole, of_more}
use Rattle.drill_log.proofs.RunLaws.{rank, body_lent, room_for, run_start, record_on, record_stop, record_wrong, record_more, run_ends}
use Rattle.drill_log.proofs.run_some.Goals as goal

pub loop-ran-init : goal.loop-ran-init
loop-ran-init c = record { high = omega arith; fewer = omega arith; room = omega arith; full = refl; so_far = λ g. run_start _ _ g }

pub overflow_add-end : goal.overflow_add-end
overflow_add-end c = omega (arith, of_whole _ c.read_head.ensures (c.in-Ok-Some.is ∙ ap Ok c.in-Ok-Some.field-0-is))

pub slice_bounds-body-end : goal.slice_bounds-body-end
slice_bounds-body-end c = omega (arith, of_whole _ c.read_head.ensures (c.in-Ok-Some.is ∙ ap Ok c.in-Ok-Some.field-0-is))

pub returns-then-done : goal.returns-then-done
returns-then-done c =
    let r = c.loop-ran.invariant in
    let l = take_rest c.args.input.now c.loop-ran.ran.used in
    run_ends c.args.input.now r.high (omega (arith, c.loop-ran-test.true, c.perform-done.ensures.within.high)) (λ w. absurd (omega (arith, ap rank w)))
    (λ g. record_stop _ (c.read_head.ensures ∙ ap head_of l) (c.in-Ok-Some.is ∙ ap Ok c.in-Ok-Some.field-0-is) (body_lent _ _ l refl)
    (c.perform-done.ensures.done (r.so_far g).ready) (r.so_far g) c.if-done.true)

pub loop-ran-smaller : goal.loop-ran-smaller
loop-ran-smaller c =
    let h = of_whole _ c.read_head.ensures (c.in-Ok-Some.is ∙ ap Ok c.in-Ok-Some.field-0-is) in
    omega (arith, h, c.loop-ran.invariant.high, ap length (take_rest c.args.input.now c.loop-ran.ran.used), length-drop c.loop-ran.ran.used c.args.input.now)

pub loop-ran-preserved : goal.loop-ran-preserved
loop-ran-preserved c =
    let r = c.loop-ran.invariant in
    let l = take_rest c.args.input.now c.loop-ran.ran.used in
    let h = of_whole _ c.read_head.ensures (c.in-Ok-Some.is ∙ ap Ok c.in-Ok-Some.field-0-is) in
    record {
      high = omega (arith, h, r.high, ap length l, length-drop c.loop-ran.ran.used c.args.input.now);
      fewer = omega (arith, r.fewer);
      room = omega (arith, c.loop-ran-test.true, c.perform-done.ensures.within.high);
      full = r.full;
      so_far = λ g.
          record_on _ (c.read_head.ensures ∙ ap head_of l) (c.in-Ok-Some.is ∙ ap Ok c.in-Ok-Some.field-0-is) (body_lent _ _ l refl)
          (c.perform-done.ensures.done (r.so_far g).ready) (r.so_far g) (sym (drop-drop _ c.loop-ran.ran.used c.args.input.now)) c.if-done.false;
    }

pub returns-in-Ok-None : goal.returns-in-Ok-None
returns-in-Ok-None c =
    let r = c.loop-ran.invariant in
    let e = c.read_head.ensures ∙ ap head_of (take_rest c.args.input.now c.loop-ran.ran.used) in
    let n = c.in-Ok-None.is ∙ ap Ok c.in-Ok-None.field-0-is in
    run_ends c.args.input.now r.high r.room (λ w. of_more _ e n) (λ g. record_more _ e n (r.so_far g))

pub returns-in-Err : goal.returns-in-Err
returns-in-Err c =
    let r = c.loop-ran.invariant in
    run_ends c.args.input.now r.high (omega (arith, c.loop-ran-test.true, c.last_line.ensures.next, c.last_line.ensures.near)) (λ w. absurd (omega (arith, ap rank w)))
    (λ g. record_wrong _ (c.read_head.ensures ∙ ap head_of (take_rest c.args.input.now c.loop-ran.ran.used)) c.in-Err.is (room_for _ _ (search rules) c.loop-ran-test.true) c.last_line.ensures (r.so_far g))
