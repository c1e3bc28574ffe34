-- Laws of the run over a buffer. Assumes nothing.
use Rattle.std.proofs.Common.{◌≡◌, ℕ, ◌+◌, ◌-◌, ◌*◌, ◌<◌, ◌≤◌, Bool, true, false, List, [], ◌++◌, length, take, drop, sym, refl, ap, ◌∙◌, append_assoc, append-nil, arith, length-drop, Option, Some, None, Ok, Err}
use mathlib.Core.Bool.{false≢true}
use Rattle.octets.specs.Bytes.{part}
use Rattle.octets.proofs.Parts.{take_written}
use Rattle.courier_core.specs.declared.Refusal.{Refusal}
use Rattle.courier_core.specs.declared.Refusal.TheVariants as refusal
use Rattle.table.specs.Rows.{held}
use Rattle.table.proofs.RowLaws.{held_le}
use Rattle.rows.specs.Limits.{reply_area}
use Rattle.text.specs.Text.{Puts}
use Rattle.wire.specs.declared.Head.{Head}
use Rattle.wire.specs.Log.{Record, ReadHead, head_of, body_of}
use Rattle.wire.proofs.HeadLaws.{of_wrong}
use Rattle.model.specs.State.{State}
use Rattle.model.specs.Areas.{Areas, view}
use Rattle.drill_lines.specs.Lines.{last_line}
use Rattle.drill_run.specs.Drill.{state_after, lines_of, last_record, records_of, printed, performed, made_of, after_all, drill_actions}
use Rattle.drill_run.proofs.LogLaws.{printed_on, printed_stop, printed_wrong, performed_on, performed_stop, performed_wrong}
use Rattle.drill_run.proofs.RunLaws.{after_one}
use Rattle.drill_log.specs.declared.Why.{Why}
use Rattle.drill_log.specs.declared.Why.TheVariants as cause
use Rattle.drill_log.specs.Run.{Within, Ready, Performs, Running, Ran, Runs}

-- each has a number of its own, so that no two are the same
abbrev pub rank : Why → ℕ
rank cause.More = 0
rank cause.Full = 1
rank cause.Refused = 2
rank cause.Ended = 3
rank cause.Failed = 4

-- the answer areas hold 1,536 actions and 1,536 replies
pub lines_most : (la lr acted replied : ℕ) → la ≡ drill_actions → lr ≡ reply_area → held la 13 acted * 96 + held lr 40 replied * 96 + 96 ≤ 295008
lines_most la lr acted replied ea er = omega (arith, (held_le la 13 acted).1, (held_le lr 40 replied).1)

pub lines_room : (la lr acted replied at n : ℕ) → la ≡ drill_actions → lr ≡ reply_area → at + 295008 ≤ n → at + (held la 13 acted * 96 + held lr 40 replied * 96 + 96) ≤ n
lines_room la lr acted replied at n ea er h = omega (arith, lines_most la lr acted replied ea er)

pub lines_within : {o w x : List ℕ} {at r : ℕ} (la lr acted replied : ℕ) → la ≡ drill_actions → lr ≡ reply_area
    → Puts (held la 13 acted * 96 + held lr 40 replied * 96 + 96) o at w r x → Within at r
lines_within la lr acted replied ea er p = record {
  low = omega (arith, p.next);
  high = omega (arith, p.next, p.near, lines_most la lr acted replied ea er);
}

-- ---- the lines so far

-- a record is begun only if all of its lines have room
pub room_for : (put n : ℕ) → n ≡ 655360 → put ≤ 360352 → put + 295008 ≤ n
room_for put n e h = omega arith

-- what is put behind the lines so far
more_lines : {most : ℕ} {out out' w : List ℕ} {at put : ℕ} → at + most ≤ length out → Puts most out at w put out' → take put out' ≡ take at out ++ w
more_lines {most} {out} {out'} {w} {at} {put} room p =
    (λ i. take (p.next i) (p.area i)) ∙ take_written out at w (omega (arith, p.near))

-- the body of a record at the front of the bytes that are left, as it is lent
pub body_lent : {lent : List ℕ} (s : List ℕ) (n : ℕ) {end : ℕ} → lent ≡ s → end ≡ 4 + n → take (end - 4) (drop 4 lent) ≡ part s 4 n
unfolding part
body_lent {lent} s n {end} e l =
    let k : end - 4 ≡ n = omega arith in
    ap (λ (i : ℕ). take i (drop 4 lent)) k ∙ ap (λ (r : List ℕ). take n (drop 4 r)) e

-- One record further, or at the last: s is what is left, and r the head at its front.
module _ (s : List ℕ) {r : ReadHead} (e : r ≡ head_of s) where
  module _ {h : Head} (w : r ≡ Ok (Some h)) {body : List ℕ} (lent : body ≡ part s 4 h.len) {s₀ : State} {b : List ℕ} {a a' : Areas} {out out' : List ℕ}
      {put put' : ℕ} {stop : Bool} (p : Performs (body_of h.mark body) a a' out put put' out' stop) (so_far : Running s₀ b a s (take put out)) where
    abbrev record_at : Option Record
    record_at = body_of h.mark (part s 4 h.len)

    same : body_of h.mark body ≡ record_at
    same = ap (body_of h.mark) lent

    lines : take put' out' ≡ take put out ++ lines_of (view a) record_at
    lines = more_lines p.room p.lines ∙ ap (λ (q : Option Record). take put out ++ lines_of (view a) q) same

    ends : stop ≡ last_record (view a) record_at
    ends = p.ends ∙ ap (last_record (view a)) same

    leaves : state_after (view a) record_at ≡ view a'
    leaves = ap (state_after (view a)) (sym same) ∙ sym p.leaves

    held_here : view a' ≡ after_all s₀ (so_far.calls ++ made_of record_at)
    held_here = sym leaves ∙ ap (λ (x : State). state_after x record_at) so_far.held ∙ sym (after_one s₀ so_far.calls record_at)

    pub record_on : {behind : List ℕ} → behind ≡ drop (4 + h.len) s → stop ≡ false → Running s₀ b a' behind (take put' out')
    record_on {behind} place f = record {
      ready = p.ready;
      on = λ t.
          so_far.on t
          ∙ ap (λ (l : List ℕ). take put out ++ l) (printed_on (view a) s t (sym e ∙ w) (sym ends ∙ f))
          ∙ sym (append_assoc (take put out) (lines_of (view a) record_at) _)
          ∙ (λ i. sym lines i ++ printed (leaves i) (sym place i ++ t));
      calls = so_far.calls ++ made_of record_at;
      made = λ t.
          so_far.made t
          ∙ ap (λ (l : List Record). so_far.calls ++ l) (performed_on (view a) s t (sym e ∙ w) (sym ends ∙ f))
          ∙ sym (append_assoc so_far.calls (made_of record_at) _)
          ∙ (λ i. (so_far.calls ++ made_of record_at) ++ performed (leaves i) (records_of (sym place i ++ t)));
      held = held_here;
    }

    pub record_stop : {rest : List ℕ} → stop ≡ true → Ran s₀ b a' rest (take put' out') cause.Refused
    record_stop f = record {
      ready = p.ready;
      on = λ h. absurd (false≢true h);
      stop = λ h t. so_far.on t ∙ ap (λ (l : List ℕ). take put out ++ l) (printed_stop (view a) s t (sym e ∙ w) (sym ends ∙ f)) ∙ sym lines;
      wants = λ h. absurd (omega (arith, ap rank h));
      calls = so_far.calls ++ made_of record_at;
      made = λ h. absurd (false≢true h);
      all = λ h t. so_far.made t ∙ ap (λ (l : List Record). so_far.calls ++ l) (performed_stop (view a) s t (sym e ∙ w) (sym ends ∙ f));
      held = held_here;
    }

  module _ {s₀ : State} {a : Areas} {b : List ℕ} where
    pub record_wrong : {why : Refusal} {out out' : List ℕ} {put put' : ℕ} → r ≡ Err why → put + 295008 ≤ length out
        → Puts 96 out put (last_line (Err why)) put' out' → Running s₀ b a s (take put out) → Ran s₀ b a s (take put' out') cause.Refused
    record_wrong {why} {out} {out'} {put} {put'} w room p so_far =
        let q : why ≡ refusal.LogRecord = of_wrong s e w in
        let z : head_of s ≡ Err refusal.LogRecord = sym e ∙ w ∙ ap Err q in
        record {
          ready = so_far.ready;
          on = λ h. absurd (false≢true h);
          stop = λ h t.
              so_far.on t
              ∙ ap (λ (l : List ℕ). take put out ++ l) (printed_wrong (view a) s t z ∙ ap (λ (x : Refusal). last_line (Err x)) (sym q))
              ∙ sym (more_lines (omega arith) p);
          wants = λ h. absurd (omega (arith, ap rank h));
          calls = so_far.calls;
          made = λ h. absurd (false≢true h);
          all = λ h t. so_far.made t ∙ ap (λ (l : List Record). so_far.calls ++ l) (performed_wrong (view a) s t z) ∙ append-nil so_far.calls;
          held = so_far.held;
        }

    pub record_more : {lines : List ℕ} → r ≡ Ok None → Running s₀ b a s lines → Ran s₀ b a s lines cause.More
    record_more w so_far = record {
      ready = so_far.ready;
      on = λ h. so_far.on;
      stop = λ h. absurd (omega (arith, ap rank h));
      wants = λ h. sym e ∙ w;
      calls = so_far.calls;
      made = λ h. so_far.made;
      all = λ h. absurd (omega (arith, ap rank h));
      held = so_far.held;
    }

-- before the first record
pub run_start : (a : Areas) (b : List ℕ) → Ready a → Running (view a) b a b []
unfolding after_all
run_start a b g = record { ready = g; on = λ t. refl; calls = []; made = λ t. refl; held = refl }

-- ---- the loop

-- what the run keeps to from record to record: so many bytes of the input are done
pub record InRun (before after : Areas) (input out : List ℕ) (used put count : ℕ) (why : Why) : Type 0 where
  pub high : used ≤ length input
  pub fewer : count ≤ used
  pub room : put ≤ 655360
  pub full : why ≡ cause.Full
  pub so_far : Ready before → Running (view before) input after (drop used input) (take put out)

-- where it ends
pub run_ends : {before after : Areas} (input : List ℕ) {out : List ℕ} {used put : ℕ} {why : Why} → used ≤ length input → put ≤ 655360
    → (why ≡ cause.More → length (drop used input) < 8196) → (Ready before → Ran (view before) input after (drop used input) (take put out) why)
    → Runs before after input used out put why
run_ends input {used = used} high room short ran = record {
  ended = record { high = high; room = room; short = λ w. omega (arith, short w, length-drop used input) };
  ran = ran;
}
