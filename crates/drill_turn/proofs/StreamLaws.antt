-- Laws of a log that is read in pieces: what holds between two turns holds at the start, after a read and after a run. Assumes nothing.
use Rattle.std.proofs.Common.{◌≡◌, ℕ, ◌+◌, ◌-◌, ◌%◌, ◌^◌, ◌<◌, ◌≤◌, Bool, true, false, cond, eqb, List, [], ◌++◌, length, take, sym, refl, ap, ◌∙◌, subst, append-nil, zero-add, arith, length-append, length-take, eqb-true, drop, None, Ok, Err}
use Rattle.std.specs.Option.{unwrap_or}
use Rattle.std.specs.Prelude.{Option, Some, None}
use Rattle.octets.specs.Bytes.{part, splice}
use lib.Seq.{drop-drop, paste}
use Rattle.std.proofs.lemmas.List.{drop-take}
use Rattle.std.proofs.lemmas.Grind.{common_steps}
use Rattle.octets.proofs.Parts.{part_nil, part_add, length_part, read_same, take_written}
use Rattle.courier_core.specs.declared.Refusal.TheVariants as refusal
use Rattle.text.specs.Text.{Puts}
use Rattle.wire.specs.Log.{head_of}
use Rattle.wire.proofs.HeadLaws.{of_more}
use Rattle.rows.specs.declared.Device.{Device}
use Rattle.rows.specs.declared.Exchange.{Exchange}
use Rattle.rows.specs.Device.{fresh_device, closed_exchange}
use Rattle.rows.specs.Limits.{prefix_area, offer_area, contact_area, own_area, carried_area}
use Rattle.model.specs.State.{State}
use Rattle.model.specs.Areas.{Areas, view}
use Rattle.drill_lines.specs.Lines.{last_line}
use Rattle.drill_run.specs.Drill.{drill_areas, drill_start, drill_tombstones}
use Rattle.drill_run.proofs.RunLaws.{start_view}
use Rattle.drill_log.specs.declared.Why.{Why}
use Rattle.drill_log.specs.declared.Why.TheVariants as cause
use Rattle.drill_log.specs.Run.{Running, Runs, goes_on}
use Rattle.drill_log.proofs.RunLaws.{rank, run_start}
use Rattle.drill_log.proofs.WholeLaws.{runs_join, ran_on, log_whole, log_cut, start_ready}
use Rattle.drill_turn.specs.declared.Turn.{Turn}
use Rattle.drill_turn.specs.Stream.{left, read_of, Inside, Waits, Keeps, Fed, Turned, after_read, read_turn, Ends, AtEnd, Stops, Streamed, Between, Printed, first_turn}

-- ---- the input

-- a run moved to another place, as `copy_within` says it
moved_splice : (a : List ℕ) (to from n : ℕ) → from + n ≤ length a → paste a to (drop from a) (from + n - from) ≡ splice a to (part a from n)
unfolding splice part
moved_splice a to from n h = grind (arith, common_steps)

-- bytes moved to the front stand there
pub moved_front : (a b : List ℕ) (from have : ℕ) → from ≤ have → have ≤ length a → b ≡ paste a 0 (drop from a) (have - from)
    → part b 0 (have - from) ≡ part a from (have - from)
moved_front a b from have order room e =
    let n : ℕ = have - from in
    let k : n ≡ from + n - from = omega arith in
    let v : List ℕ = part a from n in
    let lv : length v ≡ n = length_part a from n (omega arith) in
    ap (λ (x : List ℕ). part x 0 n) (e ∙ ap (paste a 0 (drop from a)) k ∙ moved_splice a 0 from n (omega arith))
    ∙ ap (part (splice a 0 v) 0) (sym lv) ∙ read_same a 0 v (omega arith)

-- of the bytes that are not done, those behind the first n
pub left_most : (a : List ℕ) (at n : ℕ) → length (part a at n) ≤ n
unfolding part
left_most a at n = omega (arith, length-take n (drop at a))

left_behind : (a : List ℕ) (from have n : ℕ) → n ≤ have - from → drop n (part a from (have - from)) ≡ part a (from + n) (have - (from + n))
unfolding part
left_behind a from have n h =
    let k : have - from ≡ n + (have - (from + n)) = omega arith in
    ap (λ (m : ℕ). drop n (take m (drop from a))) k ∙ drop-take n (have - (from + n)) (drop from a) ∙ ap (take (have - (from + n))) (drop-drop n from a)

-- bytes are read behind those that are kept
module _ (t : Turn) (input moved input' : List ℕ) (got : Option ℕ) (inside : Inside t.from t.have) where
  abbrev n : ℕ
  n = unwrap_or got 0

  abbrev kept : ℕ
  kept = t.have - t.from

  read_rest : take kept input' ≡ take kept moved → part moved 0 kept ≡ left t input → part input' 0 (kept + n - 0) ≡ left t input ++ part input' kept n
  unfolding part
  read_rest f e =
      let k : kept + n - 0 ≡ kept + n = omega arith in
      ap (part input' 0) k ∙ part_add input' 0 kept n ∙ (λ i. (f ∙ e) i ++ part input' (zero-add kept i) n)

  -- the end is told of a read of nothing
  read_ended : after_read got ≡ cause.Ended → n ≡ 0
  read_ended e = of_end got e
    where
      of_end : (x : Option ℕ) → after_read x ≡ cause.Ended → unwrap_or x 0 ≡ 0
      of_end None r = refl
      of_end (Some m) r = go (eqb m 0) refl r
        where
          go : (z : Bool) → eqb m 0 ≡ z → cond z cause.Ended cause.More ≡ cause.Ended → m ≡ 0
          go true q r = eqb-true m 0 q
          go false q r = absurd (omega (arith, ap rank r))

  pub fed_read : {k t' : Turn} → Keeps t input k moved → take k.have input' ≡ take k.have moved → k.have + n ≤ 65536 → length input' ≡ 65536
      → t.why ≡ cause.More → t' ≡ read_turn k got → Fed t input t' input'
  fed_read {k} {t'} keeps front room size more e =
      let h : k.have ≡ kept = ap (λ (x : Turn). x.have) keeps.turn in
      let f : take kept input' ≡ take kept moved = subst (λ (j : ℕ). take j input' ≡ take j moved) h front in
      subst (λ (x : Turn). Fed t input x input') (sym (e ∙ ap (λ (x : Turn). read_turn x got) keeps.turn)) (record {
        device = refl;
        exchange = refl;
        inside = record { order = omega arith; room = omega arith };
        more = part input' kept n;
        rest = read_rest f keeps.bytes;
        counted = omega (arith, length_part input' kept n (omega arith));
        ended = λ w h. (more, ap (part input' kept) (read_ended w) ∙ part_nil input' kept);
      })

-- there is room to read where more input is wanted
pub room_to_read : (t k : Turn) (input moved : List ℕ) → Waits t input → Keeps t input k moved → length moved ≡ 65536 → t.why ≡ cause.More → k.have < length moved
room_to_read t k input moved w keeps size h =
    let room : t.have - t.from ≤ 65536 = omega (arith, w.inside.room) in
    omega (arith, of_more (left t input) refl (w.wants h), ap length keeps.bytes, length_part moved 0 (t.have - t.from) (omega arith), ap (λ (x : Turn). x.have) keeps.turn)

-- the byte count goes on
counted_more : (log more : List ℕ) (n n' : ℕ) → length log % 2 ^ 64 ≡ n → n' ≡ (n + length more) % 2 ^ 64 → length (log ++ more) % 2 ^ 64 ≡ n'
counted_more log more n n' e f = omega (arith, length-append log more)

-- ---- from turn to turn

pub streamed_more : {s : State} {d d' : Device} {x x' : Exchange} {c o k t oc rc p f rest rest' lines : List ℕ} {n n' : ℕ} (more : List ℕ) → d' ≡ d → x' ≡ x
    → rest' ≡ rest ++ more → n' ≡ (n + length more) % 2 ^ 64
    → Streamed s (drill_areas d x c o k t oc rc p f) rest n lines → Streamed s (drill_areas d' x' c o k t oc rc p f) rest' n' lines
streamed_more {s} {d} {d'} {x} {x'} {c} {o} {k} {t} {oc} {rc} {p} {f} {rest} {rest'} {lines} {n} {n'} more ed ex er en so_far =
    let a : Areas = drill_areas d x c o k t oc rc p f in
    let log : List ℕ = so_far.log ++ more in
    let r : Running s log a (rest ++ more) (lines ++ []) = runs_join more so_far.run (run_start a (rest ++ more) so_far.run.ready) in record {
      log = log;
      run = subst (λ (b : Areas). Running s log b rest' lines) (λ i. drill_areas (sym ed i) (sym ex i) c o k t oc rc p f)
          (subst (λ (b : List ℕ). Running s log a b lines) (sym er) (subst (Running s log a (rest ++ more)) (append-nil lines) r));
      size = counted_more so_far.log more n n' so_far.size en;
    }

pub streamed_ran : {s : State} {a a' : Areas} {rest out lines : List ℕ} {used put n : ℕ} {why : Why} → goes_on why ≡ true
    → Runs a a' rest used out put why → Streamed s a rest n lines → Streamed s a' (drop used rest) n (lines ++ take put out)
streamed_ran {s} {a} {a'} {rest} {out} {lines} {used} {put} {n} {why} h runs so_far = record {
  log = so_far.log ++ [];
  run = runs_join [] so_far.run
      (subst (λ (b : List ℕ). Running (view a) b a' (drop used rest) (take put out)) (sym (append-nil rest))
      (ran_on h (runs.ran so_far.run.ready)));
  size = ap (λ (l : List ℕ). length l % 2 ^ 64) (append-nil so_far.log) ∙ so_far.size;
}

-- after a read that ends nothing or all: what holds of the bytes that are not done now
module _ {s : State} {c o k t oc rc p f : List ℕ} {u v : Turn} {input input' lines : List ℕ}
    (so_far : Between s (drill_areas u.device u.exchange c o k t oc rc p f) u input lines) (fed : Fed u input v input') where
  abbrev here : Areas
  here = drill_areas v.device v.exchange c o k t oc rc p f

  streamed_on : Streamed s here (left v input') (read_of v) lines
  streamed_on = streamed_more fed.more fed.device fed.exchange fed.rest fed.counted so_far.streamed

  -- a run that did not end at number 13: its lines stand behind those of the turns before
  pub between_on : {a : Areas} {w : Turn} {out : List ℕ} → Turned here a v input' w out → goes_on w.why ≡ true → Between s a w input' (lines ++ take w.put out)
  between_on {a} {w} {out} turned h =
      let n : turned.used ≤ v.have - v.from = omega (arith, turned.runs.ended.high, left_most input' v.from (v.have - v.from)) in
      let e : drop turned.used (left v input') ≡ left w input' =
      left_behind input' v.from v.have turned.used n ∙ (λ i. part input' (sym turned.from i) (sym turned.have i - sym turned.from i)) in
      record {
        waits = record {
          inside = turned.inside;
          wants = λ z. ap head_of (sym e) ∙ (turned.runs.ran streamed_on.run.ready).wants z;
        };
        goes_on = h;
        streamed = subst (λ (n : ℕ). Streamed s a (left w input') n (lines ++ take w.put out)) (λ i. (sym turned.bytes i + sym turned.have i) % 2 ^ 64)
            (subst (λ (l : List ℕ). Streamed s a l (read_of v) (lines ++ take w.put out)) e (streamed_ran h turned.runs streamed_on));
      }

  -- at the end of the input no whole record is left
  pub stops_at_end : Stops v input'
  stops_at_end = record {
    inside = fed.inside;
    wants = λ e.
        let z = fed.ended e so_far.goes_on in
        ap head_of (fed.rest ∙ ap (λ (m : List ℕ). left u input ++ m) z.1 ∙ append-nil (left u input)) ∙ so_far.waits.wants z.0;
  }

  -- and the lines of all turns, with the last, are what a log of as many bytes prints
  pub between_end : {put : ℕ} {out : List ℕ} → v.why ≡ cause.Ended → v.have ≤ length input' → AtEnd v put out → Printed s (read_of v) (lines ++ take put out)
  unfolding Ends
  between_end e room end = record {
    log = streamed_on.log;
    size = streamed_on.size;
    prints = end.ends s here streamed_on.log lines input' room (stops_at_end.wants e) streamed_on.run;
  }

-- ---- the start and the end

-- nothing is left
left_none : (t : Turn) (input : List ℕ) → t.have ≤ t.from → left t input ≡ []
left_none t input h = let e : t.have - t.from ≡ 0 = omega arith in ap (part input t.from) e ∙ part_nil input t.from

pub none_wants : head_of [] ≡ Ok None
unfolding head_of
none_wants = refl

pub between_start : {turn : Turn} (contacts own carried tombstones own_cells cells prefixes offers input : List ℕ) → turn ≡ first_turn
    → length contacts ≡ contact_area → length own ≡ own_area → length carried ≡ carried_area → length tombstones ≡ drill_tombstones → length prefixes ≡ prefix_area → length offers ≡ offer_area
    → Between (drill_start own_cells cells) (drill_areas turn.device turn.exchange contacts own carried tombstones own_cells cells prefixes offers) turn input []
between_start contacts own carried tombstones own_cells cells prefixes offers input start lc lo lr lt lp lf =
    let a : Areas = drill_areas fresh_device closed_exchange contacts own carried tombstones own_cells cells prefixes offers in
    let e : left first_turn input ≡ [] = part_nil input 0 in
    subst (λ (t : Turn). Between (drill_start own_cells cells) (drill_areas t.device t.exchange contacts own carried tombstones own_cells cells prefixes offers) t input []) (sym start) (record {
      waits = record { inside = record { order = omega arith; room = omega arith }; wants = λ w. ap head_of e ∙ none_wants };
      goes_on = refl;
      streamed = record {
        log = [];
        run = subst (λ (b : List ℕ). Running (drill_start own_cells cells) [] a b []) (sym e)
            (subst (λ (s : State). Running s [] a [] []) (start_view own_cells cells contacts own carried tombstones prefixes offers a lt lp lf)
            (run_start a [] (start_ready contacts own carried tombstones own_cells cells prefixes offers lc lo lr lt lp lf)));
        size = refl;
      };
    })

-- a line that is put at the front of an area stands there
put_front : {most put : ℕ} {out out' line : List ℕ} → most ≤ length out → Puts most out 0 line put out' → take put out' ≡ line
put_front {most} {put} {out} {out'} {line} h p = (λ i. take (p.next i) (p.area i)) ∙ take_written out 0 line (omega (arith, p.near))

-- between two records there is no line, and inside one that of number 13
pub ends_between : (t : Turn) → t.have ≤ t.from → Ends t []
unfolding Ends
ends_between t h s a log so_far input room w k =
    log_whole (subst (λ (b : List ℕ). Running s log a b so_far) (left_none t input h) k) ∙ sym (append-nil so_far)

pub ends_inside : (t : Turn) {out out' : List ℕ} {put : ℕ} → t.from < t.have → Puts 96 out 0 (last_line (Err refusal.LogRecord)) put out'
    → 96 ≤ length out → Ends t (take put out')
unfolding Ends
ends_inside t {out} {out'} {put} h p n s a log so_far input room w k =
    log_cut k w (omega (arith, length_part input t.from (t.have - t.from) (omega arith)))
    ∙ ap (λ (l : List ℕ). so_far ++ l) (sym (put_front n p))
