-- Laws of what is sent. Assumes nothing.
use mathlib.Core.Path.{◌≡◌, refl, sym, ap, ◌∙◌, subst}
use mathlib.Core.Bool.{true, false, false≢true}
use Rattle.std.specs.Prelude.{Bool, Option, Some, None}
use mathlib.Core.List.{List, [], ◌++◌, append-nil, append_assoc}
use Prim.Native.Nat.{ℕ, ◌+◌, ◌-◌, ◌%◌, ◌^◌, ◌≤◌}
use native.Mathlib.Omega.{arith}
use lib.ListN.{length, length-append, length-drop, take, drop}
use lib.Seq.{length-take-le, take_all, take-add}
use Rattle.std.proofs.Common.{leb, leb-true}
use Rattle.std.proofs.lemmas.List.{take_rest}
use Rattle.octets.proofs.Parts.{take_written}
use Rattle.text.specs.Text.{Puts}
use Rattle.model.specs.State.{State}
use Rattle.model.specs.Areas.{Areas}
use Rattle.drill_run.specs.Drill.{drill_start, drill_areas, printed, drill_tombstones}
use Rattle.drill_log.specs.declared.Why.{Why}
use Rattle.drill_log.specs.declared.Why.TheVariants as cause
use Rattle.drill_log.specs.Run.{goes_on}
use Rattle.std.specs.Option.{unwrap_or}
use Rattle.rows.specs.Limits.{prefix_area, offer_area, contact_area, own_area, carried_area}
use Rattle.drill_turn.specs.declared.Turn.{Turn}
use Rattle.drill_turn.specs.Stream.{first_turn, left, read_of, read_turn, Inside, Waits, Keeps, Fed, Turned, AtEnd, Between, Streamed, Printed}
use Rattle.drill_turn.proofs.StreamLaws.{fed_read, streamed_more, between_start, between_on, between_end}
use Rattle.drill.specs.declared.Wrote.{Wrote}
use Rattle.drill.specs.declared.Ran.{Ran}
use Rattle.drill.specs.Reads.{Reads, Filled}
use Rattle.drill.specs.Written.{Sent, Takes, Writes, ran_of, is_done, is_unbroken, Halts, Finishes, Sending, SentAll}

-- ---- one write, none, and one after another

pub sent_none : Sent 0 []
unfolding Sent
sent_none = refl

pub takes_once : {total total' n : ℕ} (bytes : List ℕ) → n ≤ length bytes → total' ≡ (total + n) % 2 ^ 64 → Takes total bytes n total'
unfolding Sent
takes_once {total} {total'} {n} bytes h e = record {
  near = h;
  sent = λ before s. omega (arith, s, length-append before (take n bytes), length-take-le n bytes h);
}

-- the first were sent, and then the first of the rest
pub takes_on : (bytes : List ℕ) (done : ℕ) {total sum sum' k : ℕ} → Takes total bytes done sum → Takes sum (take (length bytes - done) (drop done bytes)) k sum'
    → Takes total bytes (done + k) sum'
takes_on bytes done {total} {sum} {sum'} {k} f g =
    let h : Takes sum (drop done bytes) k sum' = subst (λ (l : List ℕ). Takes sum l k sum') (take_rest bytes done) g in
    record {
      near = omega (arith, f.near, h.near, length-drop done bytes);
      sent = λ before s.
          subst (Sent sum') (append_assoc before (take done bytes) (take k (drop done bytes)) ∙ ap (λ (l : List ℕ). before ++ l) (sym (take-add done k bytes)))
          (h.sent (before ++ take done bytes) (f.sent before s));
    }

-- they are whole where as many were taken as were asked
pub wrote : (bytes : List ℕ) {total k total' : ℕ} → Takes total bytes k total' → Writes total bytes (record { total = total'; whole = leb (length bytes) k })
unfolding Writes
wrote bytes {total} {k} {total'} f e before s =
    subst (λ (l : List ℕ). Sent total' (before ++ l)) (take_all k bytes (leb-true (length bytes) k e)) (f.sent before s)

-- a text that is put at the front of an area, and sent from there
pub takes_text : {most n total k total' : ℕ} {o x text text' : List ℕ} → most ≤ length o → Puts most o 0 text n x → text ≡ text' → Takes total (take n x) k total'
    → Takes total text' k total'
takes_text {most} {n} {total} {k} {total'} {o} {x} {text} {text'} h p e t =
    let front : take n x ≡ text = (λ i. take (p.next i) (p.area i)) ∙ take_written o 0 text (omega (arith, p.near)) in
    subst (λ (l : List ℕ). Takes total l k total') (front ∙ e) t

-- ---- the end of a run

pub done_unbroken : (why : Option Why) → is_done why ≡ true → is_unbroken why ≡ true
done_unbroken None h = h
done_unbroken (Some cause.More) h = refl
done_unbroken (Some cause.Full) h = refl
done_unbroken (Some cause.Refused) h = refl
done_unbroken (Some cause.Ended) h = refl
done_unbroken (Some cause.Failed) h = h

-- what goes on is not done
pub going_not_done : (why : Why) → goes_on why ≡ true → is_done (Some why) ≡ false
going_not_done cause.More h = refl
going_not_done cause.Full h = refl
going_not_done cause.Refused h = absurd (false≢true h)
going_not_done cause.Ended h = absurd (false≢true h)
going_not_done cause.Failed h = refl

-- one is told at number 13, the other at the end
is_ended : Option Why → Bool
is_ended None = false
is_ended (Some cause.More) = false
is_ended (Some cause.Full) = false
is_ended (Some cause.Refused) = false
is_ended (Some cause.Ended) = true
is_ended (Some cause.Failed) = false

module _ (t : Turn) {r : Ran} where
  pub finishes_ended : {total put : ℕ} {out : List ℕ} {w : Wrote} → t.why ≡ cause.Ended → AtEnd t put out → Writes total (take put out) w → w.whole ≡ true
      → r ≡ ran_of t w.total (Some cause.Ended) → Finishes t total r
  unfolding Writes
  finishes_ended {total} {put} {out} {w} e end writes whole is =
      subst (Finishes t total) (sym is) (record { read = refl; ended = λ h. (refl, e, record { put = put; out = out; end = end; sent = writes whole }) })

-- ---- the run

-- before the first turn, over cells that stand as the start has them
pub sending_start : {t : Turn} {zo zk input : List ℕ} (c o k t' oc rc p f : List ℕ) → oc ≡ zo → rc ≡ zk → t ≡ first_turn
    → length c ≡ contact_area → length o ≡ own_area → length k ≡ carried_area → length t' ≡ drill_tombstones → length p ≡ prefix_area → length f ≡ offer_area
    → Sending (drill_start zo zk) (drill_areas t.device t.exchange c o k t' oc rc p f) t input 0
sending_start {t} {zo} {zk} {input} c o k t' oc rc p f eo ek e lc lo lk lt lp lf = record {
  turning = record {
    lines = [];
    between = subst (λ (s : State). Between s (drill_areas t.device t.exchange c o k t' oc rc p f) t input []) (λ i. drill_start (eo i) (ek i))
        (between_start c o k t' oc rc p f input e lc lo lk lt lp lf);
  };
  sent = sent_none;
}

pub inside_buffer : {from have size : ℕ} → Inside from have → size ≡ 65536 → have ≤ size
inside_buffer i e = omega (arith, i.room, e)

-- a read behind what is kept, whole or failed
pub filled : {t k v : Turn} {input moved input' : List ℕ} (got : Option ℕ) → Waits t input → Keeps t input k moved → length moved ≡ 65536
    → Reads moved k.have (unwrap_or got 0) input' → length input' ≡ 65536 → t.why ≡ cause.More → v ≡ read_turn k got → Filled t input v input'
filled {t} {k} {v} {input} {moved} {input'} got waits keeps size reads size' more e =
    let fed : Fed t input v input' = fed_read t input moved input' got waits.inside keeps reads.front (omega (arith, reads.room)) size' more e in
    record { fed = fed; inside = λ w h. inside_buffer fed.inside size' }

module _ {s : State} {c o k t oc rc p f : List ℕ} {u v : Turn} {input input' : List ℕ} {total : ℕ}
    (so_far : Sending s (drill_areas u.device u.exchange c o k t oc rc p f) u input total) (filled : Filled u input v input') where
  abbrev fed : Fed u input v input'
  fed = filled.fed

  abbrev lines : List ℕ
  lines = so_far.turning.lines

  pub written_end : {r : Ran} → Finishes v total r → SentAll s r
  unfolding SentAll is_ended
  written_end {r} done told =
      let z = done.ended (done_unbroken r.why told) in
      let w : Printed s (read_of v) (lines ++ take z.2.put z.2.out) = between_end so_far.turning.between fed z.1 (filled.inside z.1 so_far.turning.between.goes_on) z.2.end in record {
        log = w.log;
        size = w.size ∙ sym done.read;
        sent = subst (Sent r.wrote) (sym w.prints) (z.2.sent lines so_far.sent);
        begins = λ e. absurd (false≢true (ap is_ended (sym e ∙ z.0)));
      }

  module _ {a : Areas} {w : Turn} {wrote : Wrote} {out : List ℕ} (turned : Turned (drill_areas v.device v.exchange c o k t oc rc p f) a v input' w out)
      (writes : Writes total (take w.put out) wrote) where
    -- the next turn
    pub sending_on : goes_on w.why ≡ true → wrote.whole ≡ true → Sending s a w input' wrote.total
    unfolding Writes
    sending_on h whole = record {
      turning = record { lines = lines ++ take w.put out; between = between_on so_far.turning.between fed turned h };
      sent = writes whole lines so_far.sent;
    }

    -- number 13
    pub written_stop : {r : Ran} → Halts w wrote r → SentAll s r
    unfolding Writes SentAll
    written_stop {r} halts told =
        let z = halts.refused (done_unbroken r.why told) in
        let here : Streamed s (drill_areas v.device v.exchange c o k t oc rc p f) (left v input') (read_of v) lines =
        streamed_more fed.more fed.device fed.exchange fed.rest fed.counted so_far.turning.between.streamed in
        let all : (more : List ℕ) → printed s (here.log ++ more) ≡ lines ++ take w.put out =
        λ more. here.run.on more ∙ ap (λ (l : List ℕ). lines ++ l) ((turned.runs.ran here.run.ready).stop z.1 more) in
        let whole : printed s here.log ≡ lines ++ take w.put out = ap (printed s) (sym (append-nil here.log)) ∙ all [] in record {
          log = here.log;
          size = here.size ∙ sym (halts.read ∙ (λ i. (turned.bytes i + turned.have i) % 2 ^ 64));
          sent = subst (λ (n : ℕ). Sent n (printed s here.log)) (sym halts.wrote) (subst (Sent wrote.total) (sym whole) (writes z.2 lines so_far.sent));
          begins = λ e more. all more ∙ sym whole;
        }

-- the turns are used up
pub written_none : (s : State) (u : Turn) {r : Ran} (total : ℕ) → goes_on u.why ≡ true → r ≡ ran_of u total (Some u.why) → SentAll s r
unfolding SentAll
written_none s u {r} total h is told = absurd (false≢true (sym (going_not_done u.why h) ∙ ap (λ (x : Ran). is_done x.why) (sym is) ∙ told))
