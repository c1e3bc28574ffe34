-- The records of a log, performed one by one, are the model's run of their calls: so demand 3 holds of every log. Assumes nothing.
use Rattle.std.proofs.Common.{◌≡◌, ℕ, ◌/◌, Bool, true, false, cond, List, [], ◌∷◌, ◌++◌, map, length, sym, refl, ap, ◌∙◌, append_assoc, append-nil, arith, Option, Some, None, Err}
use mathlib.Core.List.{flat_map}
use Rattle.octets.specs.Bytes.{Bytes}
use Rattle.courier_core.specs.declared.Refusal.TheVariants as refusal
use Rattle.table.specs.Lists.{All, none, more}
use Rattle.table.proofs.TableLaws.{table_none}
use Rattle.rows.specs.Rows.{contact_codec, own_codec, carried_codec, tombstone_codec, bad_tag_codec, offer_codec}
use Rattle.rows.specs.Device.{fresh_device, closed_exchange}
use Rattle.rows.specs.Limits.{prefix_area, offer_area}
use Rattle.wire.specs.Log.{Record}
use Rattle.model.specs.State.{State, apply, nobody, Session}
use Rattle.model.specs.Window.{prefix_codec}
use Rattle.model.specs.Step.{Post, Lent, state_for, answer_to, after, run, results}
use Rattle.model.specs.Calls.{Result}
use Rattle.model.specs.Areas.{Areas, view, view_session}
use Rattle.model.specs.Good.{Good}
use Rattle.model.proofs.AloneLaws.{sessions_after}
use Rattle.drill_lines.specs.Lines.{record_lines, last_line}
use Rattle.history.specs.History.{Empty, CustodyHistory}
use Rattle.history.proofs.HistoryLaws.{custody_history}
use Rattle.drill_run.specs.Drill.{record_step, drill_in, state_after, lines_of, last_record, records_of, lines_from, printed, performed, made_of, ends_wrong, after_all, answers_of, lent_of, post_of, run_lines, drill_start, drill_tombstones}
use Rattle.drill_run.proofs.RecordLaws.{ProperLent, records_proper, performed_proper}

-- ---- one record

-- the one exchange stays the one that is lent
after_record : (s : State) (r : Record) → after (post_of s) (lent_of r) ≡ post_of (state_after s (Some r))
unfolding after answer_to state_for state_after record_step
after_record s r = ap (λ (es : List Session). record { state = state_after s (Some r); sessions = es }) (sessions_after (post_of s) (lent_of r))

answer_record : (s : State) (r : Record) → answer_to (post_of s) (lent_of r) ≡ record_step s (Some r)
unfolding answer_to state_for record_step
answer_record s r = refl

-- ---- all records

-- the model's run of the calls leaves what the records leave, and answers what they answer
pub run_records : (s : State) (rs : List Record) → run (post_of s) (map lent_of rs) ≡ post_of (after_all s rs)
unfolding run after_all
run_records s [] = refl
run_records s (r ∷ rs) = ap (λ (p : Post). run p (map lent_of rs)) (after_record s r) ∙ run_records (state_after s (Some r)) rs

-- what is left after some records and then others; and after the call of one more
pub after_append : (s : State) (rs qs : List Record) → after_all s (rs ++ qs) ≡ after_all (after_all s rs) qs
unfolding after_all
after_append s [] qs = refl
after_append s (r ∷ rs) qs = after_append (state_after s (Some r)) rs qs

after_made : (s : State) (q : Option Record) → after_all s (made_of q) ≡ state_after s q
unfolding after_all state_after record_step apply
after_made s None = refl
after_made s (Some r) = refl

pub after_one : (s : State) (rs : List Record) (q : Option Record) → after_all s (rs ++ made_of q) ≡ state_after (after_all s rs) q
after_one s rs q = after_append s rs (made_of q) ∙ after_made (after_all s rs) q

pub results_records : (s : State) (rs : List Record) → results (post_of s) (map lent_of rs) ≡ answers_of s rs
unfolding results answers_of
results_records s [] = refl
results_records s (r ∷ rs) =
    ap (λ (p : Post). answer_to (post_of s) (lent_of r) ∷ results p (map lent_of rs)) (after_record s r)
    ∙ ap (λ (o : Result). o ∷ results (post_of (state_after s (Some r))) (map lent_of rs)) (answer_record s r)
    ∙ ap (λ (os : List Result). record_step s (Some r) ∷ os) (results_records (state_after s (Some r)) rs)

-- ---- what is printed

abbrev wrong_line : List ℕ
wrong_line = last_line (Err refusal.LogRecord)

-- the lines of a record are those of its call in the model's run
run_line : (s : State) (r : Record) (ls : List Lent) → run_lines (post_of s) (lent_of r ∷ ls) ≡ lines_of s (Some r) ++ run_lines (post_of (state_after s (Some r))) ls
unfolding run_lines lines_of after answer_to state_for state_after record_step
run_line s r ls = ap (λ (p : Post). lines_of s (Some r) ++ run_lines p ls) (after_record s r)

-- What records print is what the model's run of their calls answers, line by line, and the line of one that the grammar refuses.
pub lines_run : (s : State) (rs : List (Option Record)) → lines_from s rs ≡ run_lines (post_of s) (map lent_of (performed s rs)) ++ cond (ends_wrong s rs) wrong_line []
unfolding lines_from performed ends_wrong run_lines lines_of last_record record_step record_lines flat_map
lines_run s [] = refl
lines_run s (None ∷ rs) = append-nil _
lines_run s (Some r ∷ rs) = go (last_record s (Some r)) (lines_run (state_after s (Some r)) rs)
  where
    next : State
    next = state_after s (Some r)

    here : List ℕ
    here = lines_of s (Some r)

    go : (c : Bool) → lines_from next rs ≡ run_lines (post_of next) (map lent_of (performed next rs)) ++ cond (ends_wrong next rs) wrong_line []
        → here ++ cond c [] (lines_from next rs)
        ≡ run_lines (post_of s) (lent_of r ∷ map lent_of (cond c [] (performed next rs))) ++ cond (cond c false (ends_wrong next rs)) wrong_line []
    go true e = sym (append-nil (here ++ [])) ∙ ap (λ (l : List ℕ). l ++ []) (sym (run_line s r []))
    go false e =
        ap (λ (l : List ℕ). here ++ l) e ∙ sym (append_assoc here (run_lines (post_of next) (map lent_of (performed next rs))) (cond (ends_wrong next rs) wrong_line []))
        ∙ ap (λ (l : List ℕ). l ++ cond (ends_wrong next rs) wrong_line []) (sym (run_line s r (map lent_of (performed next rs))))

-- ---- from the drill's start

module _ (own_cells cells : List ℕ) where
  start_empty : Empty (post_of (drill_start own_cells cells))
  start_empty = record {
    contacts = refl;
    own = refl;
    carried = refl;
    tombstones = refl;
    bad_tags = refl;
    next_slot = refl;
    others = refl;
    sessions = more refl none;
  }

  -- it is good, so that what is said of performing a record holds from here on
  pub start_good : Good (drill_start own_cells cells)
  start_good = record {
    contacts = none;
    own = none;
    carried = none;
    tombstones = none;
    bad_tags = none;
    contacts_few = omega arith;
    own_few = omega arith;
    carried_few = omega arith;
    tombstones_fit = omega arith;
    bad_tags_fit = omega arith;
    next_slot = omega arith;
    copies = omega arith;
    session = record { listed = none; offered = none; listed_few = omega arith; offered_few = omega arith; listed_fit = omega arith; offered_fit = omega arith };
    sessions = none;
  }

  -- demand 3 holds of every list of records
  pub records_history : (rs : List Record) → All ProperLent (map lent_of rs) → CustodyHistory (post_of (drill_start own_cells cells)) (map lent_of rs)
  records_history rs proper = custody_history (post_of (drill_start own_cells cells)) start_empty (omega arith) (map lent_of rs) proper

  -- Demand 3 holds of every log, whatever its bytes.
  pub log_history : (b : List ℕ) → Bytes b → CustodyHistory (post_of (drill_start own_cells cells)) (map lent_of (performed (drill_start own_cells cells) (records_of b)))
  log_history b bytes =
      records_history (performed (drill_start own_cells cells) (records_of b)) (performed_proper (drill_start own_cells cells) (records_of b) (records_proper b bytes))

  -- what a log prints is what the model's run answers
  pub log_lines : (b : List ℕ)
      → let rs : List (Option Record) = records_of b in let s : State = drill_start own_cells cells in
      printed s b ≡ run_lines (post_of s) (map lent_of (performed s rs)) ++ cond (ends_wrong s rs) wrong_line []
  unfolding printed
  log_lines b = lines_run (drill_start own_cells cells) (records_of b)

  -- the program's areas at the start, whatever their bytes, hold that state
  pub start_view : (contacts own carried tombstones prefixes offers : List ℕ) (a : Areas)
      → length tombstones ≡ drill_tombstones → length prefixes ≡ prefix_area → length offers ≡ offer_area
      → view (drill_in fresh_device closed_exchange contacts own carried tombstones own_cells cells prefixes offers a) ≡ drill_start own_cells cells
  unfolding view view_session
  start_view contacts own carried tombstones prefixes offers a et ep ef = λ i. record {
    now_s = 0;
    courier = fresh_device.courier;
    contacts = table_none contact_codec contacts i;
    own = table_none own_codec own i;
    carried = table_none carried_codec carried i;
    tombstones = table_none tombstone_codec tombstones i;
    bad_tags = table_none bad_tag_codec [] i;
    next_slot = 0;
    own_cells = own_cells;
    carried_cells = cells;
    tombstone_rows = et i / 44;
    bad_tag_rows = 0;
    session = record {
      exchange = record {
        peer = nobody.peer;
        complete = nobody.complete;
        listed = table_none prefix_codec prefixes i;
        offered = table_none offer_codec offers i;
      };
      prefix_area = ep i;
      offer_area = ef i;
    };
    sessions = [];
  }
