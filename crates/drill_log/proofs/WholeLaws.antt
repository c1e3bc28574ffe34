-- A whole log, read in pieces: what the runs over the pieces print and make is what the log does, and what the areas hold is what the
-- model's run of its calls leaves. Assumes nothing.
use Rattle.std.proofs.Common.{◌≡◌, ℕ, ◌<◌, List, [], ◌++◌, map, length, sym, refl, ap, ◌∙◌, subst, append_assoc, append-nil, None, Ok, Err}
use mathlib.Core.Bool.{true}
use mathlib.Core.List.{map-append}
use lib.Seq.{take-append_seam}
use Rattle.octets.specs.Bytes.{Bytes}
use Rattle.courier_core.specs.declared.Refusal.TheVariants as refusal
use Rattle.table.specs.Lists.{All}
use Rattle.table.proofs.ListLaws.{all_take}
use Rattle.wire.specs.Log.{Record, head_of}
use Rattle.model.specs.State.{State}
use Rattle.model.specs.Step.{Post, Lent, run}
use Rattle.model.specs.Areas.{Areas, view}
use Rattle.history.specs.History.{CustodyHistory}
use Rattle.model.specs.Good.{Good}
use Rattle.drill_lines.specs.Lines.{last_line}
use Rattle.rows.specs.Device.{fresh_device, closed_exchange}
use Rattle.rows.specs.Limits.{prefix_area, offer_area, contact_area, own_area, carried_area}
use Rattle.drill_run.specs.Drill.{drill_areas, drill_start, records_of, printed, performed, after_all, lent_of, post_of, drill_tombstones}
use Rattle.drill_run.proofs.LogLaws.{printed_end, printed_cut}
use Rattle.drill_run.proofs.RunLaws.{start_view, start_good, run_records, after_append, records_history}
use Rattle.drill_run.proofs.RecordLaws.{ProperLent, records_proper, performed_proper}
use Rattle.drill_log.specs.declared.Why.{Why}
use Rattle.drill_log.specs.declared.Why.TheVariants as cause
use Rattle.drill_log.specs.Run.{Ready, Running, Ran, goes_on}

-- ---- one run after another, with bytes that were read between them

pub runs_join : {s₀ : State} {a₁ a₂ : Areas} {b rest rest' l l' : List ℕ} (more : List ℕ) → Running s₀ b a₁ rest l → Running (view a₁) (rest ++ more) a₂ rest' l'
    → Running s₀ (b ++ more) a₂ rest' (l ++ l')
runs_join {s₀} {a₁} {a₂} {b} {rest} {rest'} {l} {l'} more j k = record {
  ready = k.ready;
  on = λ t.
      ap (printed s₀) (append_assoc b more t) ∙ j.on (more ++ t)
      ∙ ap (λ (x : List ℕ). l ++ x) (ap (printed (view a₁)) (sym (append_assoc rest more t)) ∙ k.on t)
      ∙ sym (append_assoc l l' (printed (view a₂) (rest' ++ t)));
  calls = j.calls ++ k.calls;
  made = λ t.
      ap (λ (x : List ℕ). performed s₀ (records_of x)) (append_assoc b more t) ∙ j.made (more ++ t)
      ∙ ap (λ (x : List Record). j.calls ++ x) (ap (λ (x : List ℕ). performed (view a₁) (records_of x)) (sym (append_assoc rest more t)) ∙ k.made t)
      ∙ sym (append_assoc j.calls k.calls (performed (view a₂) (records_of (rest' ++ t))));
  held = k.held ∙ ap (λ (x : State). after_all x k.calls) j.held ∙ sym (after_append s₀ j.calls k.calls);
}

-- a run that did not end at number 13
pub ran_on : {s₀ : State} {a : Areas} {b rest l : List ℕ} {why : Why} → goes_on why ≡ true → Ran s₀ b a rest l why → Running s₀ b a rest l
ran_on h k = record { ready = k.ready; on = k.on h; calls = k.calls; made = k.made h; held = k.held }

-- at the end of the input: nothing is left, or a record that is not all there
pub log_whole : {s₀ : State} {a : Areas} {b l : List ℕ} → Running s₀ b a [] l → printed s₀ b ≡ l
log_whole {s₀} {a} {b} {l} k =
    ap (printed s₀) (sym (append-nil b)) ∙ k.on [] ∙ ap (λ (x : List ℕ). l ++ x) (printed_end (view a)) ∙ append-nil l

pub log_cut : {s₀ : State} {a : Areas} {b rest l : List ℕ} → Running s₀ b a rest l → head_of rest ≡ Ok None → 0 < length rest
    → printed s₀ b ≡ l ++ last_line (Err refusal.LogRecord)
log_cut {s₀} {a} {b} {rest} {l} k e some =
    ap (printed s₀) (sym (append-nil b)) ∙ k.on [] ∙ ap (λ (x : List ℕ). l ++ x) (ap (printed (view a)) (append-nil rest) ∙ printed_cut (view a) rest some e)

-- ---- from the drill's start

-- the program's areas at the start are ready, and hold the drill's start: `start_view`
pub start_ready : (contacts own carried tombstones own_cells cells prefixes offers : List ℕ) → length contacts ≡ contact_area → length own ≡ own_area → length carried ≡ carried_area
    → length tombstones ≡ drill_tombstones → length prefixes ≡ prefix_area → length offers ≡ offer_area
    → Ready (drill_areas fresh_device closed_exchange contacts own carried tombstones own_cells cells prefixes offers)
start_ready contacts own carried tombstones own_cells cells prefixes offers lc lo lr lt lp lf =
    let a : Areas = drill_areas fresh_device closed_exchange contacts own carried tombstones own_cells cells prefixes offers in
    let e : view a ≡ drill_start own_cells cells = start_view own_cells cells contacts own carried tombstones prefixes offers a lt lp lf in
    record {
      sized = record { contacts = lc; own = lo; carried = lr };
      rows = ap (λ (s : State). s.tombstone_rows) e;
      good = subst Good (sym e) (start_good own_cells cells);
    }

-- What the areas hold between two runs is what the model's run of the calls so far has, and of that run demand 3 holds.
pub log_held : (own_cells cells : List ℕ) {b rest lines : List ℕ} {a : Areas} → Bytes b → (k : Running (drill_start own_cells cells) b a rest lines)
    → (view a ≡ (run (post_of (drill_start own_cells cells)) (map lent_of k.calls)).state)
    × CustodyHistory (post_of (drill_start own_cells cells)) (map lent_of k.calls)
log_held own_cells cells {b} {rest} {lines} {a} bytes k =
    let s : State = drill_start own_cells cells in
    let e : map lent_of (performed s (records_of b)) ≡ map lent_of k.calls ++ map lent_of (performed (view a) (records_of (rest ++ []))) =
    ap (λ (x : List ℕ). map lent_of (performed s (records_of x))) (sym (append-nil b)) ∙ ap (map lent_of) (k.made [])
    ∙ map-append lent_of k.calls (performed (view a) (records_of (rest ++ []))) in
    let ls : List Lent = map lent_of k.calls in
    let ms : List Lent = map lent_of (performed (view a) (records_of (rest ++ []))) in
    let proper : All ProperLent ls =
    subst (All ProperLent) (take-append_seam ls ms)
    (all_take (length ls) (ls ++ ms) (subst (All ProperLent) e (performed_proper s (records_of b) (records_proper b bytes)))) in
    (k.held ∙ sym (ap (λ (p : Post). p.state) (run_records s k.calls)), records_history own_cells cells k.calls proper)

-- the same of a log that ended at number 13: all of its calls were made, and all of its lines are there
pub log_stopped : (own_cells cells : List ℕ) {b rest lines : List ℕ} {a : Areas} → (k : Ran (drill_start own_cells cells) b a rest lines cause.Refused)
    → (view a ≡ (run (post_of (drill_start own_cells cells)) (map lent_of (performed (drill_start own_cells cells) (records_of b)))).state)
    × (printed (drill_start own_cells cells) b ≡ lines)
log_stopped own_cells cells {b} k =
    let s : State = drill_start own_cells cells in
    let e : performed s (records_of b) ≡ k.calls = ap (λ (x : List ℕ). performed s (records_of x)) (sym (append-nil b)) ∙ k.all refl [] in (
      k.held ∙ sym (ap (λ (p : Post). p.state) (run_records s k.calls)) ∙ ap (λ (rs : List Record). (run (post_of s) (map lent_of rs)).state) (sym e),
      ap (printed s) (sym (append-nil b)) ∙ k.stop refl [],
    )
