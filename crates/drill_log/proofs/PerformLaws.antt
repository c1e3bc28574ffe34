-- A record performed: what its call answers and stores, as lines and as the model's step. Assumes nothing.
use Rattle.std.proofs.Common.{◌≡◌, ℕ, ◌+◌, ◌*◌, ◌≤◌, Bool, false, List, length, sym, refl, ap, ◌∙◌, subst, Option, Err}
use Rattle.courier_core.specs.declared.Refusal.{Refusal}
use Rattle.courier_core.specs.declared.Refusal.TheVariants as refusal
use Rattle.text.specs.Text.{Puts}
use Rattle.text.proofs.TextLaws.{puts_within}
use Rattle.table.specs.Rows.{held}
use Rattle.table.specs.Codec.{table_of}
use Rattle.rows.specs.declared.Device.{Device}
use Rattle.rows.specs.declared.Exchange.{Exchange}
use Rattle.rows.specs.Rows.{reply_codec, action_codec}
use Rattle.rows.specs.Limits.{reply_area}
use Rattle.wire.specs.Log.{Record}
use Rattle.model.specs.State.{State, apply}
use Rattle.model.specs.Calls.{Result}
use Rattle.model.specs.Areas.{Areas, AnswerAreas, Retold, view, answer_areas}
use Rattle.model.specs.Lent.{answers_lent}
use Rattle.model.specs.Good.{Good, Sized}
use Rattle.model.proofs.StoreLaws.{sized_store, view_store}
use Rattle.saved.specs.Blobs.{held_in}
use Rattle.drill_lines.specs.Lines.{Last, record_lines, last_of, stops_at, acted_by, replied_by, last_by}
use Rattle.drill_calls.specs.Asking.{Told, told_by}
use Rattle.drill_lines.proofs.LineLaws.{puts_as}
use Rattle.drill_run.specs.Drill.{record_step, tells, drill_areas, drill_in, state_after, lines_of, last_record, drill_actions}
use Rattle.drill_run.proofs.RecordLaws.{ProperRecord}
use Rattle.drill_run.proofs.AnswerLaws.{Answers, record_answers, record_keeps, replies_back, actions_back}
use Rattle.drill_log.specs.Run.{Ready, Performs}
use Rattle.drill_log.proofs.RunLaws.{lines_most}

-- of the refusals one ends the log
pub not_last : (why : Refusal) → (why ≡ refusal.LogRecord → ⊥) → false ≡ stops_at (Err why)
not_last refusal.ShortArea h = refl
not_last refusal.UnknownContact h = refl
not_last refusal.WrongExchange h = refl
not_last refusal.NoCell h = refl
not_last refusal.NoTombstoneRow h = refl
not_last refusal.NoSlot h = refl
not_last refusal.Configuration h = refl
not_last refusal.SavedFile h = refl
not_last refusal.NoBadTagRow h = refl
not_last refusal.MessageNumberTaken h = refl
not_last refusal.OwnLength h = refl
not_last refusal.WindowRows h = refl
not_last refusal.LogRecord h = absurd (h refl)

-- ---- on any areas

module _ (r : Option Record) (proper : ProperRecord r) (a a' : Areas) (ready : Ready a)
    (told : Told) {replies actions replies' actions' : List ℕ} (lr : length replies' ≡ reply_area) (la : length actions' ≡ drill_actions)
    (w : Retold tells (record_step (view a) r) (told_by told) a a' (answers_lent replies actions) (answers_lent replies' actions')) where
  abbrev acted : ℕ
  acted = acted_by told

  abbrev replied : ℕ
  replied = replied_by told

  abbrev end : Last
  end = last_by told

  abbrev s : State
  s = view a

  abbrev o : Result
  o = record_step (view a) r

  kept : Good (state_after s r)
  kept = record_keeps s ready.good r proper

  leaves : view a' ≡ state_after s r
  unfolding state_after
  leaves = ap view w.areas ∙ view_store a o.change ready.sized kept

  rows_stay : (state_after s r).tombstone_rows ≡ s.tombstone_rows
  unfolding state_after apply
  rows_stay = refl

  ready_after : Ready a'
  unfolding state_after
  ready_after = record {
    sized = subst Sized (sym w.areas) (sized_store a o.change ready.sized kept);
    rows = ap (λ (x : State). x.tombstone_rows) leaves ∙ rows_stay ∙ ready.rows;
    good = subst Good (sym leaves) kept;
  }

  answers : Answers s o
  answers = record_answers s ready.good r proper

  listed_actions : table_of action_codec acted actions' ≡ o.actions
  unfolding tells told_by answer_areas
  listed_actions =
      ap (λ (n : ℕ). table_of action_codec n actions') (ap (λ (p : ℕ × (ℕ × Last)). p.0) w.answer)
      ∙ actions_back s o answers ready.rows actions actions' (ap (λ (x : AnswerAreas). x.actions) w.answers) la

  listed_replies : table_of reply_codec replied replies' ≡ o.replies
  unfolding tells told_by answer_areas
  listed_replies =
      ap (λ (n : ℕ). table_of reply_codec n replies') (ap (λ (p : ℕ × (ℕ × Last)). p.1.0) w.answer)
      ∙ replies_back s o answers ready.rows replies replies' (ap (λ (x : AnswerAreas). x.replies) w.answers) lr

  last_told : end ≡ last_of o.answer
  unfolding tells told_by
  last_told = ap (λ (p : ℕ × (ℕ × Last)). p.1.1) w.answer

  performed : {out out' : List ℕ} {at put : ℕ} {stop : Bool}
      → Puts 295008 out at (record_lines (view a') (table_of action_codec acted actions') (table_of reply_codec replied replies') end) put out'
      → at + 295008 ≤ length out → stop ≡ stops_at end → Performs r a a' out at put out' stop
  unfolding lines_of last_record
  performed p h e = record {
    areas = w.areas;
    ready = ready_after;
    leaves = leaves;
    lines = puts_as (λ i. record_lines (leaves i) (listed_actions i) (listed_replies i) (last_told i)) p;
    room = h;
    ends = e ∙ ap stops_at last_told;
  }

-- ---- on the drill's

module _ {d d' : Device} {x x' : Exchange} {c c' o o' k k' t t' oc oc' rc rc' p p' f f' : List ℕ} (r : Option Record) (proper : ProperRecord r)
    (told : Told) {replies actions replies' actions' out out' : List ℕ} {at put : ℕ} {stop : Bool}
    (lr : length replies' ≡ reply_area) (la : length actions' ≡ drill_actions) where
  pub performs : ((a : Areas) → Retold tells (record_step (view (drill_in d x c o k t oc rc p f a)) r) (told_by told) (drill_in d x c o k t oc rc p f a)
      (drill_in d' x' c' o' k' t' oc' rc' p' f' a) (answers_lent replies actions) (answers_lent replies' actions'))
      → ((a : Areas) → Puts (held (length actions') 13 (acted_by told) * 96 + held (length replies') 40 (replied_by told) * 96 + 96) out at
      (record_lines (view (held_in d' k' t' rc' a)) (table_of action_codec (acted_by told) actions') (table_of reply_codec (replied_by told) replies') (last_by told)) put out')
      → at + 295008 ≤ length out → stop ≡ stops_at (last_by told) → Ready (drill_areas d x c o k t oc rc p f)
      → Performs r (drill_areas d x c o k t oc rc p f) (drill_areas d' x' c' o' k' t' oc' rc' p' f') out at put out' stop
  performs w lines h e ready =
      let a : Areas = drill_areas d x c o k t oc rc p f in
      let a' : Areas = drill_areas d' x' c' o' k' t' oc' rc' p' f' in
      performed r proper a a' ready told lr la (w a) (puts_within (lines_most (length actions') (length replies') (acted_by told) (replied_by told) la lr) (lines a')) h e
