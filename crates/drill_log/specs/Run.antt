-- What performing a record and the run over a buffer keep to.
-- Assumes nothing.
use Rattle.std.specs.Prelude.{◌≡◌, ℕ, ◌+◌, ◌<◌, ◌≤◌, Bool, true, false, List, ◌++◌, length, take, drop, Option, None, Ok}
use Rattle.text.specs.Text.{Puts}
use Rattle.wire.specs.Log.{Record, head_of}
use Rattle.model.specs.State.{State}
use Rattle.model.specs.Areas.{Areas, view, store}
use Rattle.model.specs.Good.{Good, Sized}
use Rattle.drill_log.specs.declared.Why.{Why}
use Rattle.drill_log.specs.declared.Why.TheVariants as cause
use Rattle.drill_run.specs.Drill.{record_step, state_after, lines_of, last_record, records_of, printed, performed, after_all, drill_rows}

-- the lines of a record end within 295,008 bytes: 96 a line, 1,536 actions, as many replies, and one
pub record Within (at put : ℕ) : Type 0 where
  pub low : at ≤ put
  pub high : put ≤ at + 295008

-- What the drill's areas keep: the tables' sizes, R = 1,024, and rows in range.
pub record Ready (a : Areas) : Type 0 where
  pub sized : Sized a
  pub rows : (view a).tombstone_rows ≡ drill_rows
  pub good : Good (view a)

-- A record is performed on areas: they are what its call's change stores, and hold what the model's step leaves; its lines stand in the
-- output from a place on; and it is told whether the log ends here.
pub record Performs (r : Option Record) (before after : Areas) (out : List ℕ) (at put : ℕ) (out' : List ℕ) (stop : Bool) : Type 0 where
  pub areas : after ≡ store before (record_step (view before) r).change
  pub ready : Ready after
  pub leaves : view after ≡ state_after (view before) r
  pub lines : Puts 295008 out at (lines_of (view before) r) put out'
  pub room : at + 295008 ≤ length out
  pub ends : stop ≡ last_record (view before) r

-- what is said of performing a record: its lines have room whatever the areas hold, and what else is so of areas that are ready
pub record Performing (r : Option Record) (before after : Areas) (out : List ℕ) (at put : ℕ) (out' : List ℕ) (stop : Bool) : Type 0 where
  pub within : Within at put
  pub done : Ready before → Performs r before after out at put out' stop

-- does the drill go on, after more input or with room for lines again?
abbrev pub goes_on : Why → Bool
goes_on cause.More = true
goes_on cause.Full = true
goes_on cause.Refused = false
goes_on cause.Ended = false
goes_on cause.Failed = false

-- more input is wanted only where less than the longest record is left
pub record Ended (size used put : ℕ) (why : Why) : Type 0 where
  pub high : used ≤ size
  pub room : put ≤ 655360
  pub short : why ≡ cause.More → size < used + 8196

-- From a state on, over the bytes b, up to what areas hold then and what is left of b: the lines so far, and then those of the rest, are
-- what the whole prints, whatever bytes follow; the calls so far, and then those of the rest, are those that the whole makes; and the areas
-- hold what these calls leave.
pub record Running (s : State) (b : List ℕ) (after : Areas) (rest lines : List ℕ) : Type 0 where
  pub ready : Ready after
  pub on : (t : List ℕ) → printed s (b ++ t) ≡ lines ++ printed (view after) (rest ++ t)
  pub calls : List Record
  pub made : (t : List ℕ) → performed s (records_of (b ++ t)) ≡ calls ++ performed (view after) (records_of (rest ++ t))
  pub held : view after ≡ after_all s calls

-- The same of a run that ended: at number 13 the lines are all that the log prints, and the calls all that it makes, whatever bytes follow.
pub record Ran (s : State) (b : List ℕ) (after : Areas) (rest lines : List ℕ) (why : Why) : Type 0 where
  pub ready : Ready after
  pub on : goes_on why ≡ true → (t : List ℕ) → printed s (b ++ t) ≡ lines ++ printed (view after) (rest ++ t)
  pub stop : why ≡ cause.Refused → (t : List ℕ) → printed s (b ++ t) ≡ lines
  pub wants : why ≡ cause.More → head_of rest ≡ Ok None
  pub calls : List Record
  pub made : goes_on why ≡ true → (t : List ℕ) → performed s (records_of (b ++ t)) ≡ calls ++ performed (view after) (records_of (rest ++ t))
  pub all : why ≡ cause.Refused → (t : List ℕ) → performed s (records_of (b ++ t)) ≡ calls
  pub held : view after ≡ after_all s calls

-- what is said of the run over some bytes: where it ends whatever the areas hold, and what it prints from areas that are ready
pub record Runs (before after : Areas) (input : List ℕ) (used : ℕ) (out : List ℕ) (put : ℕ) (why : Why) : Type 0 where
  pub ended : Ended (length input) used put why
  pub ran : Ready before → Ran (view before) input after (drop used input) (take put out) why
