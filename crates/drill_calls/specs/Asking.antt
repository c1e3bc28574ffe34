-- What the call of a record says, and what it is proved to do: the model's step of the record, on the areas of the drill.
-- Assumes nothing.
use Rattle.std.specs.Prelude.{ℕ, List, Option, Some, None, Result, Ok, Err}
use Rattle.courier_core.specs.declared.Refusal.{Refusal}
use Rattle.wire.specs.Log.{Record}
use Rattle.model.specs.Areas.{Areas, AnswerAreas, Retold, view}
use Rattle.envelope.specs.declared.Answer.{Answer}
use Rattle.envelope.specs.declared.Answer.TheVariants as answer
use Rattle.inventory.specs.declared.Said.{Said as Received}
use Rattle.inventory.specs.declared.Said.TheVariants as received
use Rattle.answers.specs.declared.Said.{Said as Met}
use Rattle.answers.specs.declared.Said.TheVariants as met
use Rattle.drill_lines.specs.declared.Said.{Said}
use Rattle.drill_lines.specs.declared.Said.TheVariants as said
use Rattle.drill_lines.specs.Lines.{Last, acted_by, replied_by, last_by}
use Rattle.rows.specs.declared.Device.{Device}
use Rattle.rows.specs.declared.Exchange.{Exchange}
use Rattle.model.specs.Lent.{answers_lent}
use Rattle.drill_run.specs.Drill.{record_step, tells, drill_areas, drill_in}
use Rattle.drill_calls.specs.declared.Tables.{Tables}

-- ---- what is said of a record: how many actions and replies are listed, and the last line

abbrev pub Told : Type 0
Told = Result Said Refusal

unfoldable pub told_by : Told → ℕ × (ℕ × Last)
told_by r = (acted_by r, (replied_by r, last_by r))

-- ---- the same, of what each call answers that is not refused

abbrev pub nothing : Said
nothing = said.Listed 0 0

-- contact, setting, clock, session; and custody code, maintenance
abbrev pub done_said : Unit {0} → Said
done_said u = nothing

abbrev pub acted_said : ℕ → Said
acted_said actions = said.Listed actions 0

abbrev pub envelope_said : Answer → Said
envelope_said (answer.Ours contact generation idx) = nothing
envelope_said (answer.Done replies actions) = said.Listed actions replies

abbrev pub inventory_said : Received → Said
inventory_said received.Malformed = said.Malformed
inventory_said (received.Done replies searched) = said.Listed 0 replies

abbrev pub tomb_said : Met → Said
tomb_said met.Malformed = said.Malformed
tomb_said (met.Done actions) = said.Listed actions 0

-- a fetch lists one reply where it finds an envelope
abbrev pub fetch_said : Option (List ℕ) → Said
fetch_said (Some ct) = said.Listed 0 1
fetch_said None = nothing

-- and of an answer, refused or not
abbrev pub told_with : {A : Type 0} → (A → Said) → Result A Refusal → Told
told_with f (Ok a) = Ok (f a)
told_with f (Err why) = Err why

-- ---- the contract: a record, or none where the grammar refuses it, is answered as the model's step of it says, on any areas

abbrev pub Asks : Option Record → Told → (Areas → Areas) → (Areas → Areas) → AnswerAreas → AnswerAreas → Type 0
Asks m r before after lent back = (a : Areas) → Retold tells (record_step (view (before a)) m) (told_by r) (before a) (after a) lent back

-- ---- the drill's areas by what it lends

abbrev pub tables_areas : Device → Exchange → Tables → Areas
tables_areas d x t = drill_areas d x t.contacts t.own t.carried t.tombstones t.own_cells t.cells t.prefixes t.offers

-- the same, each set into any areas
abbrev pub tables_in : Device → Exchange → Tables → Areas → Areas
tables_in d x t = drill_in d x t.contacts t.own t.carried t.tombstones t.own_cells t.cells t.prefixes t.offers

abbrev pub answers_of : Tables → AnswerAreas
answers_of t = answers_lent t.replies t.actions
