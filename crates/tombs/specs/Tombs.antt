-- What a tomb finds, and what the call is lent.
-- Assumes nothing.
use Rattle.std.specs.Prelude.{◌≡◌, ℕ, ◌<◌, Bool, Result, List, [], ◌∷◌, length}
use Rattle.courier_core.specs.declared.Refusal.{Refusal}
use Rattle.courier_core.specs.declared.Refusal.TheVariants as refusal
use Rattle.table.specs.Rows.{held}
use Rattle.table.specs.declared.lent.Table.{Table}
use Rattle.table.specs.Tables.{rows_in}
use Rattle.rows.specs.declared.Device.{Device}
use Rattle.rows.specs.Rows.{own_width, own_codec, carried_width, carried_codec}
use Rattle.model.specs.State.{State}
use Rattle.model.specs.Calls.{Result as Outcome, step_of}
use Rattle.model.specs.Tombs as model
use Rattle.model.specs.Tombs.{no_row_to_meet, no_slot_to_meet, receive_tomb, end_own}
use Rattle.model.specs.Areas.{Areas, AnswerAreas, Written, view}
use Rattle.model.specs.Lent.{device_in, contacts_in, own_in, carried_in, tombstones_in}
use Rattle.answers.specs.declared.Said.{Said}
use Rattle.answers.specs.Says.{says}
use Rattle.tombstones.specs.declared.Storing.{Storing}
use Rattle.tombstones.specs.Tombstones.{how_to_store}
use Rattle.tombs.specs.declared.Found.{Found}
use Rattle.tombs.specs.declared.Found.TheVariants as found

-- ---- what a tomb finds, as the model has it; the place is one of its table

abbrev pub met_of : Found → model.Met
met_of (found.CarriedAt i) = model.carried_at i
met_of (found.OwnAt i) = model.own_at i
met_of found.WrongSecret = model.wrong
met_of found.UnknownTag = model.unknown

abbrev pub Inside : Found → (own carried : ℕ) → Type 0
Inside (found.CarriedAt i) own carried = i < carried
Inside (found.OwnAt i) own carried = i < own
Inside found.WrongSecret own carried = Unit {0}
Inside found.UnknownTag own carried = Unit {0}

pub record Finds (own : Table own_width) (carried : Table carried_width) (tag secret : List ℕ) (r : Found) : Type 0 where
  pub is : met_of r ≡ model.meets (rows_in own_codec own) (rows_in carried_codec carried) tag secret
  pub inside : Inside r (held (length own.area.now) own_width own.count) (held (length carried.area.now) carried_width carried.count)

-- ---- a tomb, once it is known what it finds

unfoldable pub met_tests : State → List ℕ → model.Met → List (Bool × Refusal)
met_tests s tag m = (no_row_to_meet s tag m, refusal.NoTombstoneRow) ∷ (no_slot_to_meet s tag m, refusal.NoSlot) ∷ []

unfoldable pub after_meeting : State → (tag secret : List ℕ) → model.Met → Outcome
after_meeting s tag secret m = step_of (met_tests s tag m) (receive_tomb s tag secret m)

abbrev pub Ends : (tag secret : List ℕ) → model.Met → Result Said Refusal → (Areas → Areas) → (Areas → Areas) → AnswerAreas → AnswerAreas → Type 0
Ends tag secret m r before after lent back =
    (a : Areas) → Written says (after_meeting (view (before a)) tag secret m) r (before a) (after a) lent back

-- an own row is ended, and its tombstone stored as it was chosen
abbrev pub EndsBy : Storing → ℕ → (tag secret : List ℕ) → Result Said Refusal → (Areas → Areas) → (Areas → Areas) → AnswerAreas → AnswerAreas → Type 0
EndsBy how i tag secret r before after lent back =
    (a : Areas) → how ≡ how_to_store (view (before a)) tag → Written says (end_own (view (before a)) i tag secret) r (before a) (after a) lent back

-- ---- what is lent

abbrev pub held_lent : Device → (carried tombstones : List ℕ) → Areas → Areas
held_lent d carried tombstones a = device_in d (carried_in carried (tombstones_in tombstones a))

abbrev pub own_lent : Device → (own tombstones : List ℕ) → Areas → Areas
own_lent d own tombstones a = device_in d (own_in own (tombstones_in tombstones a))

abbrev pub tomb_lent : Device → (contacts own carried tombstones : List ℕ) → Areas → Areas
tomb_lent d contacts own carried tombstones a = device_in d (contacts_in contacts (own_in own (carried_in carried (tombstones_in tombstones a))))
