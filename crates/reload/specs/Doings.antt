-- Calls and loads, and a list of them.
-- Assumes nothing.
use Rattle.std.specs.Prelude.{ℕ, List, [], ◌∷◌}
use Rattle.octets.specs.Bytes.{Bytes}
use Rattle.model.specs.State.{apply}
use Rattle.model.specs.Good.{ProperCall}
use Rattle.model.specs.Step.{Post, Lent, after}
use Rattle.model.specs.Areas.{PostAreas, view, store, after_areas}
use Rattle.load.specs.Load.{load_step}

-- a call with the index of the session that is lent with it, or a load of a file
pub data Doing : Type 0 where
  call : Lent → Doing
  load : (file : List ℕ) → Doing

-- what the types of the arguments say
abbrev pub ProperDoing : Doing → Type 0
ProperDoing (call l) = ProperCall l.call
ProperDoing (load file) = Bytes file

-- A load is lent no session. "A load replaces held rows and next slot, nothing else"; refused, it changes nothing.
unfoldable pub after_load : Post → List ℕ → Post
after_load p file = record { state = apply p.state (load_step p.state file).change; sessions = p.sessions }

unfoldable pub after_doing : Post → Doing → Post
after_doing p (call l) = after p l
after_doing p (load file) = after_load p file

-- what is left after a list of calls and loads, refused ones among them
unfoldable pub run_doings : Post → List Doing → Post
run_doings p [] = p
run_doings p (d ∷ ds) = run_doings (after_doing p d) ds

-- ---- the same on areas, of the definitions that the contracts cite

unfoldable pub after_load_areas : PostAreas → List ℕ → PostAreas
after_load_areas p file = record { areas = store p.areas (load_step (view p.areas) file).change; sessions = p.sessions }

unfoldable pub after_doing_areas : PostAreas → Doing → PostAreas
after_doing_areas p (call l) = after_areas p l
after_doing_areas p (load file) = after_load_areas p file

unfoldable pub run_doings_areas : PostAreas → List Doing → PostAreas
run_doings_areas p [] = p
run_doings_areas p (d ∷ ds) = run_doings_areas (after_doing_areas p d) ds
