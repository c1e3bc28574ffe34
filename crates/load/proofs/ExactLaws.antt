-- A load is refused exactly if one of its tests holds, with the first that does, and then nothing changes.
-- Assumes nothing.
use Rattle.std.proofs.Common.{ℕ, List, length, refl}
use Rattle.courier_core.specs.declared.Refusal.{Refusal}
use Rattle.model.specs.State.{State}
use Rattle.model.specs.Calls.{Result, refused, only}
use Rattle.model.proofs.RefusalLaws.{RefusedExactly, says, exactly, of_step}
use Rattle.load_tests.specs.Tests.{load_tests}
use Rattle.load.specs.Load.{load_held_rows, load_step}

pub load_refused_exactly : (s : State) (file : List ℕ) → RefusedExactly (load_tests s.contacts (length s.carried_cells) s.tombstone_rows file) (load_step s file)
unfolding load_step load_held_rows
load_refused_exactly s file = exactly (load_tests s.contacts (length s.carried_cells) s.tombstone_rows file) (load_held_rows s file) (says refl)

-- what holds of every refusal and of what is loaded holds of the call
pub of_load : (P : Result → Type 0) (s : State) (file : List ℕ) → ((why : Refusal) → P (only (refused why))) → P (load_held_rows s file) → P (load_step s file)
unfolding load_step
of_load P s file r p = of_step P (load_tests s.contacts (length s.carried_cells) s.tombstone_rows file) (load_held_rows s file) r p
