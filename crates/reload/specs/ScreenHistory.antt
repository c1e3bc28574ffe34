-- What is claimed of the screen page after every list of calls and loads.
-- Assumes nothing.
use Rattle.std.specs.Prelude.{◌≡◌, ℕ, ◌<◌, List}
use Rattle.model.specs.Calls
use Rattle.model.specs.Step.{Post, step, answer_to}
use Rattle.model.specs.Screen.{HeldRow, slot_of}
use Rattle.model.specs.Pages.{ScreenPages}
use Rattle.history.specs.Order.{Sorted}
use Rattle.reload.specs.Doings.{Doing, run_doings}

-- Of a list of calls and loads from a post: the pages after it are the lines of the held rows, each once, in one rising order of slots.
pub record ScreenHistory (p : Post) (ds : List Doing) : Type 0 where
  pub order : List HeldRow
  pub rises : Sorted (λ (a b : HeldRow). slot_of a < slot_of b) order
  pub pages : ScreenPages (run_doings p ds).state order
  -- whichever session is lent with it, a page call answers so
  pub answers : (session area number : ℕ) → answer_to (run_doings p ds) (record { session = session; call = Calls.page area number }) ≡ step (run_doings p ds).state (Calls.page area number)
