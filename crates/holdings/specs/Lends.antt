-- What stands behind the exchange that a call is lent by `&mut`, once it has returned: its flag, its peer and its two counts.
-- Assumes nothing.
use Rattle.std.specs.Prelude
use Rattle.std.specs.Prelude.{◌≡◌, ℕ, Bool, cond, Option}
use Rattle.courier_core.specs.declared.ContactId.{ContactId}
use Rattle.courier_core.specs.declared.Refusal.{Refusal}
use Rattle.rows.specs.declared.Exchange.{Exchange}
use Rattle.model.specs.State.{State}
use Rattle.model.specs.Calls.{Call, Answer, Result as Outcome, is_done}
use Rattle.model.specs.Step.{step}
use Rattle.model.specs.Areas.{Areas, AnswerAreas, view}
use Rattle.model.specs.Lent.{Does}

-- an exchange by its parts
abbrev pub exchange_of : Option ContactId → (complete : Bool) (listed offered : ℕ) → Exchange
exchange_of peer complete listed offered = record { peer = peer; complete = complete; listed = listed; offered = offered }

-- ---- what a call's contract says

-- where the call is done, and where it is refused or malformed
abbrev pub if_done : {A : Type 0} → A → A → Answer → A
if_done left stood m = cond (is_done m) left stood

-- The call does what the model's does, with the exchange behind the reference among the areas before and after; and x, which stands there after it, is
-- what a call that is done leaves, or the exchange that stood there.
pub record Lends {A : Type 0} (says : Outcome → A) (call : Call) (r : Prelude.Result A Refusal) (before after : Areas → Areas) (lent back : AnswerAreas) (left : State → Exchange) (stood x : Exchange) : Type 0 where
  pub does : Does says call r before after lent back
  pub leaves : (a : Areas) → x ≡ if_done (left (view (before a))) stood (step (view (before a)) call).answer
