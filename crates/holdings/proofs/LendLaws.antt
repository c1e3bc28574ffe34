-- What a call leaves behind the exchange that it is lent, from what it does to the areas.
-- Assumes nothing.
use Rattle.std.proofs.Common.{◌≡◌, sym, refl, ap, ◌∙◌, Result}
use Rattle.courier_core.specs.declared.Refusal.{Refusal}
use Rattle.rows.specs.declared.Exchange.{Exchange}
use Rattle.model.specs.State.{State}
use Rattle.model.specs.Calls.{Call, Result as Outcome, refused, only}
use Rattle.model.specs.Step.{tests, perform, step}
use Rattle.model.specs.Areas.{Areas, SessionAreas, AnswerAreas, view, store, store_session}
use Rattle.model.specs.Lent.{Does}
use Rattle.model.proofs.RefusalLaws.{of_step}
use Rattle.holdings.specs.Lends.{if_done, Lends}

-- ---- what a result's change makes of the exchange that is lent: l where the call is done, or the one that stood there

module _ (e : SessionAreas) where
  abbrev pub Leaves : Exchange → Outcome → Type 0
  Leaves l o = (store_session e o.change.session).exchange ≡ if_done l e.exchange o.answer

  refusal_leaves : (l : Exchange) (why : Refusal) → Leaves l (only (refused why))
  unfolding store_session
  refusal_leaves l why = refl

-- ---- what a call does says what it leaves

module _ {A : Type 0} {says : Outcome → A} {call : Call} {r : Result A Refusal} {before after : Areas → Areas} {lent back : AnswerAreas} {left : State → Exchange} {stood x : Exchange} where
  pub lends : ((a : Areas) → (before a).session.exchange ≡ stood) → ((a : Areas) → (after a).session.exchange ≡ x)
      → ((a : Areas) → Leaves (before a).session (left (view (before a))) (perform (view (before a)) call))
      → Does says call r before after lent back → Lends says call r before after lent back left stood x
  unfolding store step
  lends was is leaves does = record {
    does = does;
    leaves = λ a. sym (is a) ∙ ap (λ (z : Areas). z.session.exchange) (does a).areas
        ∙ of_step (Leaves (before a).session (left (view (before a)))) (tests (view (before a)) call) (perform (view (before a)) call)
        (refusal_leaves (before a).session (left (view (before a)))) (leaves a)
        ∙ ap (λ (z : Exchange). if_done (left (view (before a))) z (step (view (before a)) call).answer) (was a);
  }
