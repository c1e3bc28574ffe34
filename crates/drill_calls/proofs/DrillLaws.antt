-- What is told of a record on the areas that its call is lent is told of it on all areas of the drill, of which the others stay as they are.
-- Assumes nothing.
use Rattle.std.proofs.Common.{◌≡◌, ℕ, List, refl, sym, ap, ◌∙◌, Option, Some, None, Err}
use Rattle.std.specs.Prelude
use Rattle.courier_core.specs.declared.Refusal.{Refusal}
use Rattle.courier_core.specs.declared.Refusal.TheVariants as refusal
use Rattle.table.specs.Rows.{join, written}
use Rattle.table.specs.Codec.{with_table}
use Rattle.octets.specs.Bytes.{splice}
use Rattle.model.specs.Areas.{Areas, AnswerAreas, store, store_device, store_session, answer_areas}
use Rattle.model.specs.Calls.{Call, Result}
use Rattle.model.specs.Lent.{Does, no_answers, replies_lent, actions_lent, answers_lent}
use Rattle.wire.specs.declared.Mark.{Mark}
use Rattle.wire.specs.declared.Body.{Body}
use Rattle.wire.specs.Log.{body_of}
use Rattle.wire.specs.Read.{record_of}
use Rattle.wire.specs.Read as read
use Rattle.drill_run.specs.Drill.{record_step, tells}
use Rattle.drill_calls.specs.Asking.{Told, told_by, Asks}
use Rattle.drill_calls.proofs.AskLaws.{asks_of}
use Rattle.drill_calls.proofs.AreaLaws.{with_replies, with_actions, with_both}

-- what was read of a body is its record
module _ {m : Mark} {b : List ℕ} {x : Option Body} (t : read.Told m b x) where
  read_is : (k : Option Body) → x ≡ k → body_of m b ≡ record_of k b
  read_is k e = sym t.whole ∙ ap (λ (y : Option Body). record_of y b) e

  module _ {y : Body} (k : Body) (e : x ≡ Some y) (q : y ≡ k) where
    pub asks_read : (r : Told) {before after : Areas → Areas} {lent back : AnswerAreas} → Asks (record_of (Some k) b) r before after lent back
        → Asks (body_of m b) r before after lent back
    asks_read r h = asks_of r (read_is (Some k) (e ∙ ap Some q)) h

  -- a body that is no record
  pub asks_wrong : x ≡ None → (r : Told) (before : Areas → Areas) {lent : AnswerAreas} → r ≡ Err refusal.LogRecord
      → Asks (body_of m b) r before before lent lent
  unfolding record_step tells told_by store store_device store_session answer_areas with_table written join splice
  asks_wrong e r before q a = rw (read_is None e, q) (record { answer = refl; areas = refl; answers = refl })

-- What a call does on the areas that it is lent it does on the drill's, of which `before` has the others: by the answer areas that it is lent.
module _ {A : Type 0} {says : Result → A} (c : Call) {said : Prelude.Result A Refusal} {inner outer : Areas → Areas} (before : Areas → Areas) where
  pub on_both : {x y x' y' : List ℕ} → Does says c said inner outer (answers_lent x y) (answers_lent x' y')
      → Does says c said (λ a. inner (before a)) (λ a. outer (before a)) (answers_lent x y) (answers_lent x' y')
  on_both h a = h (before a)

  pub on_none : (x y : List ℕ) → Does says c said inner outer no_answers no_answers
      → Does says c said (λ a. inner (before a)) (λ a. outer (before a)) (answers_lent x y) (answers_lent x y)
  on_none x y h a = with_both x y (h (before a))

  pub on_replies : {x x' : List ℕ} (y : List ℕ) → Does says c said inner outer (replies_lent x) (replies_lent x')
      → Does says c said (λ a. inner (before a)) (λ a. outer (before a)) (answers_lent x y) (answers_lent x' y)
  on_replies y h a = with_actions y (h (before a))

  pub on_actions : {y y' : List ℕ} (x : List ℕ) → Does says c said inner outer (actions_lent y) (actions_lent y')
      → Does says c said (λ a. inner (before a)) (λ a. outer (before a)) (answers_lent x y) (answers_lent x y')
  on_actions x h a = with_replies x (h (before a))
