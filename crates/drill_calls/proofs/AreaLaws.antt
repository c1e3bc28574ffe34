-- An answer area that a call is not lent has no rows written to it, and so it stays as it was where it is lent after all.
-- Assumes nothing.
use Rattle.std.proofs.Common.{◌≡◌, ℕ, ◌<◌, List, [], ◌∷◌, length, refl, ap, arith, length-append}
use Rattle.std.specs.Prelude
use Rattle.courier_core.specs.declared.Refusal.{Refusal}
use Rattle.octets.specs.Bytes.{be}
use Rattle.table.specs.Rows.{join, written}
use Rattle.table.specs.Codec.{Codec, with_table}
use Rattle.rows.specs.declared.Reply.{Reply}
use Rattle.rows.specs.declared.Action.{Action}
use Rattle.rows.specs.Rows.{reply_codec, reply_bytes, action_codec, action_bytes}
use Rattle.model.specs.Calls.{Result}
use Rattle.model.specs.Areas.{Areas, AnswerAreas, Written, answer_areas}
use Rattle.model.specs.Lent.{no_answers, replies_lent, actions_lent, answers_lent}

module _ {A : Type 0} (c : Codec A) (wide : (t : A) → 0 < length (c.encode t)) where
  -- rows that leave an area of no bytes as it is are none
  no_rows : (ts : List A) → [] ≡ with_table c [] ts → ts ≡ []
  unfolding with_table written join
  no_rows [] e = refl
  no_rows (t ∷ ts) e = absurd (omega (arith, wide t, simp length-append at (ap length e)))

  -- and leave any area as it is
  stays : (ts : List A) (z : List ℕ) → [] ≡ with_table c [] ts → z ≡ with_table c z ts
  unfolding with_table written join
  stays ts z e = rw (no_rows ts e)

reply_wide : (r : Reply) → 0 < length (reply_bytes r)
unfolding reply_bytes be
reply_wide r = omega arith

action_wide : (x : Action) → 0 < length (action_bytes x)
unfolding action_bytes be
action_wide x = omega arith

module _ {A : Type 0} {says : Result → A} {o : Result} {r : Prelude.Result A Refusal} {before after : Areas} where
  -- a call that is lent actions, replies or neither does the same where it is lent both
  pub with_replies : {x y : List ℕ} (z : List ℕ) → Written says o r before after (actions_lent x) (actions_lent y)
      → Written says o r before after (answers_lent z x) (answers_lent z y)
  unfolding answer_areas
  with_replies z w =
      let e = w.answers in
      let s = stays reply_codec reply_wide o.replies z (ap (λ (b : AnswerAreas). b.replies) e) in
      record { answer = w.answer; number = w.number; areas = w.areas; answers = λ i. record { replies = s i; actions = (e i).actions; bytes = (e i).bytes } }

  pub with_actions : {x y : List ℕ} (z : List ℕ) → Written says o r before after (replies_lent x) (replies_lent y)
      → Written says o r before after (answers_lent x z) (answers_lent y z)
  unfolding answer_areas
  with_actions z w =
      let e = w.answers in
      let s = stays action_codec action_wide o.actions z (ap (λ (b : AnswerAreas). b.actions) e) in
      record { answer = w.answer; number = w.number; areas = w.areas; answers = λ i. record { replies = (e i).replies; actions = s i; bytes = (e i).bytes } }

  pub with_both : (x y : List ℕ) → Written says o r before after no_answers no_answers → Written says o r before after (answers_lent x y) (answers_lent x y)
  with_both x y w = with_actions y (with_replies x w)
