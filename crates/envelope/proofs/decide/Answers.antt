-- `decide`: the first test that holds, then the window, then the code. Assumes nothing.
use Rattle.std.proofs.Common.{◌≡◌, Bool, true, false, ◌||◌, sym, refl, ap₂, ◌∙◌, Some, None}
use Rattle.envelope.proofs.ChoiceLaws.{tell}
use Rattle.envelope.proofs.decide.Goals as goal
use Rattle.envelope.proofs.decide.Goals.{then-short_replies-via-then-short_replies, then-short_replies-via-else-short_replies+then-short_actions}

-- is an area of the two too short
both : {x y a b : Bool} → x ≡ a → y ≡ b → (x || y) ≡ (a || b)
both p q = ap₂ (λ (x y : Bool). x || y) p q

pub returns-then-short_replies : goal.returns-then-short_replies
returns-then-short_replies c = λ a L.
    elim c.then-short_replies.branch [
      | then-short_replies-via-then-short_replies w ↦
          tell L _ _ _ _ _ _ true _ _ _ _ (both (sym c.short_replies.ensures ∙ w.if-short_replies.true) refl) refl refl refl refl
      | then-short_replies-via-else-short_replies+then-short_actions w ↦
          tell L _ _ _ _ _ _ true _ _ _ _ (both (sym c.short_replies.ensures ∙ w.if-short_replies.false) (sym w.if-short_actions.ensures)) refl refl refl refl
    ]

pub returns-then-wrong_window : goal.returns-then-wrong_window
returns-then-wrong_window c = λ a L.
    tell L _ _ _ _ _ _ false true _ _ _ (both (sym c.if-short_replies.ensures) (sym c.if-short_actions.ensures)) (sym c.if-wrong_window.ensures) refl refl refl

pub returns-then-unknown : goal.returns-then-unknown
returns-then-unknown c = λ a L.
    tell L _ _ _ _ _ _ false false true _ _ (both (sym c.if-short_replies.ensures) (sym c.if-short_actions.ensures)) (sym c.if-wrong_window.ensures)
    (sym c.if-unknown.ensures) refl refl

pub returns-in-Some : goal.returns-in-Some
returns-in-Some c = λ a L.
    tell L _ _ _ _ _ _ false false false (Some _) _ (both (sym c.if-short_replies.ensures) (sym c.if-short_actions.ensures)) (sym c.if-wrong_window.ensures)
    (sym c.if-unknown.ensures) (sym c.lookup.ensures ∙ c.in-Some.is) refl

pub returns-in-None : goal.returns-in-None
returns-in-None c = λ a L.
    tell L _ _ _ _ _ _ false false false None _ (both (sym c.if-short_replies.ensures) (sym c.if-short_actions.ensures)) (sym c.if-wrong_window.ensures)
    (sym c.if-unknown.ensures) (sym c.lookup.ensures ∙ c.in-None.is) (sym (c.custody_choice.ensures a L))
