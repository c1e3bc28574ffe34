-- `Tables::custody`: the first test that applies is the code. Assumes nothing.
use Rattle.std.proofs.Common.{true, false, sym, refl, ◌∙◌}
use Rattle.model.specs.Areas.{view}
use Rattle.custody.proofs.Laws.{code_at, contacts_in_lem, carried_in_lem, cells_in}
use Rattle.custody.proofs.Tables.custody.Goals as goal

pub returns-then-not-self : goal.returns-then-not-self
returns-then-not-self c = λ a L. code_at L _ _ _ false _ _ _ refl c.if-not-self.true refl refl refl

pub returns-then-not-valid : goal.returns-then-not-valid
returns-then-not-valid c = λ a L.
    code_at L _ _ _ true false _ _ c.now_min.ensures c.if-not-self.false (sym c.if-not-valid.ensures) refl refl

pub returns-then-duplicate : goal.returns-then-duplicate
returns-then-duplicate c = λ a L.
    code_at L _ _ _ true true true _ c.now_min.ensures c.if-not-self.false (sym c.if-not-valid.ensures)
    (sym (c.duplicate.ensures a L.device L.own L.carried L.tombstones) ∙ c.if-duplicate.true) refl

pub returns-then-full : goal.returns-then-full
returns-then-full c = λ a L.
    code_at L _ _ _ true true false true c.now_min.ensures c.if-not-self.false (sym c.if-not-valid.ensures)
    (sym (c.duplicate.ensures a L.device L.own L.carried L.tombstones) ∙ c.if-duplicate.false)
    (sym (c.full.ensures (view a) (carried_in_lem a L.device L.carried) (contacts_in_lem a L.device L.contacts) (cells_in a L.size)) ∙ c.if-full.true)

pub returns : goal.returns
returns c = λ a L.
    code_at L _ _ _ true true false false c.now_min.ensures c.if-not-self.false (sym c.if-not-valid.ensures)
    (sym (c.duplicate.ensures a L.device L.own L.carried L.tombstones) ∙ c.if-duplicate.false)
    (sym (c.full.ensures (view a) (carried_in_lem a L.device L.carried) (contacts_in_lem a L.device L.contacts) (cells_in a L.size)) ∙ c.if-full.false)
