-- `holdings::window::wrong_window`: the first that is wrong decides. Assumes nothing.
use Rattle.std.proofs.Common.{true, false, sym, refl, ◌∙◌, le-ltb, lt-ltb}
use Rattle.holdings.proofs.RowLaws.{clash}
use Rattle.holdings.proofs.WindowLaws.{wrong_of}
use Rattle.holdings.proofs.window.wrong_window.Goals as goal
use Rattle.holdings.proofs.window.wrong_window.Goals.{then-window-gt0, else-window-gt0}

pub returns-then-wrong_directions : goal.returns-then-wrong_directions
returns-then-wrong_directions c =
    elim c.if-window-gt0.branch [
      | then-window-gt0 w ↦ c.if-wrong_directions.true ∙ sym (wrong_of _ true _ _ (lt-ltb _ _ w.if-window-gt0.true) refl refl)
      | else-window-gt0 w ↦
          c.if-wrong_directions.true ∙ sym (wrong_of _ false true _ (le-ltb _ _ w.if-window-gt0.false) (sym w.wrong_directions.ensures ∙ sym w.value-is ∙ c.if-wrong_directions.true) refl)
    ]

pub returns-else-wrong_directions : goal.returns-else-wrong_directions
returns-else-wrong_directions c =
    elim c.if-window-gt0.branch [
      | then-window-gt0 w ↦ clash _ (w.value-is ∙ lt-ltb _ _ w.if-window-gt0.true) c.if-wrong_directions.false
      | else-window-gt0 w ↦
          sym (wrong_of _ false false _ (le-ltb _ _ w.if-window-gt0.false) (sym w.wrong_directions.ensures ∙ sym w.value-is ∙ c.if-wrong_directions.false)
          (sym c.keys_rise.ensures))
    ]
