-- Copies and depositor, each with a blank before it, and the line end, one behind the other.
use Rattle.std.proofs.Common.{◌≡◌, ℕ, ◌+◌, List, refl, ap, ◌∙◌, arith}
use Rattle.octets.specs.Bytes.{splice}
use Rattle.columns.proofs.ColumnLaws.{length_column}
use Rattle.model.specs.Screen.{carried_end}
use Rattle.screen.proofs.LineLaws.{behind}
use Rattle.screen.proofs.put_carried_end.Goals as goal

-- a place counted from the line's start, counted from the end of the minutes
from_end : (at n : ℕ) (x w : List ℕ) {y : List ℕ} → y ≡ splice x (at + (50 + n)) w → y ≡ splice x (at + 50 + n) w
from_end at n x w e = let p : at + (50 + n) ≡ at + 50 + n = omega arith in e ∙ ap (λ (k : ℕ). splice x k w) p

pub returns : goal.returns
unfolding carried_end
returns c =
    (behind _ (behind _ (behind _ (behind _ (record { area = c.put_blanks.ensures; size = refl }) (from_end _ 1 _ _ (rw c.from.ensures at c.put_column.ensures)) (length_column 3 _) (omega arith))
    (from_end _ 4 _ _ c.put_blanks-2.ensures) refl (omega arith)) (from_end _ 5 _ _ c.put_column-2.ensures) (length_column 20 _) (omega arith)) (from_end _ 25 _ _ c.copy_in.ensures) refl (omega arith)).area
