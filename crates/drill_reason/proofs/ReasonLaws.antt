-- Laws of number 13's reasons. Assumes nothing.
use mathlib.Core.Path.{◌≡◌, refl, ap, ◌∙◌}
use Rattle.std.specs.Prelude.{Option, Some, None}
use Rattle.wire.specs.declared.Mark.{Mark}
use Rattle.wire.specs.declared.Body.{Body}
use Rattle.wire.specs.Log.{Record}
use Rattle.wire.specs.Read.{read_as}
use Rattle.drill_reason.specs.declared.Reason.{Reason}
use Rattle.drill_reason.specs.declared.Reason.TheVariants as reason
use Rattle.drill_reason.specs.Reason.{field_of, body_reason}

-- ---- a body

pub body_right : (m : Mark) {b : Body} (x : Option Record) → Some b ≡ read_as x → reason.Contacts ≡ body_reason m x
unfolding body_reason
body_right m None e = cc
body_right m (Some a) e = refl

pub body_wrong : {r : Reason} (m : Mark) {x : Option Record} → None ≡ x → r ≡ field_of m → r ≡ body_reason m x
unfolding body_reason
body_wrong m e h = h ∙ ap (body_reason m) e
