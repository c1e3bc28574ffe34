use mathlib.Core.Path.{ap, ◌∙◌}
use mathlib.Core.List.{List}
use Prim.Native.Nat.{ℕ}
use Rattle.hasher.specs.Parts.{joined}
use Rattle.hmac.specs.Hmac.{keyed, hmac}
use Rattle.hmac.proofs.hmac_parts.Goals as goal

pub returns : goal.returns
unfolding hmac
returns c =
    c.end.ensures _ (c.update_parts-s.ensures.by_index _ c.begin.ensures.taken)
    ∙ ap (λ (k0 : List ℕ). keyed k0 (joined c.args.text)) c.block_key-k0.ensures
