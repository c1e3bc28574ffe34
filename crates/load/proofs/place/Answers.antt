use Rattle.std.proofs.Common.{◌≡◌, ◌+◌, ◌-◌, ◌∙◌, subst, arith}
use Rattle.load.proofs.PlaceLaws.{Above, place_here, place_end}
use Rattle.load.proofs.place.Goals as goal

pub returns-then-get_u64-slot : goal.returns-then-get_u64-slot
returns-then-get_u64-slot g c =
    let z : c.loop-i.i - 1 + 1 ≡ c.loop-i.i = omega arith in
    z ∙ place_here _ _ _ _ c.requires.1.0 c.requires.1.1 (omega arith) (omega arith) c.loop-i.invariant (omega (arith, c.get_u64.ensures, c.if-get_u64-slot.true))

pub returns : goal.returns
returns g c = let z : c.loop-i.i ≡ 0 = omega arith in place_end _ _ _ _ c.requires.1.0 (subst (Above _ _ _ _) z c.loop-i.invariant)
