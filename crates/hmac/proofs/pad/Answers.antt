use Prim.Native.Nat.{ℕ}
use native.Mathlib.Omega.{arith}
use lib.Bits.{bit_xor}
use borrow.Author.Rules.{rules}
use Rattle.std.proofs.lemmas.List.{get_or_default, take_all, drop_all, append-nil}
use Rattle.std.proofs.lemmas.List.Edits.{map_over_more}
use Rattle.hmac.specs.Hmac.{padded}
use Rattle.hmac.proofs.pad.Goals as goal

pub loop-x-preserved : goal.loop-x-preserved
loop-x-preserved c =
    map_over_more (λ (x : ℕ). bit_xor x c.args.byte) _ c.loop-x.x-items c.loop-x.x-index _ (search rules) c.loop-x.invariant
    (get_or_default c.loop-x.x-items c.loop-x.x-index 0 _ (search rules))

pub returns : goal.returns
unfolding padded
returns c =
    let all = take_all c.loop-x.x-index c.args.k0 (omega arith) in
    let none = drop_all c.loop-x.x-index c.args.k0 (omega arith) in
    grind (arith, all, none, append-nil, c.loop-x.invariant)
