use mathlib.Core.Path.{◌≡◌, ap, ◌∙◌}
use Prim.Native.Nat.{◌-◌, ◌*◌, min}
use native.Mathlib.Omega.{arith}
use lib.ListN.{length}
use Rattle.std.proofs.lemmas.List.{take_min}
use borrow.Author.Rules.{rules}
use Rattle.octets.specs.Bytes.{splice}
use Rattle.hasher.specs.Parts.{joined}
use Rattle.hmac.proofs.HkdfLaws.{expand_start, expand_step, expand_end}
use Rattle.hmac.proofs.expand.Goals as goal

pub loop-i-init : goal.loop-i-init
loop-i-init c = expand_start c.args.prk (joined c.args.info) c.args.out.now

pub loop-i-preserved : goal.loop-i-preserved
loop-i-preserved c =
    let i = c.loop-i.i in
    let next = c.next_block-next.result in
    let long : length next ≡ 48 = search rules in
    let room : c.min-room.result ≡ min (length c.args.out.now - 48 * i) (length next) = omega (arith, long, c.min-room.ensures, c.loop-i.invariant.size) in
    expand_step c.args.prk (joined c.args.info) c.loop-i.out (length c.args.out.now) i c.loop-i.invariant _ next _ _
    (omega (arith, c.div_ceil-i-end.ensures)) long c.block_key-k0.ensures c.saturating_sub.ensures c.next_block-next.ensures
    (c.copy_in.ensures ∙ ap (splice c.loop-i.out (48 * i)) (rw room (take_min _ next)))

pub returns : goal.returns
returns c =
    expand_end _ (joined c.args.info) c.loop-i.out (length c.args.out.now) c.loop-i.i c.loop-i.invariant
    (omega (arith, c.div_ceil-i-end.ensures))
