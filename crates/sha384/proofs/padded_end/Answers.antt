-- The end of the message, the byte 0x80 behind it, and the length: the zeros between stand there already.
use Rattle.std.specs.Int.{to_be_bytes, w128}
use mathlib.Core.Path.{◌≡◌, ap, ◌∙◌}
use Prim.Native.Nat.{ℕ, ◌*◌, ◌/◌, ◌%◌, ◌^◌}
use native.Mathlib.Omega.{arith}
use lib.ListN.{length-set}
use borrow.Author.Rules.{rules}
use Rattle.octets.specs.Bytes.{be}
use Rattle.sha384.proofs.Ends.{padded_end}
use Rattle.sha384.proofs.padded_end.Goals as goal

pub put_array-requires : goal.put_array-requires
put_array-requires c = simp length-set (search rules)

-- the bytes that std gives are those of the specification
as_bytes : (v : ℕ) → to_be_bytes w128 v ≡ be 16 v
unfolding be
as_bytes v = let one : v / 1 ≡ v = omega arith in rw one

pub returns : goal.returns
returns c =
    let bits : c.args.n * 2 ^ 3 % 2 ^ 128 ≡ 8 * c.args.n = omega (arith, c.ranges.n.fits) in
    padded_end c.args.m.now _ _ _ c.requires.0 c.requires.1 c.copy_in.ensures (c.to_be_bytes.ensures ∙ as_bytes _ ∙ ap (be 16) bits) c.put_array.ensures.0
