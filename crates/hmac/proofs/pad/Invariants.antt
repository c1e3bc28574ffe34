-- The bytes up to the index are those of the block, xor the pad. Assumes nothing.
use mathlib.Core.Path.{◌≡◌}
use mathlib.Core.List.{◌++◌, map}
use Prim.Native.Nat.{ℕ}
use lib.ListN.{take, drop}
use lib.Bits.{bit_xor}
use Rattle.hmac.proofs.pad.Given as goal

abbrev pub invariant-loop-x : goal.invariant-loop-x
invariant-loop-x l = l.x-items ≡ map (λ (x : ℕ). bit_xor x l.byte) (take l.x-index l.fn.k0) ++ drop l.x-index l.fn.k0
