-- So many words stand in the digest.
use mathlib.Core.Path.{◌≡◌}
use Prim.Native.Nat.{◌*◌}
use lib.ListN.{length, take}
use Rattle.sha384.specs.Sha384.{bytes}
use Rattle.sha384.proofs.digest_of.Given as goal

abbrev pub invariant-loop-i : goal.invariant-loop-i
invariant-loop-i l = (length l.d ≡ 48) × (take (8 * l.i) l.d ≡ bytes (take l.i l.h))
