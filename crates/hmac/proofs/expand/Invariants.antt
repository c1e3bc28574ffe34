-- i blocks are written (`Expanding`). Assumes nothing.
use lib.ListN.{length}
use Rattle.hasher.specs.Parts.{joined}
use Rattle.hmac.proofs.HkdfLaws.{Expanding}
use Rattle.hmac.proofs.expand.Given as goal

abbrev pub invariant-loop-i : goal.invariant-loop-i
invariant-loop-i l = Expanding l.fn.prk (joined l.info) l.out (length l.initial.out) l.i
