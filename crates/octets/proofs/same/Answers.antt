-- Each way gives what the definition says at the number that the test gives.
use mathlib.Core.Path.{sym, ap, ap₂, ◌∙◌}
use Prim.Native.Nat.{ℕ}
use native.Mathlib.Omega.{arith}
use Rattle.octets.specs.Bytes.{part, same_bytes}
use Rattle.octets.proofs.Parts.{part_whole}
use Rattle.octets.proofs.Words.{same_8}
use Rattle.octets.proofs.same.Goals as goal

pub returns-then-key-eq16 : goal.returns-then-key-eq16
returns-then-key-eq16 c =
    c.same_16.ensures ∙ ap (λ (k : ℕ). same_bytes (part c.args.area.now c.args.at k) c.args.key.now) (sym c.if-key-eq16.true)

pub returns-then-key-eq8 : goal.returns-then-key-eq8
returns-then-key-eq8 c =
    same_8 c.args.area.now c.args.key.now c.low_first.ensures.1 c.low_first-then-key-eq8.ensures.1 c.args.at 0 (omega arith) (omega arith) c.low_first.ensures.0 c.low_first-then-key-eq8.ensures.0
    ∙ ap₂ (λ (k : ℕ). same_bytes (part c.args.area.now c.args.at k)) (sym c.if-key-eq8.true) (part_whole c.args.key.now 8 c.if-key-eq8.true)
