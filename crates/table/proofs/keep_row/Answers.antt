-- A row that stands at its place already, written there again, changes nothing.
use mathlib.Core.Path.{◌≡◌, sym, ap, ◌∙◌}
use mathlib.Core.List.{List, []}
use Prim.Native.Nat.{ℕ, ◌+◌, ◌*◌, ◌≤◌}
use native.Mathlib.Nat.{mul-le-mul_right, add-zero}
use native.Mathlib.Omega.{arith}
use lib.ListN.{length}
use Rattle.octets.specs.Bytes.{splice, part}
use Rattle.octets.proofs.Parts.{splice_nil, splice_grow}
use Rattle.table.proofs.keep_row.Goals as goal

there : (a : List ℕ) (w k i : ℕ) → k ≡ i → i * w + w ≤ length a → a ≡ splice a (k * w) (part a (i * w) w)
there a w k i e h =
    sym (splice_nil a (i * w)) ∙ splice_grow a [] (i * w) w (i * w) (sym (add-zero (i * w))) h ∙ ap (λ (j : ℕ). splice a (j * w) (part a (i * w) w)) (sym e)

pub returns-then-k-i : goal.returns-then-k-i
returns-then-k-i c =
    there _ c.args.width _ _ c.if-k-i.true c.requires.1

pub overflow_mul-k : goal.overflow_mul-k
overflow_mul-k c = omega (arith, mul-le-mul_right c.args.width c.requires.0)

pub move_down-requires : goal.move_down-requires
move_down-requires c = omega (arith, mul-le-mul_right c.args.width c.requires.0)
