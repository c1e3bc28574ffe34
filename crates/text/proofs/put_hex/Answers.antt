-- The digits of all 16 bytes.
use mathlib.Core.Path.{◌≡◌, ap, ◌∙◌}
use Prim.Native.Nat.{ℕ, ◌*◌}
use native.Mathlib.Omega.{arith}
use lib.ListN.{length}
use Rattle.columns.specs.Columns.{hexes}
use Rattle.columns.proofs.ColumnLaws.{length_hexes}
use borrow.Author.Rules.{rules}
use Rattle.text.proofs.put_hex.Goals as goal

pub returns : goal.returns
returns c =
    let n : length (hexes c.args.tag) ≡ 32 = length_hexes c.args.tag ∙ ap (λ (k : ℕ). 2 * k) ((let h : length c.args.tag ≡ 16 = search rules in h)) in
    record { area = c.put_hex.ensures; next = omega (arith, n); near = omega (arith, n) }
