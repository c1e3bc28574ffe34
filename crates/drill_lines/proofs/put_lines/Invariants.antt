use Rattle.std.proofs.Common.{◌≡◌, ◌*◌, length, take}
use mathlib.Core.List.{flat_map}
use Rattle.table.specs.Codec.{table_of}
use Rattle.text.specs.Text.{Puts}
use Rattle.model.specs.Areas.{Areas}
use Rattle.drill_lines.specs.Lines.{held_view}
use Rattle.drill_lines.proofs.put_lines.Given as goal

abbrev pub invariant-loop-i : goal.invariant-loop-i
invariant-loop-i g l =
    (length l.out ≡ length l.initial.out) × ((a : Areas) → Puts (l.i * 96) l.initial.out l.at (flat_map (g.R.Listed.line (held_view l.kept a)) (take l.i (table_of g.R.Row.codec l.listed.count l.listed.area.now))) l.p l.out)
