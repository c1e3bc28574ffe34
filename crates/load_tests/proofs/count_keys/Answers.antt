-- `count_keys`: a row has the key, and every row that is counted fits. Assumes nothing.
use Rattle.std.proofs.Common.{ℕ, ap, ◌∙◌, rules, arith}
use Rattle.table.specs.Lists.{count_by}
use Rattle.table.specs.Rows.{rows, has_key}
use Rattle.table.proofs.RowLaws.{held_all}
use Rattle.load_tests.proofs.count_keys.Goals as goal

pub returns : goal.returns
unfolding has_key
returns c =
    c.count_where.ensures (has_key c.args.offset c.args.key.now) (λ row b h e. search rules)
    ∙ ap (λ (n : ℕ). count_by (has_key c.args.offset c.args.key.now) (rows 24 n c.args.keys.area.now)) (held_all _ 24 _ (omega arith) c.requires.0)
