-- The rows that have the tag as their key are those that `tagged` counts. Assumes nothing.
use Rattle.std.proofs.Common.{◌≡◌, length, ◌∙◌, rules}
use Rattle.table.specs.Rows.{has_key}
use Rattle.bench_exports.proofs.Laws.{counted, key_here}
use Rattle.bench_exports.proofs.bench_tagged.Goals as goal

pub returns : goal.returns
returns c =
    let l : length c.args.tag.now ≡ 16 = search rules in
    c.count.ensures (has_key 16 c.args.tag.now) (λ row b h e. key_here row.now c.args.tag.now (search rules)) ∙ counted c.args.rows.now c.args.tag.now l 256
