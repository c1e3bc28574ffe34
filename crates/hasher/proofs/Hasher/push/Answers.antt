use mathlib.Core.Path.{refl, ◌∙◌}
use Rattle.hasher.proofs.TakenLaws.{push_held, push_full}
use borrow.Author.Rules.{rules}
use Rattle.hasher.proofs.Hasher.push.Goals as goal
use Rattle.hasher.proofs.Hasher.push.Goals.{then-full, else-full}

pub returns : goal.returns
returns c =
    let room = c.requires.m_bound.0 in
    record {
      by_index = elim c.if-full.branch [
        | then-full w ↦ push_full c.args.self _ _ (search rules) room c.copy_in.ensures _ w.if-full.true (w.result-is ∙ w.blocks-then-full.ensures)
        | else-full w ↦ rw w.result-is (push_held c.args.self _ _ (search rules) room c.copy_in.ensures w.if-full.false)
      ];
      count = refl;
    }
