use Rattle.hasher.proofs.TakenLaws.{added_by, cut_twice}
use Rattle.hasher.proofs.Hasher.update.Goals as goal

pub returns : goal.returns
returns c =
    added_by _ _ _ _ _ c.push-2.ensures c.push_blocks.ensures c.push-3.ensures
    (cut_twice c.args.m.now _ _ c.split_at.ensures.front c.split_at.ensures.back c.split_at-2.ensures.front c.split_at-2.ensures.back)
