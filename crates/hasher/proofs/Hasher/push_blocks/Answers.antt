use mathlib.Core.Path.{refl}
use Rattle.hasher.proofs.TakenLaws.{push_whole}
use Rattle.hasher.proofs.Hasher.push_blocks.Goals as goal

pub returns : goal.returns
returns c = record {
  by_index = push_whole c.args.self c.args.m.now c.blocks-2.result c.requires.m_bound.0 c.requires.m_bound.1 c.blocks-2.ensures;
  count = refl;
}
