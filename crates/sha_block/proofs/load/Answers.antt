use Rattle.std.proofs.Common.{refl, arith, length-set, rules}
use Rattle.sha_block.specs.Block.{schedule}
use Rattle.sha_block.specs.Loop.{turns}
use Rattle.sha_block.proofs.Loop.{again}
use Rattle.sha_block.proofs.Words.{loaded}
use Rattle.sha_block.proofs.load.Goals as goal

pub loop-t-init : goal.loop-t-init
unfolding schedule
loop-t-init c = (refl, refl)

pub loop-t-preserved : goal.loop-t-preserved
unfolding turns
loop-t-preserved c = (
  simp length-set (search rules),
  again _ 80 c.loop-t.t _ c.loop-t.invariant.1 1 (omega arith) (loaded _ c.loop-t.w _ c.loop-t.t _ (omega arith) (omega arith) c.get_u64.ensures),
)
