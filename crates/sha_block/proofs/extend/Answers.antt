use Rattle.std.proofs.Common.{sym, ◌∙◌, arith, length-set, take_all, rules}
use Rattle.sha_block.specs.Loop.{turns}
use Rattle.sha_block.proofs.Loop.{again, done}
use Rattle.sha_block.proofs.Words.{extended}
use Rattle.sha_block.proofs.extend.Goals as goal

pub loop-t-preserved : goal.loop-t-preserved
unfolding turns
loop-t-preserved c = (
  simp length-set (search rules),
  λ b. again _ 80 c.loop-t.t _ (c.loop-t.invariant.1 b) 1 (omega arith) (extended b c.loop-t.w c.loop-t.t _ (omega arith) (omega arith) c.mix.ensures),
)

pub returns : goal.returns
returns c = λ b. sym (done _ 80 c.loop-t.t _ (c.loop-t.invariant.1 b) (omega arith) ∙ take_all c.loop-t.t c.loop-t.w (omega arith))
