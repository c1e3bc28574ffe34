use Rattle.std.proofs.Common.{arith}
use Rattle.data.proofs.Leb128Laws.{encode_first, encode_more}
use Rattle.data.proofs.leb128.Goals as goal

pub loop-v-init : goal.loop-v-init
loop-v-init c = encode_first _ (omega arith)

pub loop-v-preserved : goal.loop-v-preserved
loop-v-preserved c = encode_more _ _ _ _ c.loop-v.invariant c.loop-v-test.true
