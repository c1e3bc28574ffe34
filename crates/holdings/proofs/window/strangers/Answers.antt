-- `strangers`: the next row decides, or those behind it. Assumes nothing.
use Rattle.std.proofs.Common.{true, false, sym, arith}
use borrow.Author.Tests.{not-false}
use Rattle.holdings.proofs.StrangerLaws.{stranger_next, stranger_end}
use Rattle.holdings.proofs.window.strangers.Goals as goal

pub returns-then-is_stranger : goal.returns-then-is_stranger
returns-then-is_stranger c =
    sym (stranger_next _ _ c.loop-i.i c.loop-i.invariant.left _ true (omega arith)
    c.get_u64.ensures (sym c.if-is_stranger.ensures))

pub loop-i-preserved : goal.loop-i-preserved
loop-i-preserved c =
    let k = sym c.if-is_stranger.ensures in record {
      before = not-false _ k;
      left = stranger_next _ _ c.loop-i.i c.loop-i.invariant.left _ false (omega arith) c.get_u64.ensures k;
    }

pub returns : goal.returns
returns c = stranger_end _ _ c.loop-i.i c.loop-i.invariant.left (omega arith)
