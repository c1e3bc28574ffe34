-- `holdings::deposited`: a row's depositor is the number at 8 of its bytes, so that the count of the rows of bytes is the count of the typed rows. Assumes nothing.
use Rattle.std.proofs.Common.{rules}
use Rattle.holdings.proofs.RowLaws.{deposits, deposit_all}
use Rattle.holdings.proofs.deposited.Goals as goal

pub returns : goal.returns
returns c = deposit_all _ _ _ _ (c.count_where.ensures (deposits c.args.peer) (λ row b h e. search rules))
