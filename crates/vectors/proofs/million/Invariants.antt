-- What the hasher has taken so far.
use Rattle.std.proofs.Common.{◌≡◌, ◌*◌}
use Rattle.vectors.proofs.million.Given as goal

abbrev pub invariant-loop-turn : goal.invariant-loop-turn
invariant-loop-turn l = l.h.len ≡ 62500 * l._turn
