use Rattle.std.proofs.Common.{◌∙◌}
use Rattle.holdings.proofs.CellLaws.{chunk_first, chunk_next, chunk_past, chunk_end}
use Rattle.holdings.proofs.cells.mark_cells.Goals as goal

pub loop-row-init : goal.loop-row-init
loop-row-init g c =
    rw (c.into_iter-row-iterator.ensures.into_iter_gives, c.take-row-items.ensures.source, c.take-row-items.ensures.count)
    (chunk_first c.len.ensures c.chunks_exact.ensures.rest c.chunks_exact.ensures.size)

pub loop-row-preserved-then-cell-lt-MAX_CELLS : goal.loop-row-preserved-then-cell-lt-MAX_CELLS
loop-row-preserved-then-cell-lt-MAX_CELLS g c =
    chunk_next _ c.loop-row.invariant c.in-Some.ensures.steps.1 c.in-Some.ensures.steps.0.0 c.in-Some.ensures.steps.0.1.0 c.in-Some.ensures.steps.0.1.1 (c.from-cell.ensures ∙ c.get_u16.ensures)

pub loop-row-preserved : goal.loop-row-preserved
loop-row-preserved g c =
    chunk_past _ c.loop-row.invariant c.in-Some.ensures.steps.1 c.in-Some.ensures.steps.0.0 c.in-Some.ensures.steps.0.1.0 c.in-Some.ensures.steps.0.1.1 (c.from-cell.ensures ∙ c.get_u16.ensures) c.if-cell-lt-MAX_CELLS.false

pub returns : goal.returns
returns g c =
    chunk_end c.loop-row.invariant (λ p. (c.in-None.ensures.steps p).1.0)
