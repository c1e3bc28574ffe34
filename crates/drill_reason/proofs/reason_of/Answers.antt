-- The body is there (`of_whole`). Assumes nothing.
use Rattle.std.proofs.Common.{ap, ◌∙◌, arith, Ok}
use Rattle.wire.proofs.HeadLaws.{of_whole}
use Rattle.drill_reason.proofs.reason_of.Goals as goal

pub overflow_add-head : goal.overflow_add-head
overflow_add-head c = omega (arith, of_whole _ c.read_head.ensures (c.in-Ok-Some.is ∙ ap Ok c.in-Ok-Some.field-0-is))

pub slice_bounds-body_reason-end : goal.slice_bounds-body_reason-end
slice_bounds-body_reason-end c = omega (arith, of_whole _ c.read_head.ensures (c.in-Ok-Some.is ∙ ap Ok c.in-Ok-Some.field-0-is))
