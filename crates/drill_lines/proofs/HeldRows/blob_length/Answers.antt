-- The answer of the row blob call on an area of its own. Assumes nothing.
use Rattle.std.proofs.Common.{rules}
use Rattle.drill_lines.proofs.LineLaws.{length_told}
use Rattle.drill_lines.proofs.HeldRows.blob_length.Goals as goal

pub returns : goal.returns
returns c = λ a. length_told _ _ _ _ _ (search rules) c.unwrap_or.ensures c.unwrap_or-2.ensures (c.row_blob-answer.ensures a).answer
