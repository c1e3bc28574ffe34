-- `custody::too_many_bytes`: few bytes for a ciphertext that fits a cell, else their sum. Assumes nothing.
use Rattle.std.proofs.Common.{sym, ◌∙◌, rules, le-ltb}
use Rattle.custody.proofs.Laws.{few_bytes}
use Rattle.custody.proofs.too_many_bytes.Goals as goal

pub returns-else-len-gt-CELL : goal.returns-else-len-gt-CELL
returns-else-len-gt-CELL c = le-ltb _ _ c.if-len-gt-CELL.false ∙ sym (few_bytes _ _ _ _ (search rules) c.if-len-gt-CELL.false)
