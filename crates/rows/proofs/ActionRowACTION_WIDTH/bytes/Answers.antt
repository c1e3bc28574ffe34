-- The fields are written one after the other, and fill the array.
use Rattle.std.proofs.Common.{refl, rules}
use Rattle.rows.specs.Rows.{action_bytes}
use Rattle.rows.proofs.Laid.{start, number, whole}
use Rattle.rows.proofs.ActionRowACTION_WIDTH.bytes.Goals as goal

pub returns-clause-value : goal.returns-clause-value
unfolding action_bytes
returns-clause-value c = whole (number 4 _ (number 8 _ (number 1 _ start c.put_u8.ensures) c.put_u64.ensures) c.put_u32.ensures) refl

pub returns-clause-proper : goal.returns-clause-proper
returns-clause-proper c = record {
  kind = search rules;
  number = search rules;
  msgno = search rules;
}
