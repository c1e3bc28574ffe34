-- The fields are written one after the other, and fill the array.
use Rattle.std.proofs.Common.{refl, rules}
use Rattle.rows.specs.Rows.{contact_bytes}
use Rattle.rows.proofs.Laid.{start, number, whole}
use Rattle.rows.proofs.ContactRowCONTACT_WIDTH.bytes.Goals as goal

pub returns-clause-value : goal.returns-clause-value
unfolding contact_bytes
returns-clause-value c = whole (number 1 _ (number 8 _ start c.put_u64.ensures) c.put_u8.ensures) refl

pub returns-clause-proper : goal.returns-clause-proper
returns-clause-proper c = record {
  id = search rules;
  verification = search rules;
}
