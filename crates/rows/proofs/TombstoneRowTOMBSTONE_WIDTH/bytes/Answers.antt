-- The fields are written one after the other, and fill the array.
use Rattle.std.proofs.Common.{refl, rules}
use Rattle.octets.proofs.Numbers.{bytes_of}
use Rattle.rows.specs.Rows.{tombstone_bytes}
use Rattle.rows.proofs.Laid.{start, run, number, whole}
use Rattle.rows.proofs.TombstoneRowTOMBSTONE_WIDTH.bytes.Goals as goal

pub returns-clause-value : goal.returns-clause-value
unfolding tombstone_bytes
returns-clause-value c = whole (number 4 _ (run _ (run _ (number 8 _ start c.put_u64.ensures) c.put_array.ensures) c.put_array-2.ensures) c.put_u32.ensures) refl

pub returns-clause-proper : goal.returns-clause-proper
returns-clause-proper c = record {
  slot = search rules;
  tag = record { size = search rules; bytes = bytes_of _ (λ i. search rules) };
  s = record { size = search rules; bytes = bytes_of _ (λ i. search rules) };
  expiry_min = search rules;
}
