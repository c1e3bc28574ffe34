-- The fields are written one after the other, and fill the array.
use Rattle.std.proofs.Common.{refl, rules}
use Rattle.octets.proofs.Numbers.{bytes_of}
use Rattle.rows.specs.Rows.{carried_bytes}
use Rattle.rows.proofs.Laid.{start, run, number, whole}
use Rattle.rows.proofs.CarriedRowCARRIED_WIDTH.bytes.Goals as goal

pub returns-clause-value : goal.returns-clause-value
unfolding carried_bytes
returns-clause-value c = whole (number 2 _ (number 2 _ (number 1 _ (number 4 _ (run _ (run _ (number 8 _ (number 8 _ start c.put_u64.ensures) c.put_u64-2.ensures) c.put_array.ensures) c.put_array-2.ensures) c.put_u32.ensures) c.put_u8.ensures) c.put_u16.ensures) c.put_u16-2.ensures) refl

pub returns-clause-proper : goal.returns-clause-proper
returns-clause-proper c = record {
  slot = search rules;
  depositor = search rules;
  tag = record { size = search rules; bytes = bytes_of _ (λ i. search rules) };
  c = record { size = search rules; bytes = bytes_of _ (λ i. search rules) };
  expiry_min = search rules;
  copies = search rules;
  len = search rules;
  cell = search rules;
}
