-- The fields are written one after the other, and fill the array.
use Rattle.std.proofs.Common.{refl, rules}
use Rattle.octets.proofs.Numbers.{bytes_of}
use Rattle.rows.specs.Rows.{offer_bytes}
use Rattle.rows.proofs.Laid.{start, run, number, whole}
use Rattle.rows.proofs.OfferRowOFFER_WIDTH.bytes.Goals as goal

pub returns-clause-value : goal.returns-clause-value
unfolding offer_bytes
returns-clause-value c = whole (number 1 _ (run _ start c.put_array.ensures) c.put_u8.ensures) refl

pub returns-clause-proper : goal.returns-clause-proper
returns-clause-proper c = record {
  tag = record { size = search rules; bytes = bytes_of _ (λ i. search rules) };
  copies = search rules;
}
