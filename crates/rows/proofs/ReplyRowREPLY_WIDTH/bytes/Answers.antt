-- The fields are written one after the other, and fill the array.
use Rattle.std.proofs.Common.{refl, rules}
use Rattle.octets.proofs.Numbers.{bytes_of}
use Rattle.rows.specs.Rows.{reply_bytes}
use Rattle.rows.proofs.Laid.{start, run, number, whole}
use Rattle.rows.proofs.ReplyRowREPLY_WIDTH.bytes.Goals as goal

pub returns-clause-value : goal.returns-clause-value
unfolding reply_bytes
returns-clause-value c = whole (run _ (number 2 _ (number 1 _ start c.put_u8.ensures) c.put_u16.ensures) c.put_array.ensures) refl

pub returns-clause-proper : goal.returns-clause-proper
returns-clause-proper c = record {
  kind = search rules;
  cell = search rules;
  body = record { size = search rules; bytes = bytes_of _ (λ i. search rules) };
}
