-- A row's contact and message number are its bytes at 0 and 8, so that the test of bytes is the test of rows.
use Rattle.std.proofs.Common.{refl, rules}
use Rattle.rows.specs.Rows.{own_codec, own_of}
use Rattle.table.proofs.TableLaws.{table_any}
use Rattle.model.specs.Own.{is_message}
use Rattle.own_envelope.proofs.has_message.Goals as goal

pub returns : goal.returns
unfolding own_of
returns c = table_any own_codec _ _ _ refl _ (is_message c.args.id c.args.msgno) (λ b. refl) _ (c.any.ensures _ (λ row b h e. search rules))
