-- `contact_place`: the first row of bytes that begins with the number is the first contact of that number. Assumes nothing.
use Rattle.std.proofs.Common.{refl, rules}
use Rattle.rows.specs.Rows.{contact_codec, contact_of}
use Rattle.table.proofs.TableLaws.{table_find}
use Rattle.model.specs.Contacts.{contact_place, is_contact}
use Rattle.holdings.proofs.contact_place.Goals as goal

pub returns : goal.returns
unfolding contact_place contact_of
returns c =
    table_find contact_codec _ _ _ refl _ (is_contact c.args.id) (λ b. refl) _ (c.position.ensures _ (λ row b h e. search rules))
