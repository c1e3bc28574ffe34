-- A row's contact and tag are its bytes at 0 and 12, so that the search of bytes is the search of rows.
use Rattle.std.proofs.Common.{◌≡◌, ℕ, not, ◌&&◌, eqb, length, refl, ap, ◌∙◌, rules}
use Rattle.octets.specs.Bytes.{part, num, same_bytes}
use Rattle.table.proofs.TableLaws.{table_find}
use Rattle.rows.specs.Rows.{own_codec, own_of}
use Rattle.holdings.specs.Searches.{for_others}
use Rattle.holdings.proofs.own_for_others.Goals as goal

pub returns : goal.returns
unfolding own_of
returns c =
    table_find own_codec _ _ _ refl _ (for_others c.args.peer c.args.tag) (λ b. refl) _
    (c.position.ensures (λ b. for_others c.args.peer c.args.tag (own_of b)) (λ row b h e.
    let other = not (eqb (num (part row.now 0 8)) c.args.peer.0) in
    let s : b ≡ (other && same_bytes (part row.now 12 (length c.args.tag)) c.args.tag) = search rules in
    s ∙ ap (λ (k : ℕ). other && same_bytes (part row.now 12 k) c.args.tag) (search rules)))
