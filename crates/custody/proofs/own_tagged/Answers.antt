-- `custody::own_tagged`: a row's tag is the 16 bytes at offset 12, so that the search of bytes is the search of rows. Assumes nothing.
use Rattle.std.proofs.Common.{sym, refl, rules}
use Rattle.rows.specs.Rows.{own_codec, own_of}
use Rattle.custody.proofs.Laws.{tagged}
use Rattle.custody.proofs.own_tagged.Goals as goal

pub returns : goal.returns
unfolding own_of
returns c = sym (tagged own_codec (λ r. r.tag) 12 (λ b. refl) _ _ _ _ (search rules) c.has.ensures)
