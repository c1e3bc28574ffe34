-- `custody::carried_tagged`: a row's tag is the 16 bytes at offset 16, so that the search of bytes is the search of rows. Assumes nothing.
use Rattle.std.proofs.Common.{sym, refl, rules}
use Rattle.rows.specs.Rows.{carried_codec, carried_of}
use Rattle.custody.proofs.Laws.{tagged}
use Rattle.custody.proofs.carried_tagged.Goals as goal

pub returns : goal.returns
unfolding carried_of
returns c = sym (tagged carried_codec (λ r. r.tag) 16 (λ b. refl) _ _ _ _ (search rules) c.has.ensures)
