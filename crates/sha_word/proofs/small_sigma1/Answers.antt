use Rattle.sha_word.specs.Word.{σ1}
use Rattle.sha_word.proofs.small_sigma1.Goals as goal

pub returns : goal.returns
unfolding σ1
returns c = cc
