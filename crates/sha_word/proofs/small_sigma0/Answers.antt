use Rattle.sha_word.specs.Word.{σ0}
use Rattle.sha_word.proofs.small_sigma0.Goals as goal

pub returns : goal.returns
unfolding σ0
returns c = cc
