use Rattle.sha_word.specs.Word.{Σ0}
use Rattle.sha_word.proofs.big_sigma0.Goals as goal

pub returns : goal.returns
unfolding Σ0
returns c = cc
