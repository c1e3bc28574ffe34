use Rattle.sha_word.specs.Word.{Σ1}
use Rattle.sha_word.proofs.big_sigma1.Goals as goal

pub returns : goal.returns
unfolding Σ1
returns c = cc
