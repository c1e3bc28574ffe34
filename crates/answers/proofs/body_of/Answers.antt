-- The tag is written over zeros, and what follows behind it.
use Rattle.answers.proofs.Laws.{tag_and_more}
use borrow.Author.Rules.{rules}
use Rattle.answers.proofs.body_of.Goals as goal

pub returns : goal.returns
returns c = tag_and_more _ _ _ _ (search rules) c.copy_in.ensures c.copy_in-2.ensures
