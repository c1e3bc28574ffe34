use mathlib.Core.Path.{refl}
use Rattle.hasher.proofs.TakenLaws.{finished}
use borrow.Author.Rules.{rules}
use Rattle.hasher.proofs.Hasher.finish.Goals as goal

pub returns : goal.returns
returns c = finished c.args.self c.hash_rest.result c.digest_of.result _ (search rules) refl c.hash_rest.ensures c.digest_of.ensures
