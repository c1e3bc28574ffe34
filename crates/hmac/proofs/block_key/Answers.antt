use mathlib.Core.Path.{◌∙◌}
use native.Mathlib.Omega.{arith}
use borrow.Author.Rules.{rules}
use Rattle.octets.proofs.Parts.{splice_zeros}
use Rattle.hmac.proofs.HmacLaws.{long_key, short_key}
use Rattle.hmac.proofs.block_key.Goals as goal

pub returns-then-key-gt-BLOCK : goal.returns-then-key-gt-BLOCK
returns-then-key-gt-BLOCK c =
    c.copy_in.ensures ∙ splice_zeros 128 c.hash-hashed.result
    ∙ long_key c.args.key.now c.hash-hashed.result c.if-key-gt-BLOCK.true c.hash-hashed.ensures (search rules)

pub returns : goal.returns
returns c = c.copy_in-2.ensures ∙ splice_zeros 128 c.args.key.now ∙ short_key c.args.key.now (omega arith)
