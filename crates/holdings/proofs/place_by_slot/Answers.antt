-- The first row of bytes that begins with a higher slot is the first tombstone of a higher slot.
use Rattle.std.proofs.Common.{◌∙◌, rules, ltb}
use Rattle.octets.specs.Bytes.{part, num}
use Rattle.holdings.proofs.SlotLaws.{place_found}
use Rattle.holdings.proofs.place_by_slot.Goals as goal

pub returns : goal.returns
returns c =
    c.unwrap_or.ensures ∙ place_found _ _ _ c.len.ensures.is (c.position.ensures (λ b. ltb c.args.slot (num (part b 0 8))) (λ row b h e. search rules))
