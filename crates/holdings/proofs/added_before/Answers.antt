-- `added_before`: the place, or the count. Assumes nothing.
use Rattle.std.proofs.Common.{◌∙◌}
use Rattle.holdings.proofs.FindLaws.{before_it}
use Rattle.holdings.proofs.added_before.Goals as goal

pub returns : goal.returns
returns c = c.unwrap_or.ensures ∙ before_it _ _ _ _ c.contact_place.ensures _ c.len.ensures.is
