-- `known`: there is a place. Assumes nothing.
use Rattle.std.proofs.Common.{◌∙◌}
use Rattle.holdings.proofs.FindLaws.{is_known_lem}
use Rattle.holdings.proofs.known.Goals as goal

pub returns : goal.returns
returns c = c.is_some.ensures ∙ is_known_lem _ _ _ _ c.contact_place.ensures
