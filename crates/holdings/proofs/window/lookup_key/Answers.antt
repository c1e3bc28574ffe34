-- `holdings::window::lookup_key`: a row's tag is the 16 bytes at offset 14. Assumes nothing.
use Rattle.holdings.proofs.WindowLaws.{looked_up}
use Rattle.holdings.proofs.window.lookup_key.Goals as goal

pub returns : goal.returns
returns c = looked_up _ _ _ c.requires c.scan.ensures
