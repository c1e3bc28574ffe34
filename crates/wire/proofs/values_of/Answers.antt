-- A body that fits its mark has the mark's least size. Assumes nothing.
use Rattle.std.proofs.Common.{arith}
use Rattle.wire.proofs.HeadLaws.{size_of}
use Rattle.wire.specs.declared.Mark.TheVariants as mark
use Rattle.wire.proofs.values_of.Goals as goal

pub get_u64-requires : goal.get_u64-requires
get_u64-requires c = size_of _ mark.Clock c.in-Clock.is c.requires

pub peer_in-requires : goal.peer_in-requires
peer_in-requires c = omega (arith, size_of _ mark.Contact c.in-Contact.is c.requires)

pub get_u8-requires : goal.get_u8-requires
get_u8-requires c = size_of _ mark.Contact c.in-Contact.is c.requires

pub peer_in-requires-in-Session : goal.peer_in-requires-in-Session
peer_in-requires-in-Session c = size_of _ mark.Session c.in-Session.is c.requires

pub peer_in-requires-in-Envelope : goal.peer_in-requires-in-Envelope
peer_in-requires-in-Envelope c = omega (arith, size_of _ mark.Envelope c.in-Envelope.is c.requires)

pub peer_in-requires-in-Inventory : goal.peer_in-requires-in-Inventory
peer_in-requires-in-Inventory c = size_of _ mark.Inventory c.in-Inventory.is c.requires

pub peer_in-requires-in-Fetch : goal.peer_in-requires-in-Fetch
peer_in-requires-in-Fetch c = omega (arith, size_of _ mark.Fetch c.in-Fetch.is c.requires)

pub peer_in-requires-in-Custody : goal.peer_in-requires-in-Custody
peer_in-requires-in-Custody c = omega (arith, size_of _ mark.Custody c.in-Custody.is c.requires)

pub get_u8-requires-in-Custody : goal.get_u8-requires-in-Custody
get_u8-requires-in-Custody c = size_of _ mark.Custody c.in-Custody.is c.requires

pub peer_in-requires-in-Tomb : goal.peer_in-requires-in-Tomb
peer_in-requires-in-Tomb c = omega (arith, size_of _ mark.Tomb c.in-Tomb.is c.requires)

pub setting_in-requires : goal.setting_in-requires
setting_in-requires c = size_of _ mark.Setting c.in-Setting.is c.requires
