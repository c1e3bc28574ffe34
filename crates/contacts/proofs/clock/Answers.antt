-- `clock`: no test, one part of the device. Assumes nothing.
use Rattle.contacts.proofs.ContactLaws.{clocked}
use Rattle.contacts.proofs.clock.Goals as goal

pub returns : goal.returns
returns c = clocked _ _
