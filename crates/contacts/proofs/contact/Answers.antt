-- `contact`: by the place of the contact, and by the count where it has none. Assumes nothing.
use Rattle.std.proofs.Common.{arith}
use Rattle.holdings.proofs.FindLaws.{place_inside}
use Rattle.contacts.proofs.ContactLaws.{altered, added, full}
use Rattle.contacts.proofs.contact.Goals as goal

pub replace-device-requires : goal.replace-device-requires
replace-device-requires c = place_inside _ _ _ _ c.in-Some.ensures

pub returns-then-len-ge-MAX_CONTACTS : goal.returns-then-len-ge-MAX_CONTACTS
returns-then-len-ge-MAX_CONTACTS c = λ a. full _ _ _ _ a c.in-None.ensures c.len.ensures.is (omega arith)

pub returns-in-Some : goal.returns-in-Some
returns-in-Some c = λ a. altered _ _ _ _ a c.byte.ensures c.in-Some.ensures c.replace-device.ensures

pub returns-else-len-ge-MAX_CONTACTS : goal.returns-else-len-ge-MAX_CONTACTS
returns-else-len-ge-MAX_CONTACTS c =
    λ a. added _ _ _ _ a c.byte.ensures c.in-None.ensures c.len.ensures.is (omega arith) c.push-device.ensures
