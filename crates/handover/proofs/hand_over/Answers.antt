-- The carried row first, then the own row.
use Rattle.std.proofs.Common.{refl}
use Rattle.rows.specs.Rows.{own_codec, carried_codec}
use Rattle.model.specs.Custody.{own_of_tag, carried_of_tag}
use Rattle.model.specs.Exchange.{no_own, no_carried}
use Rattle.holdings.proofs.SearchLaws.{found_inside}
use Rattle.handover.proofs.HandLaws.{hands_carried, hands_own, hands_nothing}
use Rattle.handover.proofs.hand_over.Goals as goal

pub take_off-device-requires : goal.take_off-device-requires
take_off-device-requires c =
    (found_inside carried_codec c.args.device.now.carried c.args.carried.now (carried_of_tag c.args.tag) no_carried c.in-Some.ensures, c.requires)

pub take_off_own-device-requires : goal.take_off_own-device-requires
take_off_own-device-requires c =
    (found_inside own_codec c.args.device.now.own c.args.own.now (own_of_tag c.args.tag) no_own c.in-Some-own_of_tag.ensures, c.requires)

pub returns-in-Some : goal.returns-in-Some
returns-in-Some c = hands_carried _ _ _ _ _ _ c.in-Some.ensures c.take_off-device.ensures refl

pub returns-in-Some-own_of_tag : goal.returns-in-Some-own_of_tag
returns-in-Some-own_of_tag c =
    hands_own _ _ _ _ _ _ c.in_default.ensures c.in-Some-own_of_tag.ensures c.take_off_own-device.ensures refl

pub returns : goal.returns
returns c =
    hands_nothing _ _ _ _ _ _ c.in_default.ensures c.in_default-own_of_tag.ensures
