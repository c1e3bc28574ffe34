-- `list_actions`: one list behind the other, with room for both. Assumes nothing.
use Rattle.std.proofs.Common.{length, arith, rules}
use Rattle.maintenance.proofs.ListedLaws.{listed_then}
use Rattle.maintenance.proofs.CallLaws.{own_room, held_room, listed_held, listed_room}
use Rattle.maintenance.proofs.list_actions.Goals as goal

pub list_own-k-requires : goal.list_own-k-requires
list_own-k-requires c = own_room c.args.own.now c.args.tombstones.now c.args.device.own _ (search rules) c.requires

pub list_held-requires : goal.list_held-requires
list_held-requires c =
    let h = held_room c.args.own.now c.args.tombstones.now c.args.device.own (length c.args.actions.now) (search rules) c.requires
    c.args.carried.now c.args.device.carried c.args.device.tombstones c.args.minute (search rules) c.list_own-k.ensures in
    omega (arith, h, c.list_own-k.auto.actions, c.fit-held.ensures.carried_count, c.fit-held.ensures.tombstones_count)

pub returns : goal.returns
returns c =
    let M = listed_held c.fit-held.ensures c.args.minute c.list_held.ensures in
    listed_then _ _ c.list_own-k.ensures M
    (listed_room c.args.own.now c.args.tombstones.now c.args.device.own (length c.args.actions.now) (search rules) c.requires
    c.args.carried.now c.args.device.carried c.args.device.tombstones c.args.minute (search rules) c.list_own-k.ensures M)
