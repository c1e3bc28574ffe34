-- Below the limit nothing goes, and from it on the one of least expiry.
use Rattle.std.proofs.Common.{rules, arith}
use Rattle.octets.proofs.Numbers.{bytes_of}
use Rattle.tombstones.proofs.WriteLaws.{room_there, room_by}
use Rattle.tombstones.proofs.make_room.Goals as goal

pub returns-then-n-lt-MAX_TOMBSTONES : goal.returns-then-n-lt-MAX_TOMBSTONES
returns-then-n-lt-MAX_TOMBSTONES c =
    room_there _ _ _ _ c.len-n.ensures.is (bytes_of _ (λ i. search rules)) c.if-n-lt-MAX_TOMBSTONES.true

pub returns : goal.returns
returns c =
    let h = c.if-n-lt-MAX_TOMBSTONES.false in
    room_by _ _ _ _ c.len-n.ensures.is h c.least_expiry-i.ensures.is (omega arith) c.read-gone.ensures c.remove-device.ensures c.delete_courier.ensures
