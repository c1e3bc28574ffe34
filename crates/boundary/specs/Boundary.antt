-- The device and an exchange as bytes of small areas: what an area holds, and what it is once something else is put into it.
-- Assumes nothing.
use Rattle.std.specs.Prelude.{◌≡◌, ℕ, Bool, cond, not, List, ◌++◌, ◌==◌, Option, Some, None, is_some, unwrap_or}
use Rattle.courier_core.specs.declared.ContactId.{ContactId}
use Rattle.octets.specs.Bytes.{part, num, be}
use Rattle.rows.specs.declared.Device.{Device}
use Rattle.rows.specs.Device.{fresh_device}
use Rattle.rows.specs.declared.Exchange.{Exchange}

-- ---- flags

-- a flag is on unless its byte is 0
abbrev pub is_on : ℕ → Bool
is_on byte = not (byte == 0)

-- the byte of a flag that is now on or off: the one that was there, if it says so
unfoldable pub flag_over : ℕ → Bool → ℕ
flag_over byte on = cond on (cond (byte == 0) 1 byte) 0

-- ---- the device, in 60 bytes

unfoldable pub device_of : List ℕ → Device
device_of a = record {
  courier = record { enabled = is_on (num (part a 0 1)); copies = num (part a 1 1); lifetime_min = num (part a 2 2) };
  now_s = num (part a 4 8);
  contacts = num (part a 12 8);
  own = num (part a 20 8);
  carried = num (part a 28 8);
  tombstones = num (part a 36 8);
  bad_tags = num (part a 44 8);
  next_slot = num (part a 52 8);
}

unfoldable pub device_bytes : ℕ → Device → List ℕ
device_bytes enabled d =
    be 1 enabled ++ be 1 d.courier.copies ++ be 2 d.courier.lifetime_min ++ be 8 d.now_s ++ be 8 d.contacts ++ be 8 d.own
    ++ be 8 d.carried ++ be 8 d.tombstones ++ be 8 d.bad_tags ++ be 8 d.next_slot

-- the area once a device is put into it
unfoldable pub device_area : List ℕ → Device → List ℕ
device_area a d = device_bytes (flag_over (num (part a 0 1)) d.courier.enabled) d

-- ---- an exchange, in 26 bytes

abbrev pub peer_from : Bool → ℕ → Option ContactId
peer_from opened id = cond opened (Some (record { 0 = id })) None

abbrev pub is_open : Option ContactId → Bool
is_open peer = is_some peer

-- the number of a peer: the one that was there, if the exchange was opened for none
abbrev pub peer_over : ℕ → Option ContactId → ℕ
peer_over id peer = (unwrap_or peer (record { 0 = id })).0

unfoldable pub exchange_of : List ℕ → Exchange
exchange_of a = record {
  peer = peer_from (is_on (num (part a 0 1))) (num (part a 2 8));
  complete = is_on (num (part a 1 1));
  listed = num (part a 10 8);
  offered = num (part a 18 8);
}

unfoldable pub exchange_bytes : (opened complete peer listed offered : ℕ) → List ℕ
exchange_bytes opened complete peer listed offered = be 1 opened ++ be 1 complete ++ be 8 peer ++ be 8 listed ++ be 8 offered

-- the area once an exchange is put into it
unfoldable pub exchange_area : List ℕ → Exchange → List ℕ
exchange_area a e =
    exchange_bytes (flag_over (num (part a 0 1)) (is_open e.peer)) (flag_over (num (part a 1 1)) e.complete) (peer_over (num (part a 2 8)) e.peer)
    e.listed e.offered

-- ---- what putting one says: the area's bytes, that it holds what was put, and that what it held already changes no byte

pub record HoldsDevice (before : List ℕ) (d : Device) (after : List ℕ) : Type 0 where
  pub bytes : after ≡ device_area before d
  pub holds : device_of after ≡ d
  pub stays : d ≡ device_of before → after ≡ before

pub record FreshArea (a : List ℕ) : Type 0 where
  pub bytes : a ≡ device_bytes 1 fresh_device
  pub holds : device_of a ≡ fresh_device

pub record HoldsExchange (before : List ℕ) (e : Exchange) (after : List ℕ) : Type 0 where
  pub bytes : after ≡ exchange_area before e
  pub holds : exchange_of after ≡ e
  pub stays : e ≡ exchange_of before → after ≡ before

-- ---- small areas in general: what they hold, and what they are once something else is put into them

pub record Kept (D S : Type 0) : Type 0 where
  pub holds : D → S
  pub put : D → S → D

-- a device that a call may change, and one that it only reads
abbrev pub device_kept : Kept (List ℕ) Device
device_kept = record { holds = device_of; put = device_area }

abbrev pub device_read : Kept (List ℕ) Device
device_read = record { holds = device_of; put = λ a d. a }

-- a device and an exchange: a call changes the exchange alone, or both
abbrev pub both_of : List ℕ × List ℕ → Device × Exchange
both_of p = (device_of p.0, exchange_of p.1)

abbrev pub exchange_kept : Kept (List ℕ × List ℕ) (Device × Exchange)
exchange_kept = record { holds = both_of; put = λ p s. (p.0, exchange_area p.1 s.1) }

abbrev pub both_kept : Kept (List ℕ × List ℕ) (Device × Exchange)
both_kept = record { holds = both_of; put = λ p s. (device_area p.0 s.0, exchange_area p.1 s.1) }
