-- What is put into an area is what it holds then; and what it holds already, put again, changes no byte.
-- Assumes nothing.
use Rattle.std.proofs.Common.{◌≡◌, ℕ, Bool, List, length, ap, ◌∙◌, arith, Option}
use Rattle.octets.specs.Bytes.{Bytes}
use Rattle.octets.proofs.Parts.{part_whole}
use Rattle.rows.specs.declared.Device.{Device}
use Rattle.rows.specs.declared.Exchange.{Exchange}
use Rattle.courier_core.specs.declared.ContactId.{ContactId}
use Rattle.rows.proofs.Shapes.{Shape, number, ◌then◌, Value, Fits, width, read, write, length_write, read_written, write_read}
use Rattle.boundary.specs.Boundary.{is_on, flag_over, device_of, device_bytes, device_area, peer_from, is_open, peer_over, exchange_of, exchange_bytes, exchange_area}

-- ---- flags

pub flag_says : (byte : ℕ) (on : Bool) → is_on (flag_over byte on) ≡ on
unfolding flag_over
flag_says byte on = grind arith

pub flag_stays : (byte : ℕ) → flag_over byte (is_on byte) ≡ byte
unfolding flag_over
flag_stays byte = grind arith

-- ---- the device

abbrev pub device_shape : Shape
device_shape = number 1 then number 1 then number 2 then number 8 then number 8 then number 8 then number 8 then number 8 then number 8 then number 8

-- what the types of a device's fields say, with a byte for its first flag
abbrev pub device_values : ℕ → Device → Value device_shape
device_values enabled d = (
  ((((((((enabled, d.courier.copies), d.courier.lifetime_min), d.now_s), d.contacts), d.own), d.carried), d.tombstones), d.bad_tags),
  d.next_slot,
)

-- what was laid out by a shape is read off its bytes
laid_read : (s : Shape) (v : Value s) → Fits s v → read s 0 (write s v) ≡ v
laid_read s v p = read_written s v 0 (write s v) p (part_whole (write s v) (width s) (length_write s v p))

pub device_back : (enabled : ℕ) (d : Device) → is_on enabled ≡ d.courier.enabled → Fits device_shape (device_values enabled d) → device_of (device_bytes enabled d) ≡ d
unfolding device_of device_bytes
device_back enabled d on fits =
    let e : read device_shape 0 (write device_shape (device_values enabled d)) ≡ device_values enabled d = laid_read device_shape (device_values enabled d) fits in
    λ i. record {
      courier = record {
        enabled = ((ap (λ (v : Value device_shape). is_on v.0.0.0.0.0.0.0.0.0) e) ∙ on) i;
        copies = (e i).0.0.0.0.0.0.0.0.1;
        lifetime_min = (e i).0.0.0.0.0.0.0.1;
      };
      now_s = (e i).0.0.0.0.0.0.1;
      contacts = (e i).0.0.0.0.0.1;
      own = (e i).0.0.0.0.1;
      carried = (e i).0.0.0.1;
      tombstones = (e i).0.0.1;
      bad_tags = (e i).0.1;
      next_slot = (e i).1;
    }

-- a device that an area holds, put into it again, changes no byte
pub device_stays : (a : List ℕ) → length a ≡ 60 → Bytes a → device_area a (device_of a) ≡ a
unfolding device_area device_of device_bytes
device_stays a l bytes = rw flag_stays (write_read a bytes device_shape 0 (omega arith) ∙ part_whole a 60 l)

-- ---- an exchange

abbrev pub exchange_shape : Shape
exchange_shape = number 1 then number 1 then number 8 then number 8 then number 8

pub peer_back : (byte id : ℕ) (p : Option ContactId) → peer_from (is_on (flag_over byte (is_open p))) (peer_over id p) ≡ p
peer_back byte id p = grind (arith, flag_says)

pub exchange_back : (opened complete peer : ℕ) (e : Exchange) → peer_from (is_on opened) peer ≡ e.peer → is_on complete ≡ e.complete
    → Fits exchange_shape ((((opened, complete), peer), e.listed), e.offered) → exchange_of (exchange_bytes opened complete peer e.listed e.offered) ≡ e
unfolding exchange_of exchange_bytes
exchange_back opened complete peer e from on fits =
    let v : Value exchange_shape = ((((opened, complete), peer), e.listed), e.offered) in
    let q : read exchange_shape 0 (write exchange_shape v) ≡ v = laid_read exchange_shape v fits in
    λ i. record {
      peer = ((ap (λ (w : Value exchange_shape). peer_from (is_on w.0.0.0.0) w.0.0.1) q) ∙ from) i;
      complete = ((ap (λ (w : Value exchange_shape). is_on w.0.0.0.1) q) ∙ on) i;
      listed = (q i).0.1;
      offered = (q i).1;
    }

peer_opened : (opened : Bool) (id : ℕ) → is_open (peer_from opened id) ≡ opened
peer_opened opened id = grind arith

peer_stays : (opened : Bool) (id : ℕ) → peer_over id (peer_from opened id) ≡ id
peer_stays opened id = grind arith

-- an exchange that an area holds, put into it again, changes no byte
pub exchange_stays : (a : List ℕ) → length a ≡ 26 → Bytes a → exchange_area a (exchange_of a) ≡ a
unfolding exchange_area exchange_of exchange_bytes
exchange_stays a l bytes =
    simp (peer_opened, peer_stays, flag_stays) (write_read a bytes exchange_shape 0 (omega arith) ∙ part_whole a 26 l)
