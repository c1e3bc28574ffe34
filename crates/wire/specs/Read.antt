-- A record as `read_body` answers it: a body's runs of bytes stay in the body.
-- Assumes nothing.
use Rattle.std.specs.Prelude.{◌≡◌, ℕ, ◌≤◌, List, length, drop, Option, Some, None}
use Rattle.octets.specs.Bytes.{part}
use Rattle.courier.specs.Courier.{header_of}
use Rattle.wire.specs.declared.Mark.{Mark}
use Rattle.wire.specs.declared.Body.{Body}
use Rattle.wire.specs.declared.Body.TheVariants as body
use Rattle.wire.specs.Log
use Rattle.wire.specs.Log.{Record, body_of}

abbrev pub read_as : Option Record → Option Body
read_as None = None
read_as (Some (Log.clock seconds)) = Some (body.Clock seconds)
read_as (Some (Log.contact id v)) = Some (body.Contact id v)
read_as (Some (Log.session peer)) = Some (body.Session peer)
read_as (Some (Log.envelope peer head ct)) = Some (body.Envelope peer)
read_as (Some (Log.inventory peer prefixes)) = Some (body.Inventory peer)
read_as (Some (Log.fetch peer tag)) = Some (body.Fetch peer)
read_as (Some (Log.custody peer tag code)) = Some (body.Custody peer code)
read_as (Some (Log.tomb peer tag s)) = Some (body.Tomb peer)
read_as (Some Log.maintenance) = Some body.Maintenance
read_as (Some (Log.setting enabled copies lifetime)) = Some (body.Setting enabled copies lifetime)

-- the record again, from the body's bytes
abbrev pub record_of : Option Body → List ℕ → Option Record
record_of None b = None
record_of (Some (body.Clock seconds)) b = Some (Log.clock seconds)
record_of (Some (body.Contact id v)) b = Some (Log.contact id v)
record_of (Some (body.Session peer)) b = Some (Log.session peer)
record_of (Some (body.Envelope peer)) b = Some (Log.envelope peer (header_of (part b 8 37)) (drop 45 b))
record_of (Some (body.Inventory peer)) b = Some (Log.inventory peer (drop 8 b))
record_of (Some (body.Fetch peer)) b = Some (Log.fetch peer (part b 8 16))
record_of (Some (body.Custody peer code)) b = Some (Log.custody peer (part b 8 16) code)
record_of (Some (body.Tomb peer)) b = Some (Log.tomb peer (part b 8 16) (part b 24 16))
record_of (Some body.Maintenance) b = Some Log.maintenance
record_of (Some (body.Setting enabled copies lifetime)) b = Some (Log.setting enabled copies lifetime)

-- how many bytes a body has at least
abbrev pub least_of : Option Body → ℕ
least_of None = 0
least_of (Some (body.Clock seconds)) = 8
least_of (Some (body.Contact id v)) = 9
least_of (Some (body.Session peer)) = 8
least_of (Some (body.Envelope peer)) = 45
least_of (Some (body.Inventory peer)) = 8
least_of (Some (body.Fetch peer)) = 24
least_of (Some (body.Custody peer code)) = 25
least_of (Some (body.Tomb peer)) = 40
least_of (Some body.Maintenance) = 0
least_of (Some (body.Setting enabled copies lifetime)) = 4

-- What is read of a body is what the grammar says; with the body's bytes it is the whole record, and those are there.
pub record Told (m : Mark) (b : List ℕ) (r : Option Body) : Type 0 where
  pub is : r ≡ read_as (body_of m b)
  pub whole : record_of r b ≡ body_of m b
  pub room : least_of r ≤ length b
