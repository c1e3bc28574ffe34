-- The state that goes by value, at its start, and an exchange as it is opened.
-- Assumes nothing.
use Rattle.std.specs.Prelude.{false, Option, Some, None}
use Rattle.courier_core.specs.declared.ContactId.{ContactId}
use Rattle.state.specs.Config.{config_default}
use Rattle.rows.specs.declared.Device.{Device}
use Rattle.rows.specs.declared.Exchange.{Exchange}

-- no row, contact or bad tag, next slot 0, clock 0, the default setting
abbrev pub fresh_device : Device
fresh_device = record {
  courier = config_default;
  now_s = 0;
  contacts = 0;
  own = 0;
  carried = 0;
  tombstones = 0;
  bad_tags = 0;
  next_slot = 0;
}

-- `Exchange::default`, for whom it is: nothing listed or offered, no terminator yet
abbrev pub empty_exchange : Option ContactId → Exchange
empty_exchange p = record { peer = p; complete = false; listed = 0; offered = 0 }

-- an exchange that is opened for none
abbrev pub closed_exchange : Exchange
closed_exchange = empty_exchange None

-- a fresh exchange, opened for a peer
abbrev pub fresh_exchange : ContactId → Exchange
fresh_exchange id = empty_exchange (Some id)
