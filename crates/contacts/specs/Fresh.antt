-- What `fresh_exchange` is lent, and what it leaves behind the exchange.
-- Assumes nothing.
use Rattle.std.specs.Prelude.{ℕ, false, List, Some}
use Rattle.courier_core.specs.declared.ContactId.{ContactId}
use Rattle.rows.specs.declared.Device.{Device}
use Rattle.rows.specs.declared.Exchange.{Exchange}
use Rattle.model.specs.State.{State}
use Rattle.model.specs.Areas.{Areas}
use Rattle.model.specs.Lent.{device_in, contacts_in, exchange_in}
use Rattle.holdings.specs.Lends.{exchange_of}

-- what `fresh_exchange` leaves that is done, where the model's state was s: opened for the peer, nothing listed or offered in it
unfoldable pub fresh_leaves : ContactId → State → Exchange
fresh_leaves peer s = exchange_of (Some peer) false 0 0

-- what `fresh_exchange` is lent, set into areas that are anything otherwise
abbrev pub fresh_in : Device → (contacts : List ℕ) → Exchange → (prefixes offers : List ℕ) → Areas → Areas
fresh_in d contacts e prefixes offers a = device_in d (contacts_in contacts (exchange_in e prefixes offers a))
