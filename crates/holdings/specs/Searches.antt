-- What a search asks of one row.
-- Assumes nothing.
use Rattle.std.specs.Prelude.{ℕ, Bool, ◌&&◌, List, nat_lt}
use Rattle.courier_core.specs.declared.ContactId.{ContactId}
use Rattle.rows.specs.declared.Own.{Own}
use Rattle.rows.specs.declared.Tombstone.{Tombstone}
use Rattle.model.specs.Custody.{own_of_tag}
use Rattle.model.specs.Exchange.{not_for}

-- an own row with the tag that is not for the peer
abbrev pub for_others : ContactId → List ℕ → Own → Bool
for_others peer tag o = not_for peer o && own_of_tag tag o

-- has a tombstone a higher slot
abbrev pub higher : ℕ → Tombstone → Bool
higher slot t = nat_lt slot t.slot
