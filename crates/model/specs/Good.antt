-- What the areas and the state keep over every list of calls, so that what is stored is what is viewed: sizes, ranges, and rows that fit.
-- Assumes nothing.
use Rattle.std.specs.Prelude.{◌≡◌, ℕ, ◌*◌, ◌^◌, ◌<◌, ◌≤◌, List, length}
use Rattle.octets.specs.Bytes.{Bytes}
use Rattle.courier.specs.declared.Header.{Header}
use Rattle.table.specs.Lists.{All}
use Rattle.rows.specs.Rows.{prefix_width, offer_width}
use Rattle.rows.specs.Proper.{Run, ProperContact, ProperOwn, ProperCarried, ProperTombstone, ProperBadTag, ProperOffer}
use Rattle.rows.specs.Limits.{max_contacts, max_own, max_carried, max_inventory, max_offers, contact_area, own_area, carried_area}
use Rattle.model.specs.State.{State, Session}
use Rattle.model.specs.Calls
use Rattle.model.specs.Calls.{Call}
use Rattle.model.specs.Areas.{Areas}

-- the sizes of the three tables that are lent as arrays
pub record Sized (a : Areas) : Type 0 where
  pub contacts : length a.contacts ≡ contact_area
  pub own : length a.own ≡ own_area
  pub carried : length a.carried ≡ carried_area

pub record GoodSession (e : Session) : Type 0 where
  pub listed : All (Run prefix_width) e.exchange.listed
  pub offered : All ProperOffer e.exchange.offered
  pub listed_few : length e.exchange.listed ≤ max_inventory
  pub offered_few : length e.exchange.offered ≤ max_offers
  pub listed_fit : length e.exchange.listed * prefix_width ≤ e.prefix_area
  pub offered_fit : length e.exchange.offered * offer_width ≤ e.offer_area

pub record Good (s : State) : Type 0 where
  pub contacts : All ProperContact s.contacts
  pub own : All ProperOwn s.own
  pub carried : All ProperCarried s.carried
  pub tombstones : All ProperTombstone s.tombstones
  pub bad_tags : All ProperBadTag s.bad_tags
  pub contacts_few : length s.contacts ≤ max_contacts
  pub own_few : length s.own ≤ max_own
  pub carried_few : length s.carried ≤ max_carried
  pub tombstones_fit : length s.tombstones ≤ s.tombstone_rows
  pub bad_tags_fit : length s.bad_tags ≤ s.bad_tag_rows
  pub next_slot : s.next_slot < 2 ^ 64
  pub copies : s.courier.copies < 2 ^ 8
  pub session : GoodSession s.session
  pub sessions : All GoodSession s.sessions

-- ---- what the types of a call's arguments say

pub record ProperHeader (h : Header) : Type 0 where
  pub tag : Run 16 h.tag
  pub c : Run 16 h.c
  pub expiry_min : h.expiry_min < 2 ^ 32
  pub copies : h.copies < 2 ^ 8

abbrev pub ProperTomb : List ℕ → List ℕ → ℕ → Type 0
ProperTomb tag secret expiry = Run 16 tag × Run 16 secret × (expiry < 2 ^ 32)

abbrev pub ProperCall : Call → Type 0
ProperCall (Calls.contact id v) = id.0 < 2 ^ 64
ProperCall (Calls.setting enabled copies lifetime) = copies < 2 ^ 8
ProperCall (Calls.clock seconds) = Unit {0}
ProperCall (Calls.open_exchange peer) = Unit {0}
ProperCall (Calls.envelope replies actions window peer head ct) = (peer.0 < 2 ^ 64) × ProperHeader head
ProperCall (Calls.inventory_received replies window peer listed) = Bytes listed
ProperCall (Calls.fetch replies peer tag) = Unit {0}
ProperCall (Calls.custody_answer actions peer tag code) = Unit {0}
ProperCall (Calls.tomb actions peer tag secret) = Run 16 tag × Run 16 secret
ProperCall (Calls.opened replies actions peer tag secret expiry) = ProperTomb tag secret expiry
ProperCall (Calls.failed peer tag) = (peer.0 < 2 ^ 64) × Run 16 tag
ProperCall (Calls.stored_tombstone actions tag secret expiry) = ProperTomb tag secret expiry
ProperCall (Calls.add_own id msgno key dir generation idx secret ct) =
    (id.0 < 2 ^ 64) × (msgno < 2 ^ 32) × Run 16 secret
ProperCall (Calls.maintenance actions) = Unit {0}
ProperCall (Calls.inventory_of_ours prefixes peer) = Unit {0}
ProperCall (Calls.row_blob blob slot) = Unit {0}
ProperCall (Calls.save file) = Unit {0}
ProperCall (Calls.page area number) = Unit {0}
