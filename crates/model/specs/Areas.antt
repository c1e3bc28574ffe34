-- The areas that a host lends: what they hold (view), what a change leaves in them (store), and what every call's contract says.
-- Assumes nothing.
use Rattle.std.specs.Prelude
use Rattle.std.specs.Prelude.{◌≡◌, ℕ, ◌/◌, min, List, [], ◌∷◌, map, length, slice_index_or, slice_set}
use Rattle.octets.specs.Bytes.{splice}
use Rattle.courier_core.specs.Core.{number_of}
use Rattle.courier_core.specs.declared.Refusal.{Refusal}
use Rattle.table.specs.Lists.{All}
use Rattle.table.specs.Codec.{Codec, table_of, with_table}
use Rattle.rows.specs.declared.Device.{Device}
use Rattle.rows.specs.declared.Exchange.{Exchange}
use Rattle.rows.specs.Rows.{tombstone_width, bad_tag_width, carried_codec, own_codec, tombstone_codec, contact_codec, bad_tag_codec, offer_codec, reply_codec, action_codec}
use Rattle.rows.specs.Device.{fresh_device, closed_exchange}
use Rattle.rows.specs.Limits.{max_inventory, max_offers}
use Rattle.model.specs.State.{State, Session, SessionChange, Upd, keep, now, upd, laid, Change}
use Rattle.model.specs.Calls.{Result, answer_number, answer_of}
use Rattle.model.specs.Window.{prefix_codec}
use Rattle.model.specs.Step.{Post, Lent, step}

-- an exchange, and the two areas that lie beside it
pub record SessionAreas : Type 0 where
  pub exchange : Exchange
  pub prefixes : List ℕ
  pub offers : List ℕ

pub record Areas : Type 0 where
  pub device : Device
  pub contacts : List ℕ
  pub own : List ℕ
  pub carried : List ℕ
  pub tombstones : List ℕ
  pub bad_tags : List ℕ
  pub own_cells : List ℕ
  pub carried_cells : List ℕ
  pub session : SessionAreas
  pub sessions : List SessionAreas  -- all that are open, where a call is lent them all

-- ---- view: each table, its count cut to what fits

-- counts of an exchange above max_inventory and max_offers are those
unfoldable pub view_session : SessionAreas → Session
view_session e = record {
  exchange = record {
    peer = e.exchange.peer;
    complete = e.exchange.complete;
    listed = table_of prefix_codec (min max_inventory e.exchange.listed) e.prefixes;
    offered = table_of offer_codec (min max_offers e.exchange.offered) e.offers;
  };
  prefix_area = length e.prefixes;
  offer_area = length e.offers;
}

unfoldable pub view : Areas → State
view a = record {
  now_s = a.device.now_s;
  courier = a.device.courier;
  contacts = table_of contact_codec a.device.contacts a.contacts;
  own = table_of own_codec a.device.own a.own;
  carried = table_of carried_codec a.device.carried a.carried;
  tombstones = table_of tombstone_codec a.device.tombstones a.tombstones;
  bad_tags = table_of bad_tag_codec a.device.bad_tags a.bad_tags;
  next_slot = a.device.next_slot;
  own_cells = a.own_cells;
  carried_cells = a.carried_cells;
  tombstone_rows = length a.tombstones / tombstone_width;
  bad_tag_rows = length a.bad_tags / bad_tag_width;
  session = view_session a.session;
  sessions = map view_session a.sessions;
}

-- ---- store: what is kept stays, counts that are anything among it

-- the count and the bytes of a table after a change
abbrev pub count_after : {A : Type 0} → ℕ → Upd (List A) → ℕ
count_after n keep = n
count_after n (now rs) = length rs

abbrev pub bytes_after : {A : Type 0} → Codec A → List ℕ → Upd (List A) → List ℕ
bytes_after c a keep = a
bytes_after c a (now rs) = with_table c a rs

unfoldable pub store_device : Device → Change → Device
store_device d c = record {
  courier = upd d.courier c.courier;
  now_s = upd d.now_s c.now_s;
  contacts = count_after d.contacts c.people.contacts;
  own = count_after d.own c.queue.own;
  carried = count_after d.carried c.held.carried;
  tombstones = count_after d.tombstones c.held.tombstones;
  bad_tags = count_after d.bad_tags c.people.bad_tags;
  next_slot = upd d.next_slot c.next_slot;
}

unfoldable pub store_session : SessionAreas → SessionChange → SessionAreas
store_session e c = record {
  exchange = record {
    peer = upd e.exchange.peer c.peer;
    complete = upd e.exchange.complete c.complete;
    listed = count_after e.exchange.listed c.listed;
    offered = count_after e.exchange.offered c.offered;
  };
  prefixes = bytes_after prefix_codec e.prefixes c.listed;
  offers = bytes_after offer_codec e.offers c.offered;
}

abbrev pub store_sessions : List SessionAreas → List SessionChange → List SessionAreas
store_sessions es [] = es
store_sessions [] (c ∷ cs) = []
store_sessions (e ∷ es) (c ∷ cs) = store_session e c ∷ store_sessions es cs

unfoldable pub store : Areas → Change → Areas
store a c = record {
  device = store_device a.device c;
  contacts = bytes_after contact_codec a.contacts c.people.contacts;
  own = bytes_after own_codec a.own c.queue.own;
  carried = bytes_after carried_codec a.carried c.held.carried;
  tombstones = bytes_after tombstone_codec a.tombstones c.held.tombstones;
  bad_tags = bytes_after bad_tag_codec a.bad_tags c.people.bad_tags;
  own_cells = upd a.own_cells c.queue.own_cells;
  carried_cells = upd a.carried_cells c.held.carried_cells;
  session = store_session a.session c.session;
  sessions = store_sessions a.sessions c.sessions;
}

-- ---- what every call's contract says

-- the areas that are lent for an answer; [] stands for one that a call is not lent
pub record AnswerAreas : Type 0 where
  pub replies : List ℕ
  pub actions : List ℕ
  pub bytes : List ℕ  -- prefixes, blob or file

-- the rows of a result, or its bytes, at the front of their area, and the rest as it was
unfoldable pub answer_areas : Result → AnswerAreas → AnswerAreas
answer_areas o lent = record {
  replies = with_table reply_codec lent.replies o.replies;
  actions = with_table action_codec lent.actions o.actions;
  bytes = splice lent.bytes 0 o.bytes;
}

-- A call whose result is o answers r: its refusal, whose number is told, or what it says of o; and every byte of every area is told.
pub record Written {A : Type 0} (says : Result → A) (o : Result) (r : Prelude.Result A Refusal) (before after : Areas) (lent back : AnswerAreas) : Type 0 where
  pub answer : r ≡ answer_of says o
  pub number : number_of r ≡ answer_number o.answer
  pub areas : after ≡ store before o.change
  pub answers : back ≡ answer_areas o lent

-- The same where a result is told in other words, as a host and the drill have it: r is what `tells` makes of o.
pub record Retold {B : Type 0} (tells : Result → B) (o : Result) (r : B) (before after : Areas) (lent back : AnswerAreas) : Type 0 where
  pub answer : r ≡ tells o
  pub areas : after ≡ store before o.change
  pub answers : back ≡ answer_areas o lent

-- ---- a list of calls on areas, of the same definitions

pub record PostAreas : Type 0 where
  pub areas : Areas
  pub sessions : List SessionAreas

abbrev pub no_session_areas : SessionAreas
no_session_areas = record { exchange = closed_exchange; prefixes = []; offers = [] }

abbrev pub with_session_areas : Areas → SessionAreas → Areas
with_session_areas a e = record a { session = e }

-- areas of no byte, with a fresh device
abbrev pub no_areas : Areas
no_areas = record {
  device = fresh_device;
  contacts = [];
  own = [];
  carried = [];
  tombstones = [];
  bad_tags = [];
  own_cells = [];
  carried_cells = [];
  session = no_session_areas;
  sessions = [];
}

unfoldable pub areas_for : PostAreas → Lent → Areas
areas_for p l = with_session_areas p.areas (slice_index_or p.sessions l.session no_session_areas)

unfoldable pub after_areas : PostAreas → Lent → PostAreas
after_areas p l =
    let c : Change = (step (view (areas_for p l)) l.call).change in
    let a : Areas = store (areas_for p l) c in
    record { areas = a; sessions = laid c.sessions (slice_set p.sessions l.session a.session) a.sessions }

unfoldable pub run_areas : PostAreas → List Lent → PostAreas
run_areas p [] = p
run_areas p (l ∷ ls) = run_areas (after_areas p l) ls

unfoldable pub view_post : PostAreas → Post
view_post p = record { state = view p.areas; sessions = map view_session p.sessions }

-- fresh areas: no row, contact or exchange, next slot 0; any bytes, and any clock and setting
pub record Fresh (p : PostAreas) : Type 0 where
  pub contacts : p.areas.device.contacts ≡ 0
  pub own : p.areas.device.own ≡ 0
  pub carried : p.areas.device.carried ≡ 0
  pub tombstones : p.areas.device.tombstones ≡ 0
  pub bad_tags : p.areas.device.bad_tags ≡ 0
  pub next_slot : p.areas.device.next_slot ≡ 0
  pub lent : p.areas.session ≡ no_session_areas
  pub others : p.areas.sessions ≡ []
  pub sessions : All (λ (e : SessionAreas). e.exchange ≡ closed_exchange) p.sessions
