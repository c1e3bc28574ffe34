-- What a post has, and what a call may change of it. The rows are the declared structs; a row of a ciphertext names its cell.
-- Assumes nothing.
use Rattle.std.specs.Prelude.{ℕ, Bool, false, List, [], ◌∷◌, Option, None}
use Rattle.state.specs.declared.CourierConfig.{CourierConfig}
use Rattle.rows.specs.declared.Contact.{Contact}
use Rattle.rows.specs.declared.Own.{Own}
use Rattle.rows.specs.declared.Carried.{Carried}
use Rattle.rows.specs.declared.Tombstone.{Tombstone}
use Rattle.rows.specs.declared.BadTag.{BadTag}
use Rattle.rows.specs.declared.Offer.{Offer}
use Rattle.courier_core.specs.declared.ContactId.{ContactId}

-- `Exchange`: whom it was opened for, has its terminator come, the prefixes listed (8 bytes each), the copies offered
pub record OpenExchange : Type 0 where
  pub peer : Option ContactId
  pub complete : Bool
  pub listed : List (List ℕ)
  pub offered : List Offer

-- an exchange, and the lengths of the two areas that lie beside it
pub record Session : Type 0 where
  pub exchange : OpenExchange
  pub prefix_area : ℕ
  pub offer_area : ℕ

-- Carried rows and tombstones stand by slot, own rows by contact as added and message number, contacts as added.
pub record State : Type 0 where
  pub now_s : ℕ  -- the clock, in seconds
  pub courier : CourierConfig
  pub contacts : List Contact
  pub own : List Own
  pub carried : List Carried
  pub tombstones : List Tombstone
  pub bad_tags : List BadTag
  pub next_slot : ℕ
  pub own_cells : List ℕ  -- the two cell areas, every byte
  pub carried_cells : List ℕ
  pub tombstone_rows : ℕ  -- R
  pub bad_tag_rows : ℕ
  pub session : Session  -- the one that is lent with the call
  pub sessions : List Session  -- all that are open, where a call is lent them all

-- ---- a change: what becomes of each part, in groups

pub data Upd (A : Type 0) : Type 0 where
  keep : Upd A
  now : A → Upd A

pub record PeopleChange : Type 0 where
  pub contacts : Upd (List Contact)
  pub bad_tags : Upd (List BadTag)

pub record QueueChange : Type 0 where
  pub own : Upd (List Own)
  pub own_cells : Upd (List ℕ)

pub record HeldChange : Type 0 where
  pub carried : Upd (List Carried)
  pub tombstones : Upd (List Tombstone)
  pub carried_cells : Upd (List ℕ)

pub record SessionChange : Type 0 where
  pub peer : Upd (Option ContactId)
  pub complete : Upd Bool
  pub listed : Upd (List (List ℕ))
  pub offered : Upd (List Offer)

pub record Change : Type 0 where
  pub now_s : Upd ℕ
  pub courier : Upd CourierConfig
  pub next_slot : Upd ℕ
  pub people : PeopleChange
  pub queue : QueueChange
  pub held : HeldChange
  pub session : SessionChange  -- of the one that is lent with the call
  pub sessions : List SessionChange  -- of all that are open, in their order; [] changes none

abbrev pub upd : {A : Type 0} → A → Upd A → A
upd a keep = a
upd a (now b) = b

abbrev pub upd_session : Session → SessionChange → Session
upd_session e c = record e {
  exchange = record {
    peer = upd e.exchange.peer c.peer;
    complete = upd e.exchange.complete c.complete;
    listed = upd e.exchange.listed c.listed;
    offered = upd e.exchange.offered c.offered;
  };
}

abbrev pub upd_sessions : List Session → List SessionChange → List Session
upd_sessions es [] = es
upd_sessions [] (c ∷ cs) = []
upd_sessions (e ∷ es) (c ∷ cs) = upd_session e c ∷ upd_sessions es cs

unfoldable pub apply : State → Change → State
apply s c = record s {
  now_s = upd s.now_s c.now_s;
  courier = upd s.courier c.courier;
  contacts = upd s.contacts c.people.contacts;
  own = upd s.own c.queue.own;
  carried = upd s.carried c.held.carried;
  tombstones = upd s.tombstones c.held.tombstones;
  bad_tags = upd s.bad_tags c.people.bad_tags;
  next_slot = upd s.next_slot c.next_slot;
  own_cells = upd s.own_cells c.queue.own_cells;
  carried_cells = upd s.carried_cells c.held.carried_cells;
  session = upd_session s.session c.session;
  sessions = upd_sessions s.sessions c.sessions;
}

-- the sessions after a call: those before it with its own as it left it, or all of them where it changes others
abbrev pub laid : {A : Type 0} → List SessionChange → (own all : List A) → List A
laid [] own all = own
laid (c ∷ cs) own all = all

-- ---- nothing changed, of each group and of all

abbrev pub keep_people : PeopleChange
keep_people = record { contacts = keep; bad_tags = keep }

abbrev pub keep_queue : QueueChange
keep_queue = record { own = keep; own_cells = keep }

abbrev pub keep_held : HeldChange
keep_held = record { carried = keep; tombstones = keep; carried_cells = keep }

abbrev pub keep_session : SessionChange
keep_session = record { peer = keep; complete = keep; listed = keep; offered = keep }

abbrev pub nothing : Change
nothing = record { now_s = keep; courier = keep; next_slot = keep; people = keep_people; queue = keep_queue; held = keep_held; session = keep_session; sessions = [] }

-- ---- the changes of one group, and of one part

abbrev pub people_now : PeopleChange → Change
people_now c = record nothing { people = c }

abbrev pub queue_now : QueueChange → Change
queue_now c = record nothing { queue = c }

abbrev pub held_now : HeldChange → Change
held_now c = record nothing { held = c }

abbrev pub session_now : SessionChange → Change
session_now c = record nothing { session = c }

abbrev pub clock_now : ℕ → Change
clock_now x = record nothing { now_s = now x }

abbrev pub courier_now : CourierConfig → Change
courier_now x = record nothing { courier = now x }

abbrev pub next_slot_now : ℕ → Change
next_slot_now x = record nothing { next_slot = now x }

abbrev pub contacts_now : List Contact → Change
contacts_now x = people_now (record keep_people { contacts = now x })

abbrev pub bad_tags_now : List BadTag → Change
bad_tags_now x = people_now (record keep_people { bad_tags = now x })

abbrev pub own_now : List Own → Change
own_now x = queue_now (record keep_queue { own = now x })

abbrev pub own_cells_now : List ℕ → Change
own_cells_now x = queue_now (record keep_queue { own_cells = now x })

abbrev pub carried_now : List Carried → Change
carried_now x = held_now (record keep_held { carried = now x })

abbrev pub tombstones_now : List Tombstone → Change
tombstones_now x = held_now (record keep_held { tombstones = now x })

abbrev pub carried_cells_now : List ℕ → Change
carried_cells_now x = held_now (record keep_held { carried_cells = now x })

abbrev pub peer_now : Option ContactId → Change
peer_now x = session_now (record keep_session { peer = now x })

abbrev pub complete_now : Bool → Change
complete_now x = session_now (record keep_session { complete = now x })

abbrev pub listed_now : List (List ℕ) → Change
listed_now x = session_now (record keep_session { listed = now x })

abbrev pub offered_now : List Offer → Change
offered_now x = session_now (record keep_session { offered = now x })

-- ---- two changes as one: where both change a part, it is as the first says

abbrev pub either : {A : Type 0} → Upd A → Upd A → Upd A
either keep v = v
either (now a) v = now a

abbrev pub either_people : PeopleChange → PeopleChange → PeopleChange
either_people a b = record { contacts = either a.contacts b.contacts; bad_tags = either a.bad_tags b.bad_tags }

abbrev pub either_queue : QueueChange → QueueChange → QueueChange
either_queue a b = record { own = either a.own b.own; own_cells = either a.own_cells b.own_cells }

abbrev pub either_held : HeldChange → HeldChange → HeldChange
either_held a b = record {
  carried = either a.carried b.carried;
  tombstones = either a.tombstones b.tombstones;
  carried_cells = either a.carried_cells b.carried_cells;
}

abbrev pub either_session : SessionChange → SessionChange → SessionChange
either_session a b = record {
  peer = either a.peer b.peer;
  complete = either a.complete b.complete;
  listed = either a.listed b.listed;
  offered = either a.offered b.offered;
}

abbrev pub either_sessions : List SessionChange → List SessionChange → List SessionChange
either_sessions [] ds = ds
either_sessions (c ∷ cs) [] = c ∷ cs
either_sessions (c ∷ cs) (d ∷ ds) = either_session c d ∷ either_sessions cs ds

infixr 20 ◌and◌
abbrev pub ◌and◌ : Change → Change → Change
◌and◌ a b = record {
  now_s = either a.now_s b.now_s;
  courier = either a.courier b.courier;
  next_slot = either a.next_slot b.next_slot;
  people = either_people a.people b.people;
  queue = either_queue a.queue b.queue;
  held = either_held a.held b.held;
  session = either_session a.session b.session;
  sessions = either_sessions a.sessions b.sessions;
}

-- ---- at the start

abbrev pub nobody : OpenExchange
nobody = record { peer = None; complete = false; listed = []; offered = [] }

abbrev pub no_session : Session
no_session = record { exchange = nobody; prefix_area = 0; offer_area = 0 }

abbrev pub with_session : State → Session → State
with_session s e = record s { session = e }

-- no row, contact, bad tag or session, no cell; next slot and clock 0
abbrev pub no_state : CourierConfig → State
no_state config = record {
  now_s = 0;
  courier = config;
  contacts = [];
  own = [];
  carried = [];
  tombstones = [];
  bad_tags = [];
  next_slot = 0;
  own_cells = [];
  carried_cells = [];
  tombstone_rows = 0;
  bad_tag_rows = 0;
  session = no_session;
  sessions = [];
}
