-- Every call keeps what the store needs (`Good`): each part that a call changes is shown to be in range and to fit.
-- Assumes nothing.
use Rattle.std.proofs.Common.{◌≡◌, ℕ, ◌*◌, ◌^◌, ◌<◌, ◌≤◌, Bool, true, false, cond, List, [], ◌∷◌, length, refl, arith}
use Rattle.courier_core.specs.declared.Refusal.{Refusal}
use Rattle.courier_core.specs.Core.{first_of}
use Rattle.table.specs.Lists.{All, none, more}
use Rattle.state.specs.declared.CourierConfig.{CourierConfig}
use Rattle.state.specs.Config.{in_range}
use Rattle.state.proofs.ConfigLaws.{in_range_lem}
use Rattle.rows.specs.declared.Own.{Own}
use Rattle.rows.specs.declared.Carried.{Carried}
use Rattle.rows.specs.declared.Tombstone.{Tombstone}
use Rattle.rows.specs.declared.Offer.{Offer}
use Rattle.rows.specs.Proper.{Run, ProperContact, ProperOwn, ProperCarried, ProperTombstone, ProperBadTag, ProperOffer}
use Rattle.model.specs.State.{State, Session, PeopleChange, QueueChange, HeldChange, SessionChange, Upd, keep, now, upd, upd_session, upd_sessions, either, either_people, either_queue, either_held, either_session, either_sessions, Change, apply, keep_people, keep_queue, keep_held, keep_session, nothing, people_now, queue_now, held_now, session_now, courier_now, next_slot_now, own_now, own_cells_now, carried_now, tombstones_now, offered_now, ◌and◌}
use Rattle.model.specs.Calls.{Result, refused, only, step_of}
use Rattle.model.specs.Good.{GoodSession, Good}

-- what has to hold of a part that is changed
abbrev pub Part : {A : Type 0} → (A → Type 0) → Upd A → Type 0
Part P keep = Unit {0}
Part P (now x) = P x

abbrev pub Few : {A : Type 0} → (A → Type 0) → ℕ → List A → Type 0
Few P n xs = All P xs × (length xs ≤ n)

abbrev pub Fit : {A : Type 0} → (A → Type 0) → (w size : ℕ) → List A → Type 0
Fit P w size xs = All P xs × (length xs ≤ 512) × (length xs * w ≤ size)

-- a setting that a setting call takes
abbrev pub InRange : CourierConfig → Type 0
InRange k = in_range k.copies k.lifetime_min ≡ true

abbrev pub Slot : ℕ → Type 0
Slot n = n < 2 ^ 64

pub record FitPeople (rows : ℕ) (c : PeopleChange) : Type 0 where
  pub contacts : Part (Few ProperContact 256) c.contacts
  pub bad_tags : Part (Few ProperBadTag rows) c.bad_tags

pub record FitQueue (c : QueueChange) : Type 0 where
  pub own : Part (Few ProperOwn 256) c.own

pub record FitHeld (rows : ℕ) (c : HeldChange) : Type 0 where
  pub carried : Part (Few ProperCarried 256) c.carried
  pub tombstones : Part (Few ProperTombstone rows) c.tombstones

pub record FitSession (e : Session) (c : SessionChange) : Type 0 where
  pub listed : Part (Fit (Run 8) 8 e.prefix_area) c.listed
  pub offered : Part (Fit ProperOffer 17 e.offer_area) c.offered

abbrev pub FitSessions : List Session → List SessionChange → Type 0
FitSessions es [] = Unit {0}
FitSessions [] (c ∷ cs) = Unit {0}
FitSessions (e ∷ es) (c ∷ cs) = FitSession e c × FitSessions es cs

pub record Fits (s : State) (c : Change) : Type 0 where
  pub courier : Part InRange c.courier
  pub next_slot : Part Slot c.next_slot
  pub people : FitPeople s.bad_tag_rows c.people
  pub queue : FitQueue c.queue
  pub held : FitHeld s.tombstone_rows c.held
  pub session : FitSession s.session c.session
  pub sessions : FitSessions s.sessions c.sessions

pub part_upd : {A : Type 0} (P : A → Type 0) (a : A) (u : Upd A) → P a → Part P u → P (upd a u)
part_upd P a keep p q = p
part_upd P a (now x) p q = q

pub part_imp : {A : Type 0} {P Q : A → Type 0} → ((x : A) → P x → Q x) → (u : Upd A) → Part P u → Part Q u
part_imp f keep p = p
part_imp f (now x) p = f x p

part_either : {A : Type 0} (P : A → Type 0) (u v : Upd A) → Part P u → Part P v → Part P (either u v)
part_either P keep v p q = q
part_either P (now x) v p q = p

few_copies : (k : CourierConfig) → InRange k → k.copies < 2 ^ 8
few_copies k t = omega (arith, (in_range_lem k.enabled k.copies k.lifetime_min t).1)

pub lifetime_above_0 : (k : CourierConfig) → InRange k → 0 < k.lifetime_min
lifetime_above_0 k t = omega (arith, (in_range_lem k.enabled k.copies k.lifetime_min t).2)

-- ---- a session, and a list of them

module _ (e : Session) (c : SessionChange) (g : GoodSession e) (f : FitSession e c) where
  L : List (List ℕ) → Type 0
  L = Fit (Run 8) 8 e.prefix_area

  O : List Offer → Type 0
  O = Fit ProperOffer 17 e.offer_area

  good_session : GoodSession (upd_session e c)
  unfolding L O
  good_session =
      let listed : L (upd e.exchange.listed c.listed) = part_upd L e.exchange.listed c.listed (g.listed, g.listed_few, g.listed_fit) f.listed in
      let offered : O (upd e.exchange.offered c.offered) = part_upd O e.exchange.offered c.offered (g.offered, g.offered_few, g.offered_fit) f.offered in
      record { listed = listed.0; offered = offered.0; listed_few = listed.1; offered_few = offered.1; listed_fit = listed.2; offered_fit = offered.2 }

good_sessions : (es : List Session) (cs : List SessionChange) → All GoodSession es → FitSessions es cs → All GoodSession (upd_sessions es cs)
good_sessions es [] g f = g
good_sessions [] (c ∷ cs) g f = none
good_sessions (e ∷ es) (c ∷ cs) (more h g) f = more (good_session e c h f.0) (good_sessions es cs g f.1)

-- ---- groups of which nothing is changed, and of which two changes are one

pub kept_people : {rows : ℕ} → FitPeople rows keep_people
kept_people = record { contacts = tt; bad_tags = tt }

pub kept_queue : FitQueue keep_queue
kept_queue = record { own = tt }

pub kept_held : {rows : ℕ} → FitHeld rows keep_held
kept_held = record { carried = tt; tombstones = tt }

pub kept_session : {e : Session} → FitSession e keep_session
kept_session = record { listed = tt; offered = tt }

fit_people : (rows : ℕ) (a b : PeopleChange) → FitPeople rows a → FitPeople rows b → FitPeople rows (either_people a b)
fit_people rows a b p q = record {
  contacts = part_either (Few ProperContact 256) a.contacts b.contacts p.contacts q.contacts;
  bad_tags = part_either (Few ProperBadTag rows) a.bad_tags b.bad_tags p.bad_tags q.bad_tags;
}

fit_queue : (a b : QueueChange) → FitQueue a → FitQueue b → FitQueue (either_queue a b)
fit_queue a b p q = record { own = part_either (Few ProperOwn 256) a.own b.own p.own q.own }

fit_held : (rows : ℕ) (a b : HeldChange) → FitHeld rows a → FitHeld rows b → FitHeld rows (either_held a b)
fit_held rows a b p q = record {
  carried = part_either (Few ProperCarried 256) a.carried b.carried p.carried q.carried;
  tombstones = part_either (Few ProperTombstone rows) a.tombstones b.tombstones p.tombstones q.tombstones;
}

fit_session : (e : Session) (a b : SessionChange) → FitSession e a → FitSession e b → FitSession e (either_session a b)
fit_session e a b p q = record {
  listed = part_either (Fit (Run 8) 8 e.prefix_area) a.listed b.listed p.listed q.listed;
  offered = part_either (Fit ProperOffer 17 e.offer_area) a.offered b.offered p.offered q.offered;
}

fit_sessions : (es : List Session) (a b : List SessionChange) → FitSessions es a → FitSessions es b → FitSessions es (either_sessions a b)
fit_sessions es [] b p q = q
fit_sessions es (c ∷ cs) [] p q = p
fit_sessions [] (c ∷ cs) (d ∷ ds) p q = tt
fit_sessions (e ∷ es) (c ∷ cs) (d ∷ ds) p q = (fit_session e c d p.0 q.0, fit_sessions es cs ds p.1 q.1)

module _ (s : State) where
  pub good_apply : (c : Change) → Good s → Fits s c → Good (apply s c)
  unfolding apply
  good_apply c g f =
      let contacts : Few ProperContact 256 (upd s.contacts c.people.contacts) = part_upd (Few ProperContact 256) s.contacts c.people.contacts (g.contacts, g.contacts_few) f.people.contacts in
      let own : Few ProperOwn 256 (upd s.own c.queue.own) = part_upd (Few ProperOwn 256) s.own c.queue.own (g.own, g.own_few) f.queue.own in
      let carried : Few ProperCarried 256 (upd s.carried c.held.carried) = part_upd (Few ProperCarried 256) s.carried c.held.carried (g.carried, g.carried_few) f.held.carried in
      let tombstones : Few ProperTombstone s.tombstone_rows (upd s.tombstones c.held.tombstones) = part_upd (Few ProperTombstone s.tombstone_rows) s.tombstones c.held.tombstones (g.tombstones, g.tombstones_fit) f.held.tombstones in
      let bad_tags : Few ProperBadTag s.bad_tag_rows (upd s.bad_tags c.people.bad_tags) = part_upd (Few ProperBadTag s.bad_tag_rows) s.bad_tags c.people.bad_tags (g.bad_tags, g.bad_tags_fit) f.people.bad_tags in
      record {
        contacts = contacts.0;
        own = own.0;
        carried = carried.0;
        tombstones = tombstones.0;
        bad_tags = bad_tags.0;
        contacts_few = contacts.1;
        own_few = own.1;
        carried_few = carried.1;
        tombstones_fit = tombstones.1;
        bad_tags_fit = bad_tags.1;
        next_slot = part_upd Slot s.next_slot c.next_slot g.next_slot f.next_slot;
        copies = part_upd (λ (k : CourierConfig). k.copies < 2 ^ 8) s.courier c.courier g.copies (part_imp few_copies c.courier f.courier);
        session = good_session s.session c.session g.session f.session;
        sessions = good_sessions s.sessions c.sessions g.sessions f.sessions;
      }

  -- ---- the changes of one group and of one part, and two as one

  pub fits_nothing : Fits s nothing
  fits_nothing = record { courier = tt; next_slot = tt; people = kept_people; queue = kept_queue; held = kept_held; session = kept_session; sessions = tt }

  pub fits_courier : (k : CourierConfig) → InRange k → Fits s (courier_now k)
  fits_courier k p = record { courier = p; next_slot = tt; people = kept_people; queue = kept_queue; held = kept_held; session = kept_session; sessions = tt }

  pub fits_slot : (n : ℕ) → n < 2 ^ 64 → Fits s (next_slot_now n)
  fits_slot n p = record { courier = tt; next_slot = p; people = kept_people; queue = kept_queue; held = kept_held; session = kept_session; sessions = tt }

  pub fits_people : (c : PeopleChange) → FitPeople s.bad_tag_rows c → Fits s (people_now c)
  fits_people c p = record { courier = tt; next_slot = tt; people = p; queue = kept_queue; held = kept_held; session = kept_session; sessions = tt }

  pub fits_queue : (c : QueueChange) → FitQueue c → Fits s (queue_now c)
  fits_queue c p = record { courier = tt; next_slot = tt; people = kept_people; queue = p; held = kept_held; session = kept_session; sessions = tt }

  pub fits_held : (c : HeldChange) → FitHeld s.tombstone_rows c → Fits s (held_now c)
  fits_held c p = record { courier = tt; next_slot = tt; people = kept_people; queue = kept_queue; held = p; session = kept_session; sessions = tt }

  pub fits_session : (c : SessionChange) → FitSession s.session c → Fits s (session_now c)
  fits_session c p = record { courier = tt; next_slot = tt; people = kept_people; queue = kept_queue; held = kept_held; session = p; sessions = tt }

  pub fits_own : (xs : List Own) → Few ProperOwn 256 xs → Fits s (own_now xs)
  fits_own xs p = fits_queue (record keep_queue { own = now xs }) (record { own = p })

  -- cells need nothing
  pub fits_own_cells : (x : List ℕ) → Fits s (own_cells_now x)
  fits_own_cells x = fits_queue (record keep_queue { own_cells = now x }) (record { own = tt })

  pub fits_carried : (xs : List Carried) → Few ProperCarried 256 xs → Fits s (carried_now xs)
  fits_carried xs p = fits_held (record keep_held { carried = now xs }) (record { carried = p; tombstones = tt })

  pub fits_tombstones : (xs : List Tombstone) → Few ProperTombstone s.tombstone_rows xs → Fits s (tombstones_now xs)
  fits_tombstones xs p = fits_held (record keep_held { tombstones = now xs }) (record { carried = tt; tombstones = p })

  pub fits_offered : (xs : List Offer) → Fit ProperOffer 17 s.session.offer_area xs → Fits s (offered_now xs)
  fits_offered xs p = fits_session (record keep_session { offered = now xs }) (record { listed = tt; offered = p })

  -- a choice of two changes
  pub fits_if : (b : Bool) (c d : Change) → Fits s c → Fits s d → Fits s (cond b c d)
  fits_if true c d p q = p
  fits_if false c d p q = q

  pub fits_and : (a b : Change) → Fits s a → Fits s b → Fits s (a and b)
  fits_and a b p q = record {
    courier = part_either InRange a.courier b.courier p.courier q.courier;
    next_slot = part_either Slot a.next_slot b.next_slot p.next_slot q.next_slot;
    people = fit_people s.bad_tag_rows a.people b.people p.people q.people;
    queue = fit_queue a.queue b.queue p.queue q.queue;
    held = fit_held s.tombstone_rows a.held b.held p.held q.held;
    session = fit_session s.session a.session b.session p.session q.session;
    sessions = fit_sessions s.sessions a.sessions b.sessions p.sessions q.sessions;
  }

-- ---- refusals

-- no test holds
abbrev pub Passed : List (Bool × Refusal) → Type 0
Passed [] = Unit {0}
Passed (t ∷ ts) = (t.0 ≡ false) × Passed ts

pub fits_step : (s : State) (ts : List (Bool × Refusal)) (r : Result) → (Passed ts → Fits s r.change) → Fits s (step_of ts r).change
unfolding step_of
fits_step s [] r f = f tt
fits_step s (t ∷ ts) r f = go t.0 refl (λ e. fits_step s ts r (λ p. f (e, p)))
  where
    rest : Result
    rest = first_of ts (λ why. only (refused why)) r

    go : (b : Bool) → t.0 ≡ b → (t.0 ≡ false → Fits s rest.change) → Fits s (cond b (only (refused t.1)) rest).change
    go true e k = fits_nothing s
    go false e k = k e
