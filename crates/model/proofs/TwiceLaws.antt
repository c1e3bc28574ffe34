-- Two changes as one are the second, and then the first.
-- Assumes nothing.
use Rattle.std.proofs.Common.{◌≡◌, List, [], ◌∷◌, refl, ap₂}
use Rattle.model.specs.State.{State, Session, SessionChange, Upd, keep, now, upd, upd_session, upd_sessions, either, either_session, either_sessions, Change, apply, ◌and◌}

twice : {A : Type 0} (x : A) (a b : Upd A) → upd x (either a b) ≡ upd (upd x b) a
twice x keep b = refl
twice x (now y) b = refl

session_twice : (e : Session) (c d : SessionChange) → upd_session e (either_session c d) ≡ upd_session (upd_session e d) c
session_twice e c d = λ i. record e {
  exchange = record {
    peer = twice e.exchange.peer c.peer d.peer i;
    complete = twice e.exchange.complete c.complete d.complete i;
    listed = twice e.exchange.listed c.listed d.listed i;
    offered = twice e.exchange.offered c.offered d.offered i;
  };
}

sessions_twice : (es : List Session) (cs ds : List SessionChange) → upd_sessions es (either_sessions cs ds) ≡ upd_sessions (upd_sessions es ds) cs
sessions_twice es [] ds = refl
sessions_twice es (c ∷ cs) [] = refl
sessions_twice [] (c ∷ cs) (d ∷ ds) = refl
sessions_twice (e ∷ es) (c ∷ cs) (d ∷ ds) = ap₂ (λ (x : Session) (xs : List Session). x ∷ xs) (session_twice e c d) (sessions_twice es cs ds)

pub and_twice : (s : State) (a b : Change) → apply s (a and b) ≡ apply (apply s b) a
unfolding apply
and_twice s a b = λ i. record s {
  now_s = twice s.now_s a.now_s b.now_s i;
  courier = twice s.courier a.courier b.courier i;
  contacts = twice s.contacts a.people.contacts b.people.contacts i;
  own = twice s.own a.queue.own b.queue.own i;
  carried = twice s.carried a.held.carried b.held.carried i;
  tombstones = twice s.tombstones a.held.tombstones b.held.tombstones i;
  bad_tags = twice s.bad_tags a.people.bad_tags b.people.bad_tags i;
  next_slot = twice s.next_slot a.next_slot b.next_slot i;
  own_cells = twice s.own_cells a.queue.own_cells b.queue.own_cells i;
  carried_cells = twice s.carried_cells a.held.carried_cells b.held.carried_cells i;
  session = session_twice s.session a.session b.session i;
  sessions = sessions_twice s.sessions a.sessions b.sessions i;
}
