-- A list of calls on areas, seen as rows, is the list of calls of the model: from fresh areas, and from any that are good.
-- Assumes nothing.
use Rattle.std.proofs.Common.{◌≡◌, ℕ, zero, suc, ◌/◌, ◌^◌, ◌<◌, min, List, [], ◌∷◌, map, length, get_or, set, sym, refl, ap, ◌∙◌, subst, ap₂, arith}
use lib.ListN.{get_or-map}
use lib.Seq.{map-set}
use Rattle.table.specs.Lists.{All, none, more}
use Rattle.table.specs.Rows.{rows, held}
use Rattle.table.specs.Codec.{table_of}
use Rattle.table.proofs.TableLaws.{table_none}
use Rattle.table.proofs.ListLaws.{all_imp}
use Rattle.rows.specs.Rows.{contact_codec, own_codec, carried_codec, tombstone_codec, bad_tag_codec, offer_codec}
use Rattle.rows.specs.declared.Exchange.{Exchange}
use Rattle.rows.specs.Device.{closed_exchange}
use Rattle.model.specs.State.{State, Session, SessionChange, Change, apply, laid, nobody, no_session, with_session}
use Rattle.model.specs.Window.{prefix_codec}
use Rattle.model.specs.Step.{Post, Lent, empty_state, step, state_for, answer_to, after, run}
use Rattle.model.specs.Areas.{Areas, SessionAreas, PostAreas, no_session_areas, view, view_session, view_post, store, areas_for, after_areas, run_areas, Fresh}
use Rattle.model.specs.Good.{Sized, GoodSession, Good, ProperCall}
use Rattle.model.proofs.StoreLaws.{sized_store, view_store}
use Rattle.model.proofs.KeepCalls.{keeps}

abbrev GoodAreas : SessionAreas → Type 0
GoodAreas e = GoodSession (view_session e)

-- what a post keeps
pub record GoodPost (p : PostAreas) : Type 0 where
  pub sized : Sized p.areas
  pub good : Good (view p.areas)
  pub sessions : All GoodAreas p.sessions

-- ---- lists

module _ {A : Type 0} {P : A → Type 0} where
  pub all_get_d : (xs : List A) (i : ℕ) (d : A) → All P xs → P d → P (get_or xs i d)
  all_get_d [] i d p q = q
  all_get_d (x ∷ xs) zero d (more h p) q = h
  all_get_d (x ∷ xs) (suc i) d (more h p) q = all_get_d xs i d p q

  pub all_set : (xs : List A) (i : ℕ) (x : A) → All P xs → P x → All P (set xs i x)
  all_set [] i x p q = none
  all_set (y ∷ ys) zero x (more h p) q = more q p
  all_set (y ∷ ys) (suc i) x (more h p) q = more h (all_set ys i x p q)

map_laid : {A B : Type 0} (f : A → B) (cs : List SessionChange) (xs ys : List A) → map f (laid cs xs ys) ≡ laid cs (map f xs) (map f ys)
map_laid f [] xs ys = refl
map_laid f (c ∷ cs) xs ys = refl

all_laid : {A : Type 0} {P : A → Type 0} (cs : List SessionChange) (xs ys : List A) → All P xs → All P ys → All P (laid cs xs ys)
all_laid [] xs ys p q = p
all_laid (c ∷ cs) xs ys p q = q

all_unviewed : (es : List SessionAreas) → All GoodSession (map view_session es) → All GoodAreas es
all_unviewed [] p = none
all_unviewed (e ∷ es) (more h p) = more h (all_unviewed es p)

-- ---- the session that is lent

pub no_session_lem : view_session no_session_areas ≡ no_session
unfolding view_session table_of held rows
no_session_lem = refl

pub no_session_good : GoodSession no_session
no_session_good = record { listed = none; offered = none; listed_few = omega arith; offered_few = omega arith; listed_fit = omega arith; offered_fit = omega arith }

pub good_with : (s : State) (e : Session) → Good s → GoodSession e → Good (with_session s e)
good_with s e g h = record {
  contacts = g.contacts;
  own = g.own;
  carried = g.carried;
  tombstones = g.tombstones;
  bad_tags = g.bad_tags;
  contacts_few = g.contacts_few;
  own_few = g.own_few;
  carried_few = g.carried_few;
  tombstones_fit = g.tombstones_fit;
  bad_tags_fit = g.bad_tags_fit;
  next_slot = g.next_slot;
  copies = g.copies;
  session = h;
  sessions = g.sessions;
}

session_of : (a : Areas) → Good (view a) → GoodSession (view_session a.session)
unfolding view
session_of a g = g.session

sessions_of : (a : Areas) → Good (view a) → All GoodAreas a.sessions
unfolding view
sessions_of a g = all_unviewed a.sessions g.sessions

module _ (p : PostAreas) (l : Lent) where
  pub lent_view : view (areas_for p l) ≡ state_for (view_post p) l
  unfolding areas_for state_for view_post view
  lent_view =
      ap (with_session (view p.areas))
      (sym (get_or-map view_session p.sessions l.session no_session_areas) ∙ ap (get_or (map view_session p.sessions) l.session) no_session_lem)

  module _ (g : GoodPost p) where
    lent_good : Good (view (areas_for p l))
    unfolding areas_for view
    lent_good =
        good_with (view p.areas) (view_session (get_or p.sessions l.session no_session_areas)) g.good
        (all_get_d p.sessions l.session no_session_areas g.sessions (subst GoodSession (sym no_session_lem) no_session_good))

    lent_sized : Sized (areas_for p l)
    unfolding areas_for
    lent_sized = record { contacts = g.sized.contacts; own = g.sized.own; carried = g.sized.carried }

-- ---- one call

module _ (p : PostAreas) (l : Lent) (g : GoodPost p) (h : ProperCall l.call) where
  A : Areas
  A = areas_for p l

  change : Change
  unfolding A
  change = (step (view A) l.call).change

  kept : Good (apply (view A) change)
  unfolding A change
  kept = keeps (view A) l.call (lent_good p l g) h

  viewed : view (store A change) ≡ apply (view A) change
  unfolding A
  viewed = view_store A change (lent_sized p l g) kept

  -- what the model does with the state that the areas show
  post_of_lem : State → Post
  post_of_lem s =
      let c : Change = (step s l.call).change in
      let t : State = apply s c in
      record { state = t; sessions = laid c.sessions (set (map view_session p.sessions) l.session t.session) t.sessions }

  pub after_areas_lem : view_post (after_areas p l) ≡ after (view_post p) l
  unfolding A change view_post after_areas after answer_to post_of_lem view
  after_areas_lem =
      ap₂ (λ (s : State) (es : List Session). record { state = s; sessions = es }) viewed
      (map_laid view_session change.sessions (set p.sessions l.session (store A change).session) (store A change).sessions
      ∙ ap (λ (xs : List Session). laid change.sessions xs (map view_session (store A change).sessions)) (map-set view_session p.sessions l.session (store A change).session)
      ∙ ap (λ (s : State). laid change.sessions (set (map view_session p.sessions) l.session s.session) s.sessions) viewed)
      ∙ ap post_of_lem (lent_view p l)

  pub good_after : GoodPost (after_areas p l)
  unfolding A change after_areas
  good_after =
      let g' : Good (view (store A change)) = subst Good (sym viewed) kept in
      record {
        sized = sized_store A change (lent_sized p l g) kept;
        good = g';
        sessions = all_laid change.sessions (set p.sessions l.session (store A change).session) (store A change).sessions
            (all_set p.sessions l.session (store A change).session g.sessions (session_of (store A change) g'))
            (sessions_of (store A change) g');
      }

-- ---- a list of calls

pub run_areas_lem : (ls : List Lent) (p : PostAreas) → GoodPost p → All (λ (l : Lent). ProperCall l.call) ls → view_post (run_areas p ls) ≡ run (view_post p) ls
unfolding run_areas run
run_areas_lem [] p g h = refl
run_areas_lem (l ∷ ls) p g (more q h) = run_areas_lem ls (after_areas p l) (good_after p l g q) h ∙ ap (λ (x : Post). run x ls) (after_areas_lem p l g q)

-- ---- from fresh areas

-- a session that is opened for none
abbrev pub closed_session : SessionAreas → Session
closed_session e = record { exchange = nobody; prefix_area = length e.prefixes; offer_area = length e.offers }

-- the post that fresh areas show
abbrev pub fresh_post : PostAreas → Post
fresh_post p = record {
  state = empty_state p.areas.device.now_s p.areas.device.courier p.areas.own_cells p.areas.carried_cells
      (length p.areas.tombstones / 44) (length p.areas.bad_tags / 24);
  sessions = map closed_session p.sessions;
}

closed_view : (e : SessionAreas) → e.exchange ≡ closed_exchange → view_session e ≡ closed_session e
unfolding view_session
closed_view e h = λ i. record {
  exchange = record {
    peer = (h i).peer;
    complete = (h i).complete;
    listed = (ap (λ (x : Exchange). table_of prefix_codec (min 512 x.listed) e.prefixes) h ∙ table_none prefix_codec e.prefixes) i;
    offered = (ap (λ (x : Exchange). table_of offer_codec (min 512 x.offered) e.offers) h ∙ table_none offer_codec e.offers) i;
  };
  prefix_area = length e.prefixes;
  offer_area = length e.offers;
}

closed_views : (es : List SessionAreas) → All (λ (e : SessionAreas). e.exchange ≡ closed_exchange) es → map view_session es ≡ map closed_session es
closed_views [] h = refl
closed_views (e ∷ es) (more q h) = ap₂ (λ (x : Session) (xs : List Session). x ∷ xs) (closed_view e q) (closed_views es h)

closed_good : (e : SessionAreas) → e.exchange ≡ closed_exchange → GoodAreas e
closed_good e h =
    subst GoodSession (sym (closed_view e h))
    (record { listed = none; offered = none; listed_few = omega arith; offered_few = omega arith; listed_fit = omega arith; offered_fit = omega arith })

module _ (p : PostAreas) (f : Fresh p) where
  fresh_state : view p.areas ≡ (fresh_post p).state
  unfolding view
  fresh_state = λ i. record {
    now_s = p.areas.device.now_s;
    courier = p.areas.device.courier;
    contacts = (ap (λ (n : ℕ). table_of contact_codec n p.areas.contacts) f.contacts ∙ table_none contact_codec p.areas.contacts) i;
    own = (ap (λ (n : ℕ). table_of own_codec n p.areas.own) f.own ∙ table_none own_codec p.areas.own) i;
    carried = (ap (λ (n : ℕ). table_of carried_codec n p.areas.carried) f.carried ∙ table_none carried_codec p.areas.carried) i;
    tombstones = (ap (λ (n : ℕ). table_of tombstone_codec n p.areas.tombstones) f.tombstones ∙ table_none tombstone_codec p.areas.tombstones) i;
    bad_tags = (ap (λ (n : ℕ). table_of bad_tag_codec n p.areas.bad_tags) f.bad_tags ∙ table_none bad_tag_codec p.areas.bad_tags) i;
    next_slot = f.next_slot i;
    own_cells = p.areas.own_cells;
    carried_cells = p.areas.carried_cells;
    tombstone_rows = length p.areas.tombstones / 44;
    bad_tag_rows = length p.areas.bad_tags / 24;
    session = (ap view_session f.lent ∙ no_session_lem) i;
    sessions = ap (map view_session) f.others i;
  }

  pub fresh_view : view_post p ≡ fresh_post p
  unfolding view_post
  fresh_view = λ i. record { state = fresh_state i; sessions = closed_views p.sessions f.sessions i }

  pub fresh_good : Sized p.areas → p.areas.device.courier.copies < 2 ^ 8 → GoodPost p
  fresh_good s c = record {
    sized = s;
    good = subst Good (sym fresh_state) (record {
      contacts = none;
      own = none;
      carried = none;
      tombstones = none;
      bad_tags = none;
      contacts_few = omega arith;
      own_few = omega arith;
      carried_few = omega arith;
      tombstones_fit = omega arith;
      bad_tags_fit = omega arith;
      next_slot = omega arith;
      copies = c;
      session = no_session_good;
      sessions = none;
    });
    sessions = all_imp closed_good p.sessions f.sessions;
  }

  -- what fresh areas hold after any list of calls is what the model says
  pub run_fresh : Sized p.areas → p.areas.device.courier.copies < 2 ^ 8 → (ls : List Lent) → All (λ (l : Lent). ProperCall l.call) ls
      → view_post (run_areas p ls) ≡ run (fresh_post p) ls
  run_fresh s c ls h = run_areas_lem ls p (fresh_good s c) h ∙ ap (λ (x : Post). run x ls) fresh_view
