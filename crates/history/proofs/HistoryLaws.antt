-- Demand 3, proved: of every list of calls from empty holdings, and of every list of calls on fresh areas.
-- Assumes nothing.
use Rattle.std.proofs.Common.{◌≡◌, ℕ, zero, suc, ◌^◌, ◌<◌, ◌≤◌, Bool, true, false, List, [], ◌∷◌, ◌++◌, length, get_or, sym, refl, ap, ◌∙◌, subst, arith}
use borrow.Author.Tests.{not-false}
use Rattle.courier_core.specs.declared.ContactId.{ContactId}
use Rattle.table.specs.Lists.{All, none, more, count_by, position_from}
use Rattle.table.proofs.ListLaws.{all_each, all_imp, all_map}
use Rattle.courier.specs.declared.Header.{Header}
use Rattle.rows.specs.declared.Contact.{Contact}
use Rattle.rows.specs.declared.Own.{Own}
use Rattle.rows.specs.declared.Carried.{Carried}
use Rattle.rows.specs.declared.Tombstone.{Tombstone}
use Rattle.rows.specs.declared.BadTag.{BadTag}
use Rattle.rows.specs.Proper.{Run, ProperContact, ProperOwn, ProperCarried, ProperTombstone, ProperBadTag, ProperOffer}
use Rattle.model.specs.Calls
use Rattle.model.specs.Contacts.{known, contact_place, is_verified}
use Rattle.model.specs.Cells.{cell_count}
use Rattle.model.specs.Custody.{deposited, carried_total}
use Rattle.model.specs.State.{State, OpenExchange, Session, nobody, no_session}
use Rattle.model.specs.Step.{Post, Lent, step, state_for, answer_to, run}
use Rattle.model.specs.Areas.{PostAreas, view_post, run_areas, Fresh}
use Rattle.model.specs.Good.{Sized, GoodSession, ProperCall}
use Rattle.model.proofs.RunLaws.{no_session_good, lent_view, closed_session, fresh_post, fresh_view, run_fresh}
use Rattle.model.proofs.Laws.{carried_total_lem, length_ciphertext}
use Rattle.model.proofs.KeepRows.{or_false}
use Rattle.history.specs.Order.{empty, HeldOrder, OwnOrder}
use Rattle.history.specs.Life.{offered_copies}
use Rattle.history.specs.Offers.{offered_after}
use Rattle.history.specs.Share.{newest_says, quota_of, verified_after, others_with_rows, Reaches, Owed}
use Rattle.history.specs.History.{Empty, held_bytes, CustodyHistory, CustodyOnAreas}
use Rattle.history.proofs.LimitLaws.{Limits}
use Rattle.history.proofs.KeptLaws.{Kept, kept_for, kept_run, verified_run, never_verified}
use Rattle.history.proofs.TombstoneLaws.{few_run, never_5_run}
use Rattle.history.proofs.LifeLaws.{size_run, life_of, origin_of, lives_later, swept_at}
use Rattle.history.proofs.OfferLaws.{OffersDiffer}
use Rattle.history.proofs.OfferSteps.{Sound, offered_at, offers_run}
use Rattle.history.proofs.ShareLaws.{owed_at}
use Rattle.history.specs.Limits.{max_cells}

-- ---- at the start

held_empty : (carried : List Carried) (tombstones : List Tombstone) (next : ℕ) (cells : List ℕ) → carried ≡ [] → tombstones ≡ [] → HeldOrder carried tombstones next cells
held_empty carried tombstones next cells e f = rw (e, f) (record {
  carried_rise = empty;
  carried_below = none;
  tombstones_rise = empty;
  tombstones_below = none;
  apart = none;
  cells_differ = empty;
  in_cells = none;
})

own_empty : (contacts : List Contact) (own : List Own) (cells : List ℕ) → own ≡ [] → OwnOrder contacts own cells
own_empty contacts own cells e = rw e (record { stand = empty; for_known = none; cells_differ = empty; in_cells = none })

limits_empty : (contacts : List Contact) (carried : List Carried) → contacts ≡ [] → carried ≡ [] → Limits contacts carried
unfolding deposited count_by
limits_empty contacts carried e f = rw (e, f) (record {
  tags_differ = empty;
  few = omega arith;
  quota = λ id. omega arith;
  depositors_known = none;
  contacts_apart = empty;
})

pub kept_empty : (p : Post) → Empty p → Kept p.state
kept_empty p e = record {
  held = held_empty p.state.carried p.state.tombstones p.state.next_slot p.state.carried_cells e.carried e.tombstones;
  own = own_empty p.state.contacts p.state.own p.state.own_cells e.own;
  limits = limits_empty p.state.contacts p.state.carried e.contacts e.carried;
}

session_empty : (e : Session) → e.exchange ≡ nobody → GoodSession e × OffersDiffer e.exchange.offered
session_empty e q = (
  record {
    listed = subst (λ (x : OpenExchange). All (Run 8) x.listed) (sym q) none;
    offered = subst (λ (x : OpenExchange). All ProperOffer x.offered) (sym q) none;
    listed_few = omega (arith, ap (λ (x : OpenExchange). length x.listed) q);
    offered_few = omega (arith, ap (λ (x : OpenExchange). length x.offered) q);
    listed_fit = omega (arith, ap (λ (x : OpenExchange). length x.listed) q);
    offered_fit = omega (arith, ap (λ (x : OpenExchange). length x.offered) q);
  },
  subst (λ (x : OpenExchange). OffersDiffer x.offered) (sym q) empty,
)

pub sound_empty : (p : Post) → Empty p → p.state.courier.copies < 2 ^ 8 → Sound p
sound_empty p e c = record {
  good = record {
    contacts = subst (All ProperContact) (sym e.contacts) none;
    own = subst (All ProperOwn) (sym e.own) none;
    carried = subst (All ProperCarried) (sym e.carried) none;
    tombstones = subst (All ProperTombstone) (sym e.tombstones) none;
    bad_tags = subst (All ProperBadTag) (sym e.bad_tags) none;
    contacts_few = omega (arith, ap (λ (xs : List Contact). length xs) e.contacts);
    own_few = omega (arith, ap (λ (xs : List Own). length xs) e.own);
    carried_few = omega (arith, ap (λ (xs : List Carried). length xs) e.carried);
    tombstones_fit = omega (arith, ap (λ (xs : List Tombstone). length xs) e.tombstones);
    bad_tags_fit = omega (arith, ap (λ (xs : List BadTag). length xs) e.bad_tags);
    next_slot = omega (arith, e.next_slot);
    copies = c;
    session = no_session_good;
    sessions = subst (All GoodSession) (sym e.others) none;
  };
  sessions = all_imp session_empty p.sessions e.sessions;
}

-- nothing has been offered
none_offered : (p : Post) (x : ℕ) (tag : List ℕ) → Empty p → offered_copies (offered_at p x) tag ≡ 0
unfolding position_from
none_offered p x tag e = go p.sessions x e.sessions
  where
    go : (es : List Session) (i : ℕ) → All (λ (e : Session). e.exchange ≡ nobody) es → offered_copies (get_or es i no_session).exchange.offered tag ≡ 0
    go [] i a = refl
    go (e ∷ es) zero (more q a) = ap (λ (y : OpenExchange). offered_copies y.offered tag) q
    go (e ∷ es) (suc i) (more q a) = go es i a

none_verified : (contacts : List Contact) (id : ContactId) → contacts ≡ [] → is_verified contacts id ≡ false
unfolding is_verified contact_place position_from
none_verified contacts id e = rw e

none_deposited : (carried : List Carried) (id : ContactId) → carried ≡ [] → deposited carried id ≤ 16
unfolding deposited count_by
none_deposited carried id e = rw e (omega arith)

-- ---- bytes

bytes_total : (cells : List ℕ) (rs : List Carried) → held_bytes cells rs ≡ carried_total (length cells) rs
unfolding carried_total
bytes_total cells [] = refl
bytes_total cells (r ∷ rs) = omega (arith, length_ciphertext cells r.cell r.len, bytes_total cells rs)

-- ---- the share

module _ (p : Post) (start : Empty p) (ls : List Lent) (session replies actions : ℕ) (window : List ℕ) (peer : ContactId) (head : Header) (ct : List ℕ) where
  abbrev next : Lent
  next = record { session = session; call = Calls.envelope replies actions window peer head ct }

  owed : cell_count (length p.state.carried_cells) ≡ max_cells → length head.tag ≡ 16 → Reaches (state_for (run p ls) next) replies actions window peer head (length ct)
      → others_with_rows (run p ls).state peer ≤ 7 → Owed (state_for (run p ls) next) peer head (quota_of (verified_after peer ls)) (answer_to (run p ls) next)
  unfolding answer_to state_for
  owed cells tag16 r few =
      let k : Kept (run p ls).state = kept_run p ls (kept_empty p start) in
      let size : cell_count (length (run p ls).state.carried_cells) ≡ max_cells = ap cell_count (size_run p ls (kept_empty p start)) ∙ cells in
      let is_known : known (run p ls).state.contacts peer ≡ true = not-false (known (run p ls).state.contacts peer) (or_false _ _ r.not2).0 in
      let v : is_verified (run p ls).state.contacts peer ≡ verified_after peer ls =
      verified_run peer p ls is_known ∙ ap (λ (b : Bool). newest_says peer b ls) (none_verified p.state.contacts peer start.contacts) in
      subst (λ (b : Bool). Owed (state_for (run p ls) next) peer head (quota_of b) (step (state_for (run p ls) next) (Calls.envelope replies actions window peer head ct))) v
      (owed_at (state_for (run p ls) next) (kept_for (run p ls) next k).limits peer few replies actions window head ct r tag16 size)

-- ---- demand 3

all_left : {A : Type 0} {P : A → Type 0} (xs ys : List A) → All P (xs ++ ys) → All P xs
all_left [] ys a = none
all_left (x ∷ xs) ys (more p a) = more p (all_left xs ys a)

-- Demand 3: of every list of calls from empty holdings, refused ones among them. That copies are a byte, and that calls are proper, is what
-- their types say.
pub custody_history : (p : Post) → Empty p → p.state.courier.copies < 2 ^ 8 → (ls : List Lent) → All (λ (l : Lent). ProperCall l.call) ls → CustodyHistory p ls
custody_history p start copies ls proper =
    let k₀ : Kept p.state = kept_empty p start in
    let k : Kept (run p ls).state = kept_run p ls k₀ in
    let none-there : length p.state.tombstones ≡ 0 = ap (λ (ts : List Tombstone). length ts) start.tombstones in
    record {
      tags_differ = k.limits.tags_differ;
      few = k.limits.few;
      light = omega (
        arith,
        bytes_total (run p ls).state.carried_cells (run p ls).state.carried,
        carried_total_lem (length (run p ls).state.carried_cells) (run p ls).state.carried,
        k.limits.few,
      );
      quota = k.limits.quota;
      quota_unverified = λ id e. never_verified id p ls k₀ e (none_verified p.state.contacts id start.contacts) (none_deposited p.state.carried id start.carried);
      tombstones_few = few_run p ls 1024 (omega arith) (omega (arith, none-there));
      never_5 = λ rows before l rest e. never_5_run p rows (omega (arith, none-there)) before l;
      life = λ before l rest e d. life_of (run p before) l d rest (kept_run p before k₀);
      origin = λ e m. origin_of p ls e k₀ start.carried m;
      fields_stay = λ q calls r e ct v. lives_later v;
      offers = λ before rest e x tag.
          offers_run p before x tag (sound_empty p start copies) (all_left before rest (subst (All (λ (l : Lent). ProperCall l.call)) e proper))
          ∙ ap (λ (n : ℕ). offered_after x tag n p before) (none_offered p x tag start);
      swept = λ before l rest actions e c h r m. swept_at (run p before) l actions r c h m;
      contacts_differ = k.limits.contacts_apart;
      share = λ cells session replies actions window peer head ct tag16 r few. owed p start ls session replies actions window peer head ct cells tag16 r few;
      held_order = k.held;
      own_order = k.own;
    }

-- ---- demand 3 on areas

pub fresh_empty : (p : PostAreas) → Empty (fresh_post p)
fresh_empty p = record {
  contacts = refl;
  own = refl;
  carried = refl;
  tombstones = refl;
  bad_tags = refl;
  next_slot = refl;
  others = refl;
  sessions = all_map closed_session p.sessions (all_each (λ e. refl) p.sessions);
}

module _ (p : PostAreas) (fresh : Fresh p) (sized : Sized p.areas) (copies : p.areas.device.courier.copies < 2 ^ 8) where
  -- Demand 3 of what fresh areas hold: each call on them is of the definitions that its contract cites.
  pub custody_history_areas : (ls : List Lent) → All (λ (l : Lent). ProperCall l.call) ls → CustodyOnAreas p ls
  unfolding answer_to
  custody_history_areas ls h = record {
    seen = seen;
    answered = λ before l rest e.
        ap (λ (s : State). step s l.call) (lent_view (run_areas p before) l ∙ ap (λ (q : Post). state_for q l) (seen before (l ∷ rest) e));
    history = custody_history (view_post p) (subst Empty (sym (fresh_view p fresh)) (fresh_empty p)) (subst (λ (q : Post). q.state.courier.copies < 2 ^ 8) (sym (fresh_view p fresh)) copies) ls h;
  }
    where
      seen : (before rest : List Lent) → ls ≡ before ++ rest → view_post (run_areas p before) ≡ run (view_post p) before
      seen before rest e =
          run_fresh p fresh sized copies before (all_left before rest (subst (All (λ (l : Lent). ProperCall l.call)) e h)) ∙ ap (λ (q : Post). run q before) (sym (fresh_view p fresh))
