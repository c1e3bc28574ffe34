-- What the exchanges have offered after a list of calls is what the calls and their replies say.
-- Assumes nothing.
use Rattle.std.proofs.Common.{◌≡◌, ℕ, ◌+◌, ◌/◌, ◌%◌, ◌<◌, ◌≤◌, min, Bool, true, false, cond, eqb, ltb, List, [], ◌∷◌, ◌++◌, length, get_or, set, sym, refl, ap, ◌∙◌, subst, arith, get_or-set_other, get_or-set_same, ltb-false, ltb-true, eq-eqb, ne_eqb, eqb-true, Option, Some, None}
use Rattle.std.proofs.lemmas.List.{set_past}
use lib.ListN.{get_or-eq_default}
use borrow.Author.Tests.{eqb-false}
use Rattle.octets.specs.Bytes.{same_bytes}
use Rattle.octets.proofs.Compare.{same_eq}
use Rattle.courier_core.specs.declared.ContactId.{ContactId}
use Rattle.courier_core.specs.declared.Refusal.{Refusal}
use Rattle.table.specs.Lists.{All, more, any, position, position_from, is_at}
use Rattle.table.specs.Rows.{ragged, held}
use Rattle.table.specs.Codec.{table_of}
use Rattle.table.proofs.TableLaws.{length_table}
use Rattle.table.proofs.FindLaws.{position_any}
use Rattle.courier.specs.declared.Custody.{Custody}
use Rattle.courier.specs.declared.Custody.TheVariants as custody
use Rattle.courier.specs.Tags.{route_tag}
use Rattle.rows.specs.declared.Offer.{Offer}
use Rattle.rows.specs.declared.Reachable.{Reachable}
use Rattle.model.specs.Basics.{match_found}
use Rattle.model.specs.State.{State, Session, Upd, keep, upd, apply, nothing, no_session, with_session, tombstones_now, next_slot_now, ◌and◌}
use Rattle.model.specs.Calls
use Rattle.model.specs.Calls.{Call, Result, only, refused, done, malformed, no_envelope, done_with}
use Rattle.model.specs.Contacts.{end_of, set_contact, set_config, set_clock, open_exchanged, opened_for}
use Rattle.model.specs.Window.{no_reachable, lookup, window_rows, prefix_rows, prefix_codec, wrong_window}
use Rattle.model.specs.Custody.{custody_of, carry, ours_at, answer_custody, receive_envelope}
use Rattle.model.specs.Exchange.{offers, offer_of_tag, settle, receive_custody, answer_inventory, list_more, too_many, receive_inventory, receive_inventory_tests, list_inventory}
use Rattle.model.specs.Tombs.{tombstoned, remaining, store_tombstone, stored, Met, carried_at, own_at, wrong, unknown, meets, turn, end_own, receive_tomb, report_opened}
use Rattle.model.specs.Own.{none_made, new_own, make_own, own_envelope}
use Rattle.model.specs.Maintenance.{maintain_couriers}
use Rattle.model.specs.Saved.{save_held}
use Rattle.model.specs.Screen.{show_page}
use Rattle.model.specs.Step.{Post, Lent, tests, perform, step, state_for, answer_to, after, run}
use Rattle.model.specs.Good.{Good, GoodSession, ProperCall}
use Rattle.model.proofs.AloneLaws.{sessions_after}
use Rattle.model.proofs.KeepLaws.{Passed}
use Rattle.model.proofs.RefusalLaws.{of_passed}
use Rattle.model.proofs.KeepRows.{or_false}
use Rattle.model.proofs.KeepCalls.{keeps, lifetime_kept}
use Rattle.model.proofs.RunLaws.{no_session_good, good_with, all_get_d, all_set}
use Rattle.history.specs.Order.{empty}
use Rattle.history.specs.Life.{Role, code_for, contact_says, opens_exchange, lists_prefixes, other, role, offered_copies}
use Rattle.history.specs.Offers.{last_sent, offered_by, offered_after}
use Rattle.history.proofs.EffectLaws.{fetch_idle, blob_idle, failed_idle}
use Rattle.history.proofs.OfferLaws.{OffersDiffer, offered_none, offered_cleared, terminator_sent, inserts_differ, removed_differ}

-- ---- one call

module _ (s : State) where
  abbrev offered : List Offer
  offered = s.session.exchange.offered

  pub record Follows (c : Call) (o : Result) : Type 0 where
    pub differ : OffersDiffer (upd offered o.change.session.offered)
    pub says : (tag : List ℕ) → offered_copies (upd offered o.change.session.offered) tag ≡ offered_by tag (offered_copies offered tag) (role c) o

  module _ (d : OffersDiffer offered) where
    -- the offers stay, and the call says so
    still : (c : Call) (o : Result) → o.change.session.offered ≡ keep → ((tag : List ℕ) → offered_copies offered tag ≡ offered_by tag (offered_copies offered tag) (role c) o)
        → Follows c o
    still c o e f = record {
      differ = subst (λ (u : Upd (List Offer)). OffersDiffer (upd offered u)) (sym e) d;
      says = λ tag. ap (λ (u : Upd (List Offer)). offered_copies (upd offered u) tag) e ∙ f tag;
    }

    said_refused : (why : Refusal) (tag : List ℕ) (n : ℕ) (ρ : Role) → n ≡ offered_by tag n ρ (only (refused why))
    said_refused why tag n (code_for t code) = refl
    said_refused why tag n (contact_says id v) = refl
    said_refused why tag n opens_exchange = refl
    said_refused why tag n (lists_prefixes listed) = refl
    said_refused why tag n other = refl

    -- ---- a call that is none of an exchange's

    envelope_still : (window : List Reachable) (peer : ContactId) (head : _) (ct : List ℕ) → (receive_envelope s window peer head ct).change.session.offered ≡ keep
    unfolding receive_envelope ours_at answer_custody carry
    envelope_still window peer head ct = go (lookup window head.tag) (custody_of s peer head (length ct))
      where
        go : (f : Option ℕ) (code : Custody) → (match_found f (λ i. ours_at (get_or window i no_reachable)) (answer_custody s peer head ct code)).change.session.offered ≡ keep
        go (Some i) code = refl
        go None custody.Accepted = refl
        go None custody.Full = refl
        go None custody.Duplicate = refl
        go None custody.Off = refl
        go None custody.Invalid = refl

    store_still : (tag secret : List ℕ) (expiry : ℕ) → (store_tombstone s tag secret expiry).session.offered ≡ keep
    unfolding store_tombstone
    store_still tag secret expiry = go (tombstoned s.tombstones tag)
      where
        go : (b : Bool) → (cond b nothing (tombstones_now (remaining s.tombstones ++ (record { slot = s.next_slot; tag = tag; s = secret; expiry_min = expiry } ∷ []))
            and next_slot_now (s.next_slot + 1))).session.offered ≡ keep
        go true = refl
        go false = refl

    tomb_still : (tag secret : List ℕ) (m : Met) → (receive_tomb s tag secret m).change.session.offered ≡ keep
    unfolding receive_tomb turn end_own
    tomb_still tag secret (carried_at i) = refl
    tomb_still tag secret (own_at i) = store_still tag secret _
    tomb_still tag secret wrong = refl
    tomb_still tag secret unknown = refl

    own_still : (id : ContactId) (msgno : ℕ) (key : List ℕ) (dir : _) (generation idx : ℕ) (secret ct : List ℕ) → (own_envelope s id msgno key dir generation idx secret ct).change.session.offered ≡ keep
    unfolding own_envelope make_own
    own_still id msgno key dir generation idx secret ct = go (none_made s.own (length ct))
      where
        go : (b : Bool) → (cond b (only (done_with no_envelope)) (make_own s (new_own s id msgno (route_tag key dir generation idx) secret (length ct)) ct)).change.session.offered ≡ keep
        go true = refl
        go false = refl

    -- ---- the calls of an exchange

    code_follows : (actions : ℕ) (peer : ContactId) (t : List ℕ) (code : Custody) → Follows (Calls.custody_answer actions peer t code) (receive_custody s t code)
    unfolding receive_custody settle
    code_follows actions peer t code = go (position (offer_of_tag t) offered) refl
      where
        go : (f : Option ℕ) → position (offer_of_tag t) offered ≡ f → Follows (Calls.custody_answer actions peer t code) (match_found f (settle s t code) (only done))
        go (Some i) e = record { differ = removed_differ i offered d; says = λ tag. offered_cleared tag t offered i e d }
        go None e = still (Calls.custody_answer actions peer t code) (only done) refl (λ tag. by tag (same_bytes t tag) refl)
          where
            by : (tag : List ℕ) (b : Bool) → same_bytes t tag ≡ b → offered_copies offered tag ≡ cond b 0 (offered_copies offered tag)
            by tag true q =
                offered_none tag offered (ap (λ (x : List ℕ). any (offer_of_tag x) offered) (sym (same_eq t tag q)) ∙ sym (position_any (offer_of_tag t) 0 offered) ∙ ap is_at e)
            by tag false q = refl

    open_follows : (peer : ContactId) → Follows (Calls.open_exchange peer) (open_exchanged peer)
    unfolding open_exchanged opened_for position_from
    open_follows peer = record { differ = empty; says = λ tag. refl }

    -- there are prefixes where there are bytes
    no_prefix : (listed : List ℕ) → ragged 8 listed ≡ false → eqb (length (prefix_rows listed)) 0 ≡ eqb (length listed) 0
    unfolding ragged prefix_rows held
    no_prefix listed r =
        let whole : length listed % 8 ≡ 0 = omega (arith, ltb-false 0 (length listed % 8) r) in
        let n : length (table_of prefix_codec (length listed / 8) listed) ≡ min (length listed / 8) (length listed / 8) = length_table prefix_codec (length listed / 8) listed in
        ap (λ (k : ℕ). eqb k 0) n ∙ go (eqb (length listed) 0) refl whole
      where
        go : (b : Bool) → eqb (length listed) 0 ≡ b → length listed % 8 ≡ 0 → eqb (min (length listed / 8) (length listed / 8)) 0 ≡ b
        go true e w = eq-eqb (min (length listed / 8) (length listed / 8)) 0 (let z : length listed ≡ 0 = eqb-true (length listed) 0 e in omega arith)
        go false e w = ne_eqb (min (length listed / 8) (length listed / 8)) 0 (λ q. eqb-false (length listed) 0 e (omega (arith, q, w)))

    module _ (g : Good s) where
      inventory_follows : (replies : ℕ) (window : List ℕ) (peer : ContactId) (listed : List ℕ) → ragged 8 listed ≡ false
          → Follows (Calls.inventory_received replies window peer listed) (receive_inventory s (window_rows window) peer (prefix_rows listed))
      unfolding receive_inventory answer_inventory list_more
      inventory_follows replies window peer listed r = go (too_many s.session.exchange (length (prefix_rows listed))) (eqb (length (prefix_rows listed)) 0) (sym (no_prefix listed r))
        where
          go : (a b : Bool) → eqb (length listed) 0 ≡ b → Follows (Calls.inventory_received replies window peer listed)
              (cond a (only malformed) (cond b (answer_inventory s (window_rows window) peer) (list_more s.session.exchange (prefix_rows listed))))
          go true b e = still (Calls.inventory_received replies window peer listed) (only malformed) refl (λ tag. refl)
          go false true e = record {
            differ = inserts_differ (offers s peer) [] empty;
            says = λ tag. terminator_sent s g peer tag (window_rows window) s.session.exchange.listed
                ∙ ap (λ (b : Bool). cond b (last_sent tag 0 (answer_inventory s (window_rows window) peer).replies) (offered_copies offered tag)) (sym e);
          }
          go false false e = still (Calls.inventory_received replies window peer listed) (list_more s.session.exchange (prefix_rows listed)) refl
              (λ tag. ap (λ (b : Bool). cond b (last_sent tag 0 []) (offered_copies offered tag)) (sym e))

      -- ---- every call

      by_tests : (c : Call) → (Passed (tests s c) → Follows c (perform s c)) → Follows c (step s c)
      unfolding step
      by_tests c =
          of_passed (Follows c) (tests s c) (perform s c) (λ why. still c (only (refused why)) refl (λ tag. said_refused why tag (offered_copies offered tag) (role c)))

      -- a call that is none of an exchange's
      aside : (c : Call) → ((tag : List ℕ) (n : ℕ) → n ≡ offered_by tag n (role c) (perform s c)) → (perform s c).change.session.offered ≡ keep → Follows c (step s c)
      aside c f e = by_tests c (λ p. still c (perform s c) e (λ tag. f tag (offered_copies offered tag)))

      pub follows : (c : Call) → Follows c (step s c)
      unfolding tests perform set_contact set_config set_clock list_inventory save_held show_page stored report_opened maintain_couriers receive_inventory_tests
      follows (Calls.contact id v) = aside (Calls.contact id v) (λ tag n. refl) refl
      follows (Calls.setting enabled copies lifetime) = aside (Calls.setting enabled copies lifetime) (λ tag n. refl) refl
      follows (Calls.clock seconds) = aside (Calls.clock seconds) (λ tag n. refl) refl
      follows (Calls.open_exchange peer) = by_tests (Calls.open_exchange peer) (λ p. open_follows peer)
      follows (Calls.envelope replies actions window peer head ct) =
          aside (Calls.envelope replies actions window peer head ct) (λ tag n. refl) (envelope_still (window_rows window) peer head ct)
      follows (Calls.inventory_received replies window peer listed) =
          by_tests (Calls.inventory_received replies window peer listed)
          (λ p. inventory_follows replies window peer listed (or_false (wrong_window window) (ragged 8 listed) p.1.0).1)
      follows (Calls.fetch replies peer tag) = aside (Calls.fetch replies peer tag) (λ t n. refl) (fetch_idle s peer tag).offers
      follows (Calls.custody_answer actions peer tag code) = by_tests (Calls.custody_answer actions peer tag code) (λ p. code_follows actions peer tag code)
      follows (Calls.tomb actions peer tag secret) =
          aside (Calls.tomb actions peer tag secret) (λ t n. refl) (tomb_still tag secret (meets s.own s.carried tag secret))
      follows (Calls.opened replies actions peer tag secret expiry) =
          aside (Calls.opened replies actions peer tag secret expiry) (λ t n. refl) (store_still tag secret (min expiry (end_of s)))
      follows (Calls.failed peer tag) = aside (Calls.failed peer tag) (λ t n. refl) (failed_idle s peer tag).offers
      follows (Calls.stored_tombstone actions tag secret expiry) =
          aside (Calls.stored_tombstone actions tag secret expiry) (λ t n. refl) (store_still tag secret expiry)
      follows (Calls.add_own id msgno key dir generation idx secret ct) =
          aside (Calls.add_own id msgno key dir generation idx secret ct) (λ t n. refl) (own_still id msgno key dir generation idx secret ct)
      follows (Calls.maintenance actions) = aside (Calls.maintenance actions) (λ t n. refl) refl
      follows (Calls.inventory_of_ours prefixes peer) = aside (Calls.inventory_of_ours prefixes peer) (λ t n. refl) refl
      follows (Calls.row_blob blob slot) = aside (Calls.row_blob blob slot) (λ t n. refl) (blob_idle s slot).offers
      follows (Calls.save file) = aside (Calls.save file) (λ t n. refl) refl
      follows (Calls.page area number) = aside (Calls.page area number) (λ t n. refl) refl

-- ---- a list of calls

-- what the state and the sessions keep
pub record Sound (p : Post) : Type 0 where
  pub good : Good (with_session p.state no_session)
  pub sessions : All (λ (e : Session). GoodSession e × OffersDiffer e.exchange.offered) p.sessions

-- what the exchange of a session has offered
abbrev pub offered_at : Post → ℕ → List Offer
offered_at p x = (get_or p.sessions x no_session).exchange.offered

none_offered : (e : Session) → GoodSession e → e.offer_area ≡ 0 → e.exchange.offered ≡ []
none_offered e g z = go e.exchange.offered (omega (arith, g.offered_fit, z))
  where
    go : (os : List Offer) → length os ≤ 0 → os ≡ []
    go [] h = refl
    go (o ∷ os) h = absurd (omega arith)

module _ (p : Post) (l : Lent) (k : Sound p) (h : ProperCall l.call) where
  lent_sound : GoodSession (get_or p.sessions l.session no_session) × OffersDiffer (get_or p.sessions l.session no_session).exchange.offered
  lent_sound = all_get_d p.sessions l.session no_session k.sessions (no_session_good, empty)

  lent_good : Good (state_for p l)
  unfolding state_for
  lent_good = good_with (with_session p.state no_session) (get_or p.sessions l.session no_session) k.good lent_sound.0

  lent_differ : OffersDiffer (state_for p l).session.exchange.offered
  unfolding state_for
  lent_differ = lent_sound.1

  after_good : Good (after p l).state
  unfolding after answer_to
  after_good = keeps (state_for p l) l.call lent_good h

  pub lifetime_after : 0 < p.state.courier.lifetime_min → 0 < (after p l).state.courier.lifetime_min
  unfolding after answer_to state_for
  lifetime_after t = lifetime_kept (state_for p l) l.call lent_good h t

  after_follows : Follows (state_for p l) l.call (answer_to p l)
  unfolding answer_to
  after_follows = follows (state_for p l) lent_differ lent_good l.call

  pub sound_after : Sound (after p l)
  unfolding after apply
  sound_after = record {
    good = good_with (after p l).state no_session after_good no_session_good;
    sessions = subst (All (λ (e : Session). GoodSession e × OffersDiffer e.exchange.offered)) (sym (sessions_after p l))
        (all_set p.sessions l.session (after p l).state.session k.sessions (after_good.session, after_follows.differ));
  }

  module _ (x : ℕ) (tag : List ℕ) where
    -- the session that was lent
    lent_says : offered_copies (after p l).state.session.exchange.offered tag ≡ offered_by tag (offered_copies (offered_at p l.session) tag) (role l.call) (answer_to p l)
    unfolding after apply state_for
    lent_says = after_follows.says tag

    offer_after : offered_copies (offered_at (after p l) x) tag
        ≡ cond (eqb l.session x) (offered_by tag (offered_copies (offered_at p x) tag) (role l.call) (answer_to p l)) (offered_copies (offered_at p x) tag)
    unfolding after apply state_for
    offer_after =
        ap (λ (es : List Session). offered_copies (get_or es x no_session).exchange.offered tag) (sessions_after p l)
        ∙ go (eqb l.session x) refl (ltb l.session (length p.sessions)) refl
      where
        e : Session
        e = (after p l).state.session

        go : (b : Bool) → eqb l.session x ≡ b → (m : Bool) → ltb l.session (length p.sessions) ≡ m
            → offered_copies (get_or (set p.sessions l.session e) x no_session).exchange.offered tag
            ≡ cond b (offered_by tag (offered_copies (offered_at p x) tag) (role l.call) (answer_to p l)) (offered_copies (offered_at p x) tag)
        go true q true m =
            let z : l.session ≡ x = eqb-true l.session x q in
            subst (λ (y : ℕ). offered_copies (get_or (set p.sessions l.session e) y no_session).exchange.offered tag
            ≡ offered_by tag (offered_copies (offered_at p y) tag) (role l.call) (answer_to p l)) z
            (ap (λ (w : Session). offered_copies w.exchange.offered tag) (get_or-set_same p.sessions l.session e no_session (ltb-true l.session (length p.sessions) m)) ∙ lent_says)
        go true q false m =
            let z : l.session ≡ x = eqb-true l.session x q in
            let past : length p.sessions ≤ l.session = ltb-false l.session (length p.sessions) m in
            let d : get_or p.sessions l.session no_session ≡ no_session = get_or-eq_default p.sessions no_session past in
            let n : (after p l).state.session.exchange.offered ≡ [] = none_offered (after p l).state.session after_good.session (ap (λ (w : Session). w.offer_area) d) in
            subst (λ (y : ℕ). offered_copies (get_or (set p.sessions l.session e) y no_session).exchange.offered tag
            ≡ offered_by tag (offered_copies (offered_at p y) tag) (role l.call) (answer_to p l)) z
            (ap (λ (ws : List Session). offered_copies (get_or ws l.session no_session).exchange.offered tag) (set_past p.sessions l.session e past)
            ∙ ap (λ (w : Session). offered_copies w.exchange.offered tag) d ∙ ap (λ (os : List Offer). offered_copies os tag) (sym n) ∙ lent_says)
        go false q b m =
            ap (λ (w : Session). offered_copies w.exchange.offered tag) (get_or-set_other p.sessions l.session x e no_session (λ i. eqb-false l.session x q (sym i)))

pub offers_run : (p : Post) (ls : List Lent) (x : ℕ) (tag : List ℕ) → Sound p → All (λ (l : Lent). ProperCall l.call) ls
    → offered_copies (offered_at (run p ls) x) tag ≡ offered_after x tag (offered_copies (offered_at p x) tag) p ls
unfolding run
offers_run p [] x tag k a = refl
offers_run p (l ∷ ls) x tag k (more h a) =
    offers_run (after p l) ls x tag (sound_after p l k h) a ∙ ap (λ (n : ℕ). offered_after x tag n (after p l) ls) (offer_after p l k h x tag)
