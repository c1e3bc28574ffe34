-- "Exactly if", and "Nothing changes on a refusal": a call is refused with the first of its tests that holds, and then leaves every byte.
-- Assumes nothing.
use Rattle.std.proofs.Common.{◌≡◌, ℕ, Bool, true, false, cond, eqb, ◌⊎◌, List, [], ◌∷◌, ◌++◌, length, sym, refl, ap, ◌∙◌, inl, inr, ⊎_elim, Option, Some, None}
use Rattle.std.specs.Prelude
use mathlib.Core.Bool.{false≢true}
use Rattle.courier_core.specs.declared.ContactId.{ContactId}
use Rattle.courier_core.specs.declared.Refusal.{Refusal}
use Rattle.octets.specs.Bytes.{splice}
use Rattle.table.specs.Lists as lists
use Rattle.table.specs.Lists.{All, position}
use Rattle.table.specs.Rows.{join, written}
use Rattle.table.specs.Codec.{with_table}
use Rattle.model.specs.Basics.{match_found, match_some, find}
use Rattle.model.specs.State.{State}
use Rattle.model.specs.Calls
use Rattle.model.specs.Calls.{Call, Answer, Result, refused, only, step_of, is_refused}
use Rattle.model.specs.Contacts.{set_contact, set_config, set_clock, open_exchanged}
use Rattle.model.specs.Window.{window_rows, prefix_rows, lookup}
use Rattle.model.specs.Custody.{ours_at, answer_custody, receive_envelope}
use Rattle.model.specs.Exchange.{envelope_of_tag, envelopes, fetched, receive_fetch, answer_inventory, list_more, too_many, receive_inventory, offer_of_tag, settle, receive_custody, list_inventory}
use Rattle.model.specs.Tombs.{Met, carried_at, own_at, wrong, unknown, meets, turn, end_own, receive_tomb, report_opened, report_failed, stored}
use Rattle.model.specs.Own.{none_made, make_own, own_envelope}
use Rattle.model.specs.Maintenance.{maintain_couriers}
use Rattle.model.specs.Saved.{Slotted, held_rows, row_blob_of, save_held}
use Rattle.model.specs.Screen.{show_page}
use Rattle.model.specs.Step.{tests, perform, step}
use Rattle.model.specs.Areas.{Areas, AnswerAreas, view, store, store_device, store_session, answer_areas}
use Rattle.model.specs.Lent.{Does}
use Rattle.model.proofs.KeepLaws.{Passed}

-- ---- the words

-- of tests in order, the one of this refusal holds and none before it
pub record FirstHolds (ts : List (Bool × Refusal)) (why : Refusal) : Type 0 where
  pub before : List (Bool × Refusal)
  pub after : List (Bool × Refusal)
  pub in_order : ts ≡ before ++ ((true, why) ∷ after)
  pub none_before : All (λ (t : Bool × Refusal). t.0 ≡ false) before

-- a call with these tests, whose result is o, is refused exactly if one holds, with the first that does, and then nothing changes
pub record RefusedExactly (ts : List (Bool × Refusal)) (o : Result) : Type 0 where
  pub holds : (why : Refusal) → FirstHolds ts why → o.answer ≡ refused why
  pub exact : (why : Refusal) → o.answer ≡ refused why → FirstHolds ts why
  pub unchanged : (why : Refusal) → o.answer ≡ refused why → o ≡ only (refused why)

-- ---- a list of tests

-- what a call performs where no test holds says no refusal
pub data Performed (o : Result) : Type 0 where
  says : is_refused o.answer ≡ false → Performed o

refusing : (before after : List (Bool × Refusal)) (why : Refusal) (p : Result) → All (λ (t : Bool × Refusal). t.0 ≡ false) before
    → step_of (before ++ ((true, why) ∷ after)) p ≡ only (refused why)
unfolding step_of
refusing [] after why p h = refl
refusing (t ∷ ts) after why p (lists.more h hs) = rw h (refusing ts after why p hs)

first_holds : (ts : List (Bool × Refusal)) (p : Result) → Performed p → (why : Refusal) → (step_of ts p).answer ≡ refused why → FirstHolds ts why
unfolding step_of
first_holds [] p (says n) why e = absurd (false≢true (sym n ∙ ap is_refused e))
first_holds ((true, w) ∷ ts) p n why e = record { before = []; after = ts; in_order = ap (λ (x : Refusal). (true, x) ∷ ts) (cc); none_before = lists.none }
first_holds ((false, w) ∷ ts) p n why e =
    let f : FirstHolds ts why = first_holds ts p n why e in
    record {
      before = (false, w) ∷ f.before;
      after = f.after;
      in_order = ap (λ (l : List (Bool × Refusal)). (false, w) ∷ l) f.in_order;
      none_before = lists.more refl f.none_before;
    }

refused_by : {ts : List (Bool × Refusal)} (p : Result) (why : Refusal) → FirstHolds ts why → step_of ts p ≡ only (refused why)
refused_by p why f = rw f.in_order (refusing f.before f.after why p f.none_before)

pub exactly : (ts : List (Bool × Refusal)) (p : Result) → Performed p → RefusedExactly ts (step_of ts p)
exactly ts p n = record {
  holds = λ why f. ap (λ (o : Result). o.answer) (refused_by p why f);
  exact = first_holds ts p n;
  unchanged = λ why e. refused_by p why (first_holds ts p n why e);
}

-- ---- what holds of a result by cases: of a call, of a test, of a search

module _ (P : Result → Type 0) where
  -- what is performed has passed every test
  pub of_passed : (ts : List (Bool × Refusal)) (p : Result) → ((why : Refusal) → P (only (refused why))) → (Passed ts → P p) → P (step_of ts p)
  unfolding step_of
  of_passed [] p r q = q tt
  of_passed ((true, why) ∷ ts) p r q = r why
  of_passed ((false, why) ∷ ts) p r q = of_passed ts p r (λ h. q (refl, h))

  pub of_step : (ts : List (Bool × Refusal)) (p : Result) → ((why : Refusal) → P (only (refused why))) → P p → P (step_of ts p)
  of_step ts p r q = of_passed ts p r (λ h. q)

  pub by_test : (b : Bool) {x y : Result} → P x → P y → P (cond b x y)
  by_test true p q = p
  by_test false p q = q

  pub by_place : (f : Option ℕ) {at : ℕ → Result} {otherwise : Result} → ((i : ℕ) → P (at i)) → P otherwise → P (match_found f at otherwise)
  by_place (Some i) p q = p i
  by_place None p q = q

  pub by_found : {A : Type 0} (o : Option A) {is : A → Result} {otherwise : Result} → ((a : A) → P (is a)) → P otherwise → P (match_some o is otherwise)
  by_found (Some a) p q = p a
  by_found None p q = q

-- ---- what every call performs

-- no refusal, and no number beside the answer
pub record Plain (o : Result) : Type 0 where
  pub answers : is_refused o.answer ≡ false
  pub untold : o.told ≡ []

pub record IsInventory (c : Call) : Type 0 where
  pub replies : ℕ
  pub window : List ℕ
  pub peer : ContactId
  pub listed : List ℕ
  pub is : c ≡ Calls.inventory_received replies window peer listed

plain : {o : Result} → is_refused o.answer ≡ false → o.told ≡ [] → Plain o
plain a t = record { answers = a; untold = t }

by_meeting : (s : State) (tag secret : List ℕ) (m : Met) → Plain (receive_tomb s tag secret m)
unfolding receive_tomb turn end_own
by_meeting s tag secret (carried_at i) = plain refl refl
by_meeting s tag secret (own_at i) = plain refl refl
by_meeting s tag secret wrong = plain refl refl
by_meeting s tag secret unknown = plain refl refl

-- an inventory alone may tell a number
pub by_call : (s : State) (c : Call) → Plain (perform s c) ⊎ IsInventory c
unfolding perform set_contact set_config set_clock open_exchanged receive_envelope ours_at answer_custody receive_fetch fetched receive_custody settle report_opened report_failed stored own_envelope make_own maintain_couriers list_inventory row_blob_of save_held show_page
by_call s (Calls.contact id v) = inl (plain refl refl)
by_call s (Calls.setting enabled copies lifetime) = inl (plain refl refl)
by_call s (Calls.clock seconds) = inl (plain refl refl)
by_call s (Calls.open_exchange peer) = inl (plain refl refl)
by_call s (Calls.envelope replies actions window peer head ct) =
    inl (by_place Plain (lookup (window_rows window) head.tag) (λ i. plain refl refl) (plain refl refl))
by_call s (Calls.inventory_received replies window peer listed) =
    inr (record { replies = replies; window = window; peer = peer; listed = listed; is = refl })
by_call s (Calls.fetch replies peer tag) =
    inl (by_found Plain (find (envelope_of_tag tag) (envelopes s.own s.carried peer)) (λ e. plain refl refl) (plain refl refl))
by_call s (Calls.custody_answer actions peer tag code) =
    inl (by_place Plain (position (offer_of_tag tag) s.session.exchange.offered) (λ i. plain refl refl) (plain refl refl))
by_call s (Calls.tomb actions peer tag secret) = inl (by_meeting s tag secret (meets s.own s.carried tag secret))
by_call s (Calls.opened replies actions peer tag secret expiry) = inl (plain refl refl)
by_call s (Calls.failed peer tag) = inl (plain refl refl)
by_call s (Calls.stored_tombstone actions tag secret expiry) = inl (plain refl refl)
by_call s (Calls.add_own id msgno key dir generation idx secret ct) = inl (by_test Plain (none_made s.own (length ct)) (plain refl refl) (plain refl refl))
by_call s (Calls.maintenance actions) = inl (plain refl refl)
by_call s (Calls.inventory_of_ours prefixes peer) = inl (plain refl refl)
by_call s (Calls.row_blob blob slot) = inl (by_found Plain (find (λ (h : Slotted). eqb h.slot slot) (held_rows s)) (λ h. plain refl refl) (plain refl refl))
by_call s (Calls.save file) = inl (plain refl refl)
by_call s (Calls.page area number) = inl (plain refl refl)

-- ---- no call is refused but by a test

performed : (s : State) (c : Call) → Performed (perform s c)
unfolding perform receive_inventory answer_inventory list_more
performed s c =
    ⊎_elim (λ p. says p.answers) (λ i. rw i.is
    (by_test Performed (too_many s.session.exchange (length (prefix_rows i.listed))) (says refl) (by_test Performed (eqb (length (prefix_rows i.listed)) 0) (says refl) (says refl))))
    (by_call s c)

pub refused_exactly : (s : State) (c : Call) → RefusedExactly (tests s c) (step s c)
unfolding step
refused_exactly s c = exactly (tests s c) (perform s c) (performed s c)

-- ---- on areas

-- a call that only answers leaves every byte of every area, and of every area that is lent for an answer
pub only_leaves : {o : Result} {before after : Areas} {lent back : AnswerAreas} (m : Answer) → o ≡ only m → after ≡ store before o.change
    → back ≡ answer_areas o lent → (after ≡ before) × (back ≡ lent)
unfolding store store_device store_session answer_areas with_table written join splice
only_leaves {before = before} {lent = lent} m e s b =
    (s ∙ ap (λ (o : Result). store before o.change) e, b ∙ ap (λ (o : Result). answer_areas o lent) e)

-- "Nothing changes on a refusal."
pub refused_leaves : {A : Type 0} {f : Result → A} {r : Prelude.Result A Refusal} (c : Call) {before after : Areas → Areas} {lent back : AnswerAreas}
    → Does f c r before after lent back → (a : Areas) (why : Refusal) → (step (view (before a)) c).answer ≡ refused why → (after a ≡ before a) × (back ≡ lent)
refused_leaves c {before} does a why e =
    only_leaves (refused why) ((refused_exactly (view (before a)) c).unchanged why e) (does a).areas (does a).answers
