-- What the call leaves behind the exchange that it is lent.
-- Assumes nothing.
use Rattle.std.proofs.Common.{◌≡◌, ℕ, ◌-◌, Bool, true, false, cond, List, length, refl, ap, ◌∙◌, Option, Some, None, Result}
use Rattle.courier_core.specs.declared.ContactId.{ContactId}
use Rattle.courier_core.specs.declared.Refusal.{Refusal}
use Rattle.table.specs.Lists.{position, remove_at}
use Rattle.table.proofs.ListLaws.{length_remove_at}
use Rattle.table.proofs.FindLaws.{position_first}
use Rattle.courier.specs.declared.Custody.{Custody}
use Rattle.rows.specs.declared.Device.{Device}
use Rattle.rows.specs.declared.Exchange.{Exchange}
use Rattle.rows.specs.declared.Own.{Own}
use Rattle.rows.specs.declared.Carried.{Carried}
use Rattle.rows.specs.declared.Offer.{Offer}
use Rattle.model.specs.Basics.{match_found}
use Rattle.model.specs.State.{State, nothing, own_now, carried_now, offered_now, ◌and◌}
use Rattle.model.specs.Calls.{only, done, custody_answer}
use Rattle.model.specs.Custody.{own_of_tag, carried_of_tag, is_accepted}
use Rattle.model.specs.Exchange.{offer_of_tag, no_offer, handed_over, settle, receive_custody}
use Rattle.model.specs.Step.{perform}
use Rattle.model.specs.Areas.{Areas, SessionAreas, AnswerAreas, view, store_session}
use Rattle.model.specs.Lent.{Does}
use Rattle.holdings.specs.Lends.{exchange_of, Lends}
use Rattle.holdings.proofs.LendLaws.{Leaves, lends}
use Rattle.handover.specs.Handing.{says, code_lent, code_leaves}

-- ---- what a result's change makes of the exchange that is lent

module _ (e : SessionAreas) (s : State) (tag : List ℕ) (code : Custody) where
  -- copies that are taken off a row change nothing of the exchange
  cleared : (os : List Offer) (rs : ℕ → List Carried) (ts : ℕ → List Own) (b : Bool) (p q : Option ℕ)
      → (store_session e (offered_now os and cond b (match_found p (λ i. carried_now (rs i)) (match_found q (λ i. own_now (ts i)) nothing)) nothing).session).exchange
      ≡ exchange_of e.exchange.peer e.exchange.complete e.exchange.listed (length os)
  unfolding store_session
  cleared os rs ts false p q = refl
  cleared os rs ts true (Some i) q = refl
  cleared os rs ts true None (Some i) = refl
  cleared os rs ts true None None = refl

  abbrev left : ℕ → Exchange
  left i = exchange_of e.exchange.peer e.exchange.complete e.exchange.listed (length s.session.exchange.offered - 1)

  settled_leaves : (p : Option ℕ) → position (offer_of_tag tag) s.session.exchange.offered ≡ p → Leaves e (match_found p left e.exchange) (match_found p (settle s tag code) (only done))
  unfolding settle handed_over store_session
  settled_leaves (Some i) q =
      cleared (remove_at i s.session.exchange.offered) _ _ (is_accepted code) (position (carried_of_tag tag) s.carried) (position (own_of_tag tag) s.own)
      ∙ ap (λ (n : ℕ). exchange_of e.exchange.peer e.exchange.complete e.exchange.listed n)
      (length_remove_at s.session.exchange.offered i (position_first (offer_of_tag tag) s.session.exchange.offered no_offer i q).inside)
  settled_leaves None q = refl

  code_leaves_lem : Leaves e (code_leaves tag e.exchange s) (receive_custody s tag code)
  unfolding code_leaves receive_custody
  code_leaves_lem = settled_leaves (position (offer_of_tag tag) s.session.exchange.offered) refl

-- ---- the call

pub code_lends : {d d' : Device} {e x : Exchange} {contacts own carried own' carried' tombstones prefixes offers offers' : List ℕ}
    {actions : ℕ} {peer : ContactId} {tag : List ℕ} {code : Custody} {r : Result ℕ Refusal} {lent back : AnswerAreas}
    → Does says (custody_answer actions peer tag code) r
    (code_lent d e contacts own carried tombstones prefixes offers) (code_lent d' x contacts own' carried' tombstones prefixes offers') lent back
    → Lends says (custody_answer actions peer tag code) r
    (code_lent d e contacts own carried tombstones prefixes offers) (code_lent d' x contacts own' carried' tombstones prefixes offers') lent back
    (code_leaves tag e) e x
unfolding perform
code_lends {d = d} {e = e} {contacts = contacts} {own = own} {carried = carried} {tombstones = tombstones} {prefixes = prefixes} {offers = offers} {tag = tag} {code = code} =
    let before : Areas → Areas = code_lent d e contacts own carried tombstones prefixes offers in
    lends (λ a. refl) (λ a. refl) (λ a. code_leaves_lem (before a).session (view (before a)) tag code)
