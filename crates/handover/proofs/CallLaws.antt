-- Laws of the call: each way out as the model's step, and what it leaves.
-- Assumes nothing.
use Rattle.std.proofs.Common.{◌≡◌, ℕ, ◌*◌, ◌/◌, ◌<◌, min, Bool, true, false, cond, not, ◌||◌, eqb, ltb, List, [], length, sym, refl, ap, ◌∙◌, Option, Some, None, Result, Ok, Err}
use denote.Enum.Bare.{sameb}
use Rattle.std.specs.Option.{option_eq}
use Rattle.octets.specs.Bytes.{part}
use Rattle.courier_core.specs.declared.ContactId.{ContactId}
use Rattle.courier_core.specs.declared.Refusal.{Refusal}
use Rattle.courier_core.specs.declared.Refusal.TheVariants as refusal
use Rattle.table.specs.Lists.{position, remove_at}
use Rattle.table.specs.Rows.{held}
use Rattle.table.specs.Codec.{table_of, with_table, TableNow}
use Rattle.table.proofs.TableLaws.{get_d_table}
use Rattle.holdings.proofs.FindLaws.{same_peer}
use Rattle.courier.specs.contracts.Custody.{the_type}
use Rattle.courier.specs.declared.Custody.{Custody}
use Rattle.courier.specs.declared.Custody.TheVariants as custody
use Rattle.rows.specs.declared.Device.{Device}
use Rattle.rows.specs.declared.Exchange.{Exchange}
use Rattle.rows.specs.declared.Own.{Own}
use Rattle.rows.specs.declared.Carried.{Carried}
use Rattle.rows.specs.declared.Offer.{Offer}
use Rattle.rows.specs.Rows.{contact_codec, own_codec, carried_codec, offer_codec, offer_of, tombstone_width, offer_width}
use Rattle.rows.specs.Limits.{max_offers, prefix_area, offer_area, action_area}
use Rattle.model.specs.Basics.{match_found}
use Rattle.model.specs.State.{Change, nothing, offered_now, ◌and◌}
use Rattle.model.specs.Calls.{Call, Result as Outcome, result, only, done, custody_answer}
use Rattle.model.specs.Contacts.{known, is_for}
use Rattle.model.specs.Custody.{own_of_tag, carried_of_tag, is_accepted}
use Rattle.model.specs.Exchange.{offer_of_tag, no_offer, handed_over, handed_actions, custody_tests, settle, receive_custody}
use Rattle.model.specs.Step.{tests, perform, step}
use Rattle.model.specs.Areas.{Areas, Written, view, view_session, store, store_device, store_session, bytes_after}
use Rattle.model.specs.Lent.{device_in, contacts_in, own_in, carried_in, tombstones_in, exchange_in, actions_lent}
use Rattle.model.proofs.CallLaws.{refused_here, not_here, no_test, answering_call, quiet_call, refused_call}
use Rattle.answers.proofs.Laws.{acted}
use Rattle.handover.specs.Handing.{HandedAs, exchange_with, Cleared, says, code_lent}
use Rattle.handover.proofs.HandLaws.{change_by}

-- ---- what the code compares

not_back : (b : Bool) {c : Bool} → not b ≡ c → b ≡ not c
not_back true e = ap not e
not_back false e = ap not e

same_code : (code : Custody) → sameb the_type code custody.Accepted ≡ is_accepted code
same_code custody.Accepted = refl
same_code custody.Full = refl
same_code custody.Duplicate = refl
same_code custody.Off = refl
same_code custody.Invalid = refl

-- is the code another than Accepted
pub other_code : (code : Custody) {r c : Bool} → r ≡ not (sameb the_type code custody.Accepted) → r ≡ c → is_accepted code ≡ not c
other_code code e h = sym (same_code code) ∙ not_back _ (sym e ∙ h)

-- was the exchange opened for another than the peer
pub other_peer : (eq : ContactId → ContactId → Bool) (peer : ContactId) → ((p : ContactId) → eq p peer ≡ eqb p.0 peer.0)
    → (to : Option ContactId) {r c : Bool} → r ≡ not (option_eq eq to (Some peer)) → r ≡ c → is_for peer to ≡ not c
other_peer eq peer same to e h = sym (same_peer eq peer same to) ∙ not_back _ (sym e ∙ h)

-- ---- an offer that is settled

-- the offer at i is read, and then taken out
pub clears : (i : ℕ) (e : Exchange) (offers : List ℕ) → i < held (length offers) offer_width (min max_offers e.offered) → {o : Offer} {m : ℕ} {f : Exchange} {w : List ℕ}
    → o ≡ offer_of (part offers (i * 17) 17) → f ≡ exchange_with m e
    → TableNow offer_codec offers (remove_at i (table_of offer_codec (min max_offers e.offered) offers)) m w → Cleared i e offers o.copies f w
clears i e offers inside eo ef N = record {
  copies = ap (λ (o : Offer). o.copies) (eo ∙ sym (get_d_table offer_codec (min 512 e.offered) offers i no_offer inside));
  exchange = ef ∙ ap (λ (k : ℕ). exchange_with k e) N.count;
  table = N.area;
}

module _ (i : ℕ) (tag : List ℕ) (code : Custody) (d : Device) (e : Exchange) (own carried offers ac prefixes : List ℕ) (a : Areas) where
  abbrev with : Device → Exchange → (own' carried' offers' : List ℕ) → Areas
  with d' e' own' carried' offers' = device_in d' (own_in own' (carried_in carried' (exchange_in e' prefixes offers' a)))

  abbrev S : Areas
  S = with d e own carried offers

  abbrev To : List Own
  To = table_of own_codec d.own own

  abbrev Tc : List Carried
  Tc = table_of carried_codec d.carried carried

  abbrev left : List Offer
  left = remove_at i (table_of offer_codec (min 512 e.offered) offers)

  abbrev settled : Bool → ℕ → Outcome
  settled b n = result done [] (cond b (handed_actions To Tc tag) []) (offered_now left and cond b (handed_over To Tc tag n) nothing)

  abbrev Settled : Result ℕ Refusal → Device → Exchange → (own' carried' offers' ac' : List ℕ) → Type 0
  Settled r d' e' own' carried' offers' ac' =
      Written says (settle (view S) tag code i) r S (with d' e' own' carried' offers') (actions_lent ac) (actions_lent ac')

  module _ {n : ℕ} {f : Exchange} {w : List ℕ} (C : Cleared i e offers n f w) where
    settled_by : {b : Bool} → is_accepted code ≡ b → settle (view S) tag code i ≡ settled b n
    unfolding view view_session settle
    settled_by eb = λ j. settled (eb j) (sym C.copies j)

    lent_after : (d' : Device) (own' carried' : List ℕ)
        → with d' f own' carried' w ≡ with d' (exchange_with (length left) e) own' carried' (with_table offer_codec offers left)
    lent_after d' own' carried' = λ j. with d' (C.exchange j) own' carried' (C.table j)

    pub not_accepted : is_accepted code ≡ false → Settled (Ok 0) d f own carried w ac
    unfolding store store_device store_session
    not_accepted h = quiet_call done (offered_now left) (settled_by h) refl (lent_after d own carried)

    -- what is handed over, by the places of the two rows
    abbrev by : Option ℕ → Option ℕ → Change
    by = change_by d tag n own carried ac

    stored_by : (p q : Option ℕ)
        → with (store_device d (by p q)) (exchange_with (length left) e) (bytes_after own_codec own (by p q).queue.own) (bytes_after carried_codec carried (by p q).held.carried)
        (with_table offer_codec offers left) ≡ store S (offered_now left and by p q)
    unfolding store store_device store_session
    stored_by (Some i) q = refl
    stored_by None (Some i) = refl
    stored_by None None = refl

    pub accepted : is_accepted code ≡ true → {r : Device} {k : ℕ} {x y z : List ℕ} → HandedAs d tag n own carried ac r k x y z → Settled (Ok k) r f x y w z
    unfolding handed_over
    accepted h {r} {x = x} {y} H =
        answering_call (settled true n) (settled_by h) (ap Ok H.count)
        (lent_after r x y
        ∙ (λ j. with (H.device j) (exchange_with (length left) e) (H.owned j) (H.held j) (with_table offer_codec offers left))
        ∙ stored_by (position (carried_of_tag tag) Tc) (position (own_of_tag tag) To))
        (acted done _ _ ac _ H.actions)

-- ---- the call

module _ (d : Device) (e : Exchange) (peer : ContactId) (tag : List ℕ) (code : Custody) (contacts own carried to prefixes offers ac : List ℕ) (a : Areas) where
  abbrev B : Areas
  B = code_lent d e contacts own carried to prefixes offers a

  abbrev C : Call
  C = custody_answer (length ac) peer tag code

  abbrev short : Bool
  short = (ltb (length prefixes) prefix_area || ltb (length offers) offer_area) || ltb (length ac) (action_area (length to / tombstone_width))

  abbrev Codes : Result ℕ Refusal → Device → Exchange → (own' carried' offers' ac' : List ℕ) → Type 0
  Codes r d' e' own' carried' offers' ac' =
      Written says (step (view B) C) r B (code_lent d' e' contacts own' carried' to prefixes offers' a) (actions_lent ac) (actions_lent ac')

  pub code_short : short ≡ true → Codes (Err refusal.ShortArea) d e own carried offers ac
  unfolding step tests perform custody_tests view view_session
  code_short h = refused_call refusal.ShortArea (refused_here _ _ _ h) refl refl

  module _ (long : short ≡ false) where
    pub code_stranger : known (table_of contact_codec d.contacts contacts) peer ≡ false → Codes (Err refusal.UnknownContact) d e own carried offers ac
    unfolding step tests perform custody_tests view view_session
    code_stranger k = refused_call refusal.UnknownContact (not_here _ _ _ long (refused_here _ _ _ (ap not k))) refl refl

    module _ (k : known (table_of contact_codec d.contacts contacts) peer ≡ true) where
      pub code_other : is_for peer e.peer ≡ false → Codes (Err refusal.WrongExchange) d e own carried offers ac
      unfolding step tests perform custody_tests view view_session
      code_other w = refused_call refusal.WrongExchange (not_here _ _ _ long (not_here _ _ _ (ap not k) (refused_here _ _ _ (ap not w)))) refl refl

      module _ (w : is_for peer e.peer ≡ true) {f : Option ℕ} (q : f ≡ position (offer_of_tag tag) (table_of offer_codec (min 512 e.offered) offers)) where
        met : step (view B) C ≡ match_found f (settle (view B) tag code) (only done)
        unfolding step tests perform custody_tests view view_session receive_custody
        met =
            not_here _ _ _ long (not_here _ _ _ (ap not k) (not_here _ _ _ (ap not w) (no_test _)))
            ∙ ap (λ (g : Option ℕ). match_found g (settle (view B) tag code) (only done)) (sym q)

        -- the offer that is found is settled as the model says
        module _ {i : ℕ} (h : f ≡ Some i) {r : Result ℕ Refusal} {d' : Device} {e' : Exchange} {own' carried' offers' ac' : List ℕ} where
          pub code_settled : ((x : Areas) → Settled i tag code d e own carried offers ac prefixes x r d' e' own' carried' offers' ac') → Codes r d' e' own' carried' offers' ac'
          code_settled s =
              let p = met ∙ ap (λ (g : Option ℕ). match_found g (settle (view B) tag code) (only done)) h in rw p (s (contacts_in contacts (tombstones_in to a)))

        pub code_unknown : f ≡ None → Codes (Ok 0) d e own carried offers ac
        unfolding store store_device store_session
        code_unknown h = quiet_call done nothing (met ∙ ap (λ (g : Option ℕ). match_found g (settle (view B) tag code) (only done)) h) refl refl
