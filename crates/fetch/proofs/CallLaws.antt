-- Laws of the call fetch: each way out as the model's step, and what it leaves.
-- Assumes nothing.
use Rattle.std.proofs.Common.{◌≡◌, ℕ, ◌+◌, ◌*◌, ◌≤◌, true, false, not, List, length, Result, Ok, Err, get_or, refl, ap, ◌∙◌, Option, Some, None}
use Rattle.octets.specs.Bytes.{part, splice}
use Rattle.courier_core.specs.declared.ContactId.{ContactId}
use Rattle.courier_core.specs.declared.Refusal.{Refusal}
use Rattle.courier_core.specs.declared.Refusal.TheVariants as refusal
use Rattle.table.specs.Lists.{position}
use Rattle.table.specs.Rows.{join, written}
use Rattle.table.specs.Codec.{table_of, with_table}
use Rattle.table.proofs.TableLaws.{get_d_table, with_one}
use Rattle.rows.specs.declared.Device.{Device}
use Rattle.rows.specs.declared.Own.{Own}
use Rattle.rows.specs.declared.Carried.{Carried}
use Rattle.rows.specs.Rows.{contact_codec, own_codec, own_of, carried_codec, carried_of, reply_codec}
use Rattle.model.specs.Basics.{find, match_some}
use Rattle.model.specs.State.{nothing}
use Rattle.model.specs.Calls.{Call, Cells, of_own, of_carried, fetch, missing, only, short_replies, done_with}
use Rattle.model.specs.Contacts.{known}
use Rattle.model.specs.Cells.{cell_start, cell_length, ciphertext}
use Rattle.model.specs.Custody.{carried_of_tag}
use Rattle.model.specs.Exchange.{Envelope, own_envelope_of, carried_envelope_of, envelopes, envelope_of_tag, no_own, no_carried, reply_for, cell_area, fetch_tests, fetched, receive_fetch}
use Rattle.model.specs.Step.{tests, perform, step}
use Rattle.model.specs.Areas.{Areas, Written, view, store, store_device, store_session, answer_areas}
use Rattle.model.proofs.CallLaws.{refused_here, not_here, no_test, answering_call, quiet_call, refused_call}
use Rattle.model.specs.Lent.{replies_lent}
use Rattle.holdings.specs.Searches.{for_others}
use Rattle.fetch.specs.Fetch.{Given, cells_of, fetch_says, fetch_in}
use Rattle.holdings.proofs.SearchLaws.{found_inside, found_row}
use Rattle.fetch.proofs.EnvelopeLaws.{own_found, carried_found, none_found}

-- ---- the row that is found lies in the area

module _ (count : ℕ) (a tag : List ℕ) {i : ℕ} where
  pub own_row : (peer : ContactId) → Some i ≡ position (for_others peer tag) (table_of own_codec count a) → i * 54 + 54 ≤ length a
  own_row peer = found_row own_codec count a (for_others peer tag) no_own

  pub carried_row_lem : Some i ≡ position (carried_of_tag tag) (table_of carried_codec count a) → i * 57 + 57 ≤ length a
  carried_row_lem = found_row carried_codec count a (carried_of_tag tag) no_carried

-- ---- the ways out

module _ (d : Device) (peer : ContactId) (tag contacts own carried oc cc lent : List ℕ) (a : Areas) where
  abbrev B : Areas
  B = fetch_in d contacts own carried oc cc a

  abbrev C : Call
  C = fetch (length lent) peer tag

  abbrev Says : Result (Option (List ℕ)) Refusal → List ℕ → Type 0
  Says r back = Written (fetch_says oc cc) (step (view B) C) r B B (replies_lent lent) (replies_lent back)

  pub says_short : short_replies (length lent) ≡ true → Says (Err refusal.ShortArea) lent
  unfolding step tests perform fetch_tests
  says_short h = refused_call refusal.ShortArea (refused_here _ _ _ h) refl refl

  module _ (long : short_replies (length lent) ≡ false) where
    pub says_stranger : known (table_of contact_codec d.contacts contacts) peer ≡ false → Says (Err refusal.UnknownContact) lent
    unfolding step tests perform fetch_tests view
    says_stranger k = refused_call refusal.UnknownContact (not_here _ _ _ long (refused_here _ _ _ (ap not k))) refl refl

    module _ (k : known (table_of contact_codec d.contacts contacts) peer ≡ true) where
      performed : step (view B) C ≡ receive_fetch (view B) peer tag
      unfolding step tests perform fetch_tests view
      performed = not_here _ _ _ long (not_here _ _ _ (ap not k) (no_test _))

      abbrev To : List Own
      To = table_of own_codec d.own own

      abbrev Tc : List Carried
      Tc = table_of carried_codec d.carried carried

      stepped : {x : Option Envelope} → find (envelope_of_tag tag) (envelopes To Tc peer) ≡ x → step (view B) C ≡ match_some x (fetched (view B)) (only (done_with missing))
      unfolding receive_fetch view
      stepped e = performed ∙ ap (λ (x : Option Envelope). match_some x (fetched (view B)) (only (done_with missing))) e

      pub says_nothing : None ≡ position (for_others peer tag) To → None ≡ position (carried_of_tag tag) Tc → Says (Ok None) lent
      unfolding store store_device store_session
      says_nothing p q = quiet_call (done_with missing) nothing (stepped (none_found To Tc peer tag p q)) refl refl

      area : (c : Cells) → cells_of oc cc c ≡ cell_area (view B) c
      unfolding view
      area of_own = refl
      area of_carried = refl

      given : (e : Envelope) (r back : List ℕ) → step (view B) C ≡ fetched (view B) e → Given e (cells_of oc cc e.cells) lent r back → Says (Ok (Some r)) back
      unfolding fetched ciphertext store store_device store_session answer_areas with_table written join splice
      given e r back s G =
          answering_call (fetched (view B) e) s
          (ap (λ (x : List ℕ). Ok (Some x)) (G.bytes ∙ ap (λ (n : ℕ). part (cells_of oc cc e.cells) (cell_start n e.cell) (cell_length n e.cell e.len)) (ap length (area e.cells))))
          refl (ap replies_lent (with_one reply_codec lent back _ (reply_for e) refl G.row))

      pub says_own : (i : ℕ) (r back : List ℕ) → Some i ≡ position (for_others peer tag) To → Given (own_envelope_of (own_of (part own (i * 54) 54))) oc lent r back → Says (Ok (Some r)) back
      unfolding own_envelope_of
      says_own i r back e G =
          let row : get_or To i no_own ≡ own_of (part own (i * 54) 54) = get_d_table own_codec d.own own i no_own (found_inside own_codec d.own own (for_others peer tag) no_own e) in
          given _ r back (stepped (own_found To Tc peer tag i e ∙ ap (λ (o : Own). Some (own_envelope_of o)) row)) G

      pub says_carried : (i : ℕ) (r back : List ℕ) → None ≡ position (for_others peer tag) To → Some i ≡ position (carried_of_tag tag) Tc
          → Given (carried_envelope_of (carried_of (part carried (i * 57) 57))) cc lent r back → Says (Ok (Some r)) back
      unfolding carried_envelope_of
      says_carried i r back n e G =
          let row : get_or Tc i no_carried ≡ carried_of (part carried (i * 57) 57) = get_d_table carried_codec d.carried carried i no_carried (found_inside carried_codec d.carried carried (carried_of_tag tag) no_carried e) in
          given _ r back (stepped (carried_found To Tc peer tag n i e ∙ ap (λ (o : Carried). Some (carried_envelope_of o)) row)) G
