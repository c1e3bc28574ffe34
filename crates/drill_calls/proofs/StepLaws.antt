-- What each call's answer tells is what the model's step of it tells: so many actions and replies, and the last line.
-- Assumes nothing.
use Rattle.std.proofs.Common.{◌≡◌, ℕ, Bool, not, eqb, List, [], length, get_or, refl, Option, Some, None}
use Rattle.std.specs.Prelude
use Rattle.courier_core.specs.declared.Refusal.{Refusal}
use Rattle.courier_core.specs.declared.ContactId.{ContactId}
use Rattle.courier_core.specs.declared.Verification.{Verification}
use Rattle.table.specs.Lists.{position}
use Rattle.courier.specs.declared.Header.{Header}
use Rattle.courier.specs.declared.Custody.{Custody}
use Rattle.model.specs.Basics.{match_found, match_some, find}
use Rattle.model.specs.State.{State}
use Rattle.model.specs.Calls as calls
use Rattle.model.specs.Calls.{Result, only, missing, done, step_of, short_replies, done_with, answer_of}
use Rattle.model.specs.Contacts.{known, set_contact, set_config, set_clock, open_exchanged, contact_tests, setting_tests, open_exchange_tests}
use Rattle.model.specs.Window.{no_reachable, window_rows, prefix_rows, lookup}
use Rattle.model.specs.Custody.{custody_of, envelope_tests, ours_at, answer_custody, receive_envelope}
use Rattle.model.specs.Exchange.{Envelope, envelopes, envelope_of_tag, fetch_tests, fetched, receive_fetch, receive_inventory_tests, answer_inventory, list_more, too_many, receive_inventory, custody_tests, offer_of_tag, settle, receive_custody}
use Rattle.model.specs.Tombs as met
use Rattle.model.specs.Tombs.{Met, meets, tomb_tests, turn, end_own, receive_tomb}
use Rattle.model.specs.Maintenance.{maintenance_tests, maintain_couriers}
use Rattle.model.specs.Step.{step, tests, perform}
use Rattle.model.proofs.RefusalLaws.{of_step, by_test}
use Rattle.contacts.specs.Answers.{said_of}
use Rattle.envelope.specs.Answers.{envelope_says}
use Rattle.inventory.specs.Inventory.{received_says}
use Rattle.fetch.specs.Fetch.{fetch_says}
use Rattle.handover.specs.Handing.{says}
use Rattle.answers.specs.Says.{says as tomb_says}
use Rattle.maintenance.specs.Expiry.{maintained_of}
use Rattle.drill_run.specs.Drill.{tells}
use Rattle.drill_calls.specs.Asking.{Told, told_by, told_with, done_said, acted_said, envelope_said, inventory_said, tomb_said, fetch_said}

-- what an answer tells is what the result tells
abbrev pub Same : {A : Type 0} → (Prelude.Result A Refusal → Told) → (Result → A) → Result → Type 0
Same told says o = told_by (told (answer_of says o)) ≡ tells o

module _ (s : State) where
  pub clock_told : (seconds : ℕ) → Same (told_with done_said) said_of (step s (calls.clock seconds))
  unfolding step tests perform tells told_by set_clock
  clock_told seconds = of_step (Same (told_with done_said) said_of) [] (set_clock seconds) (λ why. refl) refl

  pub contact_told : (id : ContactId) (v : Verification) → Same (told_with done_said) said_of (step s (calls.contact id v))
  unfolding step tests perform tells told_by set_contact
  contact_told id v = of_step (Same (told_with done_said) said_of) (contact_tests s id) (set_contact s id v) (λ why. refl) refl

  pub setting_told : (enabled : Bool) (copies lifetime : ℕ) → Same (told_with done_said) said_of (step s (calls.setting enabled copies lifetime))
  unfolding step tests perform tells told_by set_config
  setting_told enabled copies lifetime =
      of_step (Same (told_with done_said) said_of) (setting_tests copies lifetime) (set_config enabled copies lifetime) (λ why. refl) refl

  pub session_told : (peer : ContactId) → Same (told_with done_said) said_of (step s (calls.open_exchange peer))
  unfolding step tests perform tells told_by open_exchanged
  session_told peer = of_step (Same (told_with done_said) said_of) (open_exchange_tests s peer) (open_exchanged peer) (λ why. refl) refl

  pub envelope_told_lem : (replies actions : ℕ) (window : List ℕ) (peer : ContactId) (head : Header) (ct : List ℕ)
      → Same (told_with envelope_said) envelope_says (step s (calls.envelope replies actions window peer head ct))
  unfolding step tests perform tells told_by envelope_says receive_envelope ours_at answer_custody
  envelope_told_lem replies actions window peer head ct =
      of_step Q (envelope_tests s replies actions window peer head (length ct)) (receive_envelope s (window_rows window) peer head ct) (λ why. refl)
      (go (lookup (window_rows window) head.tag))
    where
      Q : Result → Type 0
      Q = Same (told_with envelope_said) envelope_says

      go : (f : Option ℕ) → Same (told_with envelope_said) envelope_says (match_found f (λ i. ours_at (get_or (window_rows window) i no_reachable))
          (answer_custody s peer head ct (custody_of s peer head (length ct))))
      go (Some i) = refl
      go None = refl

  pub inventory_told_lem : (replies : ℕ) (window : List ℕ) (peer : ContactId) (listed : List ℕ)
      → Same (told_with inventory_said) received_says (step s (calls.inventory_received replies window peer listed))
  unfolding step tests perform tells told_by receive_inventory answer_inventory list_more
  inventory_told_lem replies window peer listed =
      of_step Q (receive_inventory_tests s replies window peer listed) (receive_inventory s (window_rows window) peer (prefix_rows listed)) (λ why. refl)
      (by_test Q (too_many s.session.exchange (length (prefix_rows listed))) refl (by_test Q (eqb (length (prefix_rows listed)) 0) refl refl))
    where
      Q : Result → Type 0
      Q = Same (told_with inventory_said) received_says

  pub custody_told_lem : (actions : ℕ) (peer : ContactId) (tag : List ℕ) (code : Custody)
      → Same (told_with acted_said) says (step s (calls.custody_answer actions peer tag code))
  unfolding step tests perform tells told_by receive_custody settle
  custody_told_lem actions peer tag code =
      of_step (Same (told_with acted_said) says) (custody_tests s actions peer) (receive_custody s tag code) (λ why. refl)
      (go (position (offer_of_tag tag) s.session.exchange.offered))
    where
      go : (f : Option ℕ) → Same (told_with acted_said) says (match_found f (settle s tag code) (only done))
      go (Some i) = refl
      go None = refl

  pub tomb_told_lem : (actions : ℕ) (peer : ContactId) (tag secret : List ℕ) → Same (told_with tomb_said) tomb_says (step s (calls.tomb actions peer tag secret))
  unfolding step tests perform tells told_by receive_tomb turn end_own
  tomb_told_lem actions peer tag secret =
      of_step (Same (told_with tomb_said) tomb_says) (tomb_tests s actions peer tag (meets s.own s.carried tag secret))
      (receive_tomb s tag secret (meets s.own s.carried tag secret)) (λ why. refl) (go (meets s.own s.carried tag secret))
    where
      go : (m : Met) → Same (told_with tomb_said) tomb_says (receive_tomb s tag secret m)
      go (met.carried_at i) = refl
      go (met.own_at i) = refl
      go met.wrong = refl
      go met.unknown = refl

  pub maintenance_told : (actions : ℕ) → Same (told_with acted_said) maintained_of (step s (calls.maintenance actions))
  unfolding step tests perform tells told_by maintain_couriers
  maintenance_told actions = of_step (Same (told_with acted_said) maintained_of) (maintenance_tests s actions) (maintain_couriers s) (λ why. refl) refl

  pub fetch_told_lem : (own carried : List ℕ) (replies : ℕ) (peer : ContactId) (tag : List ℕ)
      → Same (told_with fetch_said) (fetch_says own carried) (step s (calls.fetch replies peer tag))
  unfolding step tests perform tells told_by step_of fetch_tests receive_fetch fetched
  fetch_told_lem own carried replies peer tag =
      by_test Q (short_replies replies) refl (by_test Q (not (known s.contacts peer)) refl
      (go (find (envelope_of_tag tag) (envelopes s.own s.carried peer))))
    where
      Q : Result → Type 0
      Q = Same (told_with fetch_said) (fetch_says own carried)

      go : (f : Option Envelope) → Same (told_with fetch_said) (fetch_says own carried) (match_some f (fetched s) (only (done_with missing)))
      go (Some e) = refl
      go None = refl
