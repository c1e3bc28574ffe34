-- The counts that a host gets are lengths: of replies and actions, those of the model's lists.
-- Assumes nothing.
use Rattle.std.proofs.Common.{◌≡◌, ℕ, Bool, eqb, List, length, refl, Option, arith}
use Rattle.courier_core.specs.declared.ContactId.{ContactId}
use Rattle.courier_core.specs.declared.Refusal.{Refusal}
use Rattle.courier_core.specs.declared.Verification.{Verification}
use Rattle.table.specs.Lists.{position}
use Rattle.chain.specs.declared.Dir.{Dir}
use Rattle.courier.specs.declared.Header.{Header}
use Rattle.courier.specs.declared.Custody.{Custody}
use Rattle.model.specs.Basics.{match_some, find}
use Rattle.model.specs.State.{State}
use Rattle.model.specs.Calls.{Call, Result, contact, setting, clock, open_exchange, envelope, inventory_received, fetch, custody_answer, tomb, opened, failed, stored_tombstone, add_own, maintenance, inventory_of_ours, row_blob, save, page, refused, only, missing, told_at, done_with, answer_of}
use Rattle.model.specs.Contacts.{set_contact, set_config, set_clock, open_exchanged}
use Rattle.model.specs.Window.{window_rows, prefix_rows, lookup}
use Rattle.model.specs.Custody.{ours_at, answer_custody, receive_envelope}
use Rattle.model.specs.Exchange.{Envelope, envelopes, envelope_of_tag, fetched, receive_fetch, too_many, answer_inventory, list_more, receive_inventory, offer_of_tag, settle, receive_custody, list_inventory}
use Rattle.model.specs.Tombs.{Met, carried_at, own_at, wrong, unknown, meets, turn, end_own, receive_tomb, report_opened, report_failed, stored}
use Rattle.model.specs.Own.{none_made, make_own, own_envelope}
use Rattle.model.specs.Maintenance.{maintain_couriers}
use Rattle.model.specs.Saved.{Slotted, held_rows, row_blob_of, save_held}
use Rattle.model.specs.Screen.{show_page}
use Rattle.model.specs.Step.{tests, perform, step}
use Rattle.model.proofs.RefusalLaws.{of_step, by_test, by_place, by_found}
use Rattle.contacts.specs.Answers.{said_of}
use Rattle.envelope.specs.Answers.{envelope_says}
use Rattle.fetch.specs.Fetch.{fetch_says}
use Rattle.own_envelope.specs.OwnEnvelope.{own_says}
use Rattle.inventory.specs.Inventory.{inventory_says, received_says}
use Rattle.stored_tombstone.specs.StoredTombstone.{says_stored}
use Rattle.answers.specs.Says.{says as tomb_says}
use Rattle.saved.specs.Blobs.{blob_says}
use Rattle.saved.specs.Saving.{save_says}
use Rattle.load.specs.Load.{load_held_rows, load_step}
use Rattle.load.proofs.ExactLaws.{of_load}
use Rattle.host_answers.specs.HostAnswers.{done_answer, envelope_answer, fetched_answer, own_answer, wrote_answer, inventory_answer, acted_answer, tomb_answer, blob_answer}
use Rattle.host_answers.specs.declared.Answer.{Answer}
use Rattle.goosetable.specs.Hosts.{Counted, Length}

-- ---- what a host gets of a result: by the first three of these, several calls alike

abbrev host_done : Result → Answer
host_done o = done_answer (answer_of said_of o)

abbrev host_acted : Result → Answer
host_acted o = acted_answer (answer_of says_stored o)

abbrev host_wrote : Result → Answer
host_wrote o = wrote_answer (answer_of save_says o)

abbrev host_envelope : Result → Answer
host_envelope o = envelope_answer (answer_of envelope_says o)

abbrev host_inventory : Result → Answer
host_inventory o = inventory_answer (answer_of received_says o)

abbrev host_tomb : Result → Answer
host_tomb o = tomb_answer (length o.replies) (answer_of tomb_says o)

abbrev host_own : Result → Answer
host_own o = own_answer (answer_of own_says o)

abbrev host_listed : Result → Answer
host_listed o = wrote_answer (answer_of inventory_says o)

abbrev host_blob : Result → Answer
host_blob o = blob_answer (answer_of blob_says o)

-- ---- a call by its refusals and what it performs

counts : {r : Answer} {o : Result} → r.replies ≡ length o.replies → r.actions ≡ length o.actions → Length (told_at 0 o) o.answer r.length → Counted r o
counts p q l = record { replies = p; actions = q; written = l }

-- what is said of a result has its counts
abbrev CountedBy : (Result → Answer) → Result → Type 0
CountedBy says o = Counted (says o) o

abbrev Counts : (Result → Answer) → Call → Type 0
Counts says c = (s : State) → CountedBy says (step s c)

of_call : (says : Result → Answer) (c : Call) → ((why : Refusal) → CountedBy says (only (refused why))) → ((s : State) → CountedBy says (perform s c)) → Counts says c
unfolding step
of_call says c r p s = of_step (CountedBy says) (tests s c) (perform s c) r (p s)

met : (s : State) (tag secret : List ℕ) (m : Met) → CountedBy host_tomb (receive_tomb s tag secret m)
unfolding receive_tomb turn end_own
met s tag secret (carried_at i) = counts refl refl refl
met s tag secret (own_at i) = counts refl refl refl
met s tag secret wrong = counts refl refl refl
met s tag secret unknown = counts refl refl refl

pub contact_counted : (id : ContactId) (v : Verification) → Counts host_done (contact id v)
unfolding perform set_contact
contact_counted id v = of_call host_done _ (λ why. counts refl refl refl) (λ s. counts refl refl refl)

pub setting_counted : (enabled : Bool) (copies lifetime : ℕ) → Counts host_done (setting enabled copies lifetime)
unfolding perform set_config
setting_counted enabled copies lifetime = of_call host_done _ (λ why. counts refl refl refl) (λ s. counts refl refl refl)

pub clock_counted : (seconds : ℕ) → Counts host_done (clock seconds)
unfolding perform set_clock
clock_counted seconds = of_call host_done _ (λ why. counts refl refl refl) (λ s. counts refl refl refl)

pub exchange_counted : (peer : ContactId) → Counts host_done (open_exchange peer)
unfolding perform open_exchanged
exchange_counted peer = of_call host_done _ (λ why. counts refl refl refl) (λ s. counts refl refl refl)

pub envelope_counted : (replies actions : ℕ) (area : List ℕ) (peer : ContactId) (head : Header) (ct : List ℕ) → Counts host_envelope (envelope replies actions area peer head ct)
unfolding perform receive_envelope ours_at answer_custody envelope_says
envelope_counted replies actions area peer head ct = of_call host_envelope _ (λ why. counts refl refl refl) (λ s. by_place (CountedBy host_envelope) (lookup (window_rows area) head.tag) (λ i. counts refl refl refl) (counts refl refl refl))

pub inventory_counted : (replies : ℕ) (area : List ℕ) (peer : ContactId) (listed : List ℕ) → Counts host_inventory (inventory_received replies area peer listed)
unfolding perform receive_inventory answer_inventory list_more
inventory_counted replies area peer listed = of_call host_inventory _ (λ why. counts refl refl refl) (λ s.
    by_test (CountedBy host_inventory) (too_many s.session.exchange (length (prefix_rows listed))) (counts refl refl refl)
    (by_test (CountedBy host_inventory) (eqb (length (prefix_rows listed)) 0) (counts refl refl refl) (counts refl refl refl)))

pub code_counted : (actions : ℕ) (peer : ContactId) (tag : List ℕ) (k : Custody) → Counts host_acted (custody_answer actions peer tag k)
unfolding perform receive_custody settle
code_counted actions peer tag k = of_call host_acted _ (λ why. counts refl refl refl) (λ s. by_place (CountedBy host_acted) (position (offer_of_tag tag) s.session.exchange.offered) (λ i. counts refl refl refl) (counts refl refl refl))

pub tomb_counted : (actions : ℕ) (peer : ContactId) (tag secret : List ℕ) → Counts host_tomb (tomb actions peer tag secret)
unfolding perform
tomb_counted actions peer tag secret = of_call host_tomb _ (λ why. counts refl refl refl) (λ s. met s tag secret (meets s.own s.carried tag secret))

pub opened_counted : (replies actions : ℕ) (peer : ContactId) (tag secret : List ℕ) (expiry : ℕ) → Counts host_tomb (opened replies actions peer tag secret expiry)
unfolding perform report_opened
opened_counted replies actions peer tag secret expiry = of_call host_tomb _ (λ why. counts refl refl refl) (λ s. counts refl refl refl)

pub failed_counted : (peer : ContactId) (tag : List ℕ) → Counts host_tomb (failed peer tag)
unfolding perform report_failed
failed_counted peer tag = of_call host_tomb _ (λ why. counts refl refl refl) (λ s. counts refl refl refl)

pub stored_counted : (actions : ℕ) (tag secret : List ℕ) (expiry : ℕ) → Counts host_acted (stored_tombstone actions tag secret expiry)
unfolding perform stored
stored_counted actions tag secret expiry = of_call host_acted _ (λ why. counts refl refl refl) (λ s. counts refl refl refl)

pub own_counted : (id : ContactId) (msgno : ℕ) (key : List ℕ) (dir : Dir) (generation idx : ℕ) (secret ct : List ℕ) → Counts host_own (add_own id msgno key dir generation idx secret ct)
unfolding perform own_envelope make_own
own_counted id msgno key dir generation idx secret ct = of_call host_own _ (λ why. counts refl refl refl) (λ s. by_test (CountedBy host_own) (none_made s.own (length ct)) (counts refl refl refl) (counts refl refl refl))

pub maintenance_counted : (actions : ℕ) → Counts host_acted (maintenance actions)
unfolding perform maintain_couriers
maintenance_counted actions = of_call host_acted _ (λ why. counts refl refl refl) (λ s. counts refl refl refl)

pub listed_counted : (prefixes : ℕ) (peer : ContactId) → Counts host_listed (inventory_of_ours prefixes peer)
unfolding perform list_inventory
listed_counted prefixes peer = of_call host_listed _ (λ why. counts refl refl refl) (λ s. counts refl refl refl)

pub blob_counted : (area slot : ℕ) → Counts host_blob (row_blob area slot)
unfolding perform row_blob_of
blob_counted area slot = of_call host_blob _ (λ why. counts refl refl refl) (λ s. by_found (CountedBy host_blob) (find (λ (h : Slotted). eqb h.slot slot) (held_rows s)) (λ h. counts refl refl refl) (counts refl refl refl))

pub save_counted : (file : ℕ) → Counts host_wrote (save file)
unfolding perform save_held
save_counted file = of_call host_wrote _ (λ why. counts refl refl refl) (λ s. counts refl refl refl)

pub page_counted : (area number : ℕ) → Counts host_wrote (page area number)
unfolding perform show_page
page_counted area number = of_call host_wrote _ (λ why. counts refl refl refl) (λ s. counts refl refl refl)

pub load_counted : (file : List ℕ) (s : State) → CountedBy host_done (load_step s file)
unfolding load_held_rows
load_counted file s =
    of_load (CountedBy host_done) s file (λ why. counts refl refl refl) (counts refl refl refl)

-- ---- a count that the code writes down: one reply where a report is done or a fetch finds an envelope, none of a tomb or a failure

-- a tomb or a report of so many replies
abbrev Replies : ℕ → Result → Type 0
Replies n o = tomb_answer n (answer_of tomb_says o) ≡ host_tomb o

meeting : (s : State) (tag secret : List ℕ) (m : Met) → Replies 0 (receive_tomb s tag secret m)
unfolding receive_tomb turn end_own
meeting s tag secret m = grind arith

pub tomb_counts : (actions : ℕ) (peer : ContactId) (tag secret : List ℕ) (s : State) → Replies 0 (step s (tomb actions peer tag secret))
unfolding step perform
tomb_counts actions peer tag secret s =
    of_step (Replies 0) _ _ (λ why. refl)
    (meeting s tag secret (meets s.own s.carried tag secret))

pub opened_counts : (replies actions : ℕ) (peer : ContactId) (tag secret : List ℕ) (expiry : ℕ) (s : State) → Replies 1 (step s (opened replies actions peer tag secret expiry))
unfolding step perform report_opened
opened_counts replies actions peer tag secret expiry s =
    of_step (Replies 1) _ _ (λ why. refl) refl

pub failed_counts : (peer : ContactId) (tag : List ℕ) (s : State) → Replies 0 (step s (failed peer tag))
unfolding step perform report_failed
failed_counts peer tag s = of_step (Replies 0) _ _ (λ why. refl) refl

module _ (own carried : List ℕ) where
  abbrev Fetches : Result → Type 0
  Fetches o = fetched_answer 1 (answer_of (fetch_says own carried) o) ≡ fetched_answer (length o.replies) (answer_of (fetch_says own carried) o)

  abbrev host_fetch : Result → Answer
  host_fetch o = fetched_answer (length o.replies) (answer_of (fetch_says own carried) o)

  pub fetch_counted : (replies : ℕ) (peer : ContactId) (tag : List ℕ) → Counts host_fetch (fetch replies peer tag)
  unfolding perform receive_fetch fetched
  fetch_counted replies peer tag =
      of_call host_fetch _ (λ why. counts (grind arith) (grind arith) (grind arith))
      (λ s. by_found (CountedBy host_fetch) (find (envelope_of_tag tag) (envelopes s.own s.carried peer)) (λ e. counts refl refl tt) (counts refl refl refl))

  finding : (s : State) (f : Option Envelope) → Fetches (match_some f (fetched s) (only (done_with missing)))
  unfolding fetched
  finding s f = grind arith

  pub fetch_counts : (replies : ℕ) (peer : ContactId) (tag : List ℕ) (s : State) → Fetches (step s (fetch replies peer tag))
  unfolding step perform receive_fetch
  fetch_counts replies peer tag s =
      of_step Fetches _ _ (λ why. grind arith)
      (finding s (find (envelope_of_tag tag) (envelopes s.own s.carried peer)))
