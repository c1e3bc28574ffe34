-- No call changes an exchange but the one that it is lent.
-- Assumes nothing.
use Rattle.std.proofs.Common.{◌≡◌, ℕ, ◌+◌, Bool, true, false, cond, min, eqb, List, [], ◌∷◌, ◌++◌, length, get_or, set, refl, ap, Option, Some, None}
use Rattle.courier_core.specs.declared.ContactId.{ContactId}
use Rattle.courier_core.specs.declared.Refusal.{Refusal}
use Rattle.courier_core.specs.Core.{first_of}
use Rattle.chain.specs.declared.Dir.{Dir}
use Rattle.table.specs.Lists.{position, replace_at}
use Rattle.courier.specs.declared.Header.{Header}
use Rattle.courier.specs.declared.Custody.{Custody}
use Rattle.courier.specs.declared.Custody.TheVariants as custody
use Rattle.courier.specs.Tags.{route_tag}
use Rattle.state.specs.Held.{held_row}
use Rattle.rows.specs.declared.Reachable.{Reachable}
use Rattle.model.specs.Basics.{match_found, match_some, find}
use Rattle.model.specs.State.{State, SessionChange, laid, nothing, bad_tags_now, own_now, carried_now, tombstones_now, next_slot_now, ◌and◌}
use Rattle.model.specs.Calls
use Rattle.model.specs.Calls.{Call, Result, refused, malformed, done, done_with, missing, no_envelope, only, step_of}
use Rattle.model.specs.Contacts.{end_of, set_contact, set_config, set_clock, open_exchanged, opened_for}
use Rattle.model.specs.Window.{no_reachable, lookup, is_bad, window_rows, prefix_rows}
use Rattle.model.specs.Custody.{own_of_tag, carried_of_tag, custody_of, is_accepted, carry, ours_at, answer_custody, receive_envelope}
use Rattle.model.specs.Exchange.{Envelope, envelopes, envelope_of_tag, list_inventory, fetched, receive_fetch, too_many, answer_inventory, list_more, receive_inventory, no_carried, no_own, lowered, own_lowered, handed_over, offer_of_tag, settle, receive_custody}
use Rattle.model.specs.Tombs.{tombstoned, remaining, store_tombstone, stored, Met, carried_at, own_at, wrong, unknown, meets, turn, end_own, receive_tomb, report_opened, report_failed}
use Rattle.model.specs.Own.{none_made, new_own, make_own, own_envelope}
use Rattle.model.specs.Maintenance.{maintain_couriers}
use Rattle.model.specs.Saved.{Slotted, held_rows, writes, row_blob_of, save_held}
use Rattle.model.specs.Screen.{show_page}
use Rattle.model.specs.Step.{Post, Lent, tests, perform, step, state_for, answer_to, after}

abbrev pub Alone : Result → Type 0
Alone r = r.change.sessions ≡ []

module _ (s : State) where
  stores : (tag secret : List ℕ) (expiry : ℕ) → (store_tombstone s tag secret expiry).sessions ≡ []
  unfolding store_tombstone
  stores tag secret expiry = go (tombstoned s.tombstones tag)
    where
      go : (b : Bool) → (cond b nothing (tombstones_now (remaining s.tombstones ++ (record { slot = s.next_slot; tag = tag; s = secret; expiry_min = expiry } ∷ []))
          and next_slot_now (s.next_slot + 1))).sessions ≡ []
      go true = refl
      go false = refl

  tombs : (tag secret : List ℕ) (m : Met) → Alone (receive_tomb s tag secret m)
  unfolding receive_tomb turn end_own
  tombs tag secret (carried_at i) = refl
  tombs tag secret (own_at i) = stores tag secret _
  tombs tag secret wrong = refl
  tombs tag secret unknown = refl

  envelope : (window : List Reachable) (peer : ContactId) (head : Header) (ct : List ℕ) → Alone (receive_envelope s window peer head ct)
  unfolding receive_envelope ours_at answer_custody carry
  envelope window peer head ct = go (lookup window head.tag) (custody_of s peer head (length ct))
    where
      go : (f : Option ℕ) (code : Custody) → Alone (match_found f (λ i. ours_at (get_or window i no_reachable)) (answer_custody s peer head ct code))
      go (Some i) code = refl
      go None custody.Accepted = refl
      go None custody.Full = refl
      go None custody.Duplicate = refl
      go None custody.Off = refl
      go None custody.Invalid = refl

  inventory : (window : List Reachable) (peer : ContactId) (tags : List (List ℕ)) → Alone (receive_inventory s window peer tags)
  unfolding receive_inventory answer_inventory list_more
  inventory window peer tags = go (too_many s.session.exchange (length tags)) (eqb (length tags) 0)
    where
      go : (m n : Bool) → Alone (cond m (only malformed) (cond n (answer_inventory s window peer) (list_more s.session.exchange tags)))
      go true n = refl
      go false true = refl
      go false false = refl

  fetch : (peer : ContactId) (tag : List ℕ) → Alone (receive_fetch s peer tag)
  unfolding receive_fetch fetched
  fetch peer tag = go (find (envelope_of_tag tag) (envelopes s.own s.carried peer))
    where
      go : (o : Option Envelope) → Alone (match_some o (fetched s) (only (done_with missing)))
      go None = refl
      go (Some e) = refl

  hands : (tag : List ℕ) (n : ℕ) (b : Bool) → (cond b (handed_over s.own s.carried tag n) nothing).sessions ≡ []
  unfolding handed_over
  hands tag n false = refl
  hands tag n true = go (position (carried_of_tag tag) s.carried) (position (own_of_tag tag) s.own)
    where
      go : (f h : Option ℕ) → (match_found f (λ i. carried_now (replace_at i (lowered n (get_or s.carried i no_carried)) s.carried))
          (match_found h (λ i. own_now (replace_at i (own_lowered n (get_or s.own i no_own)) s.own)) nothing)).sessions ≡ []
      go (Some i) h = refl
      go None (Some i) = refl
      go None None = refl

  code : (tag : List ℕ) (said : Custody) → Alone (receive_custody s tag said)
  unfolding receive_custody settle
  code tag said = go (position (offer_of_tag tag) s.session.exchange.offered)
    where
      go : (f : Option ℕ) → Alone (match_found f (settle s tag said) (only done))
      go (Some i) = hands tag _ (is_accepted said)
      go None = refl

  failed : (peer : ContactId) (tag : List ℕ) → Alone (report_failed s peer tag)
  unfolding report_failed
  failed peer tag = go (is_bad s.bad_tags peer tag)
    where
      go : (b : Bool) → (cond b nothing (bad_tags_now (s.bad_tags ++ (record { peer = peer; tag = tag } ∷ [])))).sessions ≡ []
      go true = refl
      go false = refl

  own : (id : ContactId) (msgno : ℕ) (key : List ℕ) (dir : Dir) (generation idx : ℕ) (secret ct : List ℕ) → Alone (own_envelope s id msgno key dir generation idx secret ct)
  unfolding own_envelope make_own
  own id msgno key dir generation idx secret ct = go (none_made s.own (length ct))
    where
      go : (b : Bool) → Alone (cond b (only (done_with no_envelope)) (make_own s (new_own s id msgno (route_tag key dir generation idx) secret (length ct)) ct))
      go true = refl
      go false = refl

  blob : (slot : ℕ) → Alone (row_blob_of s slot)
  unfolding row_blob_of
  blob slot = go (find (λ (h : Slotted). eqb h.slot slot) (held_rows s))
    where
      go : (o : Option Slotted) → Alone (match_some o (λ h. writes (held_row h.held)) (only (done_with missing)))
      go None = refl
      go (Some h) = refl

  performs_alone : (c : Call) → Alone (perform s c)
  unfolding perform set_contact set_config set_clock open_exchanged opened_for report_opened stored maintain_couriers list_inventory save_held show_page
  performs_alone (Calls.contact id v) = refl
  performs_alone (Calls.setting enabled copies lifetime) = refl
  performs_alone (Calls.clock seconds) = refl
  performs_alone (Calls.open_exchange peer) = refl
  performs_alone (Calls.envelope replies actions window peer head ct) = envelope (window_rows window) peer head ct
  performs_alone (Calls.inventory_received replies window peer listed) = inventory (window_rows window) peer (prefix_rows listed)
  performs_alone (Calls.fetch replies peer tag) = fetch peer tag
  performs_alone (Calls.custody_answer actions peer tag said) = code tag said
  performs_alone (Calls.tomb actions peer tag secret) = tombs tag secret (meets s.own s.carried tag secret)
  performs_alone (Calls.opened replies actions peer tag secret expiry) = stores tag secret (min expiry (end_of s))
  performs_alone (Calls.failed peer tag) = failed peer tag
  performs_alone (Calls.stored_tombstone actions tag secret expiry) = stores tag secret expiry
  performs_alone (Calls.add_own id msgno key dir generation idx secret ct) = own id msgno key dir generation idx secret ct
  performs_alone (Calls.maintenance actions) = refl
  performs_alone (Calls.inventory_of_ours prefixes peer) = refl
  performs_alone (Calls.row_blob len slot) = blob slot
  performs_alone (Calls.save file) = refl
  performs_alone (Calls.page area number) = refl

step_of_alone : (ts : List (Bool × Refusal)) (r : Result) → Alone r → Alone (step_of ts r)
unfolding step_of
step_of_alone [] r p = p
step_of_alone (t ∷ ts) r p = go t.0 (step_of_alone ts r p)
  where
    rest : Result
    rest = first_of ts (λ why. only (refused why)) r

    go : (b : Bool) → Alone rest → Alone (cond b (only (refused t.1)) rest)
    go true q = refl
    go false q = q

pub alone : (s : State) (c : Call) → Alone (step s c)
unfolding step
alone s c = step_of_alone (tests s c) (perform s c) (performs_alone s c)

-- so the sessions after a call are those before it, with its own as it left it
pub sessions_after : (p : Post) (l : Lent) → (after p l).sessions ≡ set p.sessions l.session (after p l).state.session
unfolding after answer_to
sessions_after p l =
    ap (λ (cs : List SessionChange). laid cs (set p.sessions l.session (after p l).state.session) (after p l).state.sessions) (alone (state_for p l) l.call)
