-- Every call keeps what the store needs.
-- Assumes nothing.
use Rattle.std.proofs.Common.{◌≡◌, ℕ, ◌/◌, ◌^◌, ◌<◌, min, Bool, true, false, cond, eqb, ltb, List, [], length, refl, arith, Option, Some, None}
use native.Mathlib.Nat.{min-le_right}
use borrow.Author.Tests.{not-false}
use Rattle.octets.specs.Bytes.{Bytes}
use Rattle.courier_core.specs.declared.ContactId.{ContactId}
use Rattle.courier_core.specs.declared.Verification.{Verification}
use Rattle.table.specs.Lists.{none}
use Rattle.table.specs.Codec.{table_of}
use Rattle.table.proofs.TableLaws.{table_proper}
use Rattle.courier.specs.declared.Header.{Header}
use Rattle.courier.specs.Tags.{route_tag}
use Rattle.model.proofs.HashLaws.{route_tag_run}
use Rattle.chain.specs.declared.Dir.{Dir}
use Rattle.state.specs.declared.CourierConfig.{CourierConfig}
use Rattle.state.specs.Config.{in_range}
use Rattle.state.specs.Held.{held_row}
use Rattle.rows.specs.Proper.{Run}
use Rattle.model.specs.Basics.{match_some, find}
use Rattle.model.specs.State.{State, apply}
use Rattle.model.specs.Calls
use Rattle.model.specs.Calls.{Call, only, malformed, missing, no_envelope, short_replies, short_exchange, done_with}
use Rattle.model.specs.Contacts.{end_of, contact_tests, set_contact, setting_tests, set_config, set_clock, open_exchange_tests, open_exchanged, opened_for}
use Rattle.model.specs.Custody.{custody_of, envelope_tests, receive_envelope}
use Rattle.model.specs.Window.{lookup, window_rows, prefix_rows, prefix_codec}
use Rattle.model.specs.Exchange.{Envelope, envelopes, answer_inventory, list_more, too_many, receive_custody, envelope_of_tag, fetched, receive_fetch, fetch_tests, list_inventory, inventory_tests, receive_inventory, receive_inventory_tests, custody_tests}
use Rattle.model.specs.Tombs.{meets, receive_tomb, report_failed, tomb_tests, opened_tests, report_opened, failed_tests, stored_tests, stored}
use Rattle.model.specs.Own.{none_made, new_own, make_own, own_tests, own_envelope}
use Rattle.model.specs.Maintenance.{maintain_couriers, maintenance_tests}
use Rattle.model.specs.Saved.{Slotted, held_rows, writes, blob_tests, row_blob_of, save_tests, save_held}
use Rattle.model.specs.Screen.{page_tests, show_page}
use Rattle.model.specs.Step.{tests, perform, step}
use Rattle.model.specs.Good.{Good, ProperHeader, ProperTomb, ProperCall}
use Rattle.model.proofs.KeepLaws.{Fits, part_upd, part_imp, lifetime_above_0, good_apply, kept_people, kept_queue, kept_held, kept_session, fits_nothing, fits_courier, fits_people, fits_session, Passed, fits_step}
use Rattle.model.proofs.StoreLaws.{prefix_laws}
use Rattle.model.proofs.KeepRows.{or_false, end_small, put_contact_lem}
use Rattle.model.proofs.KeepParts.{fits_answer, fits_terminator, fits_listed, fits_custody, fits_store, fits_tomb, fits_failed, fits_made, fits_maintained}

-- ---- each call, its tests passed

module _ (s : State) where
  setting_fits : (enabled : Bool) (copies lifetime : ℕ) → Passed (setting_tests copies lifetime) → Fits s (set_config enabled copies lifetime).change
  unfolding setting_tests set_config
  setting_fits enabled copies lifetime p =
      fits_courier s (record { enabled = enabled; copies = copies; lifetime_min = lifetime }) (not-false (in_range copies lifetime) p.0)

  clock_fits : (seconds : ℕ) → Fits s (set_clock seconds).change
  unfolding set_clock
  clock_fits seconds = record { courier = tt; next_slot = tt; people = kept_people; queue = kept_queue; held = kept_held; session = kept_session; sessions = tt }

  open_fits : (peer : ContactId) → Fits s (open_exchanged peer).change
  unfolding open_exchanged opened_for
  open_fits peer = fits_session s (opened_for peer).session (record { listed = (none, omega arith, omega arith); offered = (none, omega arith, omega arith) })

  fetch_fits : (peer : ContactId) (tag : List ℕ) → Fits s (receive_fetch s peer tag).change
  unfolding receive_fetch fetched
  fetch_fits peer tag = go (find (envelope_of_tag tag) (envelopes s.own s.carried peer))
    where
      go : (o : Option Envelope) → Fits s (match_some o (fetched s) (only (done_with missing))).change
      go None = fits_nothing s
      go (Some e) = fits_nothing s

  list_fits : (peer : ContactId) → Fits s (list_inventory s peer).change
  unfolding list_inventory
  list_fits peer = fits_nothing s

  blob_fits : (slot : ℕ) → Fits s (row_blob_of s slot).change
  unfolding row_blob_of
  blob_fits slot = go (find (λ (h : Slotted). eqb h.slot slot) (held_rows s))
    where
      go : (o : Option Slotted) → Fits s (match_some o (λ h. writes (held_row h.held)) (only (done_with missing))).change
      go None = fits_nothing s
      go (Some h) = fits_nothing s

  save_fits : Fits s (save_held s).change
  unfolding save_held
  save_fits = fits_nothing s

  page_fits : (number : ℕ) → Fits s (show_page s number).change
  unfolding show_page
  page_fits number = fits_nothing s

module _ (s : State) (g : Good s) where
  contact_fits : (id : ContactId) (v : Verification) → id.0 < 2 ^ 64 → Passed (contact_tests s id) → Fits s (set_contact s id v).change
  unfolding contact_tests set_contact
  contact_fits id v h p = fits_people s (set_contact s id v).change.people (record { contacts = put_contact_lem s.contacts id v h (g.contacts, g.contacts_few) p.0; bad_tags = tt })

  envelope_fits : (replies actions : ℕ) (window : List ℕ) (peer : ContactId) (head : Header) (ct : List ℕ) → (peer.0 < 2 ^ 64) × ProperHeader head
      → Passed (envelope_tests s replies actions window peer head (length ct)) → Fits s (receive_envelope s (window_rows window) peer head ct).change
  unfolding envelope_tests receive_envelope
  envelope_fits replies actions window peer head ct h p =
      fits_answer s g peer head ct h (window_rows window) (lookup (window_rows window) head.tag) (custody_of s peer head (length ct)) refl refl p.1.1.1.1.0

  inventory_fits : (replies : ℕ) (window : List ℕ) (peer : ContactId) (listed : List ℕ) → Bytes listed
      → Passed (receive_inventory_tests s replies window peer listed) → Fits s (receive_inventory s (window_rows window) peer (prefix_rows listed)).change
  unfolding receive_inventory_tests receive_inventory prefix_rows
  inventory_fits replies window peer listed b p = go (too_many s.session.exchange (length tags)) refl (eqb (length tags) 0)
    where
      tags : List (List ℕ)
      tags = table_of prefix_codec (length listed / 8) listed

      short : (ltb s.session.prefix_area 4096 ≡ false) × (ltb s.session.offer_area 8704 ≡ false)
      short = or_false _ _ (or_false (short_replies replies) (short_exchange s) p.0).1

      go : (m : Bool) → too_many s.session.exchange (length tags) ≡ m → (n : Bool)
          → Fits s (cond m (only malformed) (cond n (answer_inventory s (window_rows window) peer) (list_more s.session.exchange tags))).change
      go true e n = fits_nothing s
      go false e true = fits_terminator s g peer (window_rows window) short.1
      go false e false = fits_listed s g tags (table_proper prefix_laws (length listed / 8) listed b) short.0 e

  tomb_fits : (actions : ℕ) (peer : ContactId) (tag secret : List ℕ) → Run 16 tag × Run 16 secret
      → Passed (tomb_tests s actions peer tag (meets s.own s.carried tag secret))
      → Fits s (receive_tomb s tag secret (meets s.own s.carried tag secret)).change
  unfolding tomb_tests
  tomb_fits actions peer tag secret h p = fits_tomb s g tag secret h.0 h.1 p.1.1.0 p.1.1.1.0

  opened_fits : (replies actions : ℕ) (peer : ContactId) (tag secret : List ℕ) (expiry : ℕ) → ProperTomb tag secret expiry
      → Passed (opened_tests s replies actions peer tag) → Fits s (report_opened s tag secret expiry).change
  unfolding opened_tests report_opened
  opened_fits replies actions peer tag secret expiry h p =
      fits_store s g tag secret (min expiry (end_of s)) (h.0, h.1, omega (arith, min-le_right expiry (end_of s), end_small s)) p.1.1.0 p.1.1.1.0

  failed_fits : (peer : ContactId) (tag : List ℕ) → (peer.0 < 2 ^ 64) × Run 16 tag → Passed (failed_tests s peer tag) → Fits s (report_failed s peer tag).change
  unfolding failed_tests
  failed_fits peer tag h p = fits_failed s g peer tag h.0 h.1 p.1.0

  stored_fits : (actions : ℕ) (tag secret : List ℕ) (expiry : ℕ) → ProperTomb tag secret expiry → Passed (stored_tests s actions tag)
      → Fits s (stored s tag secret expiry).change
  unfolding stored_tests stored
  stored_fits actions tag secret expiry h p = fits_store s g tag secret expiry h p.1.0 p.1.1.0

  own_fits : (id : ContactId) (msgno : ℕ) (key : List ℕ) (dir : Dir) (generation idx : ℕ) (secret ct : List ℕ)
      → (id.0 < 2 ^ 64) × (msgno < 2 ^ 32) × Run 16 secret
      → Fits s (own_envelope s id msgno key dir generation idx secret ct).change
  unfolding own_envelope
  own_fits id msgno key dir generation idx secret ct h = go (none_made s.own (length ct)) refl
    where
      tag : List ℕ
      tag = route_tag key dir generation idx

      go : (b : Bool) → none_made s.own (length ct) ≡ b
          → Fits s (cond b (only (done_with no_envelope)) (make_own s (new_own s id msgno tag secret (length ct)) ct)).change
      go true e = fits_nothing s
      go false e = fits_made s g id msgno tag secret ct h.0 h.1 h.2 (route_tag_run key dir generation idx) e

-- ---- every call

-- what a call changes is in range and fits
fits_call : (s : State) (c : Call) → Good s → ProperCall c → Fits s (step s c).change
unfolding step tests perform
fits_call s (Calls.contact id v) g h = fits_step s (contact_tests s id) (set_contact s id v) (λ p. contact_fits s g id v h p)
fits_call s (Calls.setting enabled copies lifetime) g h = fits_step s (setting_tests copies lifetime) (set_config enabled copies lifetime) (setting_fits s enabled copies lifetime)
fits_call s (Calls.clock seconds) g h = fits_step s [] (set_clock seconds) (λ p. clock_fits s seconds)
fits_call s (Calls.open_exchange peer) g h = fits_step s (open_exchange_tests s peer) (open_exchanged peer) (λ p. open_fits s peer)
fits_call s (Calls.envelope replies actions window peer head ct) g h =
    fits_step s (envelope_tests s replies actions window peer head (length ct)) (receive_envelope s (window_rows window) peer head ct)
    (envelope_fits s g replies actions window peer head ct h)
fits_call s (Calls.inventory_received replies window peer listed) g h =
    fits_step s (receive_inventory_tests s replies window peer listed) (receive_inventory s (window_rows window) peer (prefix_rows listed))
    (inventory_fits s g replies window peer listed h)
fits_call s (Calls.fetch replies peer tag) g h = fits_step s (fetch_tests s replies peer) (receive_fetch s peer tag) (λ p. fetch_fits s peer tag)
fits_call s (Calls.custody_answer actions peer tag code) g h = fits_step s (custody_tests s actions peer) (receive_custody s tag code) (λ p. fits_custody s g tag code)
fits_call s (Calls.tomb actions peer tag secret) g h =
    fits_step s (tomb_tests s actions peer tag (meets s.own s.carried tag secret)) (receive_tomb s tag secret (meets s.own s.carried tag secret))
    (tomb_fits s g actions peer tag secret h)
fits_call s (Calls.opened replies actions peer tag secret expiry) g h =
    fits_step s (opened_tests s replies actions peer tag) (report_opened s tag secret expiry) (opened_fits s g replies actions peer tag secret expiry h)
fits_call s (Calls.failed peer tag) g h = fits_step s (failed_tests s peer tag) (report_failed s peer tag) (failed_fits s g peer tag h)
fits_call s (Calls.stored_tombstone actions tag secret expiry) g h =
    fits_step s (stored_tests s actions tag) (stored s tag secret expiry) (stored_fits s g actions tag secret expiry h)
fits_call s (Calls.add_own id msgno key dir generation idx secret ct) g h =
    fits_step s (own_tests s id msgno (length ct)) (own_envelope s id msgno key dir generation idx secret ct)
    (λ p. own_fits s g id msgno key dir generation idx secret ct h)
fits_call s (Calls.maintenance actions) g h = fits_step s (maintenance_tests s actions) (maintain_couriers s) (λ p. fits_maintained s g)
fits_call s (Calls.inventory_of_ours prefixes peer) g h = fits_step s (inventory_tests s prefixes peer) (list_inventory s peer) (λ p. list_fits s peer)
fits_call s (Calls.row_blob blob slot) g h = fits_step s (blob_tests blob) (row_blob_of s slot) (λ p. blob_fits s slot)
fits_call s (Calls.save file) g h = fits_step s (save_tests s file) (save_held s) (λ p. save_fits s)
fits_call s (Calls.page area number) g h = fits_step s (page_tests area) (show_page s number) (λ p. page_fits s number)

pub keeps : (s : State) (c : Call) → Good s → ProperCall c → Good (apply s (step s c).change)
keeps s c g h = good_apply s (step s c).change g (fits_call s c g h)

-- a lifetime above 0 stays above 0: a setting call takes no other
pub lifetime_kept : (s : State) (c : Call) → Good s → ProperCall c → 0 < s.courier.lifetime_min → 0 < (apply s (step s c).change).courier.lifetime_min
unfolding apply
lifetime_kept s c g h t =
    part_upd (λ (k : CourierConfig). 0 < k.lifetime_min) s.courier (step s c).change.courier t (part_imp lifetime_above_0 (step s c).change.courier (fits_call s c g h).courier)
