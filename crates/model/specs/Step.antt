-- A call, and a list of calls.
-- Assumes nothing.
use Rattle.std.specs.Prelude.{ℕ, Bool, List, [], ◌∷◌, length, slice_index_or, slice_set}
use Rattle.courier_core.specs.declared.Refusal.{Refusal}
use Rattle.state.specs.declared.CourierConfig.{CourierConfig}
use Rattle.model.specs.State.{State, Session, Change, apply, laid, no_session, no_state, with_session}
use Rattle.model.specs.Calls
use Rattle.model.specs.Calls.{Call, Result, step_of}
use Rattle.model.specs.Contacts.{contact_tests, set_contact, setting_tests, set_config, set_clock, open_exchange_tests, open_exchanged}
use Rattle.model.specs.Window.{window_rows, prefix_rows}
use Rattle.model.specs.Custody.{envelope_tests, receive_envelope}
use Rattle.model.specs.Exchange.{receive_inventory_tests, receive_inventory, fetch_tests, receive_fetch, custody_tests, receive_custody, inventory_tests, list_inventory}
use Rattle.model.specs.Tombs.{meets, tomb_tests, receive_tomb, opened_tests, report_opened, failed_tests, report_failed, stored_tests, stored}
use Rattle.model.specs.Own.{own_tests, own_envelope}
use Rattle.model.specs.Maintenance.{maintenance_tests, maintain_couriers}
use Rattle.model.specs.Saved.{blob_tests, row_blob_of, save_tests, save_held}
use Rattle.model.specs.Screen.{page_tests, show_page}

-- the refusals of each call, in document 01's order: 13, 1, 12, 2, 3, 7, 10, 11, 4, 5, 6, 9
unfoldable pub tests : State → Call → List (Bool × Refusal)
tests s (Calls.contact id v) = contact_tests s id
tests s (Calls.setting enabled copies lifetime) = setting_tests copies lifetime
tests s (Calls.clock seconds) = []
tests s (Calls.open_exchange peer) = open_exchange_tests s peer
tests s (Calls.envelope replies actions window peer head ct) = envelope_tests s replies actions window peer head (length ct)
tests s (Calls.inventory_received replies window peer listed) = receive_inventory_tests s replies window peer listed
tests s (Calls.fetch replies peer tag) = fetch_tests s replies peer
tests s (Calls.custody_answer actions peer tag code) = custody_tests s actions peer
tests s (Calls.tomb actions peer tag secret) = tomb_tests s actions peer tag (meets s.own s.carried tag secret)
tests s (Calls.opened replies actions peer tag secret expiry) = opened_tests s replies actions peer tag
tests s (Calls.failed peer tag) = failed_tests s peer tag
tests s (Calls.stored_tombstone actions tag secret expiry) = stored_tests s actions tag
tests s (Calls.add_own id msgno key dir generation idx secret ct) = own_tests s id msgno (length ct)
tests s (Calls.maintenance actions) = maintenance_tests s actions
tests s (Calls.inventory_of_ours prefixes peer) = inventory_tests s prefixes peer
tests s (Calls.row_blob blob slot) = blob_tests blob
tests s (Calls.save file) = save_tests s file
tests s (Calls.page area number) = page_tests area

-- what a call does that is not refused
unfoldable pub perform : State → Call → Result
perform s (Calls.contact id v) = set_contact s id v
perform s (Calls.setting enabled copies lifetime) = set_config enabled copies lifetime
perform s (Calls.clock seconds) = set_clock seconds
perform s (Calls.open_exchange peer) = open_exchanged peer
perform s (Calls.envelope replies actions window peer head ct) = receive_envelope s (window_rows window) peer head ct
perform s (Calls.inventory_received replies window peer listed) = receive_inventory s (window_rows window) peer (prefix_rows listed)
perform s (Calls.fetch replies peer tag) = receive_fetch s peer tag
perform s (Calls.custody_answer actions peer tag code) = receive_custody s tag code
perform s (Calls.tomb actions peer tag secret) = receive_tomb s tag secret (meets s.own s.carried tag secret)
perform s (Calls.opened replies actions peer tag secret expiry) = report_opened s tag secret expiry
perform s (Calls.failed peer tag) = report_failed s peer tag
perform s (Calls.stored_tombstone actions tag secret expiry) = stored s tag secret expiry
perform s (Calls.add_own id msgno key dir generation idx secret ct) = own_envelope s id msgno key dir generation idx secret ct
perform s (Calls.maintenance actions) = maintain_couriers s
perform s (Calls.inventory_of_ours prefixes peer) = list_inventory s peer
perform s (Calls.row_blob blob slot) = row_blob_of s slot
perform s (Calls.save file) = save_held s
perform s (Calls.page area number) = show_page s number

unfoldable pub step : State → Call → Result
step s c = step_of (tests s c) (perform s c)

-- ---- a list of calls

-- a post with several sessions; its state has the one that was lent last
pub record Post : Type 0 where
  pub state : State
  pub sessions : List Session

-- a call, and the index of the session that is lent with it
pub record Lent : Type 0 where
  pub session : ℕ
  pub call : Call

-- no row, contact or bad tag, next slot 0
abbrev pub empty_state : ℕ → CourierConfig → (own_cells carried_cells : List ℕ) (tombstone_rows bad_tag_rows : ℕ) → State
empty_state seconds config own_cells carried_cells tombstone_rows bad_tag_rows = record (no_state config) {
  now_s = seconds;
  own_cells = own_cells;
  carried_cells = carried_cells;
  tombstone_rows = tombstone_rows;
  bad_tag_rows = bad_tag_rows;
}

-- The state that a call gets: a session that is not there is opened for nobody, and has no areas. The list of all open ones is what the post's state has, [] from
-- the start on: a call that is to change others is to be lent them here.
unfoldable pub state_for : Post → Lent → State
state_for p l = with_session p.state (slice_index_or p.sessions l.session no_session)

unfoldable pub answer_to : Post → Lent → Result
answer_to p l = step (state_for p l) l.call

-- what a call leaves that changes so much
abbrev pub left_by : Post → Lent → Change → Post
left_by p l c =
    let s : State = apply (state_for p l) c in
    record { state = s; sessions = laid c.sessions (slice_set p.sessions l.session s.session) s.sessions }

unfoldable pub after : Post → Lent → Post
after p l = left_by p l (answer_to p l).change

-- what is left after a list of calls, and what they answer
unfoldable pub run : Post → List Lent → Post
run p [] = p
run p (l ∷ ls) = run (after p l) ls

unfoldable pub results : Post → List Lent → List Result
results p [] = []
results p (l ∷ ls) = answer_to p l ∷ results (after p l) ls
