-- The rules as they were before a request of document 02 changed them. Theorems cite them to say what the request changes; no contract does.
-- Assumes nothing.
use Rattle.std.specs.Prelude.{ℕ, Bool, true, cond, not, ◌&&◌, List, [], ◌∷◌, ◌++◌, map, length, ◌==◌, nat_le, nat_lt, slice_index_or}
use mathlib.Core.List.{flat_map}
use Rattle.octets.specs.Bytes.{same_bytes}
use Rattle.courier_core.specs.declared.ContactId.{ContactId}
use Rattle.courier_core.specs.declared.Refusal.TheVariants as refusal
use Rattle.table.specs.Lists.{any, filter, remove_at}
use Rattle.rows.specs.declared.BadTag.{BadTag}
use Rattle.rows.specs.declared.Carried.{Carried}
use Rattle.rows.specs.declared.Tombstone.{Tombstone}
use Rattle.rows.specs.declared.Reply.{Reply}
use Rattle.rows.specs.declared.Reachable.{Reachable}
use Rattle.model.specs.Basics.{match_found, trunc8}
use Rattle.model.specs.State.{State, carried_now, tombstones_now, complete_now, listed_now, offered_now, ◌and◌}
use Rattle.model.specs.Calls
use Rattle.model.specs.Calls.{Call, Result, result, only, done, malformed, fetch_reply, put_courier, short_actions, step_of}
use Rattle.model.specs.Contacts.{known}
use Rattle.model.specs.Window.{no_reachable, window_rows, prefix_rows, lookup, is_bad}
use Rattle.model.specs.Custody.{tombstone_of_tag}
use Rattle.model.specs.Exchange.{Envelope, no_carried, envelopes, reply_for, fetch_for, tomb_for, halved, insert_offers, answer_listed, list_more, too_many}
use Rattle.model.specs.Tombs.{Met, carried_at, own_at, wrong, unknown, insert_by_slot, turned, receive_tomb, tomb_tests}
use Rattle.model.specs.Step.{Post, Lent, tests, perform, state_for, left_by}

-- ---- before Two: a tombstoned tag was fetched too

unfoldable pub fetch_for_before_two : List BadTag → List Reachable → ContactId → List ℕ → List Reply
fetch_for_before_two bad window peer prefix =
    match_found (lookup window prefix)
    (λ i. cond (is_bad bad peer (slice_index_or window i no_reachable).tag) [] (fetch_reply (slice_index_or window i no_reachable).tag ∷ [])) []

unfoldable pub answer_inventory_before_two : State → List Reachable → ContactId → Result
answer_inventory_before_two s window peer = answer_listed (fetch_for_before_two s.bad_tags window peer) s peer

-- ---- before Three: the tombstones were asked before the listing, and nothing was counted

unfoldable pub is_offered_before_three : List Tombstone → List (List ℕ) → Envelope → Bool
is_offered_before_three ts listed e =
    nat_lt 1 e.head.copies && not (any (tombstone_of_tag e.head.tag) ts)
    && not (any (λ (p : List ℕ). same_bytes p (trunc8 e.head.tag)) listed)

unfoldable pub offers_before_three : State → ContactId → List Envelope
offers_before_three s peer =
    map halved (filter (is_offered_before_three s.tombstones s.session.exchange.listed) (envelopes s.own s.carried peer))

unfoldable pub answer_inventory_before_three : State → List Reachable → ContactId → Result
answer_inventory_before_three s window peer =
    let listed : List (List ℕ) = s.session.exchange.listed in
    result done
    (flat_map (fetch_for s.bad_tags s.tombstones window peer) listed ++ flat_map (tomb_for s.tombstones) listed ++ map reply_for (offers_before_three s peer)) []
    (complete_now true and listed_now [] and offered_now (insert_offers (offers_before_three s peer) []))

-- ---- every call, where a terminator is answered as it was before

module _ (answer : State → List Reachable → ContactId → Result) where
  unfoldable pub receive_inventory_before : State → List Reachable → ContactId → List (List ℕ) → Result
  receive_inventory_before s window peer tags =
      cond (too_many s.session.exchange (length tags)) (only malformed)
      (cond (length tags == 0) (answer s window peer) (list_more s.session.exchange tags))

  -- every other call did what it does
  unfoldable pub perform_before : State → Call → Result
  perform_before s (Calls.contact id v) = perform s (Calls.contact id v)
  perform_before s (Calls.setting enabled copies lifetime) = perform s (Calls.setting enabled copies lifetime)
  perform_before s (Calls.clock seconds) = perform s (Calls.clock seconds)
  perform_before s (Calls.open_exchange peer) = perform s (Calls.open_exchange peer)
  perform_before s (Calls.envelope replies actions window peer head ct) = perform s (Calls.envelope replies actions window peer head ct)
  perform_before s (Calls.inventory_received replies window peer listed) = receive_inventory_before s (window_rows window) peer (prefix_rows listed)
  perform_before s (Calls.fetch replies peer tag) = perform s (Calls.fetch replies peer tag)
  perform_before s (Calls.custody_answer actions peer tag code) = perform s (Calls.custody_answer actions peer tag code)
  perform_before s (Calls.tomb actions peer tag secret) = perform s (Calls.tomb actions peer tag secret)
  perform_before s (Calls.opened replies actions peer tag secret expiry) = perform s (Calls.opened replies actions peer tag secret expiry)
  perform_before s (Calls.failed peer tag) = perform s (Calls.failed peer tag)
  perform_before s (Calls.stored_tombstone actions tag secret expiry) = perform s (Calls.stored_tombstone actions tag secret expiry)
  perform_before s (Calls.add_own id msgno key dir generation idx secret ct) = perform s (Calls.add_own id msgno key dir generation idx secret ct)
  perform_before s (Calls.maintenance actions) = perform s (Calls.maintenance actions)
  perform_before s (Calls.inventory_of_ours prefixes peer) = perform s (Calls.inventory_of_ours prefixes peer)
  perform_before s (Calls.row_blob blob slot) = perform s (Calls.row_blob blob slot)
  perform_before s (Calls.save file) = perform s (Calls.save file)
  perform_before s (Calls.page area number) = perform s (Calls.page area number)

  unfoldable pub step_before : State → Call → Result
  step_before s c = step_of (tests s c) (perform_before s c)

  -- a list of calls
  unfoldable pub after_before : Post → Lent → Post
  after_before p l = left_by p l (step_before (state_for p l) l.call).change

  unfoldable pub run_before : Post → List Lent → Post
  run_before p [] = p
  run_before p (l ∷ ls) = run_before (after_before p l) ls

-- before Two, and before Three
abbrev pub step_before_two : State → Call → Result
step_before_two = step_before answer_inventory_before_two

abbrev pub run_before_two : Post → List Lent → Post
run_before_two = run_before answer_inventory_before_two

abbrev pub step_before_three : State → Call → Result
step_before_three = step_before answer_inventory_before_three

abbrev pub run_before_three : Post → List Lent → Post
run_before_three = run_before answer_inventory_before_three

-- ---- before Four: a row that turned passed no limit of 1,024

unfoldable pub turn_before_four : State → ℕ → List ℕ → List ℕ → Result
turn_before_four s i tag secret =
    let r : Carried = slice_index_or s.carried i no_carried in
    result done [] (put_courier r.slot ∷ [])
    (carried_now (remove_at i s.carried) and tombstones_now (insert_by_slot (turned r tag secret) s.tombstones))

-- number 5 was held against the tombstones as they stood; a tomb that turns no row did what it does
unfoldable pub tomb_before_four : State → ℕ → ContactId → List ℕ → List ℕ → Met → Result
tomb_before_four s actions peer tag secret (carried_at i) =
    step_of
    ((short_actions s actions, refusal.ShortArea)
    ∷ (not (known s.contacts peer), refusal.UnknownContact)
    ∷ (nat_le s.tombstone_rows (length s.tombstones), refusal.NoTombstoneRow)
    ∷ [])
    (turn_before_four s i tag secret)
tomb_before_four s actions peer tag secret (own_at i) = step_of (tomb_tests s actions peer tag (own_at i)) (receive_tomb s tag secret (own_at i))
tomb_before_four s actions peer tag secret wrong = step_of (tomb_tests s actions peer tag wrong) (receive_tomb s tag secret wrong)
tomb_before_four s actions peer tag secret unknown = step_of (tomb_tests s actions peer tag unknown) (receive_tomb s tag secret unknown)
