-- Runs of the model from a fresh post, computed: document 01's worked example, three peers accepting 2 of 4, and a row's end.
-- Assumes nothing.
use Rattle.std.proofs.Common.{◌≡◌, ℕ, zero, suc, Bool, true, false, List, [], ◌∷◌, ◌++◌, map, length, get_or, replicate, refl}
use Rattle.octets.specs.Bytes.{splice, part, num, be, same_bytes}
use Rattle.octets.proofs.Compare.{same_refl}
use Rattle.courier_core.specs.declared.ContactId.{ContactId}
use Rattle.courier_core.specs.declared.Verification.{Verification}
use Rattle.courier_core.specs.declared.Verification.TheVariants as verification
use Rattle.table.specs.Rows as table
use Rattle.table.specs.Lists as lists
use Rattle.table.specs.Codec as codec
use Rattle.courier.specs.declared.Header.{Header}
use Rattle.courier.specs.declared.Custody.{Custody}
use Rattle.courier.specs.declared.Custody.TheVariants as custody
use Rattle.courier.specs.Courier as courier
use Rattle.courier.specs.Tags.{commitment_of, tombstone_matches}
use Rattle.state.specs.Config.{in_range, config_default}
use Rattle.rows.specs.declared.Carried.{Carried}
use Rattle.rows.specs.declared.Tombstone.{Tombstone}
use Rattle.rows.specs.Rows as encoded
use Rattle.rows.specs.Device.{closed_exchange}
use Rattle.rows.specs.declared.Reply.{Reply}
use Rattle.rows.specs.declared.Action.{Action}
use Rattle.model.specs.Basics.{merge}
use Rattle.model.specs.State.{State, Session, nobody, now, upd, apply, carried_now, tombstones_now, next_slot_now, ◌and◌}
use Rattle.model.specs.Calls
use Rattle.model.specs.Calls.{Call, Result, step_of, put_courier, delete_courier, custody_reply}
use Rattle.model.specs.Contacts
use Rattle.model.specs.Window
use Rattle.model.specs.Cells
use Rattle.model.specs.Custody as model
use Rattle.model.specs.Exchange
use Rattle.model.specs.Tombs
use Rattle.model.specs.Maintenance
use Rattle.model.specs.Areas.{PostAreas, SessionAreas, view, view_session, view_post, store, store_device, store_session, areas_for, after_areas, run_areas, no_areas}
use Rattle.model.specs.Step.{Post, Lent, empty_state, tests, perform, step, state_for, answer_to, after, run, results}

-- two cells of each kind, R = 4, three sessions
unfoldable pub wide : Session
wide = record { exchange = nobody; prefix_area = 4096; offer_area = 8704 }

unfoldable pub post : Post
unfolding wide
post = record {
  state = empty_state 0 config_default (replicate 4128 0) (replicate 4128 0) 4 4;
  sessions = wide ∷ wide ∷ wide ∷ [];
}

unfoldable pub id : ℕ → ContactId
id n = record { 0 = n }

unfoldable pub of_byte : ℕ → List ℕ
of_byte b = replicate 16 b

unfoldable pub lend : ℕ → Call → Lent
lend i c = record { session = i; call = c }

unfoldable pub head : ℕ → Header
unfolding of_byte
head b = record { tag = of_byte b; c = of_byte 34; expiry_min = 100; copies = 9 }

unfoldable pub send : ℕ → ℕ → Lent
unfolding lend head id
send peer b = lend 0 (Calls.envelope 61440 6708 [] (id peer) (head b) (replicate 48 0))

-- the reply and action rows of each call; who unfolds it unfolds all that a run computes with
unfoldable pub rows_of : Post → List Lent → List (List Reply × List Action)
unfolding wide post id of_byte lend head send results run answer_to after state_for apply step step_of tests perform Contacts.contact_tests Contacts.set_contact Contacts.known Contacts.contact_place Contacts.is_verified Contacts.put_contact Contacts.setting_tests Contacts.set_config Contacts.set_clock Contacts.open_exchange_tests Contacts.open_exchanged Contacts.opened_for Contacts.now_min Contacts.lifetime_end in_range lists.any lists.position_from lists.count_by lists.filter lists.replace_at lists.remove_at lists.insert_at table.ragged table.rows table.held table.join codec.table_of Window.window_rows Window.prefix_rows Window.wrong_window Window.keys_rise Window.strangers Window.lookup Window.is_bad same_bytes splice part courier.header_bytes courier.envelope_valid courier.carried_length be model.custody_of model.duplicate model.full model.deposited model.carried_total model.new_carried model.carry model.accepts model.envelope_tests model.answer_custody model.receive_envelope Cells.cell_length Cells.cell_count Cells.free_from Cells.free_cell Cells.cells_used Cells.new_cell Exchange.envelopes Exchange.own_envelope_of Exchange.carried_envelope_of Exchange.receive_inventory_tests Exchange.receive_inventory Exchange.too_many Exchange.answer_inventory Exchange.offers Exchange.is_offered Exchange.in_question Exchange.searched_rows Exchange.halved Exchange.insert_offer Exchange.insert_offers Exchange.custody_tests Exchange.receive_custody Exchange.settle Exchange.handed_actions Exchange.handed_over Exchange.lowered Maintenance.maintenance_tests Maintenance.maintain_couriers Maintenance.maintain_own Maintenance.own_puts Maintenance.expired_slots merge
rows_of p ls = map (λ (r : Result). (r.replies, r.actions)) (results p ls)

pub carried_after : Post → List Lent → List Carried
unfolding rows_of
carried_after p ls = (run p ls).state.carried

-- contact 5 verified, a fresh exchange, clock 600
unfoldable pub begin : List Lent
unfolding lend id
begin =
    lend 0 (Calls.contact (id 5) verification.Verified) ∷ lend 0 (Calls.open_exchange (id 5)) ∷ lend 0 (Calls.clock 600) ∷ []

-- the worked example: put 0, custody code 0; the same again: code 2
worked : rows_of post (begin ++ (send 5 17 ∷ send 5 17 ∷ []))
    ≡ ([], []) ∷ ([], []) ∷ ([], []) ∷ (custody_reply (of_byte 17) custody.Accepted ∷ [], put_courier 0 ∷ [])
    ∷ (custody_reply (of_byte 17) custody.Duplicate ∷ [], []) ∷ []
unfolding rows_of begin
worked = refl

-- its row: copies 9 become 6, the expiry stays 100
row17 : carried_after post (begin ++ (send 5 17 ∷ send 5 17 ∷ []))
    ≡ (record { slot = 0; depositor = id 5; tag = of_byte 17; c = of_byte 34; expiry_min = 100; copies = 6; len = 48; cell = 0 }) ∷ []
unfolding carried_after rows_of begin
row17 = refl

-- ---- three peers accepting 2 of 4

unfoldable pub open_for : ℕ → ℕ → List Lent
unfolding lend id
open_for i peer = lend i (Calls.contact (id peer) verification.Unverified) ∷ lend i (Calls.open_exchange (id peer)) ∷ []

-- the empty inventory
unfoldable pub terminator : ℕ → ℕ → Lent
unfolding lend id
terminator i peer = lend i (Calls.inventory_received 61440 [] (id peer) [])

unfoldable pub code : ℕ → ℕ → Custody → Lent
unfolding lend id of_byte
code i peer said = lend i (Calls.custody_answer 6708 (id peer) (of_byte 17) said)

-- copies 4 are configured; one row is carried; peers 6, 7 and 8 end their listings and are offered 2 each
unfoldable pub offered : Post
unfolding rows_of open_for terminator
offered =
    run post (lend 0 (Calls.setting true 4 1440) ∷ lend 0 (Calls.contact (id 5) verification.Verified) ∷ send 5 17 ∷ open_for 0 6 ++ open_for 1 7 ++ open_for 2 8
    ++ (terminator 0 6 ∷ terminator 1 7 ∷ terminator 2 8 ∷ []))

pub copies_after : List Lent → List ℕ
unfolding carried_after offered
copies_after ls = map (λ (r : Carried). r.copies) (carried_after offered ls)

-- 4, then 2, then 0, and 0 still; a second code of one peer, one that is not Accepted, or one in another peer's exchange takes nothing
abbrev pub ThreePeers : Type 0
ThreePeers =
    (copies_after [] ≡ 4 ∷ [])
    × (copies_after (code 0 6 custody.Accepted ∷ []) ≡ 2 ∷ [])
    × (copies_after (code 0 6 custody.Accepted ∷ code 0 6 custody.Accepted ∷ []) ≡ 2 ∷ [])
    × (copies_after (code 0 6 custody.Full ∷ code 0 6 custody.Accepted ∷ []) ≡ 4 ∷ [])
    × (copies_after (code 0 6 custody.Accepted ∷ code 1 7 custody.Accepted ∷ []) ≡ 0 ∷ [])
    × (copies_after (code 0 6 custody.Accepted ∷ code 1 7 custody.Accepted ∷ code 2 8 custody.Accepted ∷ []) ≡ 0 ∷ [])
    × (copies_after (code 0 7 custody.Accepted ∷ []) ≡ 4 ∷ [])

pub three_peers : ThreePeers
unfolding copies_after code
three_peers = (refl, refl, refl, refl, refl, refl, refl)

-- ---- a tomb whose secret hashes to the commitment turns the row in its slot; a maintenance at its expiry takes it, not before

row_of_lem : List ℕ → List Carried
unfolding id of_byte
row_of_lem secret =
    (record { slot = 0; depositor = id 5; tag = of_byte 17; c = commitment_of secret; expiry_min = 100; copies = 6; len = 48; cell = 0 }) ∷ []

with_row : List ℕ → Post
unfolding wide row_of_lem
with_row secret = record {
  state = apply (empty_state 0 config_default [] (replicate 2064 0) 4 4) (carried_now (row_of_lem secret) and next_slot_now 1);
  sessions = wide ∷ [];
}

pub opens : (secret : List ℕ) → tombstone_matches (commitment_of secret) secret ≡ true
unfolding tombstone_matches
opens secret = same_refl (commitment_of secret)

turns : (secret : List ℕ) → (perform (with_row secret).state (Calls.tomb 6708 (id 5) (of_byte 17) secret)).change.held.tombstones
    ≡ now ((record { slot = 0; tag = of_byte 17; s = secret; expiry_min = 100 }) ∷ [])
unfolding rows_of with_row row_of_lem Tombs.meets Tombs.receive_tomb Tombs.turn Tombs.turned Tombs.insert_by_slot Tombs.remaining
turns secret = rw (opens secret)

sweep : ℕ → List (List Reply × List Action)
unfolding rows_of with_row row_of_lem of_byte
sweep seconds = rows_of (with_row []) (lend 0 (Calls.clock seconds) ∷ lend 0 (Calls.maintenance 6708) ∷ [])

sweeps :
    (sweep 5999 ≡ ([], []) ∷ ([], []) ∷ [])
    × (sweep 6000 ≡ ([], []) ∷ ([], delete_courier 0 ∷ []) ∷ [])
unfolding sweep
sweeps = (refl, refl)

-- ---- quotas

-- n carried rows of a peer, tags n − 1 down to 0; they have expired, and count until a maintenance takes them
rows_from : ℕ → ℕ → List Carried
unfolding id of_byte
rows_from peer zero = []
rows_from peer (suc n) =
    (record { slot = n; depositor = id peer; tag = of_byte n; c = of_byte 34; expiry_min = 0; copies = 6; len = 48; cell = 7 }) ∷ rows_from peer n

-- contact 5, with so many rows, and one cell that none of them names
holding : List Carried → Post
unfolding wide
holding rs = record {
  state = apply (empty_state 0 config_default [] (replicate 2064 0) 4 4) (carried_now rs and next_slot_now (length rs));
  sessions = wide ∷ [];
}

code_of : List Carried → Verification → List Reply × List Action
unfolding rows_of holding rows_from
code_of rs v =
    let p : Post = run (holding rs) (lend 0 (Calls.contact (id 5) v) ∷ []) in
    ((answer_to p (send 5 200)).replies, (answer_to p (send 5 200)).actions)

-- at 16 rows a contact that is not verified gets Full, and a verified one Accepted; at 32 that one too gets Full; others' rows do not count
quotas :
    (code_of (rows_from 5 15) verification.Unverified ≡ (custody_reply (of_byte 200) custody.Accepted ∷ [], put_courier 15 ∷ []))
    × (code_of (rows_from 5 16) verification.Unverified ≡ (custody_reply (of_byte 200) custody.Full ∷ [], []))
    × (code_of (rows_from 5 16) verification.Compromised ≡ (custody_reply (of_byte 200) custody.Full ∷ [], []))
    × (code_of (rows_from 5 31) verification.Verified ≡ (custody_reply (of_byte 200) custody.Accepted ∷ [], put_courier 31 ∷ []))
    × (code_of (rows_from 5 32) verification.Verified ≡ (custody_reply (of_byte 200) custody.Full ∷ [], []))
    × (code_of (rows_from 6 199) verification.Unverified ≡ (custody_reply (of_byte 200) custody.Accepted ∷ [], put_courier 199 ∷ []))
unfolding code_of
quotas = (refl, refl, refl, refl, refl, refl)

-- ---- tombstones

-- so many tombstones with one expiry, in rising slots
tombs : (slot expiry : ℕ) → ℕ → List Tombstone
unfolding of_byte
tombs slot expiry zero = []
tombs slot expiry (suc n) = (record { slot = slot; tag = []; s = []; expiry_min = expiry }) ∷ tombs (suc slot) expiry n

-- a carried row that expires before all of them
soon : Carried
soon = record { slot = 8000; depositor = id 5; tag = of_byte 17; c = []; expiry_min = 10; copies = 1; len = 64; cell = 0 }

-- 1,024 of them, two of least expiry; R = 2,000
limit : State
unfolding tombs soon
limit =
    apply (empty_state 0 config_default [] [] 2000 4) (carried_now (soon ∷ []) and tombstones_now (tombs 0 100 500 ++ tombs 500 50 2 ++ tombs 502 70 522) and next_slot_now 9000)

turned_there : List Tombstone
unfolding limit
turned_there = upd [] (Tombs.turn limit 0 (of_byte 17) []).change.held.tombstones

-- a tombstone stored there deletes the lowest slot of least expiry, and so does the row that turns, though it would expire before it
at_limit :
    (Tombs.store_actions limit (of_byte 17) ≡ delete_courier 500 ∷ put_courier 9000 ∷ [])
    × (length (upd [] (Tombs.store_tombstone limit (of_byte 17) [] 100).held.tombstones) ≡ 1024)
    × ((Tombs.turn limit 0 (of_byte 17) []).actions ≡ delete_courier 500 ∷ put_courier 8000 ∷ []) × (length turned_there ≡ 1024)
    × (get_or turned_there 1023 Tombs.no_tombstone ≡ record { slot = 8000; tag = of_byte 17; s = []; expiry_min = 10 })
unfolding rows_of limit soon tombs turned_there Tombs.tombstoned Tombs.store_actions Tombs.evicted Tombs.least_from Tombs.store_tombstone Tombs.remaining Tombs.turn Tombs.turned Tombs.insert_by_slot
at_limit = (refl, refl, refl, refl, refl)

-- a tag that has a tombstone, or is carried, is a Duplicate
duplicates : List Carried → List Tombstone → Bool
unfolding rows_of rows_from tombs
duplicates rs ts = model.duplicate (apply (empty_state 0 config_default [] [] 4 4) (carried_now rs and tombstones_now ts)) []

tombstone_duplicate : (duplicates [] (tombs 0 100 1) ≡ true) × (duplicates (rows_from 5 3) [] ≡ false)
unfolding duplicates
tombstone_duplicate = (refl, refl)

-- ---- the worked example on areas of any bytes, through view and store

unfoldable pub session_areas : SessionAreas
session_areas = record { exchange = closed_exchange; prefixes = replicate 4096 7; offers = replicate 8704 7 }

-- fresh areas with R = 4, so many bytes of cells of each kind and these sessions, any bytes in them
unfoldable pub areas_of : ℕ → ℕ → List SessionAreas → PostAreas
areas_of own_cells carried_cells sessions = record {
  areas = record no_areas {
    contacts = replicate 2304 7;
    own = replicate 13824 7;
    carried = replicate 14592 7;
    tombstones = replicate 176 7;
    bad_tags = replicate 96 7;
    own_cells = replicate own_cells 7;
    carried_cells = replicate carried_cells 7;
  };
  sessions = sessions;
}

areas : PostAreas
unfolding session_areas areas_of
areas = areas_of 4128 4128 (session_areas ∷ [])

view_after : List Lent → List Carried × ℕ
unfolding rows_of areas run_areas after_areas areas_for view view_session store store_device store_session codec.with_table table.written num encoded.carried_of encoded.carried_bytes encoded.contact_of encoded.contact_bytes
view_after ls = ((view_post (run_areas areas ls)).state.carried, (view_post (run_areas areas ls)).state.next_slot)

on_areas : view_after (begin ++ (send 5 17 ∷ send 5 17 ∷ []))
    ≡ ((record { slot = 0; depositor = id 5; tag = of_byte 17; c = of_byte 34; expiry_min = 100; copies = 6; len = 48; cell = 0 }) ∷ [], 1)
unfolding view_after view_post begin
on_areas = refl
