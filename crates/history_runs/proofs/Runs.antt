-- Runs on fresh areas, computed: the theorem speaks of something.
-- Assumes nothing.
use Rattle.std.proofs.Common.{◌≡◌, ℕ, zero, suc, ◌*◌, ◌<◌, Bool, true, cond, List, [], ◌∷◌, ◌++◌, map, get_or, take, set, replicate, sym, refl, ap, subst, arith}
use lib.ListN.{length-replicate}
use Rattle.octets.specs.Bytes.{Bytes, splice, part, num, be, same_bytes}
use Rattle.courier_core.specs.declared.Verification.{Verification}
use Rattle.courier_core.specs.declared.Verification.TheVariants as verification
use Rattle.table.specs.Rows as table
use Rattle.table.specs.Lists as lists
use Rattle.table.specs.Lists.{All, none, more}
use Rattle.table.specs.Codec as codec
use Rattle.table.proofs.ListLaws.{all_append}
use Rattle.courier.specs.declared.Custody.TheVariants as custody
use Rattle.courier.specs.Courier as courier
use Rattle.courier.specs.Tags.{commitment_of}
use Rattle.state.specs.Config.{in_range}
use Rattle.rows.specs.declared.Carried.{Carried}
use Rattle.rows.specs.Rows as encoded
use Rattle.rows.specs.Proper.{Run}
use Rattle.rows.specs.declared.Reply.{Reply}
use Rattle.rows.specs.declared.Action.{Action}
use Rattle.model.specs.State.{State, apply}
use Rattle.model.specs.Calls
use Rattle.model.specs.Calls.{Result, step_of, put_courier, custody_reply}
use Rattle.model.specs.Contacts
use Rattle.model.specs.Window
use Rattle.model.specs.Cells
use Rattle.model.specs.Custody as model
use Rattle.model.specs.Exchange
use Rattle.model.specs.Tombs
use Rattle.model.specs.Tombs.{Met, carried_at, wrong}
use Rattle.model.specs.Areas.{PostAreas, view, view_session, view_post, store, store_device, store_session, areas_for, after_areas, run_areas, Fresh}
use Rattle.model.specs.Good.{Sized, ProperCall}
use Rattle.model.specs.Step.{Post, Lent, tests, perform, step, state_for, answer_to, after, run}
use Rattle.model.proofs.RunLaws.{fresh_post, run_fresh}
use Rattle.model.proofs.Examples.{session_areas, areas_of, id, of_byte, lend, terminator, code, opens}
use Rattle.history.specs.History.{CustodyOnAreas}
use Rattle.model.proofs.HashLaws.{commitment_run}
use Rattle.history.proofs.HistoryLaws.{custody_history_areas}

-- fresh areas with n carried cells
areas : ℕ → PostAreas
unfolding session_areas areas_of
areas cells = areas_of 0 (cells * 2064) (session_areas ∷ session_areas ∷ session_areas ∷ [])

-- an envelope with the commitment c
committing : List ℕ → ℕ → ℕ → Lent
unfolding lend id of_byte
committing c peer b = lend 0 (Calls.envelope 61440 6708 [] (id peer) (record { tag = of_byte b; c = c; expiry_min = 100; copies = 9 }) (replicate 48 0))

unfoldable pub send : ℕ → ℕ → Lent
unfolding committing
send peer b = committing (of_byte 34) peer b

unfoldable pub sends : ℕ → ℕ → List Lent
sends peer zero = []
sends peer (suc n) = send peer n ∷ sends peer n

unfoldable pub contact : ℕ → Verification → Lent
unfolding lend id
contact n v = lend 0 (Calls.contact (id n) v)

open_for : ℕ → ℕ → List Lent
unfolding lend id contact
open_for i peer = contact peer verification.Unverified ∷ lend i (Calls.open_exchange (id peer)) ∷ []

-- the areas after a list of calls; who unfolds it unfolds all that a run computes with
unfoldable pub ran : ℕ → List Lent → PostAreas
unfolding areas areas_of session_areas id of_byte lend committing send sends contact open_for terminator code run_areas after_areas areas_for view view_session store store_device store_session apply step step_of tests perform Contacts.contact_tests Contacts.set_contact Contacts.known Contacts.contact_place Contacts.is_verified Contacts.put_contact Contacts.setting_tests Contacts.set_config Contacts.open_exchange_tests Contacts.open_exchanged Contacts.opened_for Contacts.now_min Contacts.lifetime_end in_range lists.any lists.position_from lists.count_by lists.filter lists.replace_at lists.remove_at lists.insert_at table.ragged table.rows table.held table.join table.written codec.table_of codec.with_table num encoded.carried_of encoded.carried_bytes encoded.contact_of encoded.contact_bytes encoded.offer_of encoded.offer_bytes Window.window_rows Window.prefix_rows Window.wrong_window Window.keys_rise Window.strangers Window.lookup Window.is_bad same_bytes splice part courier.header_bytes courier.header_of courier.envelope_valid courier.carried_length be model.custody_of model.duplicate model.full model.deposited model.carried_total model.new_carried model.carry model.accepts model.envelope_tests model.answer_custody model.receive_envelope Cells.cell_length Cells.cell_count Cells.free_from Cells.free_cell Cells.cells_used Cells.new_cell Exchange.envelopes Exchange.own_envelope_of Exchange.carried_envelope_of Exchange.receive_inventory_tests Exchange.receive_inventory Exchange.too_many Exchange.answer_inventory Exchange.offers Exchange.is_offered Exchange.in_question Exchange.halved Exchange.insert_offer Exchange.insert_offers Exchange.custody_tests Exchange.receive_custody Exchange.settle Exchange.handed_actions Exchange.handed_over Exchange.lowered
ran cells ls = run_areas (areas cells) ls

-- what a call answers there
answered : ℕ → List Lent → Lent → List Reply × List Action
unfolding ran
answered cells ls l =
    let o : Result = step (view (areas_for (ran cells ls) l)) l.call in
    (o.replies, o.actions)

copies_after : ℕ → List Lent → List ℕ
unfolding ran view_post
copies_after cells ls = map (λ (r : Carried). r.copies) (view_post (ran cells ls)).state.carried

-- ---- at 16 rows a contact that is not verified is answered Full

seventeenth : answered 17 (contact 5 verification.Unverified ∷ sends 5 16) (send 5 200) ≡ (custody_reply (of_byte 200) custody.Full ∷ [], [])
unfolding answered
seventeenth = refl

-- ---- the eighth depositor is accepted

each_sends : ℕ → List Lent
unfolding send contact
each_sends zero = []
each_sends (suc n) = contact n verification.Unverified ∷ send n n ∷ each_sends n

eighth : answered 8 (contact 7 verification.Unverified ∷ each_sends 7) (send 7 200) ≡ (custody_reply (of_byte 200) custody.Accepted ∷ [], put_courier 7 ∷ [])
unfolding answered each_sends
eighth = refl

-- ---- copies 4 are configured, three exchanges offer 2 each, and all three are accepted: 4, then 2, then 0, then 0 still

offering : List ℕ → List Lent
unfolding lend contact committing open_for terminator
offering c =
    lend 0 (Calls.setting true 4 1440) ∷ contact 5 verification.Verified ∷ committing c 5 17 ∷ open_for 0 6 ++ open_for 1 7 ++ open_for 2 8
    ++ (terminator 0 6 ∷ terminator 1 7 ∷ terminator 2 8 ∷ [])

-- all three answer
accepting : List Lent
unfolding code
accepting = code 0 6 custody.Accepted ∷ code 1 7 custody.Accepted ∷ code 2 8 custody.Accepted ∷ []

handed_on_lem : let offered : List Lent = offering (of_byte 34) in
    (copies_after 1 offered ≡ 4 ∷ [])
    × (copies_after 1 (offered ++ take 1 accepting) ≡ 2 ∷ [])
    × (copies_after 1 (offered ++ (code 0 6 custody.Full ∷ code 0 6 custody.Accepted ∷ [])) ≡ 4 ∷ [])
    × (copies_after 1 (offered ++ take 2 accepting) ≡ 0 ∷ [])
    × (copies_after 1 (offered ++ accepting) ≡ 0 ∷ [])
unfolding copies_after offering accepting
handed_on_lem = (refl, refl, refl, refl, refl)

-- ---- demand 3 holds of that run on areas, with any number of cells

fresh : (n : ℕ) → Fresh (areas n)
unfolding areas areas_of session_areas
fresh n = record {
  contacts = refl;
  own = refl;
  carried = refl;
  tombstones = refl;
  bad_tags = refl;
  next_slot = refl;
  lent = refl;
  others = refl;
  sessions = more refl (more refl (more refl none));
}

sized : (n : ℕ) → Sized (areas n).areas
unfolding areas
sized n = record { contacts = length-replicate {A = ℕ} 2304 7; own = length-replicate {A = ℕ} 13824 7; carried = length-replicate {A = ℕ} 14592 7 }

byte_run : (n b : ℕ) → b < 256 → (i : ℕ) → get_or (replicate n b) i 0 < 256
byte_run zero b h zero = omega arith
byte_run zero b h (suc i) = omega arith
byte_run (suc n) b h zero = h
byte_run (suc n) b h (suc i) = byte_run n b h i

of_byte_lem : (b : ℕ) → b < 256 → Run 16 (of_byte b)
unfolding of_byte Bytes
of_byte_lem b h = record { size = length-replicate 16 b; bytes = byte_run 16 b h }

setting_proper : ProperCall (lend 0 (Calls.setting true 4 1440)).call
unfolding lend
setting_proper = omega arith

contact_proper : (n : ℕ) (v : Verification) → n < 256 → ProperCall (contact n v).call
unfolding contact lend id
contact_proper n v h = omega arith

committing_proper : (c : List ℕ) (peer b : ℕ) → Run 16 c → peer < 256 → b < 256 → ProperCall (committing c peer b).call
unfolding committing lend id
committing_proper c peer b r h k = (omega arith, record { tag = of_byte_lem b k; c = r; expiry_min = omega arith; copies = omega arith })

terminator_proper : (i peer : ℕ) → ProperCall (terminator i peer).call
unfolding terminator lend Bytes
terminator_proper i peer = none_listed
  where
    none_listed : (i : ℕ) → get_or [] i 0 < 256
    none_listed zero = omega arith
    none_listed (suc i) = omega arith

proper : (c : List ℕ) → Run 16 c → All (λ (l : Lent). ProperCall l.call) (offering c)
unfolding offering open_for lend
proper c r =
    more setting_proper (more (contact_proper 5 verification.Verified (omega arith)) (more (committing_proper c 5 17 r (omega arith) (omega arith))
    (more (contact_proper 6 verification.Unverified (omega arith)) (more tt (more (contact_proper 7 verification.Unverified (omega arith)) (more tt
    (more (contact_proper 8 verification.Unverified (omega arith)) (more tt (more (terminator_proper 0 6) (more (terminator_proper 1 7) (more (terminator_proper 2 8) none)))))))))))

offering_history : (n : ℕ) (c : List ℕ) → Run 16 c → CustodyOnAreas (areas n) (offering c)
unfolding areas
offering_history n c r = custody_history_areas (areas n) (fresh n) (sized n) (omega arith) (offering c) (proper c r)

-- ---- the same row, handed on by all three, is turned by a tomb whose secret hashes to its commitment

tomb : List ℕ → Lent
unfolding lend
tomb secret = lend 0 (Calls.tomb 6708 (id 5) (of_byte 17) secret)

tomb_proper : (secret : List ℕ) → Run 16 secret → ProperCall (tomb secret).call
unfolding tomb lend
tomb_proper secret h = (of_byte_lem 17 (omega arith), h)

ended : List ℕ → List Lent
ended secret = accepting ++ (tomb secret ∷ [])

ended_proper : (secret : List ℕ) → Run 16 secret → All (λ (l : Lent). ProperCall l.call) (ended secret)
unfolding ended accepting code lend
ended_proper secret h = more tt (more tt (more tt (more (tomb_proper secret h) none)))

-- no carried row is left, and its slot has the tombstone
Turned : List ℕ → Post → Type 0
Turned secret p = (p.state.carried ≡ []) × (p.state.tombstones ≡ (record { slot = 0; tag = of_byte 17; s = secret; expiry_min = 100 }) ∷ [])

-- the post after a tomb that meets m
meeting : List ℕ → Post → Met → Post
meeting secret p m =
    let s : State = state_for p (tomb secret) in
    let t : State = apply s (step_of (Tombs.tomb_tests s 6708 (id 5) (of_byte 17) m) (Tombs.receive_tomb s (of_byte 17) secret m)).change in
    record { state = t; sessions = set p.sessions 0 t.session }

-- computed on rows
turned_rows : (secret : List ℕ) → Turned secret (run (fresh_post (areas 1)) (offering (commitment_of secret) ++ ended secret))
unfolding Turned ran offering accepting tomb ended meeting run after answer_to state_for Tombs.meets Tombs.tomb_tests Tombs.no_row_to_meet Tombs.no_slot_to_meet Tombs.receive_tomb Tombs.turn Tombs.turned Tombs.insert_by_slot Tombs.remaining
turned_rows secret =
    subst (λ (m : Met). Turned secret (meeting secret (run (fresh_post (areas 1)) (offering (commitment_of secret) ++ accepting)) m))
    (sym (ap (λ (b : Bool). cond b (carried_at 0) wrong) (opens secret))) (refl, refl)

-- the areas show those rows
turned : (secret : List ℕ) → Run 16 secret → Turned secret (view_post (run_areas (areas 1) (offering (commitment_of secret) ++ ended secret)))
unfolding areas
turned secret h =
    subst (Turned secret)
    (sym (run_fresh (areas 1) (fresh 1) (sized 1) (omega arith) (offering (commitment_of secret) ++ ended secret)
    (all_append (offering (commitment_of secret)) (ended secret) (proper (commitment_of secret) (commitment_run secret)) (ended_proper secret h))))
    (turned_rows secret)
