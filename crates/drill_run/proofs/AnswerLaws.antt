-- The rows that a record's call lists are proper, and they fit the answer areas: so what is read off these is what the model lists.
-- Assumes nothing.
use Rattle.std.proofs.Common.{◌≡◌, ℕ, zero, suc, ◌+◌, ◌*◌, ◌^◌, ◌<◌, ◌≤◌, Bool, true, false, cond, eqb, ltb, leb, List, [], ◌∷◌, ◌++◌, map, length, get_or, replicate, sym, refl, ap, ◌∙◌, subst, arith, length-append, ltb-true, Option, Some, None}
use mathlib.Core.List.{flat_map}
use lib.ListN.{length-map}
use Rattle.octets.specs.Bytes.{Bytes, be}
use Rattle.octets.proofs.Numbers.{bytes_append, bytes_be, be_1}
use Rattle.courier_core.specs.declared.ContactId.{ContactId}
use Rattle.courier_core.specs.declared.Refusal.{Refusal}
use Rattle.courier_core.specs.declared.Refusal.TheVariants as refusal
use Rattle.courier.specs.declared.Header.{Header}
use Rattle.courier.specs.declared.Custody.{Custody}
use Rattle.courier.specs.declared.Custody.TheVariants as custody
use Rattle.courier.specs.Courier.{custody_code, header_bytes}
use Rattle.courier.proofs.HeaderLaws.{length_header}
use Rattle.table.specs.Lists.{All, none, more, filter, position, position_from}
use Rattle.table.specs.Rows.{rows, held}
use Rattle.table.specs.Codec.{Codec, CodecLaws, table_of, with_table}
use Rattle.table.proofs.ListLaws.{all_append, all_map, all_imp, all_filter, length_filter}
use Rattle.table.proofs.TableLaws.{table_with, with_over}
use Rattle.rows.specs.declared.Own.{Own}
use Rattle.rows.specs.declared.Carried.{Carried}
use Rattle.rows.specs.declared.Tombstone.{Tombstone}
use Rattle.rows.specs.declared.Reply.{Reply}
use Rattle.rows.specs.declared.Action.{Action}
use Rattle.rows.specs.Rows.{reply_codec, action_codec}
use Rattle.rows.specs.Proper.{Run, ProperTombstone, ProperReply, ProperAction}
use Rattle.rows.proofs.Laws.{reply_laws, action_laws}
use Rattle.rows.specs.Limits.{max_cells, reply_area, listed_replies, listed_actions}
use Rattle.wire.specs.Log as log
use Rattle.wire.specs.Log.{Record}
use Rattle.model.specs.Basics.{match_found, match_some, find}
use Rattle.model.specs.State.{State, Change, apply}
use Rattle.model.specs.Calls.{Answer, Result, result, only, refused, done, malformed, missing, step_of, Cells, of_own, of_carried, put_courier, delete_courier, put_queued, custody_reply, tomb_reply, no_cell, cell_from, reply_cell, done_with}
use Rattle.model.specs.Contacts.{contact_tests, set_contact, setting_tests, set_config, set_clock, open_exchange_tests, open_exchanged, minute_of}
use Rattle.model.specs.Window.{window_rows, prefix_rows, no_reachable, lookup}
use Rattle.model.specs.Custody.{custody_of, envelope_tests, ours_at, answer_custody, receive_envelope, own_of_tag, carried_of_tag}
use Rattle.model.specs.Exchange.{Envelope, envelopes, reply_for, fetch_tests, fetched, envelope_of_tag, receive_fetch, receive_inventory_tests, fetch_for, has_prefix, tomb_for, offers, offer_of_tag, answer_inventory, list_more, too_many, receive_inventory, no_carried, no_own, handed_actions, custody_tests, settle, receive_custody}
use Rattle.model.specs.Tombs.{no_tombstone, tombstoned, least_expiry, evicted, store_actions, Met, carried_at, own_at, wrong, unknown, meets, turn, end_own, tomb_tests, receive_tomb}
use Rattle.model.specs.Maintenance.{own_expired, carried_expired, tombstone_expired, own_puts, expired_slots, maintenance_tests, maintain_couriers}
use Rattle.model.specs.Step.{tests, perform, step}
use Rattle.model.specs.Good.{Good, ProperHeader, ProperCall}
use Rattle.model.proofs.KeepRows.{envelopes_proper, offers_proper, offers_few}
use Rattle.model.proofs.RunLaws.{all_get_d}
use Rattle.model.proofs.KeepCalls.{keeps}
use Rattle.maintenance.proofs.MergeLaws.{length_expired}
use Rattle.model.proofs.Laws.{all_merge}
use Rattle.drill_run.specs.Drill.{call_of, record_step, state_after, drill_rows, drill_actions}
use Rattle.drill_run.proofs.RecordLaws.{ProperRecord}

-- what a result lists: at most listed_replies replies, and listed_actions actions beside one for each of the R tombstone rows
pub record Answers (s : State) (o : Result) : Type 0 where
  pub replies : All ProperReply o.replies
  pub actions : All ProperAction o.actions
  pub replies_few : length o.replies ≤ listed_replies
  pub actions_few : length o.actions ≤ listed_actions + s.tombstone_rows

-- ---- lists

-- what a search finds, if anything, has the property
abbrev Of : {A : Type 0} → (A → Type 0) → Option A → Type 0
Of P None = Unit {0}
Of P (Some a) = P a

module _ {A : Type 0} {P : A → Type 0} where
  all_find : (q : A → Bool) (xs : List A) → All P xs → Of P (find q xs)
  unfolding find
  all_find q [] p = tt
  all_find q (x ∷ xs) (more h p) = go (q x) (all_find q xs p)
    where
      go : (b : Bool) → Of P (find q xs) → Of P (cond b (Some x) (find q xs))
      go true k = h
      go false k = k

-- at most one of each
flat_each : {A B : Type 0} {P : B → Type 0} (f : A → List B) → ((a : A) → All P (f a) × (length (f a) ≤ 1)) → (xs : List A)
    → All P (flat_map f xs) × (length (flat_map f xs) ≤ length xs)
unfolding flat_map
flat_each f e [] = (none, omega arith)
flat_each f e (x ∷ xs) =
    let rest = flat_each f e xs in (
      all_append (f x) (flat_map f xs) (e x).0 rest.0,
      omega (arith, length-append (f x) (flat_map f xs), (e x).1, rest.1),
    )

-- ---- rows

bytes_zeros : (n : ℕ) → Bytes (replicate n 0)
unfolding Bytes
bytes_zeros zero i = omega arith
bytes_zeros (suc n) zero = omega arith
bytes_zeros (suc n) (suc i) = bytes_zeros n i

bytes_one : (x : ℕ) → x < 256 → Bytes (x ∷ [])
bytes_one x h = subst Bytes (be_1 x h) (bytes_be 1 x)

put_proper : (slot : ℕ) → slot < 2 ^ 64 → ProperAction (put_courier slot)
put_proper slot h = record { kind = omega arith; number = h; msgno = omega arith }

delete_proper : (slot : ℕ) → slot < 2 ^ 64 → ProperAction (delete_courier slot)
delete_proper slot h = record { kind = omega arith; number = h; msgno = omega arith }

own_put_proper : (id : ContactId) (n : ℕ) → id.0 < 2 ^ 64 → n < 2 ^ 32 → ProperAction (put_queued id n)
own_put_proper id n h k = record { kind = omega arith; number = h; msgno = k }

code_small : (c : Custody) → custody_code c < 256
code_small custody.Accepted = omega arith
code_small custody.Full = omega arith
code_small custody.Duplicate = omega arith
code_small custody.Off = omega arith
code_small custody.Invalid = omega arith

custody_proper : (tag : List ℕ) (code : Custody) → Run 16 tag → ProperReply (custody_reply tag code)
custody_proper tag code p = record {
  kind = omega arith;
  cell = omega arith;
  body = record {
    size = omega (arith, length-append tag (custody_code code ∷ replicate 20 0), p.size);
    bytes = bytes_append tag (custody_code code ∷ replicate 20 0) p.bytes
        (bytes_append (custody_code code ∷ []) (replicate 20 0) (bytes_one (custody_code code) (code_small code)) (bytes_zeros 20));
  };
}

tomb_proper : (tag s : List ℕ) → Run 16 tag → Run 16 s → ProperReply (tomb_reply tag s)
tomb_proper tag s p q = record {
  kind = omega arith;
  cell = omega arith;
  body = record {
    size = omega (arith, length-append (tag ++ s) (replicate 5 0), length-append tag s, p.size, q.size);
    bytes = bytes_append (tag ++ s) (replicate 5 0) (bytes_append tag s p.bytes q.bytes) (bytes_zeros 5);
  };
}

-- an envelope that is held
abbrev ProperEnvelope : Envelope → Type 0
ProperEnvelope e = ProperHeader e.head

-- a reply's cell has two bytes
from_proper : (first cell : ℕ) → first ≤ max_cells → cell_from first cell < 2 ^ 16
from_proper first cell h = go (ltb cell max_cells) refl
  where
    go : (b : Bool) → ltb cell max_cells ≡ b → cond b (first + cell) no_cell < 2 ^ 16
    go true e = omega (arith, ltb-true cell max_cells e)
    go false e = omega arith

cell_proper : (cells : Cells) (cell : ℕ) → reply_cell cells cell < 2 ^ 16
cell_proper of_own cell = from_proper 0 cell (omega arith)
cell_proper of_carried cell = from_proper max_cells cell (omega arith)

header_run : (h : Header) → ProperHeader h → Run 37 (header_bytes h)
unfolding header_bytes
header_run h p =
    let front : List ℕ = h.tag ++ h.c in record {
      size = length_header h p.tag.size p.c.size;
      bytes = bytes_append (front ++ be 4 h.expiry_min) (h.copies ∷ [])
          (bytes_append front (be 4 h.expiry_min) (bytes_append h.tag h.c p.tag.bytes p.c.bytes) (bytes_be 4 h.expiry_min))
          (bytes_one h.copies p.copies);
    }

envelope_proper : (e : Envelope) → ProperEnvelope e → ProperReply (reply_for e)
envelope_proper e p = record { kind = omega arith; cell = cell_proper e.cells e.cell; body = header_run e.head p }

-- ---- what each call lists

module _ (s : State) where
  -- nothing
  silent : (a : Answer) (c : Change) → Answers s (result a [] [] c)
  silent a c = record { replies = none; actions = none; replies_few = omega arith; actions_few = omega arith }

  -- one reply
  replying : (a : Answer) (r : Reply) (c : Change) → ProperReply r → Answers s (result a (r ∷ []) [] c)
  replying a r c p = record { replies = more p none; actions = none; replies_few = omega arith; actions_few = omega arith }

  -- few actions
  acting : (a : Answer) (acts : List Action) (c : Change) → All ProperAction acts → length acts ≤ 3 → Answers s (result a [] acts c)
  acting a acts c p h = record { replies = none; actions = p; replies_few = omega arith; actions_few = omega arith }

  -- a refusal lists nothing
  answers_step : (ts : List (Bool × Refusal)) (r : Result) → Answers s r → Answers s (step_of ts r)
  unfolding step_of
  answers_step [] r p = p
  answers_step (t ∷ ts) r p = go t.0 (answers_step ts r p)
    where
      go : (b : Bool) → Answers s (step_of ts r) → Answers s (cond b (only (refused t.1)) (step_of ts r))
      go true k = silent (refused t.1) _
      go false k = k

module _ (s : State) (g : Good s) where
  -- ---- envelope

  envelope_answers : (peer : ContactId) (head : Header) (ct : List ℕ) → Run 16 head.tag → Answers s (receive_envelope s (window_rows []) peer head ct)
  unfolding receive_envelope ours_at answer_custody
  envelope_answers peer head ct p = go (lookup (window_rows []) head.tag) (custody_of s peer head (length ct))
    where
      code : (c : Custody) → Answers s (answer_custody s peer head ct c)
      code custody.Accepted = record {
        replies = more (custody_proper head.tag custody.Accepted p) none;
        actions = more (put_proper s.next_slot g.next_slot) none;
        replies_few = omega arith;
        actions_few = omega arith;
      }
      code custody.Full = replying s done (custody_reply head.tag custody.Full) _ (custody_proper head.tag custody.Full p)
      code custody.Duplicate = replying s done (custody_reply head.tag custody.Duplicate) _ (custody_proper head.tag custody.Duplicate p)
      code custody.Off = replying s done (custody_reply head.tag custody.Off) _ (custody_proper head.tag custody.Off p)
      code custody.Invalid = replying s done (custody_reply head.tag custody.Invalid) _ (custody_proper head.tag custody.Invalid p)

      go : (f : Option ℕ) (c : Custody) → Answers s (match_found f (λ i. ours_at (get_or (window_rows []) i no_reachable)) (answer_custody s peer head ct c))
      go (Some i) c = silent s _ _
      go None c = code c

  -- ---- fetch and inventory

  fetch_answers : (peer : ContactId) (tag : List ℕ) → Answers s (receive_fetch s peer tag)
  unfolding receive_fetch fetched
  fetch_answers peer tag = go (find (envelope_of_tag tag) (envelopes s.own s.carried peer)) (all_find (envelope_of_tag tag) (envelopes s.own s.carried peer) (envelopes_proper s g peer))
    where
      go : (o : Option Envelope) → Of ProperEnvelope o → Answers s (match_some o (fetched s) (only (done_with missing)))
      go None p = silent s (done_with missing) _
      go (Some e) p = replying s _ (reply_for e) _ (envelope_proper e p)

  -- the window is empty: nothing is fetched
  no_fetch : (peer : ContactId) (ps : List (List ℕ)) → flat_map (fetch_for s.bad_tags s.tombstones (window_rows []) peer) ps ≡ []
  unfolding flat_map fetch_for lookup window_rows table_of held rows position_from
  no_fetch peer [] = refl
  no_fetch peer (p ∷ ps) = no_fetch peer ps

  tomb_of_lem : (prefix : List ℕ) → All ProperReply (tomb_for s.tombstones prefix) × (length (tomb_for s.tombstones prefix) ≤ 1)
  unfolding tomb_for
  tomb_of_lem prefix = go (find (has_prefix prefix) s.tombstones) (all_find (has_prefix prefix) s.tombstones g.tombstones)
    where
      go : (o : Option Tombstone) → Of ProperTombstone o
          → All ProperReply (match_some o (λ t. tomb_reply t.tag t.s ∷ []) []) × (length (match_some o (λ (t : Tombstone). tomb_reply t.tag t.s ∷ []) []) ≤ 1)
      go None p = (none, omega arith)
      go (Some t) p = (more (tomb_proper t.tag t.s p.tag p.s) none, omega arith)

  offers_whole : (peer : ContactId) → All ProperReply (map reply_for (offers s peer))
  offers_whole peer = all_map reply_for (offers s peer) (all_imp envelope_proper (offers s peer) (offers_proper s g peer))

  terminator_answers : (peer : ContactId) → Answers s (answer_inventory s (window_rows []) peer)
  unfolding answer_inventory
  terminator_answers peer =
      let ps : List (List ℕ) = s.session.exchange.listed in
      let tombs : List Reply = flat_map (tomb_for s.tombstones) ps in
      let t : All ProperReply tombs × (length tombs ≤ length ps) = flat_each (tomb_for s.tombstones) tomb_of_lem ps in
      let shown : List Reply = map reply_for (offers s peer) in
      let fetches : List Reply = flat_map (fetch_for s.bad_tags s.tombstones (window_rows []) peer) ps in
      record {
        replies = all_append (fetches ++ tombs) shown
            (all_append fetches tombs (subst (All ProperReply) (sym (no_fetch peer ps)) none) t.0) (offers_whole peer);
        actions = none;
        replies_few = omega (
          arith,
          length-append (fetches ++ tombs) shown,
          length-append fetches tombs,
          ap (λ (l : List Reply). length l) (no_fetch peer ps),
          t.1,
          g.session.listed_few,
          length-map (offers s peer) reply_for,
          offers_few s g peer,
        );
        actions_few = omega arith;
      }

  inventory_answers : (peer : ContactId) (tags : List (List ℕ)) → Answers s (receive_inventory s (window_rows []) peer tags)
  unfolding receive_inventory list_more
  inventory_answers peer tags = go (too_many s.session.exchange (length tags)) (eqb (length tags) 0)
    where
      go : (m n : Bool) → Answers s (cond m (only malformed) (cond n (answer_inventory s (window_rows []) peer) (list_more s.session.exchange tags)))
      go true n = silent s malformed _
      go false true = terminator_answers peer
      go false false = silent s done _

  -- ---- custody code

  abbrev SmallSlot : Carried → Type 0
  SmallSlot r = r.slot < 2 ^ 64

  abbrev SmallOwn : Own → Type 0
  SmallOwn o = (o.contact.0 < 2 ^ 64) × (o.msgno < 2 ^ 32)

  slot_at : (i : ℕ) → (get_or s.carried i no_carried).slot < 2 ^ 64
  slot_at i = all_get_d {P = SmallSlot} s.carried i no_carried (all_imp (λ r p. p.slot) s.carried g.carried) (omega arith)

  own_small : (i : ℕ) → SmallOwn (get_or s.own i no_own)
  own_small i = all_get_d {P = SmallOwn} s.own i no_own (all_imp (λ o p. (p.contact, p.msgno)) s.own g.own) (omega arith, omega arith)

  own_put_at : (i : ℕ) → ProperAction (put_queued (get_or s.own i no_own).contact (get_or s.own i no_own).msgno)
  own_put_at i = own_put_proper (get_or s.own i no_own).contact (get_or s.own i no_own).msgno (own_small i).0 (own_small i).1

  handed_few : (tag : List ℕ) → All ProperAction (handed_actions s.own s.carried tag) × (length (handed_actions s.own s.carried tag) ≤ 3)
  unfolding handed_actions
  handed_few tag = go (position (carried_of_tag tag) s.carried) (position (own_of_tag tag) s.own)
    where
      listed : Option ℕ → Option ℕ → List Action
      listed c o =
          match_found c (λ i. put_courier (get_or s.carried i no_carried).slot ∷ [])
          (match_found o (λ i. put_queued (get_or s.own i no_own).contact (get_or s.own i no_own).msgno ∷ []) [])

      go : (c o : Option ℕ) → All ProperAction (listed c o) × (length (listed c o) ≤ 3)
      go (Some i) o = (more (put_proper (get_or s.carried i no_carried).slot (slot_at i)) none, omega arith)
      go None (Some i) = (more (own_put_at i) none, omega arith)
      go None None = (none, omega arith)

  custody_answers : (tag : List ℕ) (code : Custody) → Answers s (receive_custody s tag code)
  unfolding receive_custody settle
  custody_answers tag code = go (position (offer_of_tag tag) s.session.exchange.offered) code
    where
      go : (f : Option ℕ) (c : Custody) → Answers s (match_found f (settle s tag c) (only done))
      go (Some i) custody.Accepted = acting s done (handed_actions s.own s.carried tag) _ (handed_few tag).0 (handed_few tag).1
      go (Some i) custody.Full = silent s done _
      go (Some i) custody.Duplicate = silent s done _
      go (Some i) custody.Off = silent s done _
      go (Some i) custody.Invalid = silent s done _
      go None c = silent s done _

  -- ---- tomb

  abbrev SmallTomb : Tombstone → Type 0
  SmallTomb t = t.slot < 2 ^ 64

  evicted_few : All ProperAction (evicted s.tombstones) × (length (evicted s.tombstones) ≤ 1)
  unfolding evicted
  evicted_few = go (leb 1024 (length s.tombstones))
    where
      slot : ℕ
      slot = (get_or s.tombstones (least_expiry s.tombstones) no_tombstone).slot

      small : slot < 2 ^ 64
      small = all_get_d {P = SmallTomb} s.tombstones (least_expiry s.tombstones) no_tombstone (all_imp (λ t p. p.slot) s.tombstones g.tombstones) (omega arith)

      go : (b : Bool) → All ProperAction (cond b (delete_courier slot ∷ []) []) × (length (cond b (delete_courier slot ∷ []) []) ≤ 1)
      go true = (more (delete_proper slot small) none, omega arith)
      go false = (none, omega arith)

  -- room made, and a put
  put_few : (slot : ℕ) → slot < 2 ^ 64 → All ProperAction (evicted s.tombstones ++ (put_courier slot ∷ [])) × (length (evicted s.tombstones ++ (put_courier slot ∷ [])) ≤ 2)
  put_few slot small = (
    all_append (evicted s.tombstones) (put_courier slot ∷ []) evicted_few.0 (more (put_proper slot small) none),
    omega (arith, length-append (evicted s.tombstones) (put_courier slot ∷ []), evicted_few.1),
  )

  stored_few : (tag : List ℕ) → All ProperAction (store_actions s tag) × (length (store_actions s tag) ≤ 2)
  unfolding store_actions
  stored_few tag = go (tombstoned s.tombstones tag)
    where
      both : List Action
      both = evicted s.tombstones ++ (put_courier s.next_slot ∷ [])

      go : (b : Bool) → All ProperAction (cond b [] both) × (length (cond b [] both) ≤ 2)
      go true = (none, omega arith)
      go false = put_few s.next_slot g.next_slot

  tomb_answers : (tag secret : List ℕ) (met : Met) → Answers s (receive_tomb s tag secret met)
  unfolding receive_tomb turn end_own
  tomb_answers tag secret (carried_at i) =
      let few = put_few (get_or s.carried i no_carried).slot (slot_at i) in acting s done _ _ few.0 (omega (arith, few.1))
  tomb_answers tag secret (own_at i) =
      acting s done (put_queued (get_or s.own i no_own).contact (get_or s.own i no_own).msgno ∷ store_actions s tag) _ (more (own_put_at i) (stored_few tag).0)
      (omega (arith, (stored_few tag).1))
  tomb_answers tag secret wrong = silent s malformed _
  tomb_answers tag secret unknown = silent s done _

  -- ---- maintenance

  abbrev Small : ℕ → Type 0
  Small n = n < 2 ^ 64

  own_puts_lem : (minute : ℕ) → All ProperAction (own_puts minute s.own) × (length (own_puts minute s.own) ≤ 256)
  unfolding own_puts
  own_puts_lem minute =
      let due : List Own = filter (own_expired minute) s.own in (
        all_map (λ (o : Own). put_queued o.contact o.msgno) due
            (all_imp (λ o p. own_put_proper o.contact o.msgno p.contact p.msgno) due (all_filter (own_expired minute) s.own g.own)),
        omega (arith, length-map due (λ (o : Own). put_queued o.contact o.msgno), length_filter (own_expired minute) s.own, g.own_few),
      )

  expired_small : (minute : ℕ) → All Small (expired_slots minute s.carried s.tombstones)
  unfolding expired_slots
  expired_small minute =
      let cs : List Carried = filter (carried_expired minute) s.carried in
      let ts : List Tombstone = filter (tombstone_expired minute) s.tombstones in
      all_merge (λ (n : ℕ). n) (map (λ (r : Carried). r.slot) cs) (map (λ (t : Tombstone). t.slot) ts)
      (all_map (λ (r : Carried). r.slot) cs (all_imp (λ r p. p.slot) cs (all_filter (carried_expired minute) s.carried g.carried)))
      (all_map (λ (t : Tombstone). t.slot) ts (all_imp (λ t p. p.slot) ts (all_filter (tombstone_expired minute) s.tombstones g.tombstones)))

  maintenance_answers : Answers s (maintain_couriers s)
  unfolding maintain_couriers
  maintenance_answers =
      let m : ℕ = minute_of s in
      let gone : List ℕ = expired_slots m s.carried s.tombstones in
      record {
        replies = none;
        actions = all_append (own_puts m s.own) (map delete_courier gone) (own_puts_lem m).0
            (all_map delete_courier gone (all_imp delete_proper gone (expired_small m)));
        replies_few = omega arith;
        actions_few = omega (
          arith,
          length-append (own_puts m s.own) (map delete_courier gone),
          (own_puts_lem m).1,
          length-map gone delete_courier,
          length_expired m s.carried s.tombstones,
          g.carried_few,
          g.tombstones_fit,
        );
      }

  -- ---- every record

  call_answers : (r : Record) → ProperCall (call_of r) → Answers s (step s (call_of r))
  unfolding step tests perform set_clock set_contact open_exchanged set_config
  call_answers (log.clock seconds) h = answers_step s [] (set_clock seconds) (silent s done _)
  call_answers (log.contact id v) h = answers_step s (contact_tests s id) (set_contact s id v) (silent s done _)
  call_answers (log.session peer) h = answers_step s (open_exchange_tests s peer) (open_exchanged peer) (silent s done _)
  call_answers (log.envelope peer head ct) h =
      answers_step s (envelope_tests s reply_area drill_actions [] peer head (length ct)) (receive_envelope s (window_rows []) peer head ct) (envelope_answers peer head ct h.1.tag)
  call_answers (log.inventory peer listed) h =
      answers_step s (receive_inventory_tests s reply_area [] peer listed) (receive_inventory s (window_rows []) peer (prefix_rows listed)) (inventory_answers peer (prefix_rows listed))
  call_answers (log.fetch peer tag) h = answers_step s (fetch_tests s reply_area peer) (receive_fetch s peer tag) (fetch_answers peer tag)
  call_answers (log.custody peer tag code) h = answers_step s (custody_tests s drill_actions peer) (receive_custody s tag code) (custody_answers tag code)
  call_answers (log.tomb peer tag secret) h =
      answers_step s (tomb_tests s drill_actions peer tag (meets s.own s.carried tag secret)) (receive_tomb s tag secret (meets s.own s.carried tag secret))
      (tomb_answers tag secret (meets s.own s.carried tag secret))
  call_answers log.maintenance h = answers_step s (maintenance_tests s drill_actions) (maintain_couriers s) maintenance_answers
  call_answers (log.setting enabled copies lifetime) h = answers_step s (setting_tests copies lifetime) (set_config enabled copies lifetime) (silent s done _)

  pub record_answers : (r : Option Record) → ProperRecord r → Answers s (record_step s r)
  unfolding record_step
  record_answers None h = silent s (refused refusal.LogRecord) _
  record_answers (Some r) h = call_answers r h

-- a record leaves a state that is good
pub record_keeps : (s : State) → Good s → (r : Option Record) → ProperRecord r → Good (state_after s r)
unfolding state_after record_step apply
record_keeps s g None h = g
record_keeps s g (Some r) h = keeps s (call_of r) g h

-- ---- read off the answer areas

-- rows that were written into an area of at least their size are read back
back : {A : Type 0} {c : Codec A} {P : A → Type 0} (laws : CodecLaws c P) (a x : List ℕ) (ts : List A) → All P ts → x ≡ with_table c a ts
    → length ts * c.width ≤ length x → table_of c (length ts) x ≡ ts
back {c = c} laws a x ts p e h =
    ap (table_of c (length ts)) (e ∙ sym (with_over laws a ts ts p p (omega arith)) ∙ ap (λ (z : List ℕ). with_table c z ts) (sym e))
    ∙ table_with laws x ts p h

-- the areas hold 1,536 replies, and as many actions
module _ (s : State) (o : Result) (p : Answers s o) (r1024 : s.tombstone_rows ≡ drill_rows) (a x : List ℕ) where
  pub replies_back : x ≡ with_table reply_codec a o.replies → length x ≡ reply_area → table_of reply_codec (length o.replies) x ≡ o.replies
  replies_back e l = back reply_laws a x o.replies p.replies e (omega (arith, p.replies_few))

  pub actions_back : x ≡ with_table action_codec a o.actions → length x ≡ drill_actions → table_of action_codec (length o.actions) x ≡ o.actions
  actions_back e l = back action_laws a x o.actions p.actions e (omega (arith, p.actions_few))
