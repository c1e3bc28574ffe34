-- Each call does one of the things that `Effects` lists.
-- Assumes nothing.
pub use Rattle.std.proofs.lemmas.Bool.{and_parts as and_true}
use Rattle.std.proofs.Common.{◌≡◌, ℕ, ◌+◌, ◌-◌, ◌<◌, min, Bool, true, false, cond, not, ◌&&◌, eqb, ltb, leb, List, [], ◌∷◌, ◌++◌, length, get_or, sym, refl, ap, ◌∙◌, subst, arith, ltb-false, leb-false, leb-true, Option, Some, None}
use mathlib.Core.Bool.{false≢true}
use borrow.Author.Tests.{not-true, not-false}
use Rattle.courier_core.specs.declared.ContactId.{ContactId}
use Rattle.courier_core.specs.declared.Verification.{Verification}
use Rattle.courier_core.specs.declared.Refusal.{Refusal}
use Rattle.courier_core.specs.declared.Refusal.TheVariants as refusal
use Rattle.table.specs.Lists.{any, position, is_at, unwrap_or, remove_at, replace_at}
use Rattle.table.proofs.ListLaws.{all_each, all_imp}
use Rattle.table.proofs.FindLaws.{position_any, position_first, any_none}
use Rattle.chain.specs.declared.Dir.{Dir}
use Rattle.courier.specs.declared.Header.{Header}
use Rattle.courier.specs.declared.Custody.{Custody}
use Rattle.courier.specs.declared.Custody.TheVariants as custody
use Rattle.courier.specs.Courier.{envelope_valid}
use Rattle.courier.specs.Tags.{route_tag, commitment_of, tombstone_matches}
use Rattle.state.specs.Held.{held_row}
use Rattle.rows.specs.declared.Contact.{Contact}
use Rattle.rows.specs.declared.Own.{Own}
use Rattle.rows.specs.declared.Tombstone.{Tombstone}
use Rattle.rows.specs.declared.Action.{Action}
use Rattle.rows.specs.declared.Reply.{Reply}
use Rattle.rows.specs.declared.Reachable.{Reachable}
use Rattle.rows.specs.declared.BadTag.{BadTag}
use Rattle.rows.specs.declared.Offer.{Offer}
use Rattle.model.specs.Basics.{match_found, match_some, find}
use Rattle.model.specs.State.{State, Upd, keep, upd, Change, apply, nothing, own_now, carried_now, tombstones_now, bad_tags_now, next_slot_now, offered_now, ◌and◌, QueueChange, HeldChange, keep_queue, keep_held}
use Rattle.model.specs.Calls
use Rattle.model.specs.Calls.{Call, Result, result, refused, done, malformed, missing, no_envelope, only, step_of, done_with}
use Rattle.model.specs.Contacts.{minute_of, end_of, known, is_verified, contact_tests, set_contact, set_config, set_clock, open_exchanged, opened_for}
use Rattle.model.specs.Window.{no_reachable, lookup, window_rows, prefix_rows, is_bad}
use Rattle.model.specs.Cells.{free_cell, cells_used, new_cell}
use Rattle.model.specs.Custody.{own_of_tag, carried_of_tag, tombstone_of_tag, deposited, duplicate, full, custody_of, is_accepted, quota, carried_named, carry, accepts, ours_at, answer_custody, envelope_tests, receive_envelope}
use Rattle.model.specs.Exchange.{Envelope, envelopes, offer_of_tag, no_offer, no_carried, no_own, lowered, own_lowered, handed_over, handed_actions, settle, receive_custody, answer_inventory, list_more, too_many, receive_inventory, envelope_of_tag, fetched, receive_fetch, list_inventory}
use Rattle.model.specs.Tombs.{tombstoned, remaining, store_tombstone, store_actions, stored, Met, carried_at, own_at, wrong, unknown, meets, turn, end_own, receive_tomb, report_opened, report_failed}
use Rattle.model.specs.Own.{none_made, own_named, new_own, make_own, own_tests, own_envelope}
use Rattle.model.specs.Maintenance.{maintain_couriers}
use Rattle.model.specs.Saved.{Slotted, held_rows, writes, row_blob_of, save_held}
use Rattle.model.specs.Screen.{show_page}
use Rattle.model.specs.Step.{tests, perform, step}
use Rattle.model.proofs.KeepLaws.{Passed}
use Rattle.model.proofs.RefusalLaws.{of_passed}
use Rattle.model.proofs.KeepRows.{and_false, or_false, passed_all, valid_length}
use Rattle.history.specs.Life.{Role, code_for, contact_says, opens_exchange, lists_prefixes, other, role, offered_copies, handed_by}
use Rattle.history.proofs.Effects

-- ---- small facts

found_at : (f : Option ℕ) → not (is_at f) ≡ false → f ≡ Some (unwrap_or 0 f)
found_at (Some i) e = refl
found_at None e = absurd (false≢true (sym e))

either_way : (b : Bool) → ◌≡◌ {A = ℕ} (cond b 0 0) 0
either_way true = refl
either_way false = refl

-- a change of no table that the theorem speaks of
pub record Untouched (d : Change) : Type 0 where
  contacts : d.people.contacts ≡ keep
  queue : d.queue ≡ keep_queue
  held : d.held ≡ keep_held
  next_slot : d.next_slot ≡ keep

untouched : (d : Change) → d.people.contacts ≡ keep → d.queue ≡ keep_queue → d.held ≡ keep_held → d.next_slot ≡ keep → Untouched d
untouched d a b c e = record { contacts = a; queue = b; held = c; next_slot = e }

idle : Untouched nothing
idle = untouched nothing refl refl refl refl

-- nor of the offers
pub record Idle (d : Change) : Type 0 where
  pub tables : Untouched d
  pub offers : d.session.offered ≡ keep

idle_nothing : Idle nothing
idle_nothing = record { tables = idle; offers = refl }

module _ (s : State) where
  unhanded : (c : Call) (o : Result) → role c ≡ other → Effects.Unhanded s o (role c)
  unhanded c o e = all_each (λ r. ap (λ (ρ : Role). handed_by s o ρ r) e) s.carried

  rest_held : (c : Call) (o : Result) (h : HeldChange) (n : Upd ℕ) → h ≡ keep_held → n ≡ keep → Effects.Unhanded s o (role c)
      → Effects.HeldStep s o c (upd s.carried h.carried) (upd s.tombstones h.tombstones) (upd s.next_slot n) (upd s.carried_cells h.carried_cells)
  rest_held c o h n p q t = rw (p, q) (Effects.same t)

  rest_own : (q : QueueChange) → q ≡ keep_queue → Effects.OwnStep s (upd s.own q.own) (upd s.own_cells q.own_cells)
  rest_own q p = rw p Effects.same

  rest_contacts : (ρ : Role) (a : Upd (List Contact)) → a ≡ keep → Effects.Silent ρ → Effects.ContactStep s ρ (upd s.contacts a)
  rest_contacts ρ a p t = rw p (Effects.same t)

  at_rest : (c : Call) (o : Result) → Effects.Unhanded s o (role c) → Effects.Silent (role c) → Untouched o.change → Effects.Effect s c o
  unfolding apply
  at_rest c o h t u = record {
    held = rest_held c o o.change.held o.change.next_slot u.held u.next_slot h;
    own = rest_own o.change.queue u.queue;
    contacts = rest_contacts (role c) o.change.people.contacts u.contacts t;
  }

  quiet : (c : Call) (o : Result) → role c ≡ other → Untouched o.change → Effects.Effect s c o
  quiet c o e u = at_rest c o (unhanded c o e) (subst Effects.Silent (sym e) tt) u

  refused_unhanded : (why : Refusal) (ρ : Role) → Effects.Unhanded s (only (refused why)) ρ
  refused_unhanded why (code_for tag code) = all_each (λ r. refl) s.carried
  refused_unhanded why (contact_says id v) = all_each (λ r. refl) s.carried
  refused_unhanded why opens_exchange = all_each (λ r. refl) s.carried
  refused_unhanded why (lists_prefixes listed) = all_each (λ r. refl) s.carried
  refused_unhanded why other = all_each (λ r. refl) s.carried

  -- ---- contact

  contact_effect : (id : ContactId) (v : Verification) → Effects.Effect s (Calls.contact id v) (step_of (contact_tests s id) (set_contact s id v))
  unfolding step_of contact_tests set_contact apply
  contact_effect id v = go (not (known s.contacts id) && leb 256 (length s.contacts)) refl
    where
      go : (b : Bool) → (not (known s.contacts id) && leb 256 (length s.contacts)) ≡ b
          → Effects.Effect s (Calls.contact id v) (cond b (only (refused refusal.LogRecord)) (set_contact s id v))
      go true e =
          let q = and_true (not (known s.contacts id)) (leb 256 (length s.contacts)) e in
          record {
            held = Effects.same (all_each (λ r. refl) s.carried);
            own = Effects.same;
            contacts = Effects.shut id v (not-true (known s.contacts id) q.0) (leb-true 256 (length s.contacts) q.1);
          }
      go false e = record { held = Effects.same (all_each (λ r. refl) s.carried); own = Effects.same; contacts = Effects.puts id v e }

  -- ---- envelope

  module _ (replies actions : ℕ) (window : List ℕ) (peer : ContactId) (head : Header) (ct : List ℕ) where
    pub placed : known s.contacts peer ≡ true → cells_used (length s.carried_cells) (carried_named s) ≡ false
        → custody_of s peer head (length ct) ≡ custody.Accepted → Effects.Placed s peer head (length ct)
    unfolding custody_of full duplicate cells_used new_cell
    placed k u e =
        let q = passed_all s.courier.enabled (envelope_valid (length ct) head.copies head.expiry_min (minute_of s)) (duplicate s head.tag) (full s peer (length ct)) e in
        let f = or_false _ _ q.2 in
        record {
          peer_known = k;
          new = (or_false (any (own_of_tag head.tag) s.own) (any (carried_of_tag head.tag) s.carried) (or_false _ (any (tombstone_of_tag head.tag) s.tombstones) q.1).0).1;
          room = leb-false 256 (length s.carried) (or_false _ _ f.0).0;
          below = leb-false (quota (is_verified s.contacts peer)) (deposited s.carried peer) f.1;
          small = valid_length (length ct) head.copies head.expiry_min (minute_of s) q.0;
          cell = found_at (free_cell (length s.carried_cells) (carried_named s)) u;
        }

    c : Call
    c = Calls.envelope replies actions window peer head ct

    answer_effect : (f : Option ℕ) (code : Custody) → custody_of s peer head (length ct) ≡ code → lookup (window_rows window) head.tag ≡ f
        → known s.contacts peer ≡ true → (accepts s (window_rows window) peer head (length ct) && cells_used (length s.carried_cells) (carried_named s)) ≡ false
        → Effects.Effect s c (match_found f (λ i. ours_at (get_or (window_rows window) i no_reachable)) (answer_custody s peer head ct code))
    unfolding c ours_at answer_custody apply carry accepts
    answer_effect (Some i) code e l k u = quiet c (ours_at (get_or (window_rows window) i no_reachable)) refl idle
    answer_effect None custody.Accepted e l k u =
        let used : cells_used (length s.carried_cells) (carried_named s) ≡ false =
        and_false (not (is_at (lookup (window_rows window) head.tag)) && is_accepted (custody_of s peer head (length ct))) (cells_used (length s.carried_cells) (carried_named s)) (rw (e, l)) u in
        record { held = Effects.gave replies actions window peer head ct (placed k used e) refl; own = Effects.same; contacts = Effects.same tt }
    answer_effect None custody.Full e l k u = quiet c (answer_custody s peer head ct custody.Full) refl idle
    answer_effect None custody.Duplicate e l k u = quiet c (answer_custody s peer head ct custody.Duplicate) refl idle
    answer_effect None custody.Off e l k u = quiet c (answer_custody s peer head ct custody.Off) refl idle
    answer_effect None custody.Invalid e l k u = quiet c (answer_custody s peer head ct custody.Invalid) refl idle

    envelope_effect : Passed (envelope_tests s replies actions window peer head (length ct)) → Effects.Effect s (Calls.envelope replies actions window peer head ct) (receive_envelope s (window_rows window) peer head ct)
    unfolding c envelope_tests receive_envelope
    envelope_effect p =
        answer_effect (lookup (window_rows window) head.tag) (custody_of s peer head (length ct)) refl refl
        (not-false (known s.contacts peer) (or_false _ _ p.1.1.0).0) p.1.1.1.0

  -- ---- custody code

  module _ (actions : ℕ) (peer : ContactId) (tag : List ℕ) where
    abbrev offered : List Offer
    offered = s.session.exchange.offered

    abbrev code0 : Call
    code0 = Calls.custody_answer actions peer tag custody.Accepted

    -- no row has the tag
    absent : (o : Result) → o.answer ≡ done → any (carried_of_tag tag) s.carried ≡ false → Effects.Unhanded s o (code_for tag custody.Accepted)
    absent o d e = all_imp (λ r q. rw (d, q)) s.carried (any_none (carried_of_tag tag) s.carried e)

    settled : (acts : List Action) (j : ℕ) → position (offer_of_tag tag) offered ≡ Some j → (f h : Option ℕ) → position (carried_of_tag tag) s.carried ≡ f
        → position (own_of_tag tag) s.own ≡ h
        → Effects.Effect s code0 (result done [] acts (offered_now (remove_at j offered)
        and match_found f (λ i. carried_now (replace_at i (lowered (get_or offered j no_offer).copies (get_or s.carried i no_carried)) s.carried))
        (match_found h (λ i. own_now (replace_at i (own_lowered (get_or offered j no_offer).copies (get_or s.own i no_own)) s.own)) nothing)))
    unfolding apply
    settled acts j e (Some i) h p q =
        let n : offered_copies offered tag ≡ (get_or offered j no_offer).copies = rw e in
        record {
          held = subst (λ (k : ℕ). Effects.HeldStep s
              (result done [] acts (offered_now (remove_at j offered) and carried_now (replace_at i (lowered (get_or offered j no_offer).copies (get_or s.carried i no_carried)) s.carried))) code0
              (replace_at i (lowered k (get_or s.carried i no_carried)) s.carried) s.tombstones s.next_slot s.carried_cells) n
              (Effects.handed_on actions peer tag i p refl);
          own = Effects.same;
          contacts = Effects.same tt;
        }
    settled acts j e None (Some i) p q =
        let none-there : any (carried_of_tag tag) s.carried ≡ false = sym (position_any (carried_of_tag tag) 0 s.carried) ∙ ap is_at p in
        let o : Result = result done [] acts (offered_now (remove_at j offered) and own_now (replace_at i (own_lowered (get_or offered j no_offer).copies (get_or s.own i no_own)) s.own)) in
        record {
          held = Effects.same (absent o refl none-there);
          own = Effects.lowers i (get_or offered j no_offer).copies (position_first (own_of_tag tag) s.own no_own i q).inside;
          contacts = Effects.same tt;
        }
    settled acts j e None None p q =
        let none-there : any (carried_of_tag tag) s.carried ≡ false = sym (position_any (carried_of_tag tag) 0 s.carried) ∙ ap is_at p in
        let o : Result = result done [] acts (offered_now (remove_at j offered) and nothing) in
        record { held = Effects.same (absent o refl none-there); own = Effects.same; contacts = Effects.same tt }

    nods : (code : Custody) (o : Result) → is_accepted code ≡ false → Untouched o.change → o.answer ≡ done → Effects.Effect s (Calls.custody_answer actions peer tag code) o
    nods code o e u d = at_rest (Calls.custody_answer actions peer tag code) o (all_each (λ r. rw (d, e)) s.carried) tt u

    cleared : (j : ℕ) → Untouched (offered_now (remove_at j offered) and nothing)
    cleared j = untouched (offered_now (remove_at j offered) and nothing) refl refl refl refl

    code_effect : (code : Custody) → Effects.Effect s (Calls.custody_answer actions peer tag code) (receive_custody s tag code)
    unfolding receive_custody settle handed_over
    code_effect code = go (position (offer_of_tag tag) offered) refl code
      where
        go : (f : Option ℕ) → position (offer_of_tag tag) offered ≡ f → (code : Custody)
            → Effects.Effect s (Calls.custody_answer actions peer tag code) (match_found f (settle s tag code) (only done))
        go (Some j) e custody.Accepted = settled (handed_actions s.own s.carried tag) j e (position (carried_of_tag tag) s.carried) (position (own_of_tag tag) s.own) refl refl
        go (Some j) e custody.Full = nods custody.Full (settle s tag custody.Full j) refl (cleared j) refl
        go (Some j) e custody.Duplicate = nods custody.Duplicate (settle s tag custody.Duplicate j) refl (cleared j) refl
        go (Some j) e custody.Off = nods custody.Off (settle s tag custody.Off j) refl (cleared j) refl
        go (Some j) e custody.Invalid = nods custody.Invalid (settle s tag custody.Invalid j) refl (cleared j) refl
        go None e code = at_rest (Calls.custody_answer actions peer tag code) (only done)
            (all_each (λ r. ap (λ (n : ℕ). cond (is_accepted code && carried_of_tag tag r) n 0) (rw e) ∙ either_way (is_accepted code && carried_of_tag tag r)) s.carried) tt idle

  -- ---- tombstones

  module _ (c : Call) (e : role c ≡ other) (rs : List Reply) (acts : List Action) (tag secret : List ℕ) (expiry : ℕ) where
    abbrev new_tombstone : Tombstone
    new_tombstone = record { slot = s.next_slot; tag = tag; s = secret; expiry_min = expiry }

    abbrev store : Change
    store = tombstones_now (remaining s.tombstones ++ (new_tombstone ∷ [])) and next_slot_now (s.next_slot + 1)

    store_effect : Effects.Effect s c (result done rs acts (store_tombstone s tag secret expiry))
    unfolding store_tombstone apply
    store_effect = go (tombstoned s.tombstones tag)
      where
        go : (b : Bool) → Effects.Effect s c (result done rs acts (cond b nothing store))
        go true = quiet c (result done rs acts nothing) e idle
        go false = record {
          held = Effects.stored (unhanded c (result done rs acts store) e) new_tombstone refl;
          own = Effects.same;
          contacts = Effects.same (subst Effects.Silent (sym e) tt);
        }

    end_effect : (i : ℕ) → i < length s.own → Effects.Effect s c (result done rs acts (own_now (remove_at i s.own) and store_tombstone s tag secret expiry))
    unfolding store_tombstone apply
    end_effect i h = go (tombstoned s.tombstones tag)
      where
        go : (b : Bool) → Effects.Effect s c (result done rs acts (own_now (remove_at i s.own) and cond b nothing store))
        go true = record {
          held = Effects.same (unhanded c (result done rs acts (own_now (remove_at i s.own) and nothing)) e);
          own = Effects.removes i h;
          contacts = Effects.same (subst Effects.Silent (sym e) tt);
        }
        go false = record {
          held = Effects.stored (unhanded c (result done rs acts (own_now (remove_at i s.own) and store)) e) new_tombstone refl;
          own = Effects.removes i h;
          contacts = Effects.same (subst Effects.Silent (sym e) tt);
        }

  module _ (actions : ℕ) (peer : ContactId) (tag secret : List ℕ) where
    abbrev tombed : Call
    tombed = Calls.tomb actions peer tag secret

    abbrev met_at : Option ℕ → Option ℕ → Met
    met_at f h =
        match_found f (λ i. cond (tombstone_matches (get_or s.carried i no_carried).c secret) (carried_at i) wrong)
        (match_found h (λ i. cond (tombstone_matches (commitment_of (get_or s.own i no_own).s) secret) (own_at i) wrong) unknown)

    met_carried : (b : Bool) (i : ℕ) → tombstone_matches (get_or s.carried i no_carried).c secret ≡ b → position (carried_of_tag tag) s.carried ≡ Some i
        → Effects.Effect s tombed (receive_tomb s tag secret (cond b (carried_at i) wrong))
    unfolding receive_tomb turn apply
    met_carried true i m p = record { held = Effects.turns actions peer tag secret i p m refl; own = Effects.same; contacts = Effects.same tt }
    met_carried false i m p = quiet tombed (only malformed) refl idle

    met_own : (b : Bool) (i : ℕ) → i < length s.own → Effects.Effect s tombed (receive_tomb s tag secret (cond b (own_at i) wrong))
    unfolding receive_tomb end_own
    met_own true i h = end_effect tombed refl [] (Calls.put_queued (get_or s.own i no_own).contact (get_or s.own i no_own).msgno ∷ store_actions s tag) tag secret (get_or s.own i no_own).expiry_min i h
    met_own false i h = quiet tombed (only malformed) refl idle

    tomb_effect : Effects.Effect s tombed (receive_tomb s tag secret (meets s.own s.carried tag secret))
    unfolding meets receive_tomb
    tomb_effect = go (position (carried_of_tag tag) s.carried) (position (own_of_tag tag) s.own) refl refl
      where
        go : (f h : Option ℕ) → position (carried_of_tag tag) s.carried ≡ f → position (own_of_tag tag) s.own ≡ h
            → Effects.Effect s tombed (receive_tomb s tag secret (met_at f h))
        go (Some i) h e k = met_carried (tombstone_matches (get_or s.carried i no_carried).c secret) i refl e
        go None (Some i) e k = met_own (tombstone_matches (commitment_of (get_or s.own i no_own).s) secret) i (position_first (own_of_tag tag) s.own no_own i k).inside
        go None None e k = quiet tombed (only done) refl idle

  -- ---- own rows, maintenance

  maintenance_effect : (actions : ℕ) → Effects.Effect s (Calls.maintenance actions) (maintain_couriers s)
  unfolding maintain_couriers apply
  maintenance_effect actions = record { held = Effects.sweeps actions refl; own = Effects.maintains; contacts = Effects.same tt }

  module _ (id : ContactId) (msgno : ℕ) (key : List ℕ) (dir : Dir) (generation idx : ℕ) (secret ct : List ℕ) where
    abbrev new_row : Own
    new_row = new_own s id msgno (route_tag key dir generation idx) secret (length ct)

    abbrev adds : Call
    adds = Calls.add_own id msgno key dir generation idx secret ct

    own_effect : Passed (own_tests s id msgno (length ct)) → Effects.Effect s adds (own_envelope s id msgno key dir generation idx secret ct)
    unfolding own_tests own_envelope apply make_own new_own none_made cells_used new_cell
    own_effect p = go (none_made s.own (length ct)) refl
      where
        go : (b : Bool) → none_made s.own (length ct) ≡ b → Effects.Effect s adds (cond b (only (done_with no_envelope)) (make_own s new_row ct))
        go true e = quiet adds (only (done_with no_envelope)) refl idle
        go false e = record {
          held = Effects.same (all_each (λ r. refl) s.carried);
          own = Effects.makes new_row ct (record {
            contact_known = not-false (known s.contacts id) p.0;
            number_new = p.1.0;
            small = omega (arith, ltb-false 2048 (length ct - 16) (or_false (ltb 2048 (length ct - 16)) (leb 256 (length s.own)) e).0);
            cell = found_at (free_cell (length s.own_cells) (own_named s))
                (and_false (not (none_made s.own (length ct))) (cells_used (length s.own_cells) (own_named s)) (ap not e) p.1.1.1.0);
          }) refl;
          contacts = Effects.same tt;
        }

  -- ---- calls that change none of the tables

  pub fetch_idle : (peer : ContactId) (tag : List ℕ) → Idle (receive_fetch s peer tag).change
  unfolding receive_fetch fetched
  fetch_idle peer tag = go (find (envelope_of_tag tag) (envelopes s.own s.carried peer))
    where
      go : (x : Option Envelope) → Idle (match_some x (fetched s) (only (done_with missing))).change
      go None = idle_nothing
      go (Some e) = idle_nothing

  pub blob_idle : (slot : ℕ) → Idle (row_blob_of s slot).change
  unfolding row_blob_of
  blob_idle slot = go (find (λ (h : Slotted). eqb h.slot slot) (held_rows s))
    where
      go : (x : Option Slotted) → Idle (match_some x (λ h. writes (held_row h.held)) (only (done_with missing))).change
      go None = idle_nothing
      go (Some h) = idle_nothing

  pub failed_idle : (peer : ContactId) (tag : List ℕ) → Idle (report_failed s peer tag).change
  unfolding report_failed
  failed_idle peer tag = go (is_bad s.bad_tags peer tag)
    where
      new : BadTag
      new = record { peer = peer; tag = tag }

      go : (b : Bool) → Idle (cond b nothing (bad_tags_now (s.bad_tags ++ (new ∷ []))))
      go true = idle_nothing
      go false = record { tables = untouched (bad_tags_now (s.bad_tags ++ (new ∷ []))) refl refl refl refl; offers = refl }

  inventory_idle : (window : List Reachable) (peer : ContactId) (tags : List (List ℕ)) → Untouched (receive_inventory s window peer tags).change
  unfolding receive_inventory answer_inventory list_more
  inventory_idle window peer tags = go (too_many s.session.exchange (length tags)) (eqb (length tags) 0)
    where
      go : (a b : Bool) → Untouched (cond a (only malformed) (cond b (answer_inventory s window peer) (list_more s.session.exchange tags))).change
      go true b = idle
      go false true = untouched (answer_inventory s window peer).change refl refl refl refl
      go false false = untouched (list_more s.session.exchange tags).change refl refl refl refl

  -- ---- every call

  -- the first refusal that holds, or what the call performs
  by_tests : (c : Call) → Effects.Silent (role c) → (Passed (tests s c) → Effects.Effect s c (perform s c)) → Effects.Effect s c (step s c)
  unfolding step
  by_tests c q = of_passed (Effects.Effect s c) (tests s c) (perform s c) (λ why. at_rest c (only (refused why)) (refused_unhanded why (role c)) q idle)

  quietly : (c : Call) → role c ≡ other → Untouched (perform s c).change → Effects.Effect s c (step s c)
  quietly c e u = by_tests c (subst Effects.Silent (sym e) tt) (λ p. quiet c (perform s c) e u)

  pub effect : (c : Call) → Effects.Effect s c (step s c)
  unfolding step tests perform set_config set_clock open_exchanged opened_for list_inventory save_held show_page stored report_opened
  effect (Calls.contact id v) = contact_effect id v
  effect (Calls.setting enabled copies lifetime) =
      quietly (Calls.setting enabled copies lifetime) refl (untouched (set_config enabled copies lifetime).change refl refl refl refl)
  effect (Calls.clock seconds) = quietly (Calls.clock seconds) refl (untouched (set_clock seconds).change refl refl refl refl)
  effect (Calls.open_exchange peer) =
      let c : Call = Calls.open_exchange peer in
      by_tests c tt (λ p. at_rest c (perform s c) (all_each (λ r. refl) s.carried) tt (untouched (open_exchanged peer).change refl refl refl refl))
  effect (Calls.envelope replies actions window peer head ct) =
      by_tests (Calls.envelope replies actions window peer head ct) tt (envelope_effect replies actions window peer head ct)
  effect (Calls.inventory_received replies window peer listed) =
      let c : Call = Calls.inventory_received replies window peer listed in
      by_tests c tt (λ p. at_rest c (perform s c) (all_each (λ r. refl) s.carried) tt (inventory_idle (window_rows window) peer (prefix_rows listed)))
  effect (Calls.fetch replies peer tag) = quietly (Calls.fetch replies peer tag) refl (fetch_idle peer tag).tables
  effect (Calls.custody_answer actions peer tag code) = by_tests (Calls.custody_answer actions peer tag code) tt (λ p. code_effect actions peer tag code)
  effect (Calls.tomb actions peer tag secret) = by_tests (Calls.tomb actions peer tag secret) tt (λ p. tomb_effect actions peer tag secret)
  effect (Calls.opened replies actions peer tag secret expiry) =
      let c : Call = Calls.opened replies actions peer tag secret expiry in
      by_tests c tt (λ p. store_effect c refl (Calls.tomb_reply tag secret ∷ []) (store_actions s tag) tag secret (min expiry (end_of s)))
  effect (Calls.failed peer tag) = quietly (Calls.failed peer tag) refl (failed_idle peer tag).tables
  effect (Calls.stored_tombstone actions tag secret expiry) =
      let c : Call = Calls.stored_tombstone actions tag secret expiry in by_tests c tt (λ p. store_effect c refl [] (store_actions s tag) tag secret expiry)
  effect (Calls.add_own id msgno key dir generation idx secret ct) =
      by_tests (Calls.add_own id msgno key dir generation idx secret ct) tt (own_effect id msgno key dir generation idx secret ct)
  effect (Calls.maintenance actions) = by_tests (Calls.maintenance actions) tt (λ p. maintenance_effect actions)
  effect (Calls.inventory_of_ours prefixes peer) = quietly (Calls.inventory_of_ours prefixes peer) refl idle
  effect (Calls.row_blob blob slot) = quietly (Calls.row_blob blob slot) refl (blob_idle slot).tables
  effect (Calls.save file) = quietly (Calls.save file) refl idle
  effect (Calls.page area number) = quietly (Calls.page area number) refl idle
