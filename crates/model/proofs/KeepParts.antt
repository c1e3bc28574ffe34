-- What a call changes fits: carried rows, exchanges, tombstones, own rows.
-- Assumes nothing.
use Rattle.std.proofs.Common.{◌≡◌, ℕ, ◌+◌, ◌-◌, ◌*◌, ◌^◌, ◌<◌, ◌≤◌, Bool, true, false, cond, not, ◌&&◌, ltb, leb, List, [], ◌∷◌, ◌++◌, length, get_or, refl, arith, length-append, ltb-false, leb-false, Option, Some, None, map}
use native.Mathlib.Nat.{min-le_right}
use lib.ListN.{length-map}
use Rattle.octets.specs.Bytes.{splice}
use Rattle.courier_core.specs.declared.ContactId.{ContactId}
use Rattle.table.specs.Lists.{All, none, filter, position, is_at, unwrap_or, insert_at, remove_at, replace_at}
use Rattle.table.proofs.ListLaws.{length_insert_at, length_remove_at, length_replace_at, all_push, all_get, all_insert_at, all_remove_at, all_replace_at, all_filter, length_filter, all_map, all_imp, all_append}
use Rattle.table.proofs.FindLaws.{position_first, position_le}
use Rattle.courier.specs.declared.Header.{Header}
use Rattle.courier.specs.declared.Custody.{Custody}
use Rattle.courier.specs.declared.Custody.TheVariants as custody
use Rattle.courier.specs.Tags.{commitment_of, tombstone_matches}
use Rattle.courier.specs.Courier.{envelope_valid}
use Rattle.rows.specs.declared.Own.{Own}
use Rattle.rows.specs.declared.Carried.{Carried}
use Rattle.rows.specs.declared.Tombstone.{Tombstone}
use Rattle.rows.specs.declared.BadTag.{BadTag}
use Rattle.rows.specs.declared.Offer.{Offer}
use Rattle.rows.specs.declared.Reachable.{Reachable}
use Rattle.rows.specs.Proper.{Run, ProperOwn, ProperCarried, ProperTombstone}
use Rattle.model.specs.Basics.{match_found}
use Rattle.model.specs.State.{State, Change, keep, now, nothing, own_now, own_cells_now, carried_now, tombstones_now, bad_tags_now, next_slot_now, offered_now, ◌and◌}
use Rattle.model.specs.Calls.{only, done}
use Rattle.model.specs.Contacts.{end_of, minute_of}
use Rattle.model.specs.Custody.{own_of_tag, carried_of_tag, custody_of, duplicate, full, is_accepted, new_carried, carry, last_slot, carried_named, accepts, ours_at, answer_custody}
use Rattle.model.specs.Window.{no_reachable, lookup, is_bad}
use Rattle.model.specs.Exchange.{offers, offer_of_tag, no_offer, answer_inventory, list_more, too_many, no_carried, no_own, lowered, own_lowered, handed_over, settle, receive_custody}
use Rattle.model.specs.Tombs.{tombstoned, least_expiry, remaining, store_tombstone, no_row_to_store, no_slot_to_store, insert_by_slot, turned, turn, end_own, Met, carried_at, own_at, wrong, unknown, meets, receive_tomb, no_row_to_meet, no_slot_to_meet, report_failed}
use Rattle.model.specs.Own.{none_made, own_named, new_own, stands_after, insert_own, make_own}
use Rattle.model.specs.Maintenance.{own_expired, carried_expired, tombstone_expired, is_renewed, renew_expired, maintain_own, maintain_couriers}
use Rattle.model.specs.Good.{Good, ProperHeader, ProperTomb}
use Rattle.model.proofs.KeepLaws.{Few, Fits, kept_people, kept_queue, kept_session, fits_nothing, fits_people, fits_held, fits_session, fits_own, fits_own_cells, fits_carried, fits_tombstones, fits_slot, fits_offered, fits_if, fits_and}
use Rattle.model.proofs.KeepRows.{and_false, or_false, end_small, next_small, accepted, valid_length, cell_small, offers_proper, offers_few, inserted, renew_proper}

module _ (s : State) (g : Good s) where
  module _ (peer : ContactId) (head : Header) (ct : List ℕ) (h : (peer.0 < 2 ^ 64) × ProperHeader head) where
    fits_carry : custody_of s peer head (length ct) ≡ custody.Accepted → last_slot s ≡ false → Fits s (carry s peer head ct)
    unfolding custody_of full carry new_carried
    fits_carry e t =
        let q = accepted s.courier.enabled (envelope_valid (length ct) head.copies head.expiry_min (minute_of s)) (duplicate s head.tag) (full s peer (length ct)) e in
        let few : leb 256 (length s.carried) ≡ false = (or_false _ _ (or_false _ _ q.1).0).0 in
        let new : ProperCarried (new_carried s peer head (length ct)) = record {
          slot = g.next_slot;
          depositor = h.0;
          tag = h.1.tag;
          c = h.1.c;
          expiry_min = omega (arith, min-le_right head.expiry_min (end_of s), end_small s);
          copies = omega (arith, min-le_right head.copies s.courier.copies, g.copies);
          len = omega (arith, valid_length (length ct) head.copies head.expiry_min (minute_of s) q.0);
          cell = cell_small (length s.carried_cells) (carried_named s);
        } in
        let held : Few ProperCarried 256 (s.carried ++ (new_carried s peer head (length ct) ∷ [])) = (
          all_push s.carried (new_carried s peer head (length ct)) g.carried new,
          omega (arith, length-append s.carried (new_carried s peer head (length ct) ∷ []), leb-false 256 (length s.carried) few),
        ) in
        record {
          courier = tt;
          next_slot = next_small s.next_slot g.next_slot t;
          people = kept_people;
          queue = kept_queue;
          held = record { carried = held; tombstones = tt };
          session = kept_session;
          sessions = tt;
        }

    pub fits_answer : (window : List Reachable) (f : Option ℕ) (code : Custody) → lookup window head.tag ≡ f → custody_of s peer head (length ct) ≡ code
        → (accepts s window peer head (length ct) && last_slot s) ≡ false
        → Fits s (match_found f (λ i. ours_at (get_or window i no_reachable)) (answer_custody s peer head ct code)).change
    unfolding ours_at answer_custody accepts
    fits_answer window (Some i) code e k t = fits_nothing s
    fits_answer window None custody.Accepted e k t = fits_carry k
        (and_false (not (is_at (lookup window head.tag)) && is_accepted (custody_of s peer head (length ct))) (last_slot s) (rw (e, k)) t)
    fits_answer window None custody.Full e k t = fits_nothing s
    fits_answer window None custody.Duplicate e k t = fits_nothing s
    fits_answer window None custody.Off e k t = fits_nothing s
    fits_answer window None custody.Invalid e k t = fits_nothing s

  -- ---- inventory

  pub fits_terminator : (peer : ContactId) (window : List Reachable) → ltb s.session.offer_area 8704 ≡ false → Fits s (answer_inventory s window peer).change
  unfolding answer_inventory
  fits_terminator peer window t =
      let o = inserted (offers s peer) [] (offers_proper s g peer) none in
      fits_session s (answer_inventory s window peer).change.session (record {
        listed = (none, omega arith, omega arith);
        offered = (o.0, omega (arith, o.1, offers_few s g peer), omega (arith, o.1, offers_few s g peer, ltb-false s.session.offer_area 8704 t));
      })

  pub fits_listed : (tags : List (List ℕ)) → All (Run 8) tags → ltb s.session.prefix_area 4096 ≡ false
      → too_many s.session.exchange (length tags) ≡ false → Fits s (list_more s.session.exchange tags).change
  unfolding list_more too_many
  fits_listed tags p t m =
      let listed : List (List ℕ) = s.session.exchange.listed in
      let few : length listed + length tags ≤ 512 = ltb-false 512 (length listed + length tags) (or_false s.session.exchange.complete _ m).1 in
      fits_session s (list_more s.session.exchange tags).change.session (record {
        listed = (
          all_append listed tags g.session.listed p,
          omega (arith, length-append listed tags),
          omega (arith, length-append listed tags, ltb-false s.session.prefix_area 4096 t),
        );
        offered = tt;
      })

  -- ---- custody code

  lowered_proper : (n : ℕ) (r : Carried) → ProperCarried r → ProperCarried (lowered n r)
  unfolding lowered
  lowered_proper n r p = record { slot = p.slot; depositor = p.depositor; tag = p.tag; c = p.c; expiry_min = p.expiry_min; copies = omega (arith, p.copies); len = p.len; cell = p.cell }

  own_lowered_proper : (n : ℕ) (r : Own) → ProperOwn r → ProperOwn (own_lowered n r)
  unfolding own_lowered
  own_lowered_proper n r p = record { contact = p.contact; msgno = p.msgno; tag = p.tag; s = p.s; expiry_min = p.expiry_min; copies = omega (arith, p.copies); renewed = p.renewed; len = p.len; cell = p.cell }

  fits_handed : (tag : List ℕ) (n : ℕ) → Fits s (handed_over s.own s.carried tag n)
  unfolding handed_over
  fits_handed tag n = go (position (carried_of_tag tag) s.carried) (position (own_of_tag tag) s.own) refl refl
    where
      go : (f h : Option ℕ) → position (carried_of_tag tag) s.carried ≡ f → position (own_of_tag tag) s.own ≡ h
          → Fits s (match_found f (λ i. carried_now (replace_at i (lowered n (get_or s.carried i no_carried)) s.carried))
          (match_found h (λ i. own_now (replace_at i (own_lowered n (get_or s.own i no_own)) s.own)) nothing))
      go (Some i) h e k =
          let b : i < length s.carried = (position_first (carried_of_tag tag) s.carried no_carried i e).inside in
          let r : Carried = lowered n (get_or s.carried i no_carried) in
          fits_carried s (replace_at i r s.carried) (
            all_replace_at i r s.carried g.carried (lowered_proper n (get_or s.carried i no_carried) (all_get i s.carried no_carried g.carried b)),
            omega (arith, length_replace_at s.carried i r b, g.carried_few),
          )
      go None (Some i) e k =
          let b : i < length s.own = (position_first (own_of_tag tag) s.own no_own i k).inside in
          let r : Own = own_lowered n (get_or s.own i no_own) in
          fits_own s (replace_at i r s.own) (
            all_replace_at i r s.own g.own (own_lowered_proper n (get_or s.own i no_own) (all_get i s.own no_own g.own b)),
            omega (arith, length_replace_at s.own i r b, g.own_few),
          )
      go None None e k = fits_nothing s

  pub fits_custody : (tag : List ℕ) (code : Custody) → Fits s (receive_custody s tag code).change
  unfolding receive_custody settle
  fits_custody tag code = go (position (offer_of_tag tag) s.session.exchange.offered) refl
    where
      os : List Offer
      os = s.session.exchange.offered

      go : (f : Option ℕ) → position (offer_of_tag tag) os ≡ f → Fits s (match_found f (settle s tag code) (only done)).change
      go (Some i) e =
          let l : length (remove_at i os) ≡ length os - 1 = length_remove_at os i (position_first (offer_of_tag tag) os no_offer i e).inside in
          let handed : Change = handed_over s.own s.carried tag (get_or os i no_offer).copies in
          fits_and s (offered_now (remove_at i os)) (cond (is_accepted code) handed nothing)
          (fits_offered s (remove_at i os) (all_remove_at i os g.session.offered, omega (arith, g.session.offered_few), omega (arith, g.session.offered_fit)))
          (fits_if s (is_accepted code) handed nothing (fits_handed tag (get_or os i no_offer).copies) (fits_nothing s))
      go None e = fits_nothing s

  -- ---- tombstones

  remaining_proper : All ProperTombstone (remaining s.tombstones)
  unfolding remaining
  remaining_proper = go (leb 1024 (length s.tombstones))
    where
      go : (b : Bool) → All ProperTombstone (cond b (remove_at (least_expiry s.tombstones) s.tombstones) s.tombstones)
      go true = all_remove_at (least_expiry s.tombstones) s.tombstones g.tombstones
      go false = g.tombstones

  pub fits_store : (tag secret : List ℕ) (expiry : ℕ) → ProperTomb tag secret expiry → no_row_to_store s tag ≡ false → no_slot_to_store s tag ≡ false
      → Fits s (store_tombstone s tag secret expiry)
  unfolding store_tombstone no_row_to_store no_slot_to_store
  fits_store tag secret expiry p = go (tombstoned s.tombstones tag)
    where
      new : Tombstone
      new = record { slot = s.next_slot; tag = tag; s = secret; expiry_min = expiry }

      ts : List Tombstone
      ts = remaining s.tombstones

      go : (b : Bool) → (not b && leb s.tombstone_rows (length ts)) ≡ false → (not b && last_slot s) ≡ false
          → Fits s (cond b nothing (tombstones_now (ts ++ (new ∷ [])) and next_slot_now (s.next_slot + 1)))
      go true h k = fits_nothing s
      go false h k =
          fits_and s (tombstones_now (ts ++ (new ∷ []))) (next_slot_now (s.next_slot + 1))
          (fits_tombstones s (ts ++ (new ∷ [])) (
            all_push ts new remaining_proper (record { slot = g.next_slot; tag = p.0; s = p.1; expiry_min = p.2 }),
            omega (arith, length-append ts (new ∷ []), leb-false s.tombstone_rows (length ts) h),
          ))
          (fits_slot s (s.next_slot + 1) (next_small s.next_slot g.next_slot k))

  fits_turn : (i : ℕ) (tag secret : List ℕ) → Run 16 tag → Run 16 secret → i < length s.carried → leb s.tombstone_rows (length (remaining s.tombstones)) ≡ false
      → Fits s (turn s i tag secret).change
  unfolding turn insert_by_slot turned
  fits_turn i tag secret p q b t =
      let r : Carried = get_or s.carried i no_carried in
      let proper : ProperCarried r = all_get i s.carried no_carried g.carried b in
      let new : Tombstone = turned r tag secret in
      let at : ℕ = unwrap_or (length (remaining s.tombstones)) (position (λ (x : Tombstone). ltb r.slot x.slot) (remaining s.tombstones)) in
      fits_and s (carried_now (remove_at i s.carried)) (tombstones_now (insert_at at new (remaining s.tombstones)))
      (fits_carried s (remove_at i s.carried) (all_remove_at i s.carried g.carried, omega (arith, length_remove_at s.carried i b, g.carried_few)))
      (fits_tombstones s (insert_at at new (remaining s.tombstones)) (
        all_insert_at at new (remaining s.tombstones) remaining_proper (record { slot = proper.slot; tag = p; s = q; expiry_min = proper.expiry_min }),
        omega (
          arith,
          length_insert_at (remaining s.tombstones) at new (position_le (λ (x : Tombstone). ltb r.slot x.slot) (remaining s.tombstones)),
          leb-false s.tombstone_rows (length (remaining s.tombstones)) t,
        ),
      ))

  fits_end : (i : ℕ) (tag secret : List ℕ) → Run 16 tag → Run 16 secret → i < length s.own → no_row_to_store s tag ≡ false → no_slot_to_store s tag ≡ false
      → Fits s (end_own s i tag secret).change
  unfolding end_own
  fits_end i tag secret p q b t k =
      let o : Own = get_or s.own i no_own in
      fits_and s (own_now (remove_at i s.own)) (store_tombstone s tag secret o.expiry_min)
      (fits_own s (remove_at i s.own) (all_remove_at i s.own g.own, omega (arith, length_remove_at s.own i b, g.own_few)))
      (fits_store tag secret o.expiry_min (p, q, (all_get i s.own no_own g.own b).expiry_min) t k)

  module _ (tag secret : List ℕ) (p : Run 16 tag) (q : Run 16 secret) where
    -- what a tomb does to a row that it meets at i, if its secret is right
    met_carried : (b : Bool) (i : ℕ) → i < length s.carried → no_row_to_meet s tag (cond b (carried_at i) wrong) ≡ false
        → Fits s (receive_tomb s tag secret (cond b (carried_at i) wrong)).change
    unfolding receive_tomb no_row_to_meet
    met_carried true i h t = fits_turn i tag secret p q h t
    met_carried false i h t = fits_nothing s

    met_own : (b : Bool) (i : ℕ) → i < length s.own → no_row_to_meet s tag (cond b (own_at i) wrong) ≡ false → no_slot_to_meet s tag (cond b (own_at i) wrong) ≡ false
        → Fits s (receive_tomb s tag secret (cond b (own_at i) wrong)).change
    unfolding receive_tomb no_row_to_meet no_slot_to_meet
    met_own true i h t k = fits_end i tag secret p q h t k
    met_own false i h t k = fits_nothing s

    pub fits_tomb : no_row_to_meet s tag (meets s.own s.carried tag secret) ≡ false → no_slot_to_meet s tag (meets s.own s.carried tag secret) ≡ false
        → Fits s (receive_tomb s tag secret (meets s.own s.carried tag secret)).change
    unfolding meets receive_tomb
    fits_tomb = go (position (carried_of_tag tag) s.carried) (position (own_of_tag tag) s.own) refl refl
      where
        at : Option ℕ → Option ℕ → Met
        at f h =
            match_found f (λ i. cond (tombstone_matches (get_or s.carried i no_carried).c secret) (carried_at i) wrong)
            (match_found h (λ i. cond (tombstone_matches (commitment_of (get_or s.own i no_own).s) secret) (own_at i) wrong) unknown)

        go : (f h : Option ℕ) → position (carried_of_tag tag) s.carried ≡ f → position (own_of_tag tag) s.own ≡ h
            → no_row_to_meet s tag (at f h) ≡ false → no_slot_to_meet s tag (at f h) ≡ false → Fits s (receive_tomb s tag secret (at f h)).change
        go (Some i) h e k t u =
            met_carried (tombstone_matches (get_or s.carried i no_carried).c secret) i (position_first (carried_of_tag tag) s.carried no_carried i e).inside t
        go None (Some i) e k t u =
            met_own (tombstone_matches (commitment_of (get_or s.own i no_own).s) secret) i (position_first (own_of_tag tag) s.own no_own i k).inside t u
        go None None e k t u = fits_nothing s

  pub fits_failed : (peer : ContactId) (tag : List ℕ) → peer.0 < 2 ^ 64 → Run 16 tag
      → (not (is_bad s.bad_tags peer tag) && leb s.bad_tag_rows (length s.bad_tags)) ≡ false → Fits s (report_failed s peer tag).change
  unfolding report_failed
  fits_failed peer tag p q = go (is_bad s.bad_tags peer tag)
    where
      new : BadTag
      new = record { peer = peer; tag = tag }

      go : (b : Bool) → (not b && leb s.bad_tag_rows (length s.bad_tags)) ≡ false → Fits s (cond b nothing (bad_tags_now (s.bad_tags ++ (new ∷ []))))
      go true t = fits_nothing s
      go false t = fits_people s (bad_tags_now (s.bad_tags ++ (new ∷ []))).people (record {
        contacts = tt;
        bad_tags = (
          all_push s.bad_tags new g.bad_tags (record { peer = p; tag = q }),
          omega (arith, length-append s.bad_tags (new ∷ []), leb-false s.bad_tag_rows (length s.bad_tags) t),
        );
      })

  -- ---- own rows, maintenance

  pub fits_made : (id : ContactId) (msgno : ℕ) (tag secret ct : List ℕ) → (id.0 < 2 ^ 64) → (msgno < 2 ^ 32) → Run 16 secret → Run 16 tag
      → none_made s.own (length ct) ≡ false → Fits s (make_own s (new_own s id msgno tag secret (length ct)) ct).change
  unfolding make_own new_own insert_own none_made
  fits_made id msgno tag secret ct h k p q t =
      let new : Own = new_own s id msgno tag secret (length ct) in
      let at : ℕ = unwrap_or (length s.own) (position (stands_after s.contacts id msgno) s.own) in
      let small : (ltb 2048 (length ct - 16) ≡ false) × (leb 256 (length s.own) ≡ false) = or_false _ _ t in
      fits_and s (own_now (insert_at at new s.own)) (own_cells_now (splice s.own_cells (new.cell * 2064) ct))
      (fits_own s (insert_at at new s.own) (
        all_insert_at at new s.own g.own (record {
          contact = h;
          msgno = k;
          tag = q;
          s = p;
          expiry_min = end_small s;
          copies = g.copies;
          renewed = omega arith;
          len = omega (arith, ltb-false 2048 (length ct - 16) small.0);
          cell = cell_small (length s.own_cells) (own_named s);
        }),
        omega (arith, length_insert_at s.own at new (position_le (stands_after s.contacts id msgno) s.own), leb-false 256 (length s.own) small.1),
      ))
      (fits_own_cells s (splice s.own_cells (new.cell * 2064) ct))

  renewed_proper : (minute : ℕ) (o : Own) → ProperOwn o → ProperOwn (renew_expired minute s.courier.copies (end_of s) o)
  renewed_proper minute o = renew_proper minute o g.copies (end_small s)

  pub fits_maintained : Fits s (maintain_couriers s).change
  unfolding maintain_couriers maintain_own
  fits_maintained =
      let m : ℕ = minute_of s in
      let stays : Own → Bool = λ o. not (own_expired m o && is_renewed o) in
      let renew : Own → Own = renew_expired m s.courier.copies (end_of s) in
      let own : List Own = filter stays s.own in
      let live_carried : Carried → Bool = λ r. not (carried_expired m r) in
      let live_tombstone : Tombstone → Bool = λ t. not (tombstone_expired m t) in
      fits_and s (own_now (map renew own)) (carried_now (filter live_carried s.carried) and tombstones_now (filter live_tombstone s.tombstones))
      (fits_own s (map renew own) (
        all_map renew own (all_imp (renewed_proper m) own (all_filter stays s.own g.own)),
        omega (arith, length-map own renew, length_filter stays s.own, g.own_few),
      ))
      (fits_held s (record { carried = now (filter live_carried s.carried); tombstones = now (filter live_tombstone s.tombstones); carried_cells = keep }) (record {
        carried = (all_filter live_carried s.carried g.carried, omega (arith, length_filter live_carried s.carried, g.carried_few));
        tombstones = (
          all_filter live_tombstone s.tombstones g.tombstones,
          omega (arith, length_filter live_tombstone s.tombstones, g.tombstones_fit),
        );
      }))
