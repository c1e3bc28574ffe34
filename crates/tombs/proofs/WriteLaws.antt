-- Laws of the rows that are written: a carried row turned tombstone, an own row ended.
-- Assumes nothing.
use Rattle.std.proofs.Common.{◌≡◌, ℕ, ◌+◌, ◌*◌, ◌<◌, ◌≤◌, Bool, true, false, cond, List, [], ◌∷◌, ◌++◌, length, get_or, sym, refl, ap, ◌∙◌, arith, Ok}
use Rattle.octets.specs.Bytes.{Bytes, part, splice}
use Rattle.table.specs.Lists.{remove_at}
use Rattle.table.specs.Rows.{held}
use Rattle.table.specs.Codec.{table_of, with_table, TableNow}
use Rattle.table.proofs.TableLaws.{get_d_table}
use Rattle.rows.specs.declared.Device.{Device}
use Rattle.rows.specs.declared.Own.{Own}
use Rattle.rows.specs.declared.Carried.{Carried}
use Rattle.rows.specs.declared.Tombstone.{Tombstone}
use Rattle.rows.specs.declared.Action.{Action}
use Rattle.rows.specs.Rows.{own_codec, own_of, carried_codec, carried_of, tombstone_codec, action_codec, action_bytes}
use Rattle.model.specs.State.{Change, nothing, own_now, carried_now, tombstones_now, next_slot_now, ◌and◌}
use Rattle.model.specs.Calls.{Result as Outcome, result, done, put_courier, put_queued}
use Rattle.model.specs.Exchange.{no_carried, no_own}
use Rattle.model.specs.Tombs.{tombstoned, remaining, evicted, insert_by_slot, turned, turn, end_own, store_tombstone, store_actions}
use Rattle.model.specs.Areas.{Areas, Written, view, store, store_device, store_session, bytes_after}
use Rattle.model.proofs.CallLaws.{answering_call}
use Rattle.model.specs.Lent.{actions_lent}
use Rattle.model.proofs.Laws.{one_listed, listed_behind}
use Rattle.model.proofs.RoomLaws.{length_by_slot}
use Rattle.answers.specs.declared.Said.TheVariants as said
use Rattle.answers.specs.Says.{says}
use Rattle.answers.proofs.Laws.{acted}
use Rattle.tombstones.specs.declared.Storing.{Storing}
use Rattle.tombstones.specs.Tombstones.{Reads, how_to_store, RoomMade, Stores, StoredAs}
use Rattle.tombstones.proofs.WriteLaws.{room_then, listed_then, number_then}
use Rattle.tombstones.proofs.CallLaws.{with_actions}
use Rattle.tombs.specs.Tombs.{held_lent, own_lent}

-- ---- a carried row turned

module _ (d : Device) (i : ℕ) (tag secret carried to ac : List ℕ) (a : Areas) (inside : i < held (length carried) 57 d.carried) where
  abbrev Tc : List Carried
  Tc = table_of carried_codec d.carried carried

  abbrev Tt : List Tombstone
  Tt = table_of tombstone_codec d.tombstones to

  abbrev B : Areas
  B = held_lent d carried to a

  abbrev turned_to : Carried → Tombstone → Outcome
  turned_to r t =
      result done [] (evicted Tt ++ (put_courier r.slot ∷ [])) (carried_now (remove_at i Tc) and tombstones_now (insert_by_slot t (remaining Tt)))

  pub turns : 26 ≤ length ac → {row : Carried} {t : Tombstone} {r : Device} {n m k : ℕ} {x y z v w : List ℕ} → row ≡ carried_of (part carried (i * 57) 57)
      → t ≡ turned row tag secret → Bytes x → Bytes z → TableNow carried_codec carried (remove_at i Tc) k y → RoomMade (record d { carried = k }) 0 to ac r n x v
      → TableNow tombstone_codec x (insert_by_slot t (table_of tombstone_codec r.tombstones x)) m z → w ≡ splice v (13 * n) (action_bytes (put_courier row.slot))
      → Written says (turn (view B) i tag secret) (Ok (said.Done (n + 1))) B (held_lent (record r { tombstones = m }) y z a) (actions_lent ac) (actions_lent w)
  unfolding view turn store store_device store_session
  turns long {row} {t} {m = m} er et bx bz M R N ew =
      let k : get_or Tc i no_carried ≡ row = get_d_table carried_codec d.carried carried i no_carried inside ∙ sym er in
      let put : Action = put_courier row.slot in
      let G = room_then R bx (insert_by_slot t) (λ ts. omega (arith, length_by_slot t ts)) bz N in
      let D = ap (λ (e : Device). record e { tombstones = m }) R.device ∙ (λ j. record d { carried = M.count j; tombstones = G.count j }) in
      answering_call (turned_to row t)
      ((λ j. turned_to (k j) (turned (k j) tag secret)) ∙ ap (turned_to row) (sym et))
      (ap (λ (c : ℕ). Ok (said.Done c)) (number_then R put))
      (λ j. held_lent (D j) (M.area j) (G.area j) a)
      (acted done (evicted Tt ++ (put ∷ [])) _ ac _ (listed_then R put ew (omega arith) long ∙ with_actions ac (evicted Tt ++ (put ∷ []))))

-- ---- an own row ended

module _ (d : Device) (i : ℕ) (how : Storing) (tag secret own to ac : List ℕ) (inside : i < held (length own) 54 d.own) (room : 39 ≤ length ac) (a : Areas) where
  abbrev To : List Own
  To = table_of own_codec d.own own

  abbrev O : Areas
  O = own_lent d own to a

  abbrev ended : Own → Outcome
  ended o = result done [] (put_queued o.contact o.msgno ∷ store_actions (view O) tag) (own_now (remove_at i To) and store_tombstone (view O) tag secret o.expiry_min)

  step_ends : {o : Own} → get_or To i no_own ≡ o → end_own (view O) i tag secret ≡ ended o
  unfolding view end_own
  step_ends e = ap ended e

  -- the device and the areas, whatever is stored
  abbrev c : Bool → List Tombstone → ℕ → Change
  c b ts n = cond b nothing (tombstones_now ts and next_slot_now n)

  abbrev without : ℕ → Device
  without n = record d { own = n }

  reads : (n : ℕ) → Reads (view O) (without n) to
  unfolding view
  reads n = record { tombstones = refl; next_slot = refl; rows = refl }

  by : (b : Bool) (ts : List Tombstone) (n : ℕ)
      → own_lent (store_device (without (length (remove_at i To))) (c b ts n)) (with_table own_codec own (remove_at i To)) (bytes_after tombstone_codec to (c b ts n).held.tombstones) a
      ≡ store O (own_now (remove_at i To) and c b ts n)
  unfolding store store_device store_session
  by true ts n = refl
  by false ts n = refl

  areas_ended : {at expiry k n : ℕ} {r : Device} {x y z w : List ℕ} → TableNow own_codec own (remove_at i To) n y
      → StoredAs (view O) (without n) tag secret expiry at to z r k x w → own_lent r y x a ≡ store O (own_now (remove_at i To) and store_tombstone (view O) tag secret expiry)
  unfolding store_tombstone
  areas_ended {expiry = expiry} N S =
      (λ j. own_lent (S.device j) (N.area j) (S.tombstones j) a)
      ∙ (λ j. own_lent (store_device (without (N.count j)) (store_tombstone (view O) tag secret expiry)) (with_table own_codec own (remove_at i To)) (bytes_after tombstone_codec to (store_tombstone (view O) tag secret expiry).held.tombstones) a)
      ∙ by (tombstoned (view O).tombstones tag) (remaining (view O).tombstones ++ _) ((view O).next_slot + 1)

  -- the action of the own row, and those of the tombstone behind it
  behind : {expiry k n : ℕ} {r : Device} {x z w : List ℕ} (p : Action) → z ≡ splice ac 0 (action_bytes p) → StoredAs (view O) (without n) tag secret expiry 13 to z r k x w → k ≤ 2
      → w ≡ with_table action_codec ac (p ∷ store_actions (view O) tag)
  behind {z = z} {w} p ez S few =
      let acts : List Action = store_actions (view O) tag in
      listed_behind (p ∷ []) acts ac z w 0 13 (one_listed p ac z 0 ez) S.actions refl (omega (arith, S.count, few)) ∙ with_actions ac (p ∷ acts)

  pub row_ends : how ≡ how_to_store (view O) tag → {row : Own} {r : Device} {k n : ℕ} {x y z w : List ℕ} → row ≡ own_of (part own (i * 54) 54)
      → z ≡ splice ac 0 (action_bytes (put_queued row.contact row.msgno)) → TableNow own_codec own (remove_at i To) n y
      → Stores how (without n) tag secret row.expiry_min 13 to z r k x w → k ≤ 2
      → Written says (end_own (view O) i tag secret) (Ok (said.Done (1 + k))) O (own_lent r y x a) (actions_lent ac) (actions_lent w)
  row_ends h {row} {k = k} er ez N S few =
      let D = S (view O) (reads _) h in
      let g : get_or To i no_own ≡ row = get_d_table own_codec d.own own i no_own inside ∙ sym er in
      let e : 1 + k ≡ length (put_queued row.contact row.msgno ∷ store_actions (view O) tag) = omega (arith, D.count) in
      answering_call (ended row) (step_ends g) (ap (λ (m : ℕ). Ok (said.Done m)) e) (areas_ended N D)
      (acted done _ _ ac _ (behind (put_queued row.contact row.msgno) ez D few))
