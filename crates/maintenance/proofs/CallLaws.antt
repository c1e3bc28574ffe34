-- Laws of the call maintenance: refused, or performed.
-- Assumes nothing.
use Rattle.std.proofs.Common.{◌≡◌, ℕ, ◌+◌, ◌*◌, ◌/◌, ◌<◌, ◌≤◌, not, List, [], ◌++◌, map, length, sym, refl, ap, ◌∙◌, ap₂, Ok, Err, arith, le-ltb, lt-ltb}
use lib.ListN.{length-map}
use Rattle.octets.specs.Bytes.{splice}
use Rattle.courier_core.specs.declared.Refusal.TheVariants as refusal
use Rattle.table.specs.Lists.{filter}
use Rattle.table.specs.Rows.{held, join, written}
use Rattle.table.specs.declared.lent.Table.{Table}
use Rattle.table.specs.Codec.{table_of, with_table, TableNow}
use Rattle.table.specs.Tables.{rows_in}
use Rattle.by_slot.specs.declared.held.Held.{Held}
use Rattle.by_slot.specs.BySlot.{Fitted}
use Rattle.by_slot.proofs.SlotLaws.{carried_fitted, tombstones_fitted}
use Rattle.table.proofs.ListLaws.{length_filter}
use Rattle.table.proofs.RowLaws.{held_le}
use Rattle.table.proofs.TableLaws.{length_table}
use Rattle.rows.specs.declared.Device.{Device}
use Rattle.rows.specs.declared.Own.{Own}
use Rattle.rows.specs.declared.Carried.{Carried}
use Rattle.rows.specs.declared.Tombstone.{Tombstone}
use Rattle.rows.specs.declared.Action.{Action}
use Rattle.rows.specs.Rows.{own_codec, carried_codec, tombstone_codec, tombstone_width}
use Rattle.rows.specs.Limits.{max_own, own_area, carried_area, action_area}
use Rattle.model.specs.State.{own_now, carried_now, tombstones_now, ◌and◌}
use Rattle.model.specs.Calls.{Call, Result as Outcome, result, done, maintenance, delete_courier}
use Rattle.model.specs.Contacts.{now_min, lifetime_end}
use Rattle.model.specs.Maintenance.{own_expired, carried_expired, tombstone_expired, maintain_own, own_puts, expired_slots, maintenance_tests, maintain_couriers}
use Rattle.model.specs.Step.{tests, perform, step}
use Rattle.model.specs.Areas.{Areas, Written, view, store, store_device, store_session, answer_areas}
use Rattle.model.proofs.CallLaws.{refused_here, not_here, no_test, refused_call, answering_call}
use Rattle.model.specs.Lent.{actions_lent}
use Rattle.maintenance.specs.Expiry.{Listed, own_put, Rewritten, maintained_of, lent_tables}
use Rattle.maintenance.proofs.ListedLaws.{listed_front}
use Rattle.maintenance.proofs.MergeLaws.{length_expired}

-- deletions of the held rows that fit are those of the tables by the counts that were given
pub listed_held : {T : Table 57} {U : Table 44} {h : Held} → Fitted T U h → (minute : ℕ) {ac x : List ℕ} {k m : ℕ}
    → Listed ac k (map delete_courier (expired_slots minute (rows_in carried_codec h.carried) (rows_in tombstone_codec h.tombstones))) m x
    → Listed ac k (map delete_courier (expired_slots minute (rows_in carried_codec T) (rows_in tombstone_codec U))) m x
listed_held F minute L = rw (carried_fitted F, tombstones_fitted F) at L

-- ---- room for the actions: own rows, carried rows, R tombstones

puts_few : (own : List ℕ) (count minute k : ℕ) {ac x : List ℕ} → length own ≡ own_area → Listed ac 0 (own_puts minute (table_of own_codec count own)) k x → k ≤ max_own
unfolding own_puts
puts_few own count minute k l L =
    let T : List Own = table_of own_codec count own in
    omega (
      arith,
      l,
      L.count,
      length-map (filter (own_expired minute) T) own_put,
      length_filter (own_expired minute) T,
      length_table own_codec count own,
      (held_le (length own) 54 count).1,
    )

module _ (own ta : List ℕ) (co len : ℕ) (lo : length own ≡ own_area) (long : action_area (length ta / tombstone_width) ≤ len) where
  pub own_room : held (length own) 54 co * 13 ≤ len
  own_room = omega (arith, lo, (held_le (length own) 54 co).1)

  module _ (ca : List ℕ) (cc ct minute : ℕ) {ac x : List ℕ} {k : ℕ} (lc : length ca ≡ carried_area) (L : Listed ac 0 (own_puts minute (table_of own_codec co own)) k x) where
    pub held_room : (k + (held (length ca) 57 cc + held (length ta) 44 ct)) * 13 ≤ len
    held_room = omega (arith, lc, puts_few own co minute k lo L, (held_le (length ca) 57 cc).1, (held_le (length ta) 44 ct).1)

    pub listed_room : {y : List ℕ} {m : ℕ} → Listed x k (map delete_courier (expired_slots minute (table_of carried_codec cc ca) (table_of tombstone_codec ct ta))) m y → m * 13 ≤ len
    listed_room M =
        let S : List ℕ = expired_slots minute (table_of carried_codec cc ca) (table_of tombstone_codec ct ta) in
        omega (
          arith,
          held_room,
          M.count,
          length-map S delete_courier,
          length_expired minute (table_of carried_codec cc ca) (table_of tombstone_codec ct ta),
          length_table carried_codec cc ca,
          length_table tombstone_codec ct ta,
        )

-- ---- the ways out

module _ (d : Device) (own carried tombstones ac : List ℕ) (a : Areas) where
  abbrev B : Areas
  B = lent_tables d own carried tombstones a

  abbrev C : Call
  C = maintenance (length ac)

  abbrev R : ℕ
  R = length tombstones / 44

  pub says_short : length ac < action_area R
      → Written maintained_of (step (view B) C) (Err refusal.ShortArea) B B (actions_lent ac) (actions_lent ac)
  unfolding step tests perform maintenance_tests view
  says_short h = refused_call refusal.ShortArea (refused_here _ _ _ (lt-ltb (length ac) (13 * (512 + R)) h)) refl refl

  abbrev To : List Own
  To = table_of own_codec d.own own

  abbrev Tc : List Carried
  Tc = table_of carried_codec d.carried carried

  abbrev Tt : List Tombstone
  Tt = table_of tombstone_codec d.tombstones tombstones

  -- what is performed at a minute, and with the end of a lifetime
  module _ (minute end : ℕ) where
    abbrev own' : List Own
    own' = maintain_own minute d.courier.copies end To

    abbrev carried' : List Carried
    carried' = filter (λ (r : Carried). not (carried_expired minute r)) Tc

    abbrev tombstones' : List Tombstone
    tombstones' = filter (λ (t : Tombstone). not (tombstone_expired minute t)) Tt

    abbrev acts : List Action
    acts = own_puts minute To ++ map delete_courier (expired_slots minute Tc Tt)

    abbrev performed : Outcome
    performed = result done [] acts (own_now own' and carried_now carried' and tombstones_now tombstones')

  module _ (long : action_area R ≤ length ac) {minute end : ℕ} (em : minute ≡ now_min d.now_s) (ee : end ≡ lifetime_end d.now_s d.courier) where
    stepped : step (view B) C ≡ performed minute end
    unfolding step tests perform maintenance_tests maintain_couriers view
    stepped = not_here _ _ _ (le-ltb (length ac) (13 * (512 + R)) long) (no_test _) ∙ ap₂ performed (sym em) (sym ee)

    pub says_done : {listed n m o : ℕ} {y u v w : List ℕ} → Listed ac 0 (acts minute end) listed y
        → Rewritten own_codec own (own' minute end) n u → TableNow carried_codec carried (carried' minute end) m v
        → TableNow tombstone_codec tombstones (tombstones' minute end) o w
        → Written maintained_of (step (view B) C) (Ok listed) B (lent_tables (record d { own = n; carried = m; tombstones = o }) u v w a) (actions_lent ac) (actions_lent y)
    unfolding store store_device store_session answer_areas with_table written join splice
    says_done {y = y} {u = u} {v = v} {w = w} A O N Q =
        answering_call (performed minute end) stepped (ap Ok (omega (arith, A.count)))
        (λ j. lent_tables (record d { own = O.count j; carried = N.count j; tombstones = Q.count j }) (O.area j) (N.area j) (Q.area j) a)
        (ap actions_lent (listed_front (acts minute end) A))
