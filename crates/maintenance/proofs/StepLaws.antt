-- Laws of one step of the deletions: what the bytes of the two rows say, and the step that follows.
-- Assumes nothing.
use Rattle.std.proofs.Common.{◌≡◌, ℕ, ◌+◌, ◌*◌, ◌<◌, ◌≤◌, Bool, true, false, ◌&&◌, ltb, leb, List, ◌∷◌, map, length, drop, sym, ap, ◌∙◌, arith}
use Rattle.octets.specs.Bytes.{splice, part, num}
use Rattle.table.specs.Codec.{Codec, table_of}
use Rattle.table.specs.Tables.{rows_in}
use Rattle.table.proofs.TableLaws.{length_table, length_whole, table_next}
use Rattle.rows.specs.declared.Carried.{Carried}
use Rattle.rows.specs.declared.Tombstone.{Tombstone}
use Rattle.rows.specs.Rows.{carried_codec, carried_of, tombstone_codec, tombstone_of, action_bytes}
use Rattle.model.specs.Calls.{delete_courier}
use Rattle.model.specs.Maintenance.{carried_expired, tombstone_expired, expired_slots}
use Rattle.by_slot.specs.declared.held.Held.{Held}
use Rattle.by_slot.specs.BySlot.{TombstoneFirst}
use Rattle.by_slot.proofs.SlotLaws.{slot_of}
use Rattle.maintenance.specs.declared.Progress.{Progress}
use Rattle.maintenance.specs.Expiry.{live_row, Listed, Moving, Merging, Moved}
use Rattle.maintenance.proofs.TestLaws.{lives_yes, lives_no}
use Rattle.maintenance.proofs.MergeLaws.{pass_carried, pass_tombstone, first_carried, first_tombstone, merging_pass, merging_list, merging_end}

-- the rows from i on
row_next : {A : Type 0} (c : Codec A) (n : ℕ) (a : List ℕ) (i : ℕ) → i < length (table_of c n a)
    → drop i (table_of c n a) ≡ c.decode (part a (i * c.width) c.width) ∷ drop (i + 1) (table_of c n a)
row_next c n a i h = table_next c n a i (omega (arith, length_table c n a))

module _ (minute : ℕ) (h : Held) (t : Progress) (len : ℕ) (M : Moving h t len) where
  abbrev n : ℕ
  n = h.carried.count

  abbrev m : ℕ
  m = h.tombstones.count

  abbrev ca : List ℕ
  ca = h.carried.area.now

  abbrev ta : List ℕ
  ta = h.tombstones.area.now

  abbrev p : ℕ
  p = t.next.carried

  abbrev q : ℕ
  q = t.next.tombstones

  abbrev Cs : List Carried
  Cs = table_of carried_codec n ca

  abbrev Ts : List Tombstone
  Ts = table_of tombstone_codec m ta

  abbrev row : Carried
  row = carried_of (part ca (p * 57) 57)

  abbrev stone : Tombstone
  stone = tombstone_of (part ta (q * 44) 44)

  abbrev progress : ℕ → ℕ → ℕ → Progress
  progress i j k = record { next = record { carried = i; tombstones = j }; listed = k }

  lc : length Cs ≡ n
  lc = length_whole carried_codec n ca (omega arith) h.carried_fit

  lt : length Ts ≡ m
  lt = length_whole tombstone_codec m ta (omega arith) h.tombstones_fit

  ec : p < length Cs → drop p Cs ≡ row ∷ drop (p + 1) Cs
  ec = row_next carried_codec n ca p

  et : q < length Ts → drop q Ts ≡ stone ∷ drop (q + 1) Ts
  et = row_next tombstone_codec m ta q

  carried_is : {b : Bool} → leb (num (part (part ca (p * 57) 57) 48 4)) minute ≡ b → carried_expired minute row ≡ b
  unfolding carried_of
  carried_is e = e

  tombstone_is : {b : Bool} → leb (num (part (part ta (q * 44) 44) 40 4)) minute ≡ b → tombstone_expired minute stone ≡ b
  unfolding tombstone_of
  tombstone_is e = e

  slot_carried : row.slot ≡ num (part ca (p * 57) 8)
  unfolding carried_of
  slot_carried = slot_of ca (p * 57) 57 (omega arith)

  slot_tombstone : stone.slot ≡ num (part ta (q * 44) 8)
  unfolding tombstone_of
  slot_tombstone = slot_of ta (q * 44) 44 (omega arith)

  -- whether the rows live
  module _ {b : Bool} (lives : b ≡ (ltb p n && live_row 48 minute (part ca (p * 57) 57))) where
    pub step_carried : (x : List ℕ) → b ≡ true → Moved minute h x x t (progress (p + 1) q t.listed)
    step_carried x e =
        let y = lives_yes p n _ minute lives e in
        record {
          merging = λ ac k l I. merging_pass minute Cs Ts ac k x p q t.listed I (p + 1) q (omega arith) (omega (arith, y.0, lc)) I.right
              (pass_carried minute Cs Ts p q ec et (omega (arith, y.0, lc)) (carried_is y.1));
          further = omega arith;
        }

    module _ (dead : b ≡ false) {d : Bool} (stands : d ≡ (ltb q m && live_row 40 minute (part ta (q * 44) 44))) where
      pub step_tombstone : (x : List ℕ) → d ≡ true → Moved minute h x x t (progress p (q + 1) t.listed)
      step_tombstone x e =
          let y = lives_yes q m _ minute stands e in
          record {
            merging = λ ac k l I. merging_pass minute Cs Ts ac k x p q t.listed I p (q + 1) (omega arith) I.left (omega (arith, y.0, lt))
                (pass_tombstone minute Cs Ts p q ec et (omega (arith, y.0, lt)) (tombstone_is y.1));
            further = omega arith;
          }

      -- neither lives: the first by slot is listed
      module _ (gone : d ≡ false) {f : Bool} (F : TombstoneFirst h t.next (num (part ca (p * 57) 8)) (num (part ta (q * 44) 8)) f)
          (x y : List ℕ) (s : ℕ) (lx : length x ≡ len) (ey : y ≡ splice x (t.listed * 13) (action_bytes (delete_courier s))) where
        xc : p < length Cs → carried_expired minute row ≡ true
        xc h = carried_is (lives_no p n _ minute lives dead (omega (arith, lc)))

        xt : q < length Ts → tombstone_expired minute stone ≡ true
        xt h = tombstone_is (lives_no q m _ minute stands gone (omega (arith, lt)))

        room : (ac : List ℕ) → length ac ≡ length x → (t.listed + 1) * 13 ≤ length ac
        room ac l = omega (arith, l, lx, M.space, M.reached.more)

        pub list_tombstone : f ≡ true → s ≡ num (part ta (q * 44) 8) → Moved minute h x y t (progress p (q + 1) (t.listed + 1))
        list_tombstone e es =
            let w = F.tombstone e in
            record {
              merging = λ ac k l I. merging_list minute Cs Ts ac k x p q t.listed I p (q + 1) s y (omega arith) I.left (omega (arith, w.0, lt))
                  (first_tombstone minute Cs Ts p q ec et xc xt (omega (arith, w.0, lt))
                  (λ h. omega (arith, w.1 (omega (arith, lc)), slot_carried, slot_tombstone))
                  ∙ ap (λ (z : ℕ). z ∷ expired_slots minute (drop p Cs) (drop (q + 1) Ts)) (slot_tombstone ∙ sym es)) ey (room ac l);
              further = omega arith;
            }

        pub list_carried : f ≡ false → s ≡ num (part ca (p * 57) 8) → Moved minute h x y t (progress (p + 1) q (t.listed + 1))
        list_carried e es =
            let w = F.carried e in
            record {
              merging = λ ac k l I. merging_list minute Cs Ts ac k x p q t.listed I (p + 1) q s y (omega arith) (omega (arith, w.0, lc)) I.right
                  (first_carried minute Cs Ts p q ec et xc xt (omega (arith, w.0, lc))
                  (λ h. omega (arith, w.1 (omega (arith, lt)), slot_carried, slot_tombstone))
                  ∙ ap (λ (z : ℕ). z ∷ expired_slots minute (drop (p + 1) Cs) (drop q Ts)) (slot_carried ∙ sym es)) ey (room ac l);
              further = omega arith;
            }

-- how far the list is, and its end
module _ (minute : ℕ) (h : Held) (ac x : List ℕ) (k p q r : ℕ)
    (I : Merging minute (rows_in carried_codec h.carried) (rows_in tombstone_codec h.tombstones) ac k x p q r) where
  all_carried : length (rows_in carried_codec h.carried) ≡ h.carried.count
  all_carried = length_whole carried_codec h.carried.count h.carried.area.now (omega arith) h.carried_fit

  all_tombstones : length (rows_in tombstone_codec h.tombstones) ≡ h.tombstones.count
  all_tombstones = length_whole tombstone_codec h.tombstones.count h.tombstones.area.now (omega arith) h.tombstones_fit

  pub within : (p ≤ h.carried.count) × (q ≤ h.tombstones.count)
  within = (omega (arith, I.left, all_carried), omega (arith, I.right, all_tombstones))

  pub listed_all : h.carried.count + h.tombstones.count ≤ p + q
      → Listed ac k (map delete_courier (expired_slots minute (rows_in carried_codec h.carried) (rows_in tombstone_codec h.tombstones))) r x
  listed_all l = merging_end minute _ _ ac k x p q r I (omega (arith, all_carried, all_tombstones))
