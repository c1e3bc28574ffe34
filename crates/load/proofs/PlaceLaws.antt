-- Laws of rows that stand by slot: the place of one more is found from the end, and they stand so with it.
-- Assumes nothing.
use Rattle.std.proofs.Common.{◌≡◌, ℕ, zero, suc, ◌-◌, ◌*◌, ◌<◌, ◌≤◌, Bool, true, false, ltb, List, [], ◌∷◌, length, get_or, drop, sym, refl, ap, ◌∙◌, subst, add-zero, add-one, arith, ltb-false, ltb-true, le-ltb, lt-ltb, Option, Some, None}
use Rattle.octets.specs.Bytes.{part, num}
use Rattle.octets.proofs.Parts.{part_part}
use Rattle.table.specs.Lists.{position_from, position, unwrap_or}
use Rattle.table.specs.Rows.{rows}
use Rattle.table.specs.Codec.{Codec, TableNow}
use Rattle.table.proofs.ListLaws.{all_each, all_get}
use Rattle.table.proofs.TableLaws.{get_d_table}
use Rattle.state.specs.Held.{Held, held_decode}
use Rattle.state.specs.Held as held
use Rattle.model.specs.Basics.{match_some}
use Rattle.history.specs.Order.{Sorted, next}
use Rattle.history.proofs.SortedLaws.{sorted_insert}
use Rattle.load.specs.Load.{insert_by, carried_slot, tombstone_slot, carried_row, tombstone_row, Rows, load_held, load_record}
use Rattle.load.specs.Laying.{higher, SlotsAscend, BySlot}
use Rattle.load.proofs.InsertLaws.{slot_next, slot_end}

-- ---- the place

module _ (w n : ℕ) (a : List ℕ) (slot : ℕ) where
  -- every row from i on is of a higher slot
  abbrev pub Above : ℕ → Type 0
  Above i = (j : ℕ) → i ≤ j → j < n → slot < num (part a (j * w) 8)

  module _ (wide : 8 ≤ w) where
    module _ (i : ℕ) (h : i ≤ n) (A : Above i) (below : (j : ℕ) → j < i → num (part a (j * w) 8) ≤ slot) where
      passed : (k : ℕ) → k ≤ i → position (higher slot) (rows w n a) ≡ position_from k (higher slot) (drop k (rows w n a))
      passed zero l = refl
      passed (suc k) l =
          subst (λ (m : ℕ). position (higher slot) (rows w n a) ≡ position_from m (higher slot) (drop m (rows w n a))) (add-one k)
          (passed k (omega arith)
          ∙ slot_next w n a slot k (num (part a (k * w) 8)) false wide (omega arith) refl (le-ltb slot (num (part a (k * w) 8)) (below k (omega arith))))

      pub split_place : i ≡ unwrap_or n (position (higher slot) (rows w n a))
      split_place = go (ltb i n) refl
        where
          go : (b : Bool) → ltb i n ≡ b → i ≡ unwrap_or n (position (higher slot) (rows w n a))
          go true e =
              let k = ltb-true i n e in
              sym (ap (unwrap_or n) (passed i (omega arith)
              ∙ slot_next w n a slot i (num (part a (i * w) 8)) true wide k refl (lt-ltb slot (num (part a (i * w) 8)) (A i (omega arith) k))))
          go false e =
              let k = ltb-false i n e in
              let q : i ≡ n = omega arith in
              q ∙ sym (ap (unwrap_or n) (passed i (omega arith) ∙ slot_end w n a slot i (omega arith)))

    pub place_end : Above 0 → 0 ≡ unwrap_or n (position (higher slot) (rows w n a))
    place_end A = split_place 0 (omega arith) A (λ j k. absurd (omega arith))

    pub place_here : SlotsAscend w n a → {i : ℕ} → 0 < i → i ≤ n → Above i → num (part a ((i - 1) * w) 8) ≤ slot → i ≡ unwrap_or n (position (higher slot) (rows w n a))
    unfolding SlotsAscend
    place_here R {i} z h A t = split_place i h A (λ j k. omega (arith, R j (i - 1) (omega arith) (omega arith), t))

-- ---- rows by slot

sorted_get : {A : Type 0} {R : A → A → Type 0} (ts : List A) (d : A) → Sorted R ts → (i j : ℕ) → i < j → j < length ts → R (get_or ts i d) (get_or ts j d)
sorted_get [] d s i j h k = absurd (omega arith)
sorted_get (x ∷ xs) d s zero zero h k = absurd (omega arith)
sorted_get (x ∷ xs) d s (suc i) zero h k = absurd (omega arith)
sorted_get (x ∷ xs) d (next a s) zero (suc j) h k = all_get j xs d a (omega arith)
sorted_get (x ∷ xs) d (next a s) (suc i) (suc j) h k = sorted_get xs d s i j (omega arith) (omega arith)

module _ {A : Type 0} (key : A → ℕ) where
  -- those of a table, as bytes
  pub ascend_table : {c : Codec A} → ((b : List ℕ) → num (part b 0 8) ≡ key (c.decode b)) → 8 ≤ c.width → {a x : List ℕ} {ts : List A} {m : ℕ}
      → TableNow c a ts m x → Sorted (λ (r s : A). key r ≤ key s) ts → SlotsAscend c.width m x
  unfolding SlotsAscend
  ascend_table {c} same wide {a} {x} {ts} {m} T S i j h k = go (ltb i j) refl
    where
      read : (l : ℕ) → l < m → num (part x (l * c.width) 8) ≡ key (get_or ts l (c.decode []))
      read l q =
          ap num (sym (part_part x (l * c.width) c.width 0 8 (omega arith) ∙ ap (λ (y : ℕ). part x y 8) (add-zero (l * c.width))))
          ∙ same (part x (l * c.width) c.width)
          ∙ ap key (sym (get_d_table c m x l (c.decode []) (omega (arith, T.fits))) ∙ ap (λ (us : List A). get_or us l (c.decode [])) T.table)

      go : (b : Bool) → ltb i j ≡ b → num (part x (i * c.width) 8) ≤ num (part x (j * c.width) 8)
      go true e =
          let f = ltb-true i j e in
          omega (arith, read i (omega arith), read j k, sorted_get ts (c.decode []) S i j f (omega (arith, T.count)))
      go false e = let q : i ≡ j = omega (arith, ltb-false i j e) in omega (arith, ap (λ (y : ℕ). num (part x (y * c.width) 8)) q)

  -- with one more
  by_insert : (t : A) (ts : List A) → Sorted (λ (r s : A). key r ≤ key s) ts → Sorted (λ (r s : A). key r ≤ key s) (insert_by key t ts)
  unfolding insert_by
  by_insert t ts s =
      sorted_insert (λ (r : A). ltb (key t) (key r)) t ts (λ a b c p q. omega (arith, p, q)) (all_each (λ r e. ltb-false (key t) (key r) e) ts)
      (all_each (λ r e. omega (arith, ltb-true (key t) (key r) e)) ts) s

pub by_slot_lem : (l : Rows) (b : List ℕ) → BySlot l → BySlot (load_record l b)
unfolding load_record load_held
by_slot_lem l b S = go (held_decode (drop 12 b))
  where
    go : (d : Option Held) → BySlot (match_some d (λ (h : Held). load_held l (num (part b 2 8)) h) l)
    go None = S
    go (Some (held.carried r ct)) = record { carried = by_insert carried_slot (carried_row (num (part b 2 8)) (length ct) (length l.carried) r) l.carried S.carried; tombstones = S.tombstones }
    go (Some (held.tombstone t)) = record { carried = S.carried; tombstones = by_insert tombstone_slot (tombstone_row (num (part b 2 8)) t) l.tombstones S.tombstones }
