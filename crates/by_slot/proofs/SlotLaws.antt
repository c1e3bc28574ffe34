-- Laws of the rows by slot: the first of two lists that are merged, and what is left behind the next row.
-- Assumes nothing.
use mathlib.Core.Path.{◌≡◌, refl, sym, ap, ap₂, ◌∙◌}
use mathlib.Core.Bool.{Bool, true, false}
use mathlib.Core.List.{List, [], ◌∷◌, map}
use Prim.Native.Nat.{ℕ, ◌+◌, ◌*◌, ◌≤◌, ◌<◌}
use native.Mathlib.Nat.{add-zero}
use native.Mathlib.Omega.{arith}
use lib.ListN.{length, drop, length-map, drop_of_length-le}
use lib.Dec.{ltb}
use borrow.Author.Tests.{lt-leb, le-leb, ltb-true, ltb-false}
use Rattle.octets.specs.Bytes.{part, num}
use Rattle.octets.proofs.Parts.{part_part}
use Rattle.table.specs.Rows.{held, rows}
use Rattle.table.specs.Codec.{table_of}
use Rattle.table.specs.Tables.{rows_in}
use Rattle.std.proofs.lemmas.List.{drop-map}
use Rattle.std.proofs.lemmas.Simd.{map-map}
use Rattle.table.proofs.RowLaws.{held_all, length_rows, rows_next}
use Rattle.table.specs.declared.lent.Table.{Table}
use Rattle.table.proofs.TableLaws.{length_whole, table_held}
use Rattle.rows.specs.declared.Carried.{Carried}
use Rattle.rows.specs.declared.Tombstone.{Tombstone}
use Rattle.rows.specs.Rows.{carried_codec, carried_of, tombstone_codec, tombstone_of}
use Rattle.model.specs.Basics.{merge}
use Rattle.model.proofs.Laws.{length_merge}
use Rattle.by_slot.specs.declared.held.Held.{Held}
use Rattle.by_slot.specs.BySlot.{Fitted, rows_left, rows_left_of}

-- ---- the first of two lists

module _ {A : Type 0} (key : A → ℕ) where
  merge_nil : (xs : List A) → merge key xs [] ≡ xs
  unfolding merge
  merge_nil [] = refl
  merge_nil (x ∷ xs) = refl

  -- the first of the left list, where the right one is empty or its first is no lower; and the other way round
  pub merge_left_end : (x : A) (xs : List A) → merge key (x ∷ xs) [] ≡ x ∷ merge key xs []
  unfolding merge
  merge_left_end x xs = ap (λ (l : List A). x ∷ l) (sym (merge_nil xs))

  pub merge_left : (x y : A) (xs ys : List A) → key x ≤ key y → merge key (x ∷ xs) (y ∷ ys) ≡ x ∷ merge key xs (y ∷ ys)
  unfolding merge
  merge_left x y xs ys h = rw (le-leb (key x) (key y) h)

  pub merge_right_end : (y : A) (ys : List A) → merge key [] (y ∷ ys) ≡ y ∷ merge key [] ys
  unfolding merge
  merge_right_end y ys = refl

  pub merge_right : (x y : A) (xs ys : List A) → key y < key x → merge key (x ∷ xs) (y ∷ ys) ≡ y ∷ merge key (x ∷ xs) ys
  unfolding merge
  merge_right x y xs ys h = rw (lt-leb (key x) (key y) h)

-- the slot of a row is its first 8 bytes
pub slot_of : (a : List ℕ) (at w : ℕ) → 8 ≤ w → num (part (part a at w) 0 8) ≡ num (part a at 8)
slot_of a at w wide = ap num (part_part a at w 0 8 (omega arith) ∙ ap (λ (k : ℕ). part a k 8) (add-zero at))

-- ---- the rows of an area from i on, each made into something else

module _ {A : Type 0} (f : List ℕ → A) (w n : ℕ) (a : List ℕ) (i : ℕ) where
  abbrev R : List A
  R = map f (rows w n a)

  row_next : i < n → drop i R ≡ f (part a (i * w) w) ∷ drop (i + 1) R
  row_next h =
      drop-map f i (rows w n a) ∙ ap (map f) (rows_next w i n a h)
      ∙ ap (λ (l : List A). f (part a (i * w) w) ∷ l) (sym (drop-map f (i + 1) (rows w n a)))

  no_row : n ≤ i → drop i R ≡ []
  no_row h = drop_of_length-le R {i = i} (omega (arith, length-map (rows w n a) f, length_rows w n a))

-- ---- what is left of both, of any areas by any counts: each row made of its bytes

pub none_left_of : {A : Type 0} (slot : A → ℕ) (C T : List ℕ → A) (ca to : List ℕ) (n m p q : ℕ) → n ≤ p → m ≤ q → rows_left_of slot C T ca to n m p q ≡ []
unfolding rows_left_of merge
none_left_of slot C T ca to n m p q h k = ap₂ (merge slot) (no_row C 57 n ca p h) (no_row T 44 m to q k)

module _ {A : Type 0} (slot : A → ℕ) (C T : List ℕ → A) (ca to : List ℕ) (n m : ℕ) (slot_c : (b : List ℕ) → slot (C b) ≡ num (part b 0 8))
    (slot_t : (b : List ℕ) → slot (T b) ≡ num (part b 0 8)) where
  abbrev L_of : (p q : ℕ) → List A
  L_of p q = rows_left_of slot C T ca to n m p q

  module _ (p q : ℕ) where
    carried_slot : slot (C (part ca (p * 57) 57)) ≡ num (part ca (p * 57) 8)
    carried_slot = slot_c (part ca (p * 57) 57) ∙ slot_of ca (p * 57) 57 (omega arith)

    tombstone_slot : slot (T (part to (q * 44) 44)) ≡ num (part to (q * 44) 8)
    tombstone_slot = slot_t (part to (q * 44) 44) ∙ slot_of to (q * 44) 44 (omega arith)

    pub next_carried_of : p < n → (q < m → num (part ca (p * 57) 8) ≤ num (part to (q * 44) 8)) → L_of p q ≡ C (part ca (p * 57) 57) ∷ L_of (p + 1) q
    unfolding rows_left_of
    next_carried_of h le = go (ltb q m) refl
      where
        go : (b : Bool) → ltb q m ≡ b → L_of p q ≡ C (part ca (p * 57) 57) ∷ L_of (p + 1) q
        go true e =
            let k : q < m = ltb-true q m e in
            rw (row_next C 57 n ca p h, row_next T 44 m to q k) (merge_left slot _ _ _ _ (omega (arith, le k, carried_slot, tombstone_slot)))
        go false e = rw (row_next C 57 n ca p h, no_row T 44 m to q (ltb-false q m e)) (merge_left_end slot _ _)

    pub next_tombstone_of : q < m → (p < n → num (part to (q * 44) 8) < num (part ca (p * 57) 8)) → L_of p q ≡ T (part to (q * 44) 44) ∷ L_of p (q + 1)
    unfolding rows_left_of
    next_tombstone_of h lt = go (ltb p n) refl
      where
        go : (b : Bool) → ltb p n ≡ b → L_of p q ≡ T (part to (q * 44) 44) ∷ L_of p (q + 1)
        go true e =
            let k : p < n = ltb-true p n e in
            rw (row_next T 44 m to q h, row_next C 57 n ca p k) (merge_right slot _ _ _ _ (omega (arith, lt k, carried_slot, tombstone_slot)))
        go false e = rw (row_next T 44 m to q h, no_row C 57 n ca p (ltb-false p n e)) (merge_right_end slot _ _)

-- ---- the rows that fit are those of the tables by the counts that were given

module _ {carried : Table 57} {tombstones : Table 44} {h : Held} (F : Fitted carried tombstones h) where
  pub carried_fitted : rows_in carried_codec h.carried ≡ rows_in carried_codec carried
  carried_fitted =
      ap (table_of carried_codec h.carried.count) F.carried_area
      ∙ table_held carried_codec carried.count h.carried.count carried.area.now (omega arith) F.carried_count

  pub tombstones_fitted : rows_in tombstone_codec h.tombstones ≡ rows_in tombstone_codec tombstones
  tombstones_fitted =
      ap (table_of tombstone_codec h.tombstones.count) F.tombstones_area
      ∙ table_held tombstone_codec tombstones.count h.tombstones.count tombstones.area.now (omega arith) F.tombstones_count

-- ---- what is left of both tables

module _ {A : Type 0} (slot : A → ℕ) (f : Carried → A) (g : Tombstone → A) (h : Held) where
  abbrev L : (p q : ℕ) → List A
  L p q = rows_left slot f g h p q

  abbrev n : ℕ
  n = h.carried.count

  abbrev m : ℕ
  m = h.tombstones.count

  abbrev carried_at : ℕ → Carried
  carried_at p = carried_of (part h.carried.area.now (p * 57) 57)

  abbrev tombstone_at : ℕ → Tombstone
  tombstone_at q = tombstone_of (part h.tombstones.area.now (q * 44) 44)

  -- each row of h made of the bytes of its row
  abbrev C_of : List ℕ → A
  C_of b = f (carried_of b)

  abbrev T_of : List ℕ → A
  T_of b = g (tombstone_of b)

  -- the rows of h are those of its areas by its counts, which fit
  made_c : map f (rows_in carried_codec h.carried) ≡ map C_of (rows 57 n h.carried.area.now)
  unfolding table_of
  made_c =
      map-map f carried_of (rows 57 (held (length h.carried.area.now) 57 n) h.carried.area.now)
      ∙ ap (λ (k : ℕ). map C_of (rows 57 k h.carried.area.now)) (held_all (length h.carried.area.now) 57 n (omega arith) h.carried_fit)

  made_t : map g (rows_in tombstone_codec h.tombstones) ≡ map T_of (rows 44 m h.tombstones.area.now)
  unfolding table_of
  made_t =
      map-map g tombstone_of (rows 44 (held (length h.tombstones.area.now) 44 m) h.tombstones.area.now)
      ∙ ap (λ (k : ℕ). map T_of (rows 44 k h.tombstones.area.now)) (held_all (length h.tombstones.area.now) 44 m (omega arith) h.tombstones_fit)

  left_of : (p q : ℕ) → L p q ≡ rows_left_of slot C_of T_of h.carried.area.now h.tombstones.area.now n m p q
  unfolding rows_left rows_left_of
  left_of p q = ap₂ (merge slot) (ap (drop p) made_c) (ap (drop q) made_t)

  pub length_all : length (L 0 0) ≡ n + m
  unfolding rows_left
  length_all =
      length_merge slot (map f (rows_in carried_codec h.carried)) (map g (rows_in tombstone_codec h.tombstones))
      ∙ ap₂ ◌+◌ (length-map (rows_in carried_codec h.carried) f ∙ length_whole carried_codec n h.carried.area.now (omega arith) h.carried_fit)
      (length-map (rows_in tombstone_codec h.tombstones) g ∙ length_whole tombstone_codec m h.tombstones.area.now (omega arith) h.tombstones_fit)

  pub none_left : (p q : ℕ) → n ≤ p → m ≤ q → L p q ≡ []
  none_left p q l k = left_of p q ∙ none_left_of slot C_of T_of h.carried.area.now h.tombstones.area.now n m p q l k

  module _ (slot_f : (r : Carried) → slot (f r) ≡ r.slot) (slot_g : (t : Tombstone) → slot (g t) ≡ t.slot) (p q : ℕ) where
    slot_c : (b : List ℕ) → slot (C_of b) ≡ num (part b 0 8)
    unfolding carried_of
    slot_c b = slot_f (carried_of b)

    slot_t : (b : List ℕ) → slot (T_of b) ≡ num (part b 0 8)
    unfolding tombstone_of
    slot_t b = slot_g (tombstone_of b)

    pub next_carried : p < n → (q < m → num (part h.carried.area.now (p * 57) 8) ≤ num (part h.tombstones.area.now (q * 44) 8))
        → L p q ≡ f (carried_at p) ∷ L (p + 1) q
    next_carried l le =
        left_of p q ∙ next_carried_of slot C_of T_of h.carried.area.now h.tombstones.area.now n m slot_c slot_t p q l le
        ∙ ap (λ (r : List A). f (carried_at p) ∷ r) (sym (left_of (p + 1) q))

    pub next_tombstone : q < m → (p < n → num (part h.tombstones.area.now (q * 44) 8) < num (part h.carried.area.now (p * 57) 8))
        → L p q ≡ g (tombstone_at q) ∷ L p (q + 1)
    next_tombstone l lt =
        left_of p q ∙ next_tombstone_of slot C_of T_of h.carried.area.now h.tombstones.area.now n m slot_c slot_t p q l lt
        ∙ ap (λ (r : List A). g (tombstone_at q) ∷ r) (sym (left_of p (q + 1)))
