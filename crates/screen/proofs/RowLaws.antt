-- Laws of the rows of a page: those that are passed, and the lines of those that follow.
-- Assumes nothing.
use Rattle.std.proofs.Common.{◌≡◌, ℕ, ◌+◌, ◌*◌, ◌<◌, ◌≤◌, Bool, true, false, List, [], ◌∷◌, ◌++◌, map, length, take, drop, sym, refl, ap, ◌∙◌, arith, length-append, drop-drop, take-add}
use mathlib.Core.List.{map-append}
use Rattle.octets.specs.Bytes.{part, splice, num}
use Rattle.octets.proofs.Parts.{splice_nil, splice_then, length_splice}
use Rattle.table.specs.Rows.{join}
use Rattle.table.proofs.RowLaws.{join_snoc}
use Rattle.rows.specs.declared.Carried.{Carried}
use Rattle.rows.specs.declared.Tombstone.{Tombstone}
use Rattle.rows.specs.Rows.{carried_of, tombstone_of}
use Rattle.model.specs.Screen.{HeldRow, carried_row, tombstone_row, slot_of, screen_line}
use Rattle.model.proofs.ScreenLaws.{length_line}
use Rattle.by_slot.proofs.SlotLaws.{next_carried, next_tombstone}
use Rattle.by_slot.specs.BySlot.{TombstoneFirst, past}
use Rattle.by_slot.specs.declared.held.Held.{Held}
use Rattle.by_slot.specs.declared.Cursor.{Cursor}
use Rattle.screen.specs.Page.{left, Passed, RowPut, Showing}

abbrev pub cursor : ℕ → ℕ → Cursor
cursor p q = record { carried = p; tombstones = q }

module _ (h : Held) where
  abbrev L : (p q : ℕ) → List HeldRow
  L p q = left h p q

  abbrev slot_c : ℕ → ℕ
  slot_c p = num (part h.carried.area.now (p * 57) 8)

  abbrev slot_t : ℕ → ℕ
  slot_t q = num (part h.tombstones.area.now (q * 44) 8)

  next_c : (p q : ℕ) → p < h.carried.count → (q < h.tombstones.count → slot_c p ≤ slot_t q)
      → L p q ≡ carried_row (carried_of (part h.carried.area.now (p * 57) 57)) ∷ L (p + 1) q
  unfolding left
  next_c p q l g = next_carried slot_of carried_row tombstone_row h (λ r. refl) (λ t. refl) p q l g

  next_t : (p q : ℕ) → q < h.tombstones.count → (p < h.carried.count → slot_t q < slot_c p)
      → L p q ≡ tombstone_row (tombstone_of (part h.tombstones.area.now (q * 44) 44)) ∷ L p (q + 1)
  unfolding left
  next_t p q l g = next_tombstone slot_of carried_row tombstone_row h (λ r. refl) (λ t. refl) p q l g

  -- what is left behind the next row
  behind_next : (k : ℕ) (all x y : List HeldRow) (r : HeldRow) → x ≡ drop k all → x ≡ r ∷ y → y ≡ drop (k + 1) all
  behind_next k all x y r e f = sym (ap (drop 1) (sym e ∙ f)) ∙ drop-drop 1 k all

  module _ (k : ℕ) (t : Cursor) (P : Passed h k t) where
    passed_carried : t.carried < h.carried.count → (t.tombstones < h.tombstones.count → slot_c t.carried ≤ slot_t t.tombstones)
        → Passed h (k + 1) (cursor (t.carried + 1) t.tombstones)
    passed_carried l g = record {
      rest = behind_next k (L 0 0) (L t.carried t.tombstones) _ _ P.rest (next_c t.carried t.tombstones l g);
      count = omega (arith, P.count);
      within = omega arith;
      below = P.below;
    }

    passed_tombstone : t.tombstones < h.tombstones.count → (t.carried < h.carried.count → slot_t t.tombstones < slot_c t.carried)
        → Passed h (k + 1) (cursor t.carried (t.tombstones + 1))
    passed_tombstone l g = record {
      rest = behind_next k (L 0 0) (L t.carried t.tombstones) _ _ P.rest (next_t t.carried t.tombstones l g);
      count = omega (arith, P.count);
      within = P.within;
      below = omega arith;
    }

    pub passed_next : (b : Bool) → TombstoneFirst h t (slot_c t.carried) (slot_t t.tombstones) b → Passed h (k + 1) (past b t)
    passed_next true f = let y = f.tombstone refl in passed_tombstone y.0 y.1
    passed_next false f = let y = f.carried refl in passed_carried y.0 y.1

  -- ---- lines

  module _ (minute : ℕ) (t : Cursor) (at : ℕ) (before after : List ℕ) where
    pub put_carried_row : (r : Carried) → length r.tag ≡ 16 → t.tombstones ≤ h.tombstones.count → t.carried < h.carried.count
        → (t.tombstones < h.tombstones.count → slot_c t.carried ≤ slot_t t.tombstones)
        → r ≡ carried_of (part h.carried.area.now (t.carried * 57) 57) → after ≡ splice before at (screen_line minute (carried_row r))
        → RowPut h minute t at before (cursor (t.carried + 1) t.tombstones) after
    put_carried_row r whole b l g er e = record {
      row = carried_row r;
      next = next_c t.carried t.tombstones l g ∙ ap (λ (x : Carried). carried_row x ∷ L (t.carried + 1) t.tombstones) (sym er);
      area = e;
      size = length_line minute (carried_row r) whole;
      on = omega arith;
      within = omega arith;
      below = b;
    }

    pub put_tombstone_row : (r : Tombstone) → length r.tag ≡ 16 → t.carried ≤ h.carried.count → t.tombstones < h.tombstones.count
        → (t.carried < h.carried.count → slot_t t.tombstones < slot_c t.carried)
        → r ≡ tombstone_of (part h.tombstones.area.now (t.tombstones * 44) 44) → after ≡ splice before at (screen_line minute (tombstone_row r))
        → RowPut h minute t at before (cursor t.carried (t.tombstones + 1)) after
    put_tombstone_row r whole b l g er e = record {
      row = tombstone_row r;
      next = next_t t.carried t.tombstones l g ∙ ap (λ (x : Tombstone). tombstone_row x ∷ L t.carried (t.tombstones + 1)) (sym er);
      area = e;
      size = length_line minute (tombstone_row r) whole;
      on = omega arith;
      within = b;
      below = omega arith;
    }

  module _ (minute : ℕ) (from : Cursor) (lent : List ℕ) where
    abbrev F : List HeldRow
    F = L from.carried from.tombstones

    abbrev lines : ℕ → List ℕ
    lines j = join (map (screen_line minute) (take j F))

    pub showing_start : from.carried ≤ h.carried.count → from.tombstones ≤ h.tombstones.count → Showing h minute from lent 0 from lent
    unfolding join
    showing_start l k = record { rest = refl; bytes = sym (splice_nil lent 81); end = refl; size = refl; on = omega arith; within = l; below = k }

    module _ (j : ℕ) (t : Cursor) (x : List ℕ) (S : Showing h minute from lent j t x) where
      lines_more : (r : HeldRow) (y : List HeldRow) → drop j F ≡ r ∷ y → lines (j + 1) ≡ lines j ++ screen_line minute r
      lines_more r y e =
          ap (λ (l : List HeldRow). join (map (screen_line minute) l)) (take-add j 1 F ∙ ap (λ (l : List HeldRow). take j F ++ take 1 l) e)
          ∙ ap join (map-append (screen_line minute) (take j F) (r ∷ [])) ∙ join_snoc (map (screen_line minute) (take j F)) (screen_line minute r)

      pub showing_more : (r : Cursor) (y : List ℕ) → 81 + 81 * (j + 1) ≤ length lent → RowPut h minute t (81 + 81 * j) x r y
          → Showing h minute from lent (j + 1) r y
      showing_more r y fits P =
          let e : lines (j + 1) ≡ lines j ++ screen_line minute P.row = lines_more P.row _ (sym S.rest ∙ P.next) in
          let l : length (lines (j + 1)) ≡ 81 * (j + 1) =
          ap length e ∙ length-append (lines j) (screen_line minute P.row) ∙ omega (arith, S.end, P.size) in
          let b : y ≡ splice lent 81 (lines (j + 1)) =
          splice_then lent x y 81 (81 + 81 * j) (lines j) (screen_line minute P.row) S.bytes P.area (omega (arith, S.end)) (omega (arith, P.size))
          ∙ ap (splice lent 81) (sym e) in
          record {
            rest = behind_next j F (L t.carried t.tombstones) _ P.row S.rest P.next;
            bytes = b;
            end = l;
            size = ap length b ∙ length_splice lent 81 (lines (j + 1)) (omega arith);
            on = omega (arith, P.on, S.on);
            within = P.within;
            below = P.below;
          }
