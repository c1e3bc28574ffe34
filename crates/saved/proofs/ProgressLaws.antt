-- Laws of the records by slot: which row is next, what is left, and the file so far.
-- Assumes nothing.
use Rattle.std.proofs.Common.{◌≡◌, ℕ, ◌+◌, ◌*◌, ◌<◌, ◌≤◌, List, [], ◌∷◌, ◌++◌, map, length, sym, refl, ap, ◌∙◌, append_assoc, append-nil, arith, length-append}
use mathlib.Core.List.{map-append}
use Rattle.octets.specs.Bytes.{part, splice, num}
use Rattle.octets.proofs.Parts.{splice_nil, splice_then, length_splice}
use Rattle.table.specs.Rows.{join}
use Rattle.table.proofs.RowLaws.{join_snoc}
use Rattle.rows.specs.declared.Carried.{Carried}
use Rattle.rows.specs.declared.Tombstone.{Tombstone}
use Rattle.rows.specs.Rows.{carried_of, tombstone_of}
use Rattle.model.specs.Saved.{Slotted, carried_held, tombstone_held, saved_record}
use Rattle.by_slot.proofs.SlotLaws.{next_carried, next_tombstone, none_left}
use Rattle.saved.specs.declared.HeldRows.{HeldRows}
use Rattle.saved.specs.declared.Progress.{Progress}
use Rattle.saved.specs.Saving.{Recorded, left, Rooms, More, Saving, Records}

-- ---- one row more

module _ (h : HeldRows) (t : Progress) (file after : List ℕ) (at : ℕ) where
  abbrev p : ℕ
  p = t.next.carried

  abbrev q : ℕ
  q = t.next.tombstones

  abbrev slot_c : ℕ
  slot_c = num (part h.rows.carried.area.now (p * 57) 8)

  abbrev slot_t : ℕ
  slot_t = num (part h.rows.tombstones.area.now (q * 44) 8)

  next_c : p < h.rows.carried.count → (q < h.rows.tombstones.count → slot_c ≤ slot_t)
      → left h p q ≡ carried_held h.cells.now (carried_of (part h.rows.carried.area.now (p * 57) 57)) ∷ left h (p + 1) q
  unfolding left carried_held tombstone_held
  next_c l g = next_carried (λ (x : Slotted). x.slot) (carried_held h.cells.now) tombstone_held h.rows (λ r. refl) (λ s. refl) p q l g

  next_t : q < h.rows.tombstones.count → (p < h.rows.carried.count → slot_t < slot_c)
      → left h p q ≡ tombstone_held (tombstone_of (part h.rows.tombstones.area.now (q * 44) 44)) ∷ left h p (q + 1)
  unfolding left carried_held tombstone_held
  next_t l g = next_tombstone (λ (x : Slotted). x.slot) (carried_held h.cells.now) tombstone_held h.rows (λ r. refl) (λ s. refl) p q l g

  pub more_carried : q ≤ h.rows.tombstones.count → p < h.rows.carried.count → (q < h.rows.tombstones.count → slot_c ≤ slot_t) → (row : Carried)
      → row ≡ carried_of (part h.rows.carried.area.now (p * 57) 57) → Recorded 2122 (carried_held h.cells.now row) t.at file at after
      → More h t file (record { next = record { carried = p + 1; tombstones = q }; at = at }) after
  more_carried b l g row e D = record {
    row = carried_held h.cells.now row;
    next = next_c l g ∙ ap (λ (r : Carried). carried_held h.cells.now r ∷ left h (p + 1) q) (sym e);
    area = D.area;
    end = D.end;
    on = omega arith;
    within = omega arith;
    below = b;
    room = omega (arith, D.within);
  }

  pub more_tombstone : p ≤ h.rows.carried.count → q < h.rows.tombstones.count → (p < h.rows.carried.count → slot_t < slot_c) → (row : Tombstone)
      → row ≡ tombstone_of (part h.rows.tombstones.area.now (q * 44) 44) → Recorded 49 (tombstone_held row) t.at file at after
      → More h t file (record { next = record { carried = p; tombstones = q + 1 }; at = at }) after
  more_tombstone b l g row e D = record {
    row = tombstone_held row;
    next = next_t l g ∙ ap (λ (r : Tombstone). tombstone_held r ∷ left h p (q + 1)) (sym e);
    area = D.area;
    end = D.end;
    on = omega arith;
    within = b;
    below = omega arith;
    room = omega (arith, D.within);
  }

-- ---- the file so far

records_snoc : (rs : List Slotted) (h : Slotted) → join (map saved_record (rs ++ (h ∷ []))) ≡ join (map saved_record rs) ++ saved_record h
records_snoc rs h = ap join (map-append saved_record rs (h ∷ [])) ∙ join_snoc (map saved_record rs) (saved_record h)

module _ (h : HeldRows) (lent : List ℕ) where
  pub saving_start : Saving h lent lent (record { next = record { carried = 0; tombstones = 0 }; at = 10 })
  unfolding join
  saving_start = record {
    done = [];
    all = refl;
    bytes = sym (splice_nil lent 10);
    end = refl;
    size = refl;
    within = omega arith;
    below = omega arith;
    room = omega arith;
  }

  module _ (size : Rooms h.rows (length lent)) (x : List ℕ) (t : Progress) (S : Saving h lent x t) where
    pub saving_more : (y : List ℕ) (r : Progress) → More h t x r y → Saving h lent y r
    saving_more y r M =
        let J : List ℕ = join (map saved_record S.done) in
        let s = records_snoc S.done M.row in
        let room : r.at ≤ 10 + (2122 * r.next.carried + 49 * r.next.tombstones) = omega (arith, S.room, M.room) in
        let fits : t.at + length (saved_record M.row) ≤ length lent = omega (arith, M.end, M.within, M.below) in
        let e : y ≡ splice lent 10 (J ++ saved_record M.row) =
        splice_then lent x y 10 t.at J (saved_record M.row) S.bytes M.area S.end fits in
        let l : length (J ++ saved_record M.row) ≡ length J + length (saved_record M.row) = length-append J (saved_record M.row) in
        record {
          done = S.done ++ (M.row ∷ []);
          all = append_assoc S.done (M.row ∷ []) (left h r.next.carried r.next.tombstones)
              ∙ ap (λ (k : List Slotted). S.done ++ k) (sym M.next) ∙ S.all;
          bytes = e ∙ ap (splice lent 10) (sym s);
          end = omega (arith, M.end, S.end, l, ap length s);
          size = ap length e ∙ length_splice lent 10 (J ++ saved_record M.row) (omega (arith, S.end));
          within = M.within;
          below = M.below;
          room = room;
        }

    pub saving_end : h.rows.carried.count + h.rows.tombstones.count ≤ t.next.carried + t.next.tombstones → Records (left h 0 0) lent t.at x
    unfolding left
    saving_end e =
        let w = S.within in
        let b = S.below in
        let z : left h t.next.carried t.next.tombstones ≡ [] =
        none_left (λ (k : Slotted). k.slot) (carried_held h.cells.now) tombstone_held h.rows t.next.carried t.next.tombstones (omega arith) (omega arith) in
        let all : S.done ≡ left h 0 0 = sym (append-nil S.done) ∙ ap (λ (k : List Slotted). S.done ++ k) (sym z) ∙ S.all in
        record {
          end = S.end ∙ ap (λ (k : List Slotted). 10 + length (join (map saved_record k))) all;
          within = omega (arith, S.room);
          area = S.bytes ∙ ap (λ (k : List Slotted). splice lent 10 (join (map saved_record k))) all;
        }
