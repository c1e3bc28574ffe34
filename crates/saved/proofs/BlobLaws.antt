-- Laws of held rows: found by slot, and written to a blob area.
-- Assumes nothing.
use Rattle.std.proofs.Common.{◌≡◌, ℕ, ◌≤◌, List, length, sym, refl, ap, ◌∙◌, subst, ap₂, arith, length-append, length-take, le-ltb, Option, Result, Ok}
use Rattle.octets.specs.Bytes.{splice}
use Rattle.octets.proofs.Numbers.{length_be}
use Rattle.courier.specs.Courier.{header_bytes}
use Rattle.courier_core.specs.declared.Refusal.{Refusal}
use Rattle.table.specs.Lists.{position}
use Rattle.table.specs.Rows.{rows}
use Rattle.table.specs.Rows as tables
use Rattle.table.specs.Codec.{table_of}
use Rattle.table.proofs.TableLaws.{table_find}
use Rattle.state.specs.declared.Carried.{Carried as HeldCarried}
use Rattle.state.specs.declared.Tombstone.{Tombstone as HeldTombstone}
use Rattle.state.specs.Held.{carried_head, held_row, row_area, RowWritten}
use Rattle.state.specs.Held as held
use Rattle.state.proofs.RowLaws.{row_answered_lem}
use Rattle.rows.specs.declared.Carried.{Carried}
use Rattle.rows.specs.declared.Tombstone.{Tombstone}
use Rattle.rows.specs.Rows.{carried_codec, carried_of, tombstone_codec, tombstone_of}
use Rattle.model.specs.Cells.{ciphertext}
use Rattle.model.specs.Saved.{Slotted, carried_held, tombstone_held}
use Rattle.saved.specs.Blobs.{has_slot, carried_in_slot, tombstone_in_slot, held_carried, held_tombstone, Blobbed}

-- ---- rows by slot: the search of a table's bytes is the search of its rows

pub carried_place : (a : List ℕ) (count slot : ℕ) {f : Option ℕ} → f ≡ position (has_slot slot) (rows 57 (tables.held (length a) 57 count) a)
    → f ≡ position (carried_in_slot slot) (table_of carried_codec count a)
unfolding has_slot carried_of
carried_place a count slot e = table_find carried_codec count _ a refl (has_slot slot) (carried_in_slot slot) (λ b. refl) _ e

pub tombstone_place : (a : List ℕ) (count slot : ℕ) {f : Option ℕ} → f ≡ position (has_slot slot) (rows 44 (tables.held (length a) 44 count) a)
    → f ≡ position (tombstone_in_slot slot) (table_of tombstone_codec count a)
unfolding has_slot tombstone_of
tombstone_place a count slot e = table_find tombstone_codec count _ a refl (has_slot slot) (tombstone_in_slot slot) (λ b. refl) _ e

-- ---- a row in a blob area

blobbed : (most : ℕ) (h : Slotted) (row : List ℕ) (area after : List ℕ) (said : Result ℕ Refusal) (n : ℕ) → held_row h.held ≡ row → length row ≤ most → 2110 ≤ length area
    → RowWritten row area said after → said ≡ Ok n → Blobbed most h area n after
unfolding row_area
blobbed most h row area after said n e l k W c =
    let same : Ok n ≡ Ok (length row) = sym c ∙ W.answer ∙ row_answered_lem row area k in
    let m : n ≡ length row = cc in
    record {
      count = m ∙ ap length (sym e);
      within = omega arith;
      area = W.area ∙ rw (le-ltb (length area) 2110 k) (ap (splice area 0) (sym e));
    }

module _ (cells : List ℕ) (row : Carried) (whole : (length row.tag ≡ 16) × (length row.c ≡ 16)) where
  carried_length_lem : (ct : List ℕ) → length (held_row (held.carried (held_carried row) ct)) ≤ 2110
  unfolding held_row carried_head header_bytes
  carried_length_lem ct = simp (length-append, length_be) (omega (arith, whole.0, whole.1, length-take 2064 ct))

  pub carried_blobbed : (hc : HeldCarried) (ct : List ℕ) (area after : List ℕ) (said : Result ℕ Refusal) (n : ℕ) → 2110 ≤ length area
      → ct ≡ ciphertext cells row.cell row.len → hc ≡ held_carried row
      → RowWritten (held_row (held.carried hc ct)) area said after → said ≡ Ok n → Blobbed 2110 (carried_held cells row) area n after
  unfolding carried_held
  carried_blobbed hc ct area after said n k ec eh W c =
      let U : RowWritten (held_row (held.carried (held_carried row) (ciphertext cells row.cell row.len))) area said after =
      subst (λ (x : List ℕ). RowWritten x area said after) (ap₂ (λ (x : HeldCarried) (y : List ℕ). held_row (held.carried x y)) eh ec) W in
      blobbed 2110 (carried_held cells row) _ area after said n refl (carried_length_lem (ciphertext cells row.cell row.len)) k U c

module _ (row : Tombstone) (whole : (length row.tag ≡ 16) × (length row.s ≡ 16)) where
  tombstone_length : length (held_row (held.tombstone (held_tombstone row))) ≤ 37
  unfolding held_row
  tombstone_length = simp (length-append, length_be) (omega (arith, whole.0, whole.1))

  pub tombstone_blobbed : (ht : HeldTombstone) (area after : List ℕ) (said : Result ℕ Refusal) (n : ℕ) → 2110 ≤ length area → ht ≡ held_tombstone row
      → RowWritten (held_row (held.tombstone ht)) area said after → said ≡ Ok n → Blobbed 37 (tombstone_held row) area n after
  unfolding tombstone_held
  tombstone_blobbed ht area after said n k eh W c =
      let U : RowWritten (held_row (held.tombstone (held_tombstone row))) area said after =
      subst (λ (x : HeldTombstone). RowWritten (held_row (held.tombstone x)) area said after) eh W in
      blobbed 37 (tombstone_held row) _ area after said n refl tombstone_length k U c
