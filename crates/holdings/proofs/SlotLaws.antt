-- Laws of the place of a tombstone by its slot.
-- Assumes nothing.
use Rattle.std.specs.Option.{unwrap_or as value_or}
use Rattle.std.proofs.Common.{◌≡◌, ℕ, ◌≤◌, ltb, List, length, refl, sym, ap, ap₂, ◌∙◌, subst, arith, Option, Some, None}
use Rattle.octets.specs.Bytes.{part, num}
use Rattle.table.specs.Lists.{position, unwrap_or, insert_at}
use Rattle.table.specs.Rows.{held, rows}
use Rattle.table.specs.Codec.{table_of, TableNow}
use Rattle.table.proofs.TableLaws.{length_table, table_find}
use Rattle.table.proofs.FindLaws.{position_le}
use Rattle.rows.specs.declared.Tombstone.{Tombstone}
use Rattle.rows.specs.Rows.{tombstone_codec, tombstone_of}
use Rattle.model.specs.Tombs.{insert_by_slot}
use Rattle.holdings.specs.Searches.{higher}

module _ (count : ℕ) (a : List ℕ) (slot : ℕ) where
  abbrev T : List Tombstone
  T = table_of tombstone_codec count a

  abbrev n : ℕ
  n = held (length a) 44 count

  slot_read : (b : List ℕ) → ltb slot (num (part b 0 8)) ≡ higher slot (tombstone_of b)
  unfolding tombstone_of
  slot_read b = refl

  or_value : (f : Option ℕ) (d : ℕ) → value_or f d ≡ unwrap_or d f
  or_value (Some i) d = refl
  or_value None d = refl

  pub place_found : {m : ℕ} {f : Option ℕ} → m ≡ n → f ≡ position (λ b. ltb slot (num (part b 0 8))) (rows 44 n a)
      → value_or f m ≡ unwrap_or n (position (higher slot) T)
  place_found {m} {f} em ef =
      or_value f m ∙ ap₂ unwrap_or em (table_find tombstone_codec count n a refl (λ b. ltb slot (num (part b 0 8))) (higher slot) slot_read f ef)

  pub place_le : {i : ℕ} → i ≡ unwrap_or n (position (higher slot) T) → i ≤ n
  place_le e =
      let q : unwrap_or n (position (higher slot) T) ≡ unwrap_or (length T) (position (higher slot) T) =
      ap (λ (k : ℕ). unwrap_or k (position (higher slot) T)) (sym (length_table tombstone_codec count a)) in
      omega (arith, e, q, position_le (higher slot) T, length_table tombstone_codec count a)

-- a tombstone among others by its slot
pub by_slot_lem : (count : ℕ) (a x : List ℕ) (m i : ℕ) (t : Tombstone)
    → i ≡ unwrap_or (held (length a) 44 count) (position (higher t.slot) (table_of tombstone_codec count a))
    → TableNow tombstone_codec a (insert_at i t (table_of tombstone_codec count a)) m x
    → TableNow tombstone_codec a (insert_by_slot t (table_of tombstone_codec count a)) m x
unfolding insert_by_slot
by_slot_lem count a x m i t ei N =
    let T : List Tombstone = table_of tombstone_codec count a in
    let e : i ≡ unwrap_or (length T) (position (higher t.slot) T) =
    ei ∙ ap (λ (k : ℕ). unwrap_or k (position (higher t.slot) T)) (sym (length_table tombstone_codec count a)) in
    subst (λ (k : ℕ). TableNow tombstone_codec a (insert_at k t T) m x) e N
