-- Laws of the choice: each test that the code makes is a test of the model.
-- Assumes nothing.
use Rattle.std.proofs.Common.{◌≡◌, ℕ, ◌/◌, ◌<◌, ◌≤◌, Bool, cond, not, Result, Ok, Err, ◌&&◌, eqb, leb, ltb, List, [], ◌∷◌, length, sym, ap, ◌∙◌, arith, le-ltb}
use borrow.Author.Tests.{lt-leb}
use Rattle.courier_core.specs.declared.Refusal.{Refusal}
use Rattle.courier_core.specs.declared.Refusal.TheVariants as refusal
use Rattle.courier_core.specs.Core.{first_of}
use Rattle.table.specs.Rows.{held}
use Rattle.table.specs.Codec.{table_of}
use Rattle.table.proofs.RowLaws.{held_le}
use Rattle.table.proofs.TableLaws.{length_table}
use Rattle.rows.specs.declared.Device.{Device}
use Rattle.rows.specs.declared.Tombstone.{Tombstone}
use Rattle.rows.specs.Rows.{tombstone_codec}
use Rattle.model.specs.Tombs.{tombstoned, remaining, all_rows_used, no_row_to_store, no_slot_to_store}
use Rattle.model.proofs.RoomLaws.{all_left, one_left}
use Rattle.tombstones.specs.declared.Storing.{Storing}
use Rattle.tombstones.specs.declared.Storing.TheVariants as way
use Rattle.tombstones.specs.Tombstones.{ChoiceOf, how_to_store, store_tests, store_choice}

-- ---- number 5, as the code tests it: below the limit all stay, and from it on one goes

abbrev used : ℕ → List ℕ → Bool
used count area = all_rows_used (length area / 44) (table_of tombstone_codec count area)

module _ (count : ℕ) (area : List ℕ) {n : ℕ} (en : n ≡ held (length area) 44 count) where
  abbrev T : List Tombstone
  T = table_of tombstone_codec count area

  size : n ≡ length T
  size = en ∙ sym (length_table tombstone_codec count area)

  pub used_few : n < 1024 → leb (length area / 44) n ≡ used count area
  used_few h = ap (leb (length area / 44)) (size ∙ ap (λ (ts : List Tombstone). length ts) (sym (all_left T (omega (arith, size)))))

  pub free_many : 1024 ≤ n → ltb n 1024 ≡ used count area
  free_many h =
      le-ltb n 1024 h ∙ sym (lt-leb (length area / 44) (length (remaining T)) (omega (arith, one_left T (omega (arith, size)), size, en, held_le (length area) 44 count)))

-- ---- the choice by what each test says

module _ (d : Device) (area tag : List ℕ) (known full last : Bool) where
  abbrev told : (known full last : Bool) → Result Storing Refusal
  told known full last =
      first_of ((not known && full, refusal.NoTombstoneRow) ∷ (not known && last, refusal.NoSlot) ∷ []) Err (Ok (cond known way.Nothing way.New))

  pub choose : known ≡ tombstoned (table_of tombstone_codec d.tombstones area) tag → full ≡ used d.tombstones area → last ≡ eqb d.next_slot 18446744073709551615
      → ChoiceOf d area tag (told known full last)
  unfolding store_choice store_tests how_to_store no_row_to_store no_slot_to_store
  choose k f l s r =
      (λ j. told (k j) (f j) (l j))
      ∙ sym (λ j. told (tombstoned (r.tombstones j) tag) (all_rows_used (r.rows j) (r.tombstones j)) (eqb (r.next_slot j) 18446744073709551615))
