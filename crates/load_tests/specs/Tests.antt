-- Number 8 of a load, condition by condition; then 4 and 5.
-- Assumes nothing.
use Rattle.std.specs.Prelude.{ℕ, ◌+◌, Bool, true, false, not, ◌&&◌, ◌||◌, List, [], ◌∷◌, ◌++◌, map, length, nat_le, nat_lt, Result, Ok, Err}
use Rattle.octets.specs.Bytes.{part, num, same_bytes}
use Rattle.courier_core.specs.Core.{first_of}
use Rattle.courier_core.specs.declared.Refusal.{Refusal}
use Rattle.courier_core.specs.declared.Refusal.TheVariants as refusal
use Rattle.table.specs.Lists.{any, count_by}
use Rattle.table.specs.Rows.{join, has_key}
use Rattle.state.specs.Held.{held_decode}
use Rattle.state.specs.Sizes.{file_head}
use Rattle.rows.specs.declared.Contact.{Contact}
use Rattle.rows.specs.Limits.{max_carried, max_per_verified}
use Rattle.model.specs.Basics.{match_some}
use Rattle.model.specs.Contacts.{known}
use Rattle.model.specs.Cells.{cell_count}
use Rattle.model.specs.Saved.{held_mark}
use Rattle.load_tests.specs.Records.{records, slot_in, blob_in, depositor_in, tag_in, is_carried, is_tombstone, counted, depositor_at, tag_at}

-- ---- of a record

-- its mark is neither `HC` nor `HT`: so is a second `HN`
unfoldable pub strange_mark : List ℕ → Bool
strange_mark b = not (is_carried b || is_tombstone b)

-- its blob is refused
unfoldable pub refused_blob : List ℕ → Bool
refused_blob b = match_some (held_decode (blob_in b)) (λ h. false) true

-- its blob is a row of the other kind than its mark
unfoldable pub other_kind : List ℕ → Bool
other_kind b = match_some (held_decode (blob_in b)) (λ h. not (has_key 0 (held_mark h) b)) false

-- its slot is that of another record too
unfoldable pub slot_twice : List (List ℕ) → List ℕ → Bool
slot_twice rs b = nat_lt 1 (count_by (counted false 2 (slot_in b)) rs)

-- its slot is not below the next
unfoldable pub slot_past : ℕ → List ℕ → Bool
slot_past next b = nat_le next (num (slot_in b))

-- it is carried, and its tag is that of another carried one too
unfoldable pub tag_twice : List (List ℕ) → List ℕ → Bool
tag_twice rs b = is_carried b && nat_lt 1 (count_by (counted true tag_at (tag_in b)) rs)

-- it is carried, and its depositor is not known
unfoldable pub unknown_depositor : List Contact → List ℕ → Bool
unknown_depositor contacts b = is_carried b && not (known contacts (record { 0 = num (depositor_in b) }))

-- it is carried, and more are of its depositor than a verified one may have, whatever the verification
unfoldable pub many_of_one : List (List ℕ) → List ℕ → Bool
many_of_one rs b = is_carried b && nat_lt max_per_verified (count_by (counted true depositor_at (depositor_in b)) rs)

abbrev pub kind_tests : List (List ℕ → Bool)
kind_tests =
    strange_mark
    ∷ refused_blob
    ∷ other_kind
    ∷ []

abbrev pub row_tests : ℕ → List Contact → List (List ℕ) → List (List ℕ → Bool)
row_tests next contacts rs =
    slot_past next
    ∷ slot_twice rs
    ∷ unknown_depositor contacts
    ∷ tag_twice rs
    ∷ many_of_one rs
    ∷ []

abbrev pub record_tests : ℕ → List Contact → List (List ℕ) → List (List ℕ → Bool)
record_tests next contacts rs = kind_tests ++ row_tests next contacts rs

-- one of the tests holds of a record
unfoldable pub fails : List (List ℕ → Bool) → List ℕ → Bool
fails ts b = any (λ (t : List ℕ → Bool). t b) ts

-- the last three of them, of one that is carried
unfoldable pub carried_fails : List Contact → List (List ℕ) → List ℕ → Bool
carried_fails contacts rs b =
    not (known contacts (record { 0 = num (depositor_in b) }))
    || (nat_lt 1 (count_by (counted true tag_at (tag_in b)) rs) || nat_lt max_per_verified (count_by (counted true depositor_at (depositor_in b)) rs))

-- ---- of a file

-- `HN` and the next slot are not there whole
unfoldable pub short_next : List ℕ → Bool
short_next file = nat_lt (length file) file_head

-- `HN` is not first
unfoldable pub next_not_first : List ℕ → Bool
next_not_first file = not (same_bytes (part file 0 2) (72 ∷ 78 ∷ []))

abbrev pub next_in : List ℕ → ℕ
next_in file = num (part file 2 8)

-- bytes are left that are no whole record
unfoldable pub cut_short : List ℕ → Bool
cut_short file = nat_lt (file_head + length (join (records file))) (length file)

abbrev pub carried_count : List ℕ → ℕ
carried_count file = count_by is_carried (records file)

abbrev pub tombstone_count : List ℕ → ℕ
tombstone_count file = count_by is_tombstone (records file)

-- more are carried than may be
unfoldable pub many_carried : List ℕ → Bool
many_carried file = nat_lt max_carried (carried_count file)

-- one of the tests holds of one of the records
abbrev pub of_records : List ℕ → List (List ℕ → Bool) → List Bool
of_records file ts = map (λ (t : List ℕ → Bool). any t (records file)) ts

-- number 8
unfoldable pub wrongs : List Contact → List ℕ → List Bool
wrongs contacts file =
    short_next file
    ∷ next_not_first file
    ∷ cut_short file
    ∷ of_records file (record_tests (next_in file) contacts (records file))
    ++ (many_carried file ∷ [])

abbrev pub holds : List Bool → Bool
holds bs = any (λ (b : Bool). b) bs

-- 8, then 4, then 5
unfoldable pub load_tests : List Contact → (cells tombstone_rows : ℕ) → List ℕ → List (Bool × Refusal)
load_tests contacts cells tombstone_rows file =
    (holds (wrongs contacts file), refusal.SavedFile)
    ∷ (nat_lt (cell_count cells) (carried_count file), refusal.NoCell)
    ∷ (nat_lt tombstone_rows (tombstone_count file), refusal.NoTombstoneRow)
    ∷ []

unfoldable pub tested_as : List (Bool × Refusal) → Result (Unit {0}) Refusal
tested_as ts = first_of ts Err (Ok tt)
