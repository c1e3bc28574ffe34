-- The records of a saved file behind its first ten bytes, each as its bytes: mark 2, slot 8, length 2, row blob.
-- Assumes nothing.
use Rattle.std.specs.Prelude.{◌≡◌, ℕ, zero, suc, ◌+◌, ◌-◌, ◌*◌, ◌≤◌, Bool, false, cond, ◌&&◌, List, [], ◌∷◌, map, length, take, drop, nat_le}
use Rattle.octets.specs.Bytes.{part, num}
use Rattle.table.specs.Lists.{count_by, filter}
use Rattle.table.specs.Rows.{rows, has_key}
use Rattle.state.specs.Sizes.{file_head, record_head}
use Rattle.load_tests.specs.declared.RecordIter.{RecordIter}

-- where a record of a carried row has its depositor and its tag, and how many bytes those two have
abbrev pub depositor_at : ℕ
depositor_at = 13

abbrev pub tag_at : ℕ
tag_at = 21

abbrev pub key_width : ℕ
key_width = 24

-- the bytes of the record at the front, by its length
unfoldable pub record_size : List ℕ → ℕ
record_size b = record_head + num (part b 10 2)

-- the records at the front, as far as they are whole, and at most n
unfoldable pub records_in : ℕ → List ℕ → List (List ℕ)
records_in zero b = []
records_in (suc n) b = cond (nat_le (record_size b) (length b)) (take (record_size b) b ∷ records_in n (drop (record_size b) b)) []

-- those of a file from a place on, and all of them
unfoldable pub records_at : List ℕ → ℕ → List (List ℕ)
records_at file at = records_in (length file - at) (drop at file)

abbrev pub records : List ℕ → List (List ℕ)
records file = records_at file file_head

-- those that are still to come
unfoldable pub left : RecordIter → List (List ℕ)
left walk = records_in (length walk.rest.now) walk.rest.now

-- ---- what stands in a record; a carried blob has its depositor behind its kind, and then its tag

abbrev pub slot_in : List ℕ → List ℕ
slot_in b = part b 2 8

abbrev pub blob_in : List ℕ → List ℕ
blob_in b = drop record_head b

abbrev pub depositor_in : List ℕ → List ℕ
depositor_in b = part b depositor_at 8

abbrev pub tag_in : List ℕ → List ℕ
tag_in b = part b tag_at 16

-- its mark is `HC`, or `HT`
unfoldable pub is_carried : List ℕ → Bool
is_carried b = has_key 0 (72 ∷ 67 ∷ []) b

unfoldable pub is_tombstone : List ℕ → Bool
is_tombstone b = has_key 0 (72 ∷ 84 ∷ []) b

-- has a record the key at the offset, and is it carried where that is asked
unfoldable pub counted : Bool → ℕ → List ℕ → List ℕ → Bool
counted carried_only offset key b = cond carried_only (is_carried b && has_key offset key b) (has_key offset key b)

-- no slot is that of two records
abbrev pub SlotsOnce : List (List ℕ) → Type 0
SlotsOnce rs = (slot : List ℕ) → length slot ≡ 8 → count_by (counted false 2 slot) rs ≤ 1

-- the depositor and the tag of each carried record
unfoldable pub carried_keys : List (List ℕ) → List (List ℕ)
carried_keys rs = map (λ (b : List ℕ). part b depositor_at key_width) (filter is_carried rs)

-- the k rows of an area are those of a file's records
pub record Gathered (file keys : List ℕ) (k : ℕ) : Type 0 where
  pub inside : k * key_width ≤ length keys
  pub are : rows key_width k keys ≡ carried_keys (records file)
