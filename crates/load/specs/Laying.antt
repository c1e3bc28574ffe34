-- What the functions of a load say of the areas, and what the call says.
-- Assumes nothing.
use Rattle.std.specs.Prelude.{◌≡◌, ℕ, ◌+◌, ◌-◌, ◌*◌, ◌<◌, ◌≤◌, Bool, true, false, List, [], ◌∷◌, length, drop, nat_lt, Result}
use Rattle.octets.specs.Bytes.{Bytes, part, splice, num}
use Rattle.courier_core.specs.declared.Refusal.{Refusal}
use Rattle.table.specs.Lists.{any, count_by}
use Rattle.table.specs.Codec.{Codec, table_of, TableNow}
use Rattle.rows.specs.declared.Device.{Device}
use Rattle.state.specs.declared.Carried.{Carried as HeldCarried}
use Rattle.state.specs.Sizes.{cell_size, record_head, carried_head_size}
use Rattle.rows.specs.declared.Carried.{Carried}
use Rattle.rows.specs.declared.Tombstone.{Tombstone}
use Rattle.rows.specs.Proper.{ProperCarried}
use Rattle.rows.specs.Rows.{carried_codec, tombstone_codec, carried_width, tombstone_width}
use Rattle.model.specs.Calls.{Result as Outcome}
use Rattle.model.specs.Areas.{Areas, Written, view}
use Rattle.model.specs.Lent.{no_answers, device_in, contacts_in, carried_in, tombstones_in, carried_cells_in}
use Rattle.history.specs.Order.{Sorted}
use Rattle.load_tests.specs.Records.{records, is_carried, is_tombstone}
use Rattle.load_tests.specs.Tests.{kind_tests, fails}
use Rattle.load.specs.declared.Counts.{Counts}
use Rattle.load.specs.Load.{insert_by, carried_slot, carried_row, Rows, load_record, load_records, loaded, load_step}

-- where the record of a carried row has its ciphertext
abbrev pub ciphertext_at : ℕ
ciphertext_at = record_head + carried_head_size

-- every row starts with its slot
unfoldable pub higher : ℕ → List ℕ → Bool
higher slot b = nat_lt slot (num (part b 0 8))

-- no row of an area has a lower slot than one before it
unfoldable pub SlotsAscend : ℕ → ℕ → List ℕ → Type 0
SlotsAscend w n a = (i j : ℕ) → i ≤ j → j < n → num (part a (i * w) 8) ≤ num (part a (j * w) 8)

-- a row is put in by its slot among the n of an area
pub record Inserted {A : Type 0} (c : Codec A) (Proper : A → Type 0) (key : A → ℕ) (t : A) (n : ℕ) (a : List ℕ) (m : ℕ) (x : List ℕ) : Type 0 where
  pub more : m ≡ n + 1
  pub table : TableNow c a (insert_by key t (table_of c n a)) m x
  pub bytes : Bytes a
  pub proper : Proper t

-- the rows so far lie in areas that were a and t and are now x and y, and z are the cells
pub record Laid (a t : List ℕ) (l : Rows) (h : Counts) (x y z : List ℕ) : Type 0 where
  pub carried : TableNow carried_codec a l.carried h.carried x
  pub tombstones : TableNow tombstone_codec t l.tombstones h.tombstones y
  pub cells : z ≡ l.cells

-- rows by slot
pub record BySlot (l : Rows) : Type 0 where
  pub carried : Sorted (λ (a b : Carried). a.slot ≤ b.slot) l.carried
  pub tombstones : Sorted (λ (a b : Tombstone). a.slot ≤ b.slot) l.tombstones

-- there is room for the row of a record, whose mark is its blob's
pub record Room (b : List ℕ) (h : Counts) (x y z : List ℕ) : Type 0 where
  pub kind : fails kind_tests b ≡ false
  pub few : h.carried < 65536
  pub carried : is_carried b ≡ true → (h.carried * carried_width + carried_width ≤ length x) × (h.carried * cell_size + cell_size ≤ length z)
  pub tombstone : is_tombstone b ≡ true → h.tombstones * tombstone_width + tombstone_width ≤ length y
  pub carried_rise : SlotsAscend carried_width h.carried x
  pub tombstones_rise : SlotsAscend tombstone_width h.tombstones y

-- a record more
pub record Loads (b : List ℕ) (h : Counts) (x y z : List ℕ) (h' : Counts) (x' y' z' : List ℕ) : Type 0 where
  pub laid : (a t : List ℕ) (l : Rows) → Laid a t l h x y z → Laid a t (load_record l b) h' x' y' z'
  pub carried_size : length x' ≡ length x
  pub tombstone_size : length y' ≡ length y
  pub cell_size : length z' ≡ length z
  pub carried : h'.carried ≡ h.carried + count_by is_carried (b ∷ [])
  pub tombstones : h'.tombstones ≡ h.tombstones + count_by is_tombstone (b ∷ [])

-- the row of a carried record, and its ciphertext in its cell
pub record Carries (b : List ℕ) (row : HeldCarried) (p : ℕ) (x z : List ℕ) (p' : ℕ) (x' z' : List ℕ) : Type 0 where
  pub table : Inserted carried_codec ProperCarried carried_slot (carried_row (num (part b 2 8)) (length b - ciphertext_at) p row) p x p' x'
  pub cells : z' ≡ splice z (p * cell_size) (drop ciphertext_at b)

-- the areas have room for all rows of a file that is fine
pub record Fine (file x y z : List ℕ) : Type 0 where
  pub kinds : any (fails kind_tests) (records file) ≡ false
  pub few : count_by is_carried (records file) < 65536
  pub carried : count_by is_carried (records file) * carried_width ≤ length x
  pub cells : count_by is_carried (records file) * cell_size ≤ length z
  pub tombstones : count_by is_tombstone (records file) * tombstone_width ≤ length y

-- the records before those that are left are loaded
pub record Loading (file a t c : List ℕ) (rest : List (List ℕ)) (h : Counts) (x y z : List ℕ) : Type 0 where
  pub rows : Rows
  pub laid : Laid a t rows h x y z
  pub by_slot : BySlot rows
  pub left : load_records rows rest ≡ loaded c file
  pub kinds : any (fails kind_tests) rest ≡ false
  pub carried : h.carried + count_by is_carried rest ≡ count_by is_carried (records file)
  pub tombstones : h.tombstones + count_by is_tombstone rest ≡ count_by is_tombstone (records file)
  pub carried_size : length x ≡ length a
  pub tombstone_size : length y ≡ length t
  pub cell_size : length z ≡ length c

-- ---- the call

-- nothing more, where it is not refused
abbrev pub says : Outcome → Unit {0}
says o = tt

abbrev pub load_lent : Device → (contacts carried tombstones cells : List ℕ) → Areas → Areas
load_lent d contacts carried tombstones cells a = device_in d (contacts_in contacts (carried_in carried (tombstones_in tombstones (carried_cells_in cells a))))

-- What the contract of the call says: of any areas, those that it is lent set into them, it answers and leaves what `load_step` gives.
abbrev pub DoesLoad : List ℕ → Result (Unit {0}) Refusal → (Areas → Areas) → (Areas → Areas) → Type 0
DoesLoad file r before after = (a : Areas) → Written says (load_step (view (before a)) file) r (before a) (after a) no_answers no_answers
