-- What the functions say of the tombstones, by the model's definitions.
-- Assumes nothing.
use Rattle.std.specs.Prelude.{◌≡◌, ℕ, ◌-◌, ◌/◌, ◌<◌, ◌≤◌, Bool, cond, Result, Ok, Err, List, [], ◌∷◌, map, length}
use Rattle.courier_core.specs.Core.{first_of}
use Rattle.courier_core.specs.declared.Refusal.{Refusal}
use Rattle.courier_core.specs.declared.Refusal.TheVariants as refusal
use Rattle.octets.specs.Bytes.{splice}
use Rattle.table.specs.Rows.{held, join}
use Rattle.table.specs.declared.lent.Table.{Table}
use Rattle.table.specs.Tables.{rows_in}
use Rattle.table.specs.Codec.{table_of, TableNow}
use Rattle.rows.specs.declared.Device.{Device}
use Rattle.rows.specs.declared.Tombstone.{Tombstone}
use Rattle.rows.specs.Rows.{tombstone_width, tombstone_codec, action_bytes}
use Rattle.rows.specs.Limits.{u64_max}
use Rattle.model.specs.State.{State}
use Rattle.model.specs.Tombs.{tombstoned, least_expiry, remaining, evicted, no_row_to_store, no_slot_to_store, store_tombstone, store_actions}
use Rattle.model.specs.Areas.{Areas, store_device, bytes_after}
use Rattle.model.specs.Lent.{device_in, tombstones_in}
use Rattle.tombstones.specs.declared.Storing.{Storing}
use Rattle.tombstones.specs.declared.Storing.TheVariants as way

-- r is where the tombstone of least expiry stands, and is within the table if there is one
pub record Least (t : Table tombstone_width) (r : ℕ) : Type 0 where
  pub is : r ≡ least_expiry (rows_in tombstone_codec t)
  pub inside : r ≤ held (length t.area.now) tombstone_width t.count - 1

-- ---- what `store_tombstone` does, and its refusals

unfoldable pub how_to_store : State → List ℕ → Storing
how_to_store s tag = cond (tombstoned s.tombstones tag) way.Nothing way.New

unfoldable pub store_tests : State → List ℕ → List (Bool × Refusal)
store_tests s tag = (no_row_to_store s tag, refusal.NoTombstoneRow) ∷ (no_slot_to_store s tag, refusal.NoSlot) ∷ []

unfoldable pub store_choice : State → List ℕ → Result Storing Refusal
store_choice s tag = first_of (store_tests s tag) Err (Ok (how_to_store s tag))

-- the parts of a state that the choice reads, by the areas
pub record Reads (s : State) (d : Device) (area : List ℕ) : Type 0 where
  pub tombstones : s.tombstones ≡ table_of tombstone_codec d.tombstones area
  pub next_slot : s.next_slot ≡ d.next_slot
  pub rows : s.tombstone_rows ≡ length area / tombstone_width

abbrev pub ChoiceOf : Device → List ℕ → List ℕ → Result Storing Refusal → Type 0
ChoiceOf d area tag r = (s : State) → Reads s d area → r ≡ store_choice s tag

-- ---- room for one tombstone, stored or turned

-- room is made in the tombstones to: they are now x, and their number the device r has; and of the actions ac, now y, n are listed from at on
pub record RoomMade (d : Device) (at : ℕ) (to ac : List ℕ) (r : Device) (n : ℕ) (x y : List ℕ) : Type 0 where
  pub table : TableNow tombstone_codec to (remaining (table_of tombstone_codec d.tombstones to)) r.tombstones x
  pub device : r ≡ record d { tombstones = r.tombstones }
  pub listed : y ≡ splice ac at (join (map action_bytes (evicted (table_of tombstone_codec d.tombstones to))))
  pub number : n ≡ length (evicted (table_of tombstone_codec d.tombstones to))
  pub few : n ≤ 1

-- ---- what the writes rely on: there is a slot, and a free row once room is made

pub record Space (d : Device) (area : List ℕ) : Type 0 where
  pub rows : length (remaining (table_of tombstone_codec d.tombstones area)) < length area / tombstone_width
  pub slot : d.next_slot < u64_max

abbrev pub Room : Storing → Device → List ℕ → Type 0
Room way.Nothing d area = Unit {0}
Room way.New d area = Space d area

abbrev pub RoomFor : Result Storing Refusal → Device → List ℕ → Type 0
RoomFor (Err why) d area = Unit {0}
RoomFor (Ok how) d area = Room how d area

-- ---- what the writes leave

-- the tombstone that is stored, at the next slot
abbrev pub new_tombstone : Device → List ℕ → List ℕ → ℕ → Tombstone
new_tombstone d tag secret expiry = record { slot = d.next_slot; tag = tag; s = secret; expiry_min = expiry }

-- a tombstone was stored from the state s: the device d is now r, the tombstones to are now x, and of the actions ac, now y, n are listed from at on
pub record StoredAs (s : State) (d : Device) (tag secret : List ℕ) (expiry at : ℕ) (to ac : List ℕ) (r : Device) (n : ℕ) (x y : List ℕ) : Type 0 where
  pub device : r ≡ store_device d (store_tombstone s tag secret expiry)
  pub tombstones : x ≡ bytes_after tombstone_codec to (store_tombstone s tag secret expiry).held.tombstones
  pub actions : y ≡ splice ac at (join (map action_bytes (store_actions s tag)))
  pub count : n ≡ length (store_actions s tag)

abbrev pub Stores : Storing → Device → (tag secret : List ℕ) (expiry at : ℕ) (to ac : List ℕ) → Device → ℕ → (x y : List ℕ) → Type 0
Stores how d tag secret expiry at to ac r n x y =
    (s : State) → Reads s d to → how ≡ how_to_store s tag → StoredAs s d tag secret expiry at to ac r n x y

-- ---- what is lent

abbrev pub tombstones_lent : Device → List ℕ → Areas → Areas
tombstones_lent d area a = device_in d (tombstones_in area a)
