-- What the tables keep over every list of calls: the order in which the definitions read them, and the cells that their rows name.
-- Assumes nothing.
use Rattle.std.specs.Prelude.{◌≡◌, ℕ, ◌<◌, ◌≤◌, true, ◌⊎◌, List, [], ◌∷◌, length, ◌≢◌}
use Rattle.table.specs.Lists.{All}
use Rattle.state.specs.Sizes.{cell_size}
use Rattle.rows.specs.declared.Contact.{Contact}
use Rattle.rows.specs.declared.Own.{Own}
use Rattle.rows.specs.declared.Carried.{Carried}
use Rattle.rows.specs.declared.Tombstone.{Tombstone}
use Rattle.model.specs.Contacts.{known, added_before}
use Rattle.model.specs.Cells.{cell_count}

-- the relation holds between each element and every later one
pub data Sorted {A : Type 0} (R : A → A → Type 0) : List A → Type 0 where
  empty : Sorted R []
  next : {x : A} {xs : List A} → All (R x) xs → Sorted R xs → Sorted R (x ∷ xs)

infix 40 ◌∈◌
pub data ◌∈◌ {A : Type 0} : A → List A → Type 0 where
  here : {x : A} {xs : List A} → x ∈ (x ∷ xs)
  there : {x y : A} {xs : List A} → x ∈ xs → x ∈ (y ∷ xs)

-- the cell of a row is one of the area's, and its ciphertext fits the cell
abbrev pub InCell : (size cell len : ℕ) → Type 0
InCell size cell len = (cell < cell_count size) × (len ≤ cell_size)

-- own rows stand by contact as added and message number
abbrev pub OwnBefore : List Contact → Own → Own → Type 0
OwnBefore ps a b =
    (added_before ps a.contact < added_before ps b.contact)
    ⊎ ((a.contact.0 ≡ b.contact.0) × (a.msgno < b.msgno))

-- The slots of each table rise, no slot is in both, all are below the next slot; a cell is named by at most one carried row.
pub record HeldOrder (carried : List Carried) (tombstones : List Tombstone) (next : ℕ) (cells : List ℕ) : Type 0 where
  pub carried_rise : Sorted (λ (a b : Carried). a.slot < b.slot) carried
  pub carried_below : All (λ (r : Carried). r.slot < next) carried
  pub tombstones_rise : Sorted (λ (a b : Tombstone). a.slot < b.slot) tombstones
  pub tombstones_below : All (λ (t : Tombstone). t.slot < next) tombstones
  pub apart : All (λ (r : Carried). All (λ (t : Tombstone). r.slot ≢ t.slot) tombstones) carried
  pub cells_differ : Sorted (λ (a b : Carried). a.cell ≢ b.cell) carried
  pub in_cells : All (λ (r : Carried). InCell (length cells) r.cell r.len) carried

-- Own rows stand in their order, each for a contact that is known; a cell is named by at most one own row.
pub record OwnOrder (contacts : List Contact) (own : List Own) (cells : List ℕ) : Type 0 where
  pub stand : Sorted (OwnBefore contacts) own
  pub for_known : All (λ (o : Own). known contacts o.contact ≡ true) own
  pub cells_differ : Sorted (λ (a b : Own). a.cell ≢ b.cell) own
  pub in_cells : All (λ (o : Own). InCell (length cells) o.cell o.len) own
