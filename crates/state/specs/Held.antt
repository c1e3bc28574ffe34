-- Document 01's held rows: `Held::row` as bytes and into a blob area, and `Held::decode`.
-- Assumes nothing.
use Rattle.std.specs.Prelude.{◌≡◌, ℕ, ◌-◌, Bool, cond, ◌&&◌, List, [], ◌∷◌, ◌++◌, length, take, drop, ◌==◌, nat_le, nat_lt, slice_index, Result, Ok, Err, Some, None, Option}
use Rattle.std.specs.Prelude
use Rattle.octets.specs.Bytes.{part, splice, num, be}
use Rattle.courier_core.specs.Core.{number_of}
use Rattle.courier_core.specs.declared.Refusal.{Refusal}
use Rattle.courier_core.specs.declared.Refusal.TheVariants as refusal
use Rattle.courier.specs.Courier.{header_bytes, header_of, carried_length, envelope_header}
use Rattle.state.specs.declared.Carried.{Carried}
use Rattle.state.specs.declared.Tombstone.{Tombstone}
use Rattle.state.specs.declared.Held.{Held as Row}
use Rattle.state.specs.declared.Held.TheVariants as row
use Rattle.state.specs.Sizes.{cell_size, carried_head_size, tombstone_row_size, blob_size}

-- a held row; a carried one with its ciphertext
pub data Held : Type 0 where
  carried : Carried → List ℕ → Held
  tombstone : Tombstone → Held

-- the bytes of a carried row before its ciphertext: 0, depositor 8, and the envelope's 37
unfoldable pub carried_head : Carried → List ℕ
carried_head r = (0 ∷ []) ++ be 8 r.depositor.0 ++ header_bytes r.header

-- `Held::row`. Of a ciphertext longer than a cell, 2,064, it is what lies inside the cell
unfoldable pub held_row : Held → List ℕ
held_row (carried r ct) = carried_head r ++ take cell_size ct
held_row (tombstone t) = (1 ∷ []) ++ t.tag ++ t.s ++ be 4 t.expiry_min

-- a row written to a blob area: an area shorter than 2,110 is refused and stays; else the row's bytes are its first and the rest stays
unfoldable pub row_answered : List ℕ → List ℕ → Result ℕ Refusal
row_answered row area = cond (nat_lt (length area) blob_size) (Err refusal.ShortArea) (Ok (length row))

unfoldable pub row_area : List ℕ → List ℕ → List ℕ
row_area row area = cond (nat_lt (length area) blob_size) area (splice area 0 row)

pub record RowWritten (row before : List ℕ) (said : Result ℕ Refusal) (after : List ℕ) : Type 0 where
  pub answer : said ≡ row_answered row before
  pub number : number_of said ≡ cond (nat_lt (length before) blob_size) 1 0
  pub area : after ≡ row_area row before

-- what a carried blob spells after its kind
unfoldable pub carried_of : List ℕ → Carried
carried_of b = record { depositor = record { 0 = num (part b 1 8) }; header = header_of (part b 9 envelope_header) }

-- Does a row of such a ciphertext length and expiry read back? Its copies may be any number: they may all have been handed on.
unfoldable pub reads_back : ℕ → ℕ → Bool
reads_back len expiry = carried_length len && nat_lt 0 expiry

unfoldable pub carried_in : List ℕ → Option Held
carried_in b =
    cond (nat_le carried_head_size (length b) && reads_back (length b - carried_head_size) (carried_of b).header.expiry_min)
    (Some (carried (carried_of b) (drop carried_head_size b))) None

-- the same of a tombstone, which ends with its expiry
unfoldable pub tombstone_of : List ℕ → Tombstone
tombstone_of b = record { tag = part b 1 16; s = part b 17 16; expiry_min = num (part b 33 4) }

unfoldable pub tombstone_in : List ℕ → Option Held
tombstone_in b = cond (length b == tombstone_row_size) (Some (tombstone (tombstone_of b))) None

-- `Held::decode`, by the kind byte. (An empty blob has none; it is too short for either kind.)
unfoldable pub held_decode : List ℕ → Option Held
held_decode b = cond (slice_index b 0 == 0) (carried_in b) (cond (slice_index b 0 == 1) (tombstone_in b) None)

-- what `decode` answers for each case; a carried row's ciphertext is the blob's from 46 on
abbrev pub held_read : Option Held → Prelude.Option Row
held_read None = None
held_read (Some (carried r ct)) = Some (row.Carried r)
held_read (Some (tombstone t)) = Some (row.Tombstone t)
