-- Laws of a row that is put in by its slot.
-- Assumes nothing.
use Rattle.std.proofs.Common.{◌≡◌, ℕ, ◌+◌, ◌-◌, ◌*◌, ◌<◌, ◌≤◌, Bool, cond, ltb, List, map, length, take, drop, sym, refl, ap, ◌∙◌, subst, ap₂, add-zero, arith, Some, None}
use Rattle.std.proofs.lemmas.List.{take_rest}
use Rattle.octets.specs.Bytes.{part, splice, num}
use Rattle.octets.proofs.Parts.{part_part}
use Rattle.table.specs.Lists.{All, position_from, position, unwrap_or, insert_at}
use Rattle.table.specs.Rows.{held, rows, RowsNow}
use Rattle.table.specs.Codec.{Codec, CodecLaws, table_of, TableNow}
use Rattle.table.proofs.ListLaws.{all_insert_at, length_insert_at}
use Rattle.table.proofs.RowLaws.{length_rows, rows_next, held_all}
use Rattle.table.proofs.FindLaws.{position_next, position_end, position_le, position_map}
use Rattle.table.proofs.TableLaws.{length_table, table_insert}
use Rattle.rows.specs.Rows.{carried_codec, carried_of, tombstone_codec, tombstone_of}
use Rattle.state.specs.declared.Carried.{Carried as HeldCarried}
use Rattle.rows.specs.declared.Carried.{Carried}
use Rattle.rows.specs.Proper.{ProperCarried}
use Rattle.load.specs.Load.{insert_by, carried_slot, carried_row}
use Rattle.load.specs.Laying.{higher, Inserted, Carries}

module _ (w n : ℕ) (a : List ℕ) (slot : ℕ) where
  pub slot_next : (i v : ℕ) (b : Bool) → 8 ≤ w → i < n → v ≡ num (part a (i * w) 8) → ltb slot v ≡ b
      → position_from i (higher slot) (drop i (rows w n a)) ≡ cond b (Some i) (position_from (i + 1) (higher slot) (drop (i + 1) (rows w n a)))
  unfolding higher
  slot_next i v b h k e t =
      position_next (higher slot) (rows w n a) i (part a (i * w) w) b (rows_next w i n a k)
      (ap (λ (x : List ℕ). ltb slot (num x)) (part_part a (i * w) w 0 8 (omega arith) ∙ ap (λ (j : ℕ). part a j 8) (add-zero (i * w)))
      ∙ ap (ltb slot) (sym e) ∙ t)

  pub slot_end : (i : ℕ) → n ≤ i → position_from i (higher slot) (drop i (rows w n a)) ≡ None
  slot_end i h = position_end (higher slot) (rows w n a) i (omega (arith, length_rows w n a))

  pub place_le : {i : ℕ} → i ≡ unwrap_or n (position (higher slot) (rows w n a)) → i ≤ n
  place_le e =
      omega (arith, e, ap (λ (k : ℕ). unwrap_or k (position (higher slot) (rows w n a))) (length_rows w n a), position_le (higher slot) (rows w n a), length_rows w n a)

-- rows that are proper stay so
pub insert_proper : {A : Type 0} {P : A → Type 0} (key : A → ℕ) (t : A) (ts : List A) → P t → All P ts → All P (insert_by key t ts)
unfolding insert_by
insert_proper key t ts p q = all_insert_at _ t ts q p

-- of rows of bytes and of typed rows: each starts with its slot
module _ {A : Type 0} {c : Codec A} {P : A → Type 0} (laws : CodecLaws c P) (key : A → ℕ) (same : (b : List ℕ) → num (part b 0 8) ≡ key (c.decode b)) where
  pub inserted_by : (n m : ℕ) (a x b : List ℕ) (t : A) → n * c.width + c.width ≤ length a → P t → b ≡ c.encode t
      → RowsNow c.width a (insert_at (unwrap_or n (position (higher (num (part b 0 8))) (rows c.width n a))) b (rows c.width n a)) m x
      → Inserted c P key t n a m x
  unfolding insert_by table_of higher
  inserted_by n m a x b t h p e N =
      let w : ℕ = c.width in
      let T : List A = table_of c n a in
      let k : held (length a) w n ≡ n = held_all (length a) w n laws.wide (omega arith) in
      let s : num (part b 0 8) ≡ key t = same b ∙ ap key (ap c.decode e ∙ laws.decode_encode t p) in
      let f : position (higher (num (part b 0 8))) (rows w n a) ≡ position (λ (r : A). ltb (key t) (key r)) T =
      position_map c.decode (higher (num (part b 0 8))) (λ (r : A). ltb (key t) (key r)) (λ r. ap₂ ltb s (same r)) 0 (rows w n a)
      ∙ ap (λ (j : ℕ). position (λ (r : A). ltb (key t) (key r)) (map c.decode (rows w j a))) (sym k) in
      let g : unwrap_or n (position (higher (num (part b 0 8))) (rows w n a)) ≡ unwrap_or (length T) (position (λ (r : A). ltb (key t) (key r)) T) =
      ap₂ unwrap_or (sym (length_table c n a ∙ k)) f in
      let i : ℕ = unwrap_or n (position (higher (num (part b 0 8))) (rows w n a)) in
      record {
        more = N.count ∙ length_insert_at (rows w n a) i b (omega (arith, place_le w n a (num (part b 0 8)) {i = i} refl, length_rows w n a)) ∙ ap (λ (j : ℕ). j + 1) (length_rows w n a);
        table = subst (λ (j : ℕ). TableNow c a (insert_at j t T) m x) g (table_insert laws n n a x m (sym k) b i t p e N);
        bytes = N.bytes;
        proper = p;
      }

pub carried_starts : (b : List ℕ) → num (part b 0 8) ≡ (carried_codec.decode b).slot
unfolding carried_of
carried_starts b = refl

pub tombstone_starts : (b : List ℕ) → num (part b 0 8) ≡ (tombstone_codec.decode b).slot
unfolding tombstone_of
tombstone_starts b = refl

-- a carried record: its row among the others, its ciphertext in its cell
pub carries : (b : List ℕ) (row : HeldCarried) (p : ℕ) (x z : List ℕ) (p' : ℕ) (x' z' : List ℕ) {slot : ℕ} {new : Carried}
    → slot ≡ num (part b 2 8) → new ≡ carried_row slot (length b - 58) p row → z' ≡ splice z (p * 2064) (take (length b - 58) (drop 58 b))
    → Inserted carried_codec ProperCarried carried_slot new p x p' x' → Carries b row p x z p' x' z'
carries b row p x z p' x' z' es en ez I = record {
  table = subst (λ (r : Carried). Inserted carried_codec ProperCarried carried_slot r p x p' x') (en ∙ ap (λ (s : ℕ). carried_row s (length b - 58) p row) es) I;
  cells = ez ∙ ap (splice z (p * 2064)) (take_rest b 58);
}
