-- Laws of the tests of the envelope call: rows by their keys, and each test over its parts.
-- Assumes nothing.
use Rattle.std.proofs.Common.{◌≡◌, ℕ, suc, ◌+◌, ◌*◌, ◌<◌, ◌≤◌, Bool, false, refl, ◌||◌, ltb, leb, List, length, drop, zero, sym, ap, ◌∙◌, ap₂, arith, drop_of_length-le, le-ltb}
use Rattle.std.specs.List.{range_with_len, sum_by}
use Rattle.std.proofs.lemmas.List.Sums.{sum_by-cons}
use Rattle.octets.specs.Bytes.{part, num, same_bytes}
use Rattle.octets.proofs.Parts.{part_part}
use Rattle.courier_core.specs.declared.ContactId.{ContactId}
use Rattle.courier.specs.declared.Header.{Header}
use Rattle.courier.specs.Courier.{envelope_valid}
use Rattle.table.specs.Lists.{any}
use Rattle.table.specs.Rows.{held, rows, has_key}
use Rattle.table.specs.Codec.{Codec, table_of}
use Rattle.table.proofs.FindLaws.{key_run}
use Rattle.table.proofs.RowLaws.{held_inside}
use Rattle.table.proofs.TableLaws.{length_table, table_next, table_any}
use Rattle.rows.specs.declared.Device.{Device}
use Rattle.rows.specs.declared.Carried.{Carried}
use Rattle.rows.specs.declared.Contact.{Contact}
use Rattle.rows.specs.Rows.{contact_codec, own_codec, carried_codec, tombstone_codec, carried_width, carried_of}
use Rattle.model.specs.State.{State}
use Rattle.model.specs.Areas.{Areas, view}
use Rattle.model.specs.Contacts.{now_min, is_verified}
use Rattle.model.specs.Cells.{cell_length}
use Rattle.model.specs.Custody.{own_of_tag, carried_of_tag, quota, duplicate, deposited, carried_total, full, custody_of}
use Rattle.model.specs.Tombs.{tombstoned}
use Rattle.model.proofs.Laws.{carried_total_lem}
use Rattle.model.proofs.KeepRows.{code}
use Rattle.custody.specs.Lent.{Lends}

-- a search of the rows of bytes for a tag, at the place where the rows have it, is the search of the typed rows
pub tagged : {A : Type 0} (c : Codec A) (tag_of : A → List ℕ) (o : ℕ) → ((b : List ℕ) → part b o 16 ≡ tag_of (c.decode b)) → (tag : List ℕ) (count : ℕ) (a : List ℕ) (b : Bool)
    → length tag ≡ 16 → b ≡ any (has_key o tag) (rows c.width (held (length a) c.width count) a) → any (λ (r : A). same_bytes (tag_of r) tag) (table_of c count a) ≡ b
tagged {A} c tag_of o same tag count a b l e =
    sym (table_any c count _ a refl (has_key o tag) (λ (r : A). same_bytes (tag_of r) tag) (λ r. key_run o 16 tag r l ∙ ap (λ (t : List ℕ). same_bytes t tag) (same r)) b e)

-- what own, carried and tombstone rows say of a tag is what duplicate says
pub duplicate_of : {device : Device} {own carried tombstones : List ℕ} (tag : List ℕ) (a : Areas) → a.device ≡ device → a.own ≡ own → a.carried ≡ carried
    → a.tombstones ≡ tombstones → (o c t : Bool) → any (own_of_tag tag) (table_of own_codec device.own own) ≡ o
    → any (carried_of_tag tag) (table_of carried_codec device.carried carried) ≡ c
    → tombstoned (table_of tombstone_codec device.tombstones tombstones) tag ≡ t → duplicate (view a) tag ≡ (o || c || t)
unfolding duplicate tombstoned view
duplicate_of tag a ed eo ec et o c t po pc pt = rw (ed, eo, ec, et, po, pc, pt)

-- ---- the bytes of carried rows

-- header and ciphertext bytes of the row at the place of row i
abbrev pub bytes_at : List ℕ → ℕ → ℕ → ℕ
bytes_at a size i = 37 + cell_length size (num (part a (i * 57 + 55) 2)) (num (part a (i * 57 + 53) 2))

module _ (size count n : ℕ) (a : List ℕ) (held-n : n ≡ held (length a) carried_width count) where
  abbrev held_rows : List Carried
  held_rows = table_of carried_codec count a

  total_from : (k i : ℕ) → i + k ≡ n → sum_by (bytes_at a size) (range_with_len i k) ≡ carried_total size (drop i held_rows)
  unfolding carried_total carried_of
  total_from zero i e =
      sym (ap (carried_total size) (drop_of_length-le held_rows {i = i} (omega (arith, length_table carried_codec count a))))
  total_from (suc k) i e =
      let f : cell_length size (num (part a (i * 57 + 55) 2)) (num (part a (i * 57 + 53) 2)) ≡ cell_length size (num (part (part a (i * 57) 57) 55 2)) (num (part (part a (i * 57) 57) 53 2)) =
      sym (ap₂ (λ (x y : List ℕ). cell_length size (num x) (num y)) (part_part a (i * 57) 57 55 2 (omega arith)) (part_part a (i * 57) 57 53 2 (omega arith))) in
      omega (arith, f, sum_by-cons (bytes_at a size) i (range_with_len (i + 1) k), total_from k (i + 1) (omega arith), ap (carried_total size) (table_next carried_codec count a i (omega arith)))

  pub total_all : sum_by (bytes_at a size) (range_with_len 0 n) ≡ carried_total size held_rows
  total_all = total_from n 0 (omega arith)

  pub total_fits : length a ≤ 14592 → sum_by (bytes_at a size) (range_with_len 0 n) < 18446744073709551616
  total_fits h = omega (arith, total_all, carried_total_lem size held_rows, length_table carried_codec count a, held_inside (length a) 57 count)

-- ---- Full

-- a ciphertext that fits a cell never passes the limit of bytes
pub few_bytes : (size len count : ℕ) (a : List ℕ) → length a ≤ 14592 → len ≤ 2064
    → ltb 1048576 (carried_total size (table_of carried_codec count a) + (37 + len)) ≡ false
few_bytes size len count a e h =
    let T : List Carried = table_of carried_codec count a in
    le-ltb 1048576 (carried_total size T + (37 + len))
    (omega (arith, carried_total_lem size T, length_table carried_codec count a, held_inside (length a) 57 count))

pub full_of : {size : ℕ} {rows : List Carried} {contacts : List Contact} (len : ℕ) (peer : ContactId) (s : State) → s.carried ≡ rows → s.contacts ≡ contacts
    → size ≡ length s.carried_cells → (x y z : Bool) → leb 256 (length rows) ≡ x → ltb 1048576 (carried_total size rows + (37 + len)) ≡ y
    → leb (quota (is_verified contacts peer)) (deposited rows peer) ≡ z → full s peer len ≡ (x || y || z)
unfolding full
full_of len peer s er ec es x y z px py pz = rw (er, ec, ← es, px, py, pz)

-- ---- the code, by what the tests say of areas that are lent

pub code_at : {a : Areas} {d : Device} {ps os rs ts : List ℕ} {n : ℕ} → Lends a d ps os rs ts n → (peer : ContactId) (head : Header) (len : ℕ) (o v u f : Bool)
    {m : ℕ} → m ≡ now_min d.now_s → d.courier.enabled ≡ o → envelope_valid len head.copies head.expiry_min m ≡ v → duplicate (view a) head.tag ≡ u
    → full (view a) peer len ≡ f → code o v u f ≡ custody_of (view a) peer head len
unfolding custody_of view
code_at L peer head len o v u f em po pv pu pf = rw (pu, pf, L.device, ← em, po, pv)

module _ {device : Device} (a : Areas) (e : a.device ≡ device) where
  pub contacts_in_lem : {x : List ℕ} → a.contacts ≡ x → (view a).contacts ≡ table_of contact_codec device.contacts x
  unfolding view
  contacts_in_lem p = rw (e, p)

  pub carried_in_lem : {x : List ℕ} → a.carried ≡ x → (view a).carried ≡ table_of carried_codec device.carried x
  unfolding view
  carried_in_lem p = rw (e, p)

pub cells_in : (a : Areas) {size : ℕ} → size ≡ length a.carried_cells → size ≡ length (view a).carried_cells
unfolding view
cells_in a p = p
