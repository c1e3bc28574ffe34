-- Laws of the tests of the own envelope call, and of the place of a new row.
-- Assumes nothing.
use Rattle.std.proofs.Common.{◌≡◌, ℕ, ◌+◌, ◌-◌, ◌*◌, ◌<◌, ◌≤◌, Bool, true, false, ◌&&◌, ◌||◌, eqb, ltb, leb, List, length, sym, refl, ap, ◌∙◌, ap₂, zero-add, add-zero, arith, ltb-false, le-ltb, eq-eqb, ne_eqb, leb-false, Some, None}
use mathlib.Core.Bool.{or-false}
use Rattle.octets.specs.Bytes.{part, num}
use Rattle.octets.proofs.Parts.{part_part}
use Rattle.table.specs.Lists.{position, unwrap_or, insert_at}
use Rattle.table.specs.Rows.{held}
use Rattle.table.specs.Codec.{table_of, TableNow}
use Rattle.table.proofs.FindLaws.{position_le, position_next}
use Rattle.table.proofs.TableLaws.{length_table, table_next}
use Rattle.courier_core.specs.declared.ContactId.{ContactId}
use Rattle.state.specs.Sizes.{cell_size}
use Rattle.rows.specs.declared.Contact.{Contact}
use Rattle.rows.specs.declared.Own.{Own}
use Rattle.rows.specs.Rows.{own_codec, contact_codec, contact_of, own_width}
use Rattle.rows.specs.Limits.{max_own, own_area}
use Rattle.model.specs.Contacts.{is_contact, contact_place, added_before}
use Rattle.model.specs.Own.{none_made, stands_after, insert_own}
use Rattle.own_envelope.specs.OwnEnvelope.{own_place}
use Rattle.own_envelope.proofs.WalkLaws.{first_found}

-- ---- the lengths

module _ (own : List Own) (len : ℕ) where
  -- an envelope is made: its ciphertext fits a cell, and there is room for its row
  pub room_made : none_made own len ≡ false → (len ≤ cell_size) × (length own < max_own)
  unfolding none_made
  room_made = go (ltb 2048 (len - 16)) (leb 256 (length own)) refl refl
    where
      go : (x y : Bool) → ltb 2048 (len - 16) ≡ x → leb 256 (length own) ≡ y → (x || y) ≡ false → (len ≤ 2064) × (length own < 256)
      go true y ex ey e = let z : ◌≡◌ {A = ℕ} 0 1 = cc in absurd (omega arith)
      go false true ex ey e = let z : ◌≡◌ {A = ℕ} 0 1 = cc in absurd (omega arith)
      go false false ex ey e = (omega (arith, ltb-false 2048 (len - 16) ex), omega (arith, leb-false 256 (length own) ey))

pub row_left : (count : ℕ) (own : List ℕ) → length own ≡ own_area → length (table_of own_codec count own) < max_own → held (length own) own_width count * own_width + own_width ≤ length own
row_left count own l h = omega (arith, l, h, length_table own_codec count own)

-- ---- the place of a new row

-- a contact's first place is no later than any other, and than the count
module _ (count : ℕ) (a : List ℕ) (id : ContactId) where
  pub first_by : {k v : ℕ} → k < held (length a) 9 count → v ≡ num (part a (k * 9) 8) → v ≡ id.0 → added_before (table_of contact_codec count a) id ≤ k
  unfolding added_before contact_place contact_of
  first_by {k} {v} h e t =
      first_found (is_contact id) 0 _ k _ (zero-add k)
      (position_next (is_contact id) (table_of contact_codec count a) k (contact_of (part a (k * 9) 9)) true (table_next contact_codec count a k h)
      (ap (λ (x : List ℕ). eqb (num x) id.0) (part_part a (k * 9) 9 0 8 (omega arith) ∙ ap (λ (j : ℕ). part a j 8) (add-zero (k * 9)))
      ∙ ap (λ (x : ℕ). eqb x id.0) (sym e) ∙ eq-eqb v id.0 t))

  pub first_inside : {n : ℕ} → n ≡ held (length a) 9 count → added_before (table_of contact_codec count a) id ≤ n
  unfolding added_before contact_place
  first_inside h = omega (arith, position_le (is_contact id) (table_of contact_codec count a), length_table contact_codec count a)

-- does a row stand after the new one: its number decides if it is of the same contact, else its contact
module _ (ps : List Contact) (id : ContactId) (msgno : ℕ) (row : Own) where
  abbrev after : Bool → Bool → Bool
  after later same = later || (same && ltb msgno row.msgno)

  pub after_message : row.contact.0 ≡ id.0 → ltb msgno row.msgno ≡ stands_after ps id msgno row
  unfolding stands_after
  after_message e =
      sym (ap₂ after
      (ap (λ (n : ℕ). ltb (added_before ps id) (added_before ps (record { 0 = n }))) e ∙ le-ltb (added_before ps id) (added_before ps id) (omega arith))
      (eq-eqb row.contact.0 id.0 e))

  module _ {mine : ℕ} (em : mine ≡ added_before ps id) (other : row.contact.0 ≡ id.0 → ⊥) where
    pub after_contact : {n : ℕ} → n ≡ added_before ps row.contact → ltb mine n ≡ stands_after ps id msgno row
    unfolding stands_after
    after_contact {n} e = sym (or-false (ltb mine n)) ∙ ap₂ after (ap₂ ltb em e) (sym (ne_eqb row.contact.0 id.0 other))

    pub not_after : {place : ℕ} → added_before ps row.contact ≤ place → place ≤ mine → false ≡ stands_after ps id msgno row
    not_after h k = sym (le-ltb mine (added_before ps row.contact) (omega arith)) ∙ after_contact refl

module _ (ps : List Contact) (id : ContactId) (msgno count : ℕ) (a : List ℕ) where
  abbrev T : List Own
  T = table_of own_codec count a

  pub place_at : (i : ℕ) → position (stands_after ps id msgno) T ≡ Some i → i ≡ own_place ps id msgno T
  unfolding own_place
  place_at i e = sym (ap (unwrap_or (length T)) e)

  pub place_behind : (n : ℕ) → n ≡ held (length a) 54 count → position (stands_after ps id msgno) T ≡ None → n ≡ own_place ps id msgno T
  unfolding own_place
  place_behind n h e = h ∙ sym (length_table own_codec count a) ∙ sym (ap (unwrap_or (length T)) e)

  pub place_le : {i n : ℕ} → i ≡ own_place ps id msgno T → n ≡ held (length a) 54 count → i ≤ n
  unfolding own_place
  place_le e h = omega (arith, e, h, position_le (stands_after ps id msgno) T, length_table own_codec count a)

-- a row put in at its place
pub inserted : (ps : List Contact) (row : Own) (own : List Own) {a x : List ℕ} {i m : ℕ} → i ≡ own_place ps row.contact row.msgno own
    → TableNow own_codec a (insert_at i row own) m x → TableNow own_codec a (insert_own ps row own) m x
unfolding insert_own own_place
inserted ps row own e N = rw e at N
