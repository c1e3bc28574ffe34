-- Contacts looked for by their number.
-- Assumes nothing.
use Rattle.std.proofs.Common.{◌≡◌, ℕ, ◌+◌, ◌*◌, ◌<◌, ◌≤◌, Bool, false, eqb, List, length, get_or, sym, ap, ◌∙◌, arith, Option, Some, None, refl, ap₂}
use Rattle.std.specs.Option.{option_eq, unwrap_or as or_else}
use Rattle.octets.specs.Bytes.{part}
use Rattle.courier_core.specs.declared.ContactId.{ContactId}
use Rattle.table.specs.Lists.{is_at, unwrap_or}
use Rattle.table.specs.Rows.{held}
use Rattle.table.specs.Codec.{table_of}
use Rattle.table.proofs.RowLaws.{held_inside}
use Rattle.table.proofs.TableLaws.{length_table, get_d_table}
use Rattle.table.proofs.FindLaws.{position_any, position_first}
use Rattle.rows.specs.declared.Contact.{Contact}
use Rattle.rows.specs.Rows.{contact_of, contact_codec}
use Rattle.model.specs.Basics.{match_found}
use Rattle.model.specs.Contacts.{no_contact, is_for, is_contact, known, contact_place, is_verified, added_before}

same_or : (d : ℕ) (f : Option ℕ) → or_else f d ≡ unwrap_or d f
same_or d None = refl
same_or d (Some i) = refl

module _ (count : ℕ) (a : List ℕ) (id : ContactId) where
  abbrev table : List Contact
  table = table_of contact_codec count a

  abbrev rows_held : ℕ
  rows_held = held (length a) 9 count

  pub place_inside : (i : ℕ) → Some i ≡ contact_place table id → i < rows_held
  unfolding contact_place
  place_inside i e = omega (arith, (position_first (is_contact id) table no_contact i (sym e)).inside, length_table contact_codec count a)

  module _ (i : ℕ) (e : Some i ≡ contact_place table id) where
    pub row_inside : i * 9 + 9 ≤ length a
    row_inside = omega (arith, place_inside i e, held_inside (length a) 9 count)

    pub verified_at : {r : Contact} → r ≡ contact_of (part a (i * 9) 9) → eqb r.verification 1 ≡ is_verified table id
    unfolding is_verified
    verified_at q =
        ap (λ (r : Contact). eqb r.verification 1) (q ∙ sym (get_d_table contact_codec count a i no_contact (place_inside i e)))
        ∙ ap (λ (f : Option ℕ). match_found f (λ j. eqb (get_or table j no_contact).verification 1) false) e

  pub not_verified : None ≡ contact_place table id → false ≡ is_verified table id
  unfolding is_verified
  not_verified e = ap (λ (f : Option ℕ). match_found f (λ j. eqb (get_or table j no_contact).verification 1) false) e

  -- what a place that is found says of the contact
  module _ (f : Option ℕ) (e : f ≡ contact_place table id) where
    pub is_known_lem : is_at f ≡ known table id
    unfolding contact_place known
    is_known_lem = ap is_at e ∙ position_any (is_contact id) 0 table

    pub before_it : (n : ℕ) → n ≡ rows_held → or_else f n ≡ added_before table id
    unfolding added_before
    before_it n h = same_or n f ∙ ap₂ unwrap_or (h ∙ sym (length_table contact_codec count a)) e

-- is the peer the one that is remembered, as code compares it with `==`
pub same_peer : (eq : ContactId → ContactId → Bool) (peer : ContactId) → ((p : ContactId) → eq p peer ≡ eqb p.0 peer.0)
    → (to : Option ContactId) → option_eq eq to (Some peer) ≡ is_for peer to
same_peer eq peer same (Some p) = same p
same_peer eq peer same None = refl

-- what `is_verified` asks of the place, and what it says of it
pub place_fits : (count : ℕ) (a : List ℕ) (id : ContactId) (i : ℕ) → contact_place (table_of contact_codec count a) id ≡ Some i → i * 9 + 9 ≤ length a
place_fits count a id i e = row_inside count a id i (sym e)

pub verified_some : (count : ℕ) (a : List ℕ) (id : ContactId) (i : ℕ) → contact_place (table_of contact_codec count a) id ≡ Some i
    → is_verified (table_of contact_codec count a) id ≡ eqb (contact_of (part a (i * 9) 9)).verification 1
verified_some count a id i e = sym (verified_at count a id i (sym e) refl)

pub verified_none : (count : ℕ) (a : List ℕ) (id : ContactId) → contact_place (table_of contact_codec count a) id ≡ None
    → is_verified (table_of contact_codec count a) id ≡ false
verified_none count a id e = sym (not_verified count a id (sym e))
