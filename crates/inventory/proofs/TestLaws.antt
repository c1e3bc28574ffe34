-- The refusals of inventory received, in document 01's order.
-- Assumes nothing.
use Rattle.std.proofs.Common.{◌≡◌, ℕ, ◌*◌, ◌%◌, ◌≤◌, min, Bool, true, false, not, ◌||◌, ltb, List, [], ◌∷◌, length, sym, refl, ap, ◌∙◌, arith, ltb-false, Option, Result, Ok, Err}
use Rattle.courier_core.specs.Core.{first_of}
use Rattle.courier_core.specs.declared.ContactId.{ContactId}
use Rattle.courier_core.specs.declared.Refusal.{Refusal}
use Rattle.courier_core.specs.declared.Refusal.TheVariants as refusal
use Rattle.table.specs.Rows.{ragged, Fits}
use Rattle.table.specs.Codec.{table_of}
use Rattle.table.proofs.RowLaws.{held_all}
use Rattle.rows.specs.declared.Device.{Device}
use Rattle.rows.specs.Rows.{contact_codec, prefix_width}
use Rattle.rows.specs.Limits.{max_inventory, prefix_area, offer_area, reply_area}
use Rattle.model.specs.State.{State, no_state, nobody}
use Rattle.model.specs.Contacts.{known, is_for}
use Rattle.model.specs.Window.{window_rows, wrong_window, strangers}
use Rattle.model.specs.Exchange.{receive_inventory_tests}
use Rattle.model.proofs.KeepRows.{or_false}
use Rattle.inventory.specs.Inventory.{Reads}

-- one test after another
pub or_no : {x y z : Bool} → x ≡ false → z ≡ y → z ≡ (x || y)
or_no e f = rw e f

-- max_inventory at most, which fit an area that has room for them
pub capped : (len count : ℕ) {k : ℕ} → prefix_area ≤ len → k ≡ min count max_inventory → Fits len prefix_width (min max_inventory count) k × (k ≤ max_inventory)
capped len count {k} room e =
    let m : k ≡ min 512 count = omega arith in
    let h : min 512 count * 8 ≤ len = omega arith in
    (record { is = m ∙ sym (held_all len 8 (min 512 count) (omega arith) h); inside = omega arith }, omega arith)

-- the first test that holds, as the call answers it
abbrev pub first_refusal : List (Bool × Refusal) → Result Unit Refusal
first_refusal ts = first_of ts Err (Ok tt)

-- ---- the room that a call asks for

pub not_many : (x : Bool) (n : ℕ) → (x || ltb max_inventory n) ≡ false → n ≤ max_inventory
not_many x n e = ltb-false 512 n (or_false x (ltb 512 n) e).1

pub record Room (r p o : ℕ) (listed : List ℕ) : Type 0 where
  pub replies : reply_area ≤ r
  pub prefixes : prefix_area ≤ p
  pub offers : offer_area ≤ o
  pub whole : length listed % prefix_width ≡ 0

-- ---- the four tests

abbrev told : (short wrong stranger other : Bool) → Result Unit Refusal
told short wrong stranger other =
    first_refusal ((short, refusal.ShortArea) ∷ (wrong, refusal.WindowRows) ∷ (stranger, refusal.UnknownContact) ∷ (other, refusal.WrongExchange) ∷ [])

module _ (d : Device) (contacts : List ℕ) (to : Option ContactId) (prefixes offers replies : ℕ) (window : List ℕ) (peer : ContactId) (listed : List ℕ) (s : State) (R : Reads s d contacts to prefixes offers) where
  abbrev Short : Bool
  Short = ltb replies reply_area || (ltb prefixes prefix_area || ltb offers offer_area)

  abbrev Wrong : Bool
  Wrong = wrong_window window || ragged 8 listed

  abbrev Unknown : Bool
  Unknown = not (known (table_of contact_codec d.contacts contacts) peer) || strangers (table_of contact_codec d.contacts contacts) (window_rows window)

  abbrev Says : Result Unit Refusal → Type 0
  Says r = r ≡ first_refusal (receive_inventory_tests s replies window peer listed)

  tell : Says (told Short Wrong Unknown (not (is_for peer to)))
  unfolding receive_inventory_tests
  tell = rw (R.contacts, R.peer, R.prefix_area, R.offer_area)

  pub is_short : Short ≡ true → Says (Err refusal.ShortArea)
  is_short a = ap (λ (x : Bool). told x Wrong Unknown (not (is_for peer to))) (sym a) ∙ tell

  module _ (a : Short ≡ false) where
    pub is_wrong : Wrong ≡ true → Says (Err refusal.WindowRows)
    is_wrong b = (λ j. told (sym a j) (sym b j) Unknown (not (is_for peer to))) ∙ tell

    module _ (b : Wrong ≡ false) where
      pub is_unknown : Unknown ≡ true → Says (Err refusal.UnknownContact)
      is_unknown c = (λ j. told (sym a j) (sym b j) (sym c j) (not (is_for peer to))) ∙ tell

      module _ (c : Unknown ≡ false) where
        pub is_other_lem : not (is_for peer to) ≡ true → Says (Err refusal.WrongExchange)
        is_other_lem e = (λ j. told (sym a j) (sym b j) (sym c j) (sym e j)) ∙ tell

        pub is_passed : not (is_for peer to) ≡ false → Says (Ok tt)
        is_passed e = (λ j. told (sym a j) (sym b j) (sym c j) (sym e j)) ∙ tell

-- ---- a call that passes has the room

module _ (d : Device) (contacts : List ℕ) (to : Option ContactId) (prefixes offers replies : ℕ) (window : List ℕ) (peer : ContactId) (listed : List ℕ) where
  -- what the function that tests says of every state
  abbrev pub Tests : Result Unit Refusal → Type 0
  Tests r = (s : State) → Reads s d contacts to prefixes offers → r ≡ first_refusal (receive_inventory_tests s replies window peer listed)

  -- a state of which nothing else is known
  abbrev some_state : State
  some_state = record (no_state d.courier) {
    contacts = table_of contact_codec d.contacts contacts;
    session = record { exchange = record nobody { peer = to }; prefix_area = prefixes; offer_area = offers };
  }

  pub has_room : {r : Result Unit Refusal} → Tests r → r ≡ (Ok tt) → Room replies prefixes offers listed
  unfolding ragged
  has_room t q =
      let R : Reads some_state d contacts to prefixes offers = record { contacts = refl; peer = refl; prefix_area = refl; offer_area = refl } in
      let p = go (Short d contacts to prefixes offers replies window peer listed some_state R) (Wrong d contacts to prefixes offers replies window peer listed some_state R)
      (Unknown d contacts to prefixes offers replies window peer listed some_state R) (not (is_for peer to))
      (sym q ∙ t some_state R ∙ sym (tell d contacts to prefixes offers replies window peer listed some_state R)) in
      let a = or_false (ltb replies 61440) (ltb prefixes 4096 || ltb offers 8704) p.0 in
      let b = or_false (ltb prefixes 4096) (ltb offers 8704) a.1 in
      record {
        replies = ltb-false replies 61440 a.0;
        prefixes = ltb-false prefixes 4096 b.0;
        offers = ltb-false offers 8704 b.1;
        whole = omega (arith, ltb-false 0 (length listed % 8) (or_false (wrong_window window) (ltb 0 (length listed % 8)) p.1).1);
      }
    where
      go : (a b c o : Bool) → (Ok tt) ≡ told a b c o → (a ≡ false) × (b ≡ false)
      go true b c o e = let z : ◌≡◌ {A = ℕ} 0 1 = cc in absurd (omega arith)
      go false true c o e = let z : ◌≡◌ {A = ℕ} 0 1 = cc in absurd (omega arith)
      go false false c o e = (refl, refl)
