-- The call inventory of ours: what is written is the model's list, and each way out is the model's step.
-- Assumes nothing.
use Rattle.std.proofs.Common.{◌≡◌, ℕ, ◌+◌, ◌*◌, ◌<◌, ◌≤◌, Bool, true, false, cond, not, List, [], ◌∷◌, map, length, take, sym, refl, ap, ◌∙◌, ap₂, zero-add, arith, length-take-le, le-ltb, lt-ltb, Option, Some, None, Result, Ok, Err}
use mathlib.Core.List.{flat_map}
use Rattle.octets.specs.Bytes.{splice}
use Rattle.courier_core.specs.declared.ContactId.{ContactId}
use Rattle.courier_core.specs.declared.Refusal.{Refusal}
use Rattle.courier_core.specs.declared.Refusal.TheVariants as refusal
use Rattle.table.specs.Rows.{join, written}
use Rattle.table.specs.Codec.{table_of, with_table}
use Rattle.rows.specs.declared.Device.{Device}
use Rattle.rows.specs.declared.Own.{Own}
use Rattle.rows.specs.declared.Carried.{Carried}
use Rattle.rows.specs.Rows.{own_codec, carried_codec, contact_codec}
use Rattle.rows.specs.Limits.{prefix_area}
use Rattle.model.specs.Basics.{trunc8}
use Rattle.model.specs.Calls.{Call, inventory_of_ours}
use Rattle.model.specs.Contacts.{known}
use Rattle.model.specs.Exchange.{Envelope, envelopes, inventory, no_carried, inventory_tests, list_inventory}
use Rattle.model.specs.Step.{tests, perform, step}
use Rattle.model.specs.Areas.{Areas, Written, view, store, store_device, store_session, answer_areas}
use Rattle.model.proofs.CallLaws.{refused_here, not_here, no_test, answering_call, refused_call}
use Rattle.model.specs.Lent.{bytes_lent}
use Rattle.offers.specs.declared.Row.{Row}
use Rattle.offers.specs.Appended.{Appended}
use Rattle.offers.specs.declared.Held.{Held}
use Rattle.offers.specs.Areas.{how_many, own_of, carried_of, held_entry}
use Rattle.offers.specs.Entries.{Entry, own_entry, carried_entry, entries, row_of}
use Rattle.offers.proofs.AppendLaws.{append_none, append_one}
use Rattle.offers.proofs.EntryLaws.{length_held, held_is, sent, envelopes_sent}
use Rattle.inventory.specs.Inventory.{prefix_for, prefix_of, inventory_says, held_in}
use Rattle.inventory.proofs.FillLaws.{map_flat, flat_same, Filling, filling_next, filling_end}

-- ---- a row's prefix

module _ (a : List ℕ) (k : ℕ) {row : Option Row} where
  pub prefix_put : (x : List ℕ) {r : Row} → row ≡ Some r → length r.tag ≡ 16 → k * 8 + 8 ≤ length a → x ≡ splice a (k * 8) (take 8 r.tag)
      → Appended 8 a k (prefix_for row) (k + 1) x
  unfolding prefix_for
  prefix_put x {r} is l h e = rw is (append_one 8 a x (take 8 r.tag) k (length-take-le 8 r.tag (omega arith)) h e)

  pub prefix_none : row ≡ None → Appended 8 a k (prefix_for row) k a
  unfolding prefix_for
  prefix_none is = rw is (append_none 8 a k)

-- ---- the walk through the rows

module _ (peer : ContactId) (kept : Held) (lent : List ℕ) where
  abbrev E : List Entry
  E = entries peer (own_of kept) (carried_of kept)

  abbrev pub Listing : ℕ → ℕ → List ℕ → Type 0
  Listing i k x = Filling 8 prefix_of E lent 0 i k x

  module _ {i k : ℕ} {x : List ℕ} (L : Listing i k x) where
    total : length E ≡ how_many kept
    total = length_held (own_entry peer) carried_entry kept

    pub listing_next : {j : ℕ} {y : List ℕ} {row : Option Row} → i < how_many kept → j * 8 ≤ length lent → row ≡ row_of (held_entry peer kept i)
        → Appended 8 x k (prefix_for row) j y → j ≤ k + 1 → Listing (i + 1) j y
    listing_next h room e A b =
        filling_next 8 prefix_of E lent 0 L (carried_entry no_carried) (omega (arith, total))
        (ap prefix_for (ap row_of (held_is (own_entry peer) carried_entry kept i h) ∙ sym e)) A b room

    pub listing_end : how_many kept ≤ i → Appended 8 lent 0 (flat_map prefix_of E) k x
    listing_end h = filling_end 8 prefix_of E lent 0 L (omega (arith, total))

-- ---- the call

abbrev prefix : Envelope → List ℕ
prefix e = trunc8 e.head.tag

-- the prefixes of the rows that may go are the model's
listed_are : (peer : ContactId) (own : List Own) (carried : List Carried)
    → map prefix (envelopes own carried peer) ≡ flat_map prefix_of (entries peer own carried)
unfolding prefix_for row_of
listed_are peer own carried =
    ap (map prefix) (envelopes_sent peer own carried) ∙ map_flat sent prefix (entries peer own carried)
    ∙ flat_same (λ (e : Entry). map prefix (sent e)) prefix_of (λ e. go e.goes e.envelope) (entries peer own carried)
  where
    go : (b : Bool) (e : Envelope) → map prefix (cond b (e ∷ []) []) ≡ prefix_for (cond b (Some (record { tag = e.head.tag; copies = e.head.copies })) None)
    go true e = refl
    go false e = refl

module _ (d : Device) (peer : ContactId) (contacts own carried lent : List ℕ) (a : Areas) where
  abbrev B : Areas
  B = held_in d contacts own carried a

  abbrev C : Call
  C = inventory_of_ours (length lent) peer

  abbrev Says : Result ℕ Refusal → List ℕ → Type 0
  Says r back = Written inventory_says (step (view B) C) r B B (bytes_lent lent) (bytes_lent back)

  pub says_short : length lent < prefix_area → Says (Err refusal.ShortArea) lent
  unfolding step tests perform inventory_tests
  says_short h = refused_call refusal.ShortArea (refused_here _ _ _ (lt-ltb (length lent) 4096 h)) refl refl

  module _ (long : prefix_area ≤ length lent) where
    pub says_stranger : known (table_of contact_codec d.contacts contacts) peer ≡ false → Says (Err refusal.UnknownContact) lent
    unfolding step tests perform inventory_tests view
    says_stranger k =
        refused_call refusal.UnknownContact (not_here _ _ _ (le-ltb (length lent) 4096 long) (refused_here _ _ _ (ap not k))) refl refl

    module _ (k : known (table_of contact_codec d.contacts contacts) peer ≡ true) where
      performed : step (view B) C ≡ list_inventory (view B) peer
      unfolding step tests perform inventory_tests view
      performed = not_here _ _ _ (le-ltb (length lent) 4096 long) (not_here _ _ _ (ap not k) (no_test _))

      pub says_listed : {os : List Own} {cs : List Carried} {c : ℕ} {back : List ℕ} → os ≡ table_of own_codec d.own own → cs ≡ table_of carried_codec d.carried carried
          → Appended 8 lent 0 (flat_map prefix_of (entries peer os cs)) c back → Says (Ok c) back
      unfolding list_inventory inventory view store store_device store_session answer_areas with_table written join splice
      says_listed {os} {cs} eo ec A =
          let s : flat_map prefix_of (entries peer os cs) ≡ inventory (view B) peer =
          ap₂ (λ (x : List Own) (y : List Carried). flat_map prefix_of (entries peer x y)) eo ec
          ∙ sym (listed_are peer (table_of own_codec d.own own) (table_of carried_codec d.carried carried)) in
          answering_call (list_inventory (view B) peer) performed (ap Ok (A.count ∙ zero-add _ ∙ ap length s)) refl
          (ap bytes_lent (A.area ∙ ap (λ (l : List (List ℕ)). splice lent 0 (join l)) s))
