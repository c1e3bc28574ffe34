-- Laws of the row blob call: each way out as the model's step, and what it leaves.
-- Assumes nothing.
use Rattle.std.proofs.Common.{◌≡◌, ℕ, ◌+◌, ◌*◌, ◌<◌, ◌≤◌, Bool, eqb, List, [], ◌++◌, map, length, get_or, sym, refl, ap, ◌∙◌, append-nil, arith, le-ltb, lt-ltb, Option, Some, None, Result, Ok, Err}
use Rattle.octets.specs.Bytes.{part}
use Rattle.courier_core.specs.declared.Refusal.{Refusal}
use Rattle.courier_core.specs.declared.Refusal.TheVariants as refusal
use Rattle.table.specs.Lists.{position}
use Rattle.table.specs.Rows.{held}
use Rattle.table.specs.Codec.{Codec, table_of}
use Rattle.table.proofs.RowLaws.{row_in, held_inside}
use Rattle.table.proofs.TableLaws.{length_table, get_d_table}
use Rattle.table.proofs.FindLaws.{position_first}
use Rattle.state.specs.Held.{held_row}
use Rattle.rows.specs.declared.Device.{Device}
use Rattle.rows.specs.declared.Carried.{Carried}
use Rattle.rows.specs.declared.Tombstone.{Tombstone}
use Rattle.rows.specs.Rows.{carried_codec, carried_of, tombstone_codec, tombstone_of}
use Rattle.model.specs.Basics.{find, match_some}
use Rattle.model.specs.State.{nothing}
use Rattle.model.specs.Calls.{Call, row_blob, missing, only, done_with}
use Rattle.model.specs.Saved.{Slotted, carried_held, tombstone_held, held_rows, writes, blob_tests, row_blob_of}
use Rattle.model.specs.Exchange.{no_carried}
use Rattle.model.specs.Tombs.{no_tombstone}
use Rattle.model.specs.Step.{tests, perform, step}
use Rattle.model.specs.Areas.{Areas, Written, view, store, store_device, store_session}
use Rattle.model.proofs.CallLaws.{refused_here, not_here, no_test, quiet_call, refused_call, bytes_call}
use Rattle.model.proofs.SearchLaws.{found_in, found_behind}
use Rattle.model.specs.Lent.{bytes_lent}
use Rattle.saved.specs.Blobs.{carried_in_slot, tombstone_in_slot, Blobbed, blob_says, held_in}

-- ---- a search

-- the row that is found is in the table
module _ {A : Type 0} (c : Codec A) (d : A) (count : ℕ) (a : List ℕ) (p : A → Bool) {i : ℕ} (e : Some i ≡ position p (table_of c count a)) where
  inside : i < held (length a) c.width count
  inside = omega (arith, (position_first p (table_of c count a) d i (sym e)).inside, length_table c count a)

  pub row_inside : i * c.width + c.width ≤ length a
  row_inside = omega (arith, row_in i (held (length a) c.width count) c.width inside, held_inside (length a) c.width count)

  row_found : get_or (table_of c count a) i d ≡ c.decode (part a (i * c.width) c.width)
  row_found = get_d_table c count a i d inside

-- ---- the ways out

module _ (d : Device) (slot : ℕ) (carried tombs cells lent : List ℕ) (a : Areas) where
  abbrev B : Areas
  B = held_in d carried tombs cells a

  abbrev C : Call
  C = row_blob (length lent) slot

  abbrev Says : Result (Option ℕ) Refusal → List ℕ → Type 0
  Says r back = Written blob_says (step (view B) C) r B B (bytes_lent lent) (bytes_lent back)

  pub says_short : length lent < 2110 → Says (Err refusal.ShortArea) lent
  unfolding step tests perform blob_tests
  says_short h = refused_call refusal.ShortArea (refused_here _ _ _ (lt-ltb (length lent) 2110 h)) refl refl

  module _ (long : 2110 ≤ length lent) where
    abbrev Tc : List Carried
    Tc = table_of carried_codec d.carried carried

    abbrev Tt : List Tombstone
    Tt = table_of tombstone_codec d.tombstones tombs

    abbrev here : Slotted → Bool
    here h = eqb h.slot slot

    stepped : {x : Option Slotted} → find here (map (carried_held cells) Tc ++ map tombstone_held Tt) ≡ x
        → step (view B) C ≡ match_some x (λ h. writes (held_row h.held)) (only (done_with missing))
    unfolding step tests perform blob_tests row_blob_of held_rows view
    stepped e =
        not_here _ _ _ (le-ltb (length lent) 2110 long) (no_test _)
        ∙ ap (λ (x : Option Slotted). match_some x (λ h. writes (held_row h.held)) (only (done_with missing))) e

    given : (most : ℕ) (h : Slotted) (n : ℕ) (back : List ℕ) → find here (map (carried_held cells) Tc ++ map tombstone_held Tt) ≡ Some h
        → Blobbed most h lent n back → Says (Ok (Some n)) back
    given most h n back e G = bytes_call (held_row h.held) (stepped e) (ap (λ (k : ℕ). Ok (Some k)) G.count) G.area

    pub says_carried : (i n : ℕ) (back : List ℕ) → Some i ≡ position (carried_in_slot slot) Tc
        → {row : Carried} → row ≡ carried_of (part carried (i * 57) 57) → Blobbed 2110 (carried_held cells row) lent n back → Says (Ok (Some n)) back
    unfolding carried_held
    says_carried i n back e r G =
        given 2110 _ n back
        (found_in (carried_held cells) here (map tombstone_held Tt) Tc no_carried i e
        ∙ ap (λ (r : Carried). Some (carried_held cells r)) (row_found carried_codec no_carried d.carried carried (carried_in_slot slot) e ∙ sym r)) G

    module _ (none-carried : None ≡ position (carried_in_slot slot) Tc) where
      behind : find here (map (carried_held cells) Tc ++ map tombstone_held Tt) ≡ find here (map tombstone_held Tt ++ [])
      unfolding carried_held
      behind =
          found_behind (carried_held cells) here (map tombstone_held Tt) Tc none-carried ∙ ap (find here) (sym (append-nil (map tombstone_held Tt)))

      pub says_tombstone : (i n : ℕ) (back : List ℕ) → Some i ≡ position (tombstone_in_slot slot) Tt
          → {row : Tombstone} → row ≡ tombstone_of (part tombs (i * 44) 44) → Blobbed 37 (tombstone_held row) lent n back → Says (Ok (Some n)) back
      unfolding tombstone_held
      says_tombstone i n back e r G =
          given 37 _ n back
          (behind ∙ found_in tombstone_held here [] Tt no_tombstone i e
          ∙ ap (λ (t : Tombstone). Some (tombstone_held t)) (row_found tombstone_codec no_tombstone d.tombstones tombs (tombstone_in_slot slot) e ∙ sym r)) G

      pub says_missing : None ≡ position (tombstone_in_slot slot) Tt → Says (Ok None) lent
      unfolding tombstone_held find store store_device store_session
      says_missing e = quiet_call (done_with missing) nothing (stepped (behind ∙ found_behind tombstone_held here [] Tt e)) refl refl
