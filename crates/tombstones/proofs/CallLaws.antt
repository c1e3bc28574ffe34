-- Laws of the calls that store a tombstone: what the choice says of the model's tests, and what storing leaves in the areas.
-- Assumes nothing.
use Rattle.std.proofs.Common.{◌≡◌, ℕ, ◌+◌, Bool, true, false, cond, Ok, Err, List, [], ◌∷◌, ◌++◌, map, sym, refl, ◌∙◌}
use Rattle.courier_core.specs.declared.Refusal.{Refusal}
use Rattle.courier_core.specs.declared.Refusal.TheVariants as refusal
use Rattle.courier_core.specs.Core.{first_of}
use Rattle.octets.specs.Bytes.{splice}
use Rattle.table.specs.Rows.{join}
use Rattle.table.specs.Codec.{with_table}
use Rattle.table.proofs.RowLaws.{written_splice}
use Rattle.rows.specs.declared.Device.{Device}
use Rattle.rows.specs.declared.Tombstone.{Tombstone}
use Rattle.rows.specs.declared.Action.{Action}
use Rattle.rows.specs.Rows.{tombstone_codec, action_codec, action_bytes}
use Rattle.model.specs.State.{State, Change, nothing, tombstones_now, next_slot_now, ◌and◌}
use Rattle.model.specs.Calls.{Result as Outcome, only, refused, step_of}
use Rattle.model.specs.Tombs.{tombstoned, remaining, store_tombstone, no_row_to_store, no_slot_to_store}
use Rattle.model.specs.Areas.{Areas, view, store, store_device, store_session, bytes_after}
use Rattle.tombstones.specs.declared.Storing.{Storing}
use Rattle.tombstones.specs.Tombstones.{Reads, how_to_store, store_tests, store_choice, StoredAs, tombstones_lent}

-- ---- the choice, and the tests that it stands for

module _ (s : State) (tag : List ℕ) (p : Outcome) where
  abbrev told : {A : Type 0} → Bool → Bool → (Refusal → A) → A → A
  told full last f x = first_of ((full, refusal.NoTombstoneRow) ∷ (last, refusal.NoSlot) ∷ []) f x

  pub cannot_store : (why : Refusal) → Err why ≡ store_choice s tag → step_of (store_tests s tag) p ≡ only (refused why)
  unfolding store_choice store_tests step_of
  cannot_store why e = go (no_row_to_store s tag) (no_slot_to_store s tag) e
    where
      go : (full last : Bool) → Err why ≡ told full last Err (Ok (how_to_store s tag))
          → told full last (λ (w : Refusal). only (refused w)) p ≡ only (refused why)
      go true last q = cc
      go false true q = cc
      go false false q = cc

  pub can_store : (h : Storing) → Ok h ≡ store_choice s tag → (step_of (store_tests s tag) p ≡ p) × (h ≡ how_to_store s tag)
  unfolding store_choice store_tests step_of
  can_store h e = go (no_row_to_store s tag) (no_slot_to_store s tag) e
    where
      go : (full last : Bool) → Ok h ≡ told full last Err (Ok (how_to_store s tag))
          → (told full last (λ (w : Refusal). only (refused w)) p ≡ p) × (h ≡ how_to_store s tag)
      go true last q = cc
      go false true q = cc
      go false false q = (refl, cc)

-- ---- what is lent

pub lent_reads : (d : Device) (to : List ℕ) (a : Areas) → Reads (view (tombstones_lent d to a)) d to
unfolding view
lent_reads d to a = record { tombstones = refl; next_slot = refl; rows = refl }

-- the actions of an area that is written from its front
pub with_actions : (ac : List ℕ) (acts : List Action) → splice ac 0 (join (map action_bytes acts)) ≡ with_table action_codec ac acts
unfolding with_table
with_actions ac acts = sym (written_splice ac (map action_bytes acts))

-- what storing leaves in the areas
module _ (d : Device) (to : List ℕ) (a : Areas) where
  abbrev c : Bool → List Tombstone → ℕ → Change
  c b ts n = cond b nothing (tombstones_now ts and next_slot_now n)

  by : (b : Bool) (ts : List Tombstone) (n : ℕ) → tombstones_lent (store_device d (c b ts n)) (bytes_after tombstone_codec to (c b ts n).held.tombstones) a ≡ store (tombstones_lent d to a) (c b ts n)
  unfolding store store_device store_session
  by true ts n = refl
  by false ts n = refl

  pub areas_stored : (s : State) (tag secret : List ℕ) (expiry at : ℕ) (ac : List ℕ) {r : Device} {n : ℕ} {x y : List ℕ} → StoredAs s d tag secret expiry at to ac r n x y
      → tombstones_lent r x a ≡ store (tombstones_lent d to a) (store_tombstone s tag secret expiry)
  unfolding store_tombstone
  areas_stored s tag secret expiry at ac S =
      (λ j. tombstones_lent (S.device j) (S.tombstones j) a) ∙ by (tombstoned s.tombstones tag) (remaining s.tombstones ++ _) (s.next_slot + 1)
