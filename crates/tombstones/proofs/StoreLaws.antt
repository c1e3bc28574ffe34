-- Laws of `store_tombstone`: each way of storing by the model's definitions.
-- Assumes nothing.
use Rattle.std.proofs.Common.{◌≡◌, ℕ, ◌+◌, ◌*◌, ◌≤◌, Bool, true, false, cond, List, [], ◌∷◌, ◌++◌, length, sym, refl, ap, ◌∙◌, subst, arith, length-append}
use Rattle.octets.specs.Bytes.{Bytes, splice}
use Rattle.octets.proofs.Parts.{splice_nil}
use Rattle.table.specs.Rows.{join}
use Rattle.table.specs.Codec.{table_of, TableNow}
use Rattle.rows.specs.declared.Device.{Device}
use Rattle.rows.specs.declared.Tombstone.{Tombstone}
use Rattle.rows.specs.Rows.{tombstone_codec, action_bytes}
use Rattle.model.specs.State.{State}
use Rattle.model.specs.Calls.{put_courier}
use Rattle.model.specs.Tombs.{tombstoned, remaining, store_tombstone, store_actions}
use Rattle.model.specs.Areas.{store_device}
use Rattle.tombstones.specs.declared.Storing.{Storing}
use Rattle.tombstones.specs.declared.Storing.TheVariants as way
use Rattle.tombstones.specs.Tombstones.{how_to_store, Reads, RoomMade, new_tombstone, StoredAs}
use Rattle.tombstones.proofs.WriteLaws.{room_then, listed_then, number_then}

module _ (d : Device) (tag secret : List ℕ) (expiry at : ℕ) (to ac : List ℕ) (s : State) (reads : Reads s d to) where
  abbrev T : List Tombstone
  T = table_of tombstone_codec d.tombstones to

  abbrev there : Storing → Bool
  there way.Nothing = true
  there way.New = false

  known_by : {h : Storing} → h ≡ how_to_store s tag → tombstoned s.tombstones tag ≡ there h
  unfolding how_to_store
  known_by k = go (tombstoned s.tombstones tag) ∙ ap there (sym k)
    where
      go : (b : Bool) → b ≡ there (cond b way.Nothing way.New)
      go true = refl
      go false = refl

  pub stores_nothing : way.Nothing ≡ how_to_store s tag → StoredAs s d tag secret expiry at to ac d 0 to ac
  unfolding store_tombstone store_actions store_device join
  stores_nothing k =
      let e : tombstoned s.tombstones tag ≡ true = known_by k in
      record { device = rw e; tombstones = rw e; actions = rw e (sym (splice_nil ac at)); count = rw e }

  -- room is made, and the new one stands behind what is left
  pub stores_new : way.New ≡ how_to_store s tag → at + 26 ≤ length ac → {t : Tombstone} {r : Device} {m n : ℕ} {x y z w : List ℕ} → t ≡ new_tombstone d tag secret expiry
      → Bytes x → Bytes y → RoomMade d at to ac r n x z → TableNow tombstone_codec x (table_of tombstone_codec r.tombstones x ++ (t ∷ [])) m y
      → w ≡ splice z (at + 13 * n) (action_bytes (put_courier d.next_slot))
      → StoredAs s d tag secret expiry at to ac (record r { tombstones = m; next_slot = r.next_slot + 1 }) (n + 1) y w
  unfolding store_tombstone store_actions store_device
  stores_new k h {t} {m = m} {y = y} et bx by R N ew =
      let e : tombstoned s.tombstones tag ≡ false = known_by k in
      let G : TableNow tombstone_codec to (remaining T ++ (t ∷ [])) m y =
      room_then R bx (λ ts. ts ++ (t ∷ [])) (λ ts. omega (arith, length-append ts (t ∷ []))) by N in
      let F = subst (λ (u : Tombstone). TableNow tombstone_codec to (remaining T ++ (u ∷ [])) m y) et G in
      record {
        device = rw (e, reads.tombstones, reads.next_slot) (λ j. record (R.device j) { tombstones = F.count j; next_slot = (R.device j).next_slot + 1 });
        tombstones = rw (e, reads.tombstones, reads.next_slot) F.area;
        actions = rw (e, reads.tombstones, reads.next_slot) (listed_then R (put_courier d.next_slot) ew refl h);
        count = rw (e, reads.tombstones, reads.next_slot) (number_then R (put_courier d.next_slot));
      }
