-- Laws of the writes: room made for one tombstone, and a tombstone among those that are left.
-- Assumes nothing.
use Rattle.std.proofs.Common.{◌≡◌, ℕ, ◌+◌, ◌*◌, ◌<◌, ◌≤◌, true, false, leb, List, [], ◌∷◌, ◌++◌, map, length, get_or, sym, refl, ap, ◌∙◌, subst, arith, le-leb, length-append}
use borrow.Author.Tests.{lt-leb}
use Rattle.octets.specs.Bytes.{Bytes, part, splice}
use Rattle.octets.proofs.Parts.{splice_nil}
use Rattle.table.specs.Lists.{All, remove_at}
use Rattle.table.specs.Rows.{held, join}
use Rattle.table.specs.Codec.{table_of, TableNow}
use Rattle.table.proofs.RowLaws.{held_held}
use Rattle.table.proofs.TableLaws.{length_table, get_d_table, with_same, table_held, table_proper, table_then}
use Rattle.rows.specs.declared.Device.{Device}
use Rattle.rows.specs.declared.Tombstone.{Tombstone}
use Rattle.rows.specs.declared.Action.{Action}
use Rattle.rows.specs.Rows.{tombstone_of, tombstone_codec, action_bytes}
use Rattle.rows.specs.Proper.{ProperTombstone}
use Rattle.rows.proofs.Laws.{tombstone_laws}
use Rattle.model.specs.Calls.{delete_courier}
use Rattle.model.specs.Tombs.{no_tombstone, least_expiry, remaining, evicted}
use Rattle.model.proofs.RoomLaws.{all_left}
use Rattle.model.proofs.Laws.{one_listed, listed_behind}
use Rattle.tombstones.specs.Tombstones.{RoomMade}

-- ---- room made

module _ (d : Device) (at : ℕ) (to ac : List ℕ) {n : ℕ} (en : n ≡ held (length to) 44 d.tombstones) where
  abbrev T : List Tombstone
  T = table_of tombstone_codec d.tombstones to

  size : length T ≡ n
  size = length_table tombstone_codec d.tombstones to ∙ sym en

  -- below the limit nothing goes
  pub room_there : Bytes to → n < 1024 → RoomMade d at to ac (record d { tombstones = n }) 0 to ac
  unfolding evicted join
  room_there b h =
      let k : leb 1024 (length T) ≡ false = lt-leb 1024 (length T) (omega (arith, size)) in
      let left : remaining T ≡ T = all_left T (omega (arith, size)) in
      record {
        table = rw left (record {
          count = sym size;
          area = sym (with_same tombstone_laws d.tombstones to b);
          table = table_held tombstone_codec d.tombstones n to (omega arith) en;
          fits = held_held (length to) 44 d.tombstones n (omega arith) en;
        });
        device = refl;
        listed = rw k (sym (splice_nil ac at));
        number = rw k;
        few = omega arith;
      }

  -- from it on the one of least expiry
  pub room_by : 1024 ≤ n → {i k : ℕ} {gone : Tombstone} {x y : List ℕ} → i ≡ least_expiry T → i < n → gone ≡ tombstone_of (part to (i * 44) 44)
      → TableNow tombstone_codec to (remove_at i T) k x → y ≡ splice ac at (action_bytes (delete_courier gone.slot)) → RoomMade d at to ac (record d { tombstones = k }) 1 x y
  unfolding remaining evicted join
  room_by h {i} {gone = gone} l inside eg N ey =
      let e : leb 1024 (length T) ≡ true = le-leb 1024 (length T) (omega (arith, size)) in
      let es : gone ≡ get_or T i no_tombstone = eg ∙ sym (get_d_table tombstone_codec d.tombstones to i no_tombstone (omega (arith, inside, en))) in
      record {
        table = rw (e, sym l) N;
        device = refl;
        listed = rw (e, sym l, sym es) (one_listed (delete_courier gone.slot) ac _ at ey);
        number = rw e;
        few = omega arith;
      }

-- ---- then a tombstone among those that are left, and its action

module _ {d r : Device} {at n : ℕ} {to ac x y : List ℕ} (R : RoomMade d at to ac r n x y) where
  abbrev left : List Tombstone
  left = remaining (table_of tombstone_codec d.tombstones to)

  abbrev gone : List Action
  gone = evicted (table_of tombstone_codec d.tombstones to)

  pub room_then : Bytes x → (f : List Tombstone → List Tombstone) → ((ts : List Tombstone) → length ts ≤ length (f ts)) → {m : ℕ} {z : List ℕ} → Bytes z
      → TableNow tombstone_codec x (f (table_of tombstone_codec r.tombstones x)) m z → TableNow tombstone_codec to (f left) m z
  room_then bx f grows bz N =
      table_then tombstone_laws f (λ q. subst (All ProperTombstone) (N.table ∙ ap f R.table.table) (table_proper tombstone_laws _ _ bz)) bx
      (omega (arith, R.table.count, N.count, grows left, ap (λ (ts : List Tombstone). length (f ts)) R.table.table)) R.table N

  pub listed_then : (p : Action) {w : List ℕ} {place : ℕ} → w ≡ splice y place (action_bytes p) → place ≡ at + 13 * n → at + 26 ≤ length ac
      → w ≡ splice ac at (join (map action_bytes (gone ++ (p ∷ []))))
  listed_then p {w} {place} e q h =
      listed_behind gone (p ∷ []) ac y w at place R.listed (one_listed p y w place e) (omega (arith, q, R.number)) (omega (arith, q, R.few, h))

  pub number_then : (p : Action) → n + 1 ≡ length (gone ++ (p ∷ []))
  number_then p = omega (arith, R.number, length-append gone (p ∷ []))
