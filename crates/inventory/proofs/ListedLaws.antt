-- What a listed prefix is answered with: a fetch, a tomb.
-- Assumes nothing.
use Rattle.std.proofs.Common.{◌≡◌, ℕ, ◌+◌, ◌*◌, ◌/◌, ◌<◌, ◌≤◌, Bool, true, false, List, [], ◌∷◌, ◌++◌, map, length, get_or, take, drop, replicate, sym, refl, ap, ◌∙◌, arith, length-append, append-nil, take-take, Option, Some, None}
use mathlib.Core.List.{flat_map}
use lib.ListN.{length-replicate}
use Rattle.std.proofs.lemmas.List.{map-id}
use Rattle.octets.specs.Bytes.{part, splice, same_bytes}
use Rattle.octets.proofs.Parts.{part_part}
use Rattle.courier_core.specs.declared.ContactId.{ContactId}
use Rattle.table.specs.Lists.{position}
use Rattle.table.specs.Rows.{held, rows, has_key}
use Rattle.table.specs.Codec.{table_of}
use Rattle.table.proofs.RowLaws.{held_all, held_inside}
use Rattle.table.proofs.TableLaws.{length_table, get_d_table, table_find}
use Rattle.table.proofs.FindLaws.{position_first, key_run}
use Rattle.rows.specs.declared.Reachable.{Reachable}
use Rattle.rows.specs.declared.BadTag.{BadTag}
use Rattle.rows.specs.declared.Tombstone.{Tombstone}
use Rattle.rows.specs.declared.Reply.{Reply}
use Rattle.rows.specs.Rows.{reachable_codec, reachable_of, tombstone_codec, tombstone_of, reply_bytes}
use Rattle.model.specs.Basics.{find}
use Rattle.model.specs.Calls.{fetch_reply, tomb_reply}
use Rattle.model.specs.Window.{no_reachable, window_rows, prefix_codec, lookup, is_bad}
use Rattle.model.specs.Exchange.{fetch_for, has_prefix, tomb_for}
use Rattle.model.specs.Tombs.{tombstoned}
use Rattle.model.proofs.SearchLaws.{found_in, found_behind}
use Rattle.answers.proofs.Laws.{length_reply}
use Rattle.offers.specs.Appended.{Appended}
use Rattle.offers.proofs.AppendLaws.{append_none, append_one}
use Rattle.inventory.proofs.FillLaws.{Filling, filling_start, filling_next, filling_end, map_flat}

-- ---- the bytes of a reply

length_fetch : (tag : List ℕ) → length tag ≡ 16 → length (reply_bytes (fetch_reply tag)) ≡ 40
length_fetch tag h = length_reply (fetch_reply tag) (omega (arith, length-append tag (replicate 21 0), length-replicate {A = ℕ} 21 0))

length_tomb : (tag s : List ℕ) → length tag ≡ 16 → length s ≡ 16 → length (reply_bytes (tomb_reply tag s)) ≡ 40
length_tomb tag s h k =
    length_reply (tomb_reply tag s)
    (omega (arith, length-append (tag ++ s) (replicate 5 0), length-append tag s, length-replicate {A = ℕ} 5 0))

-- ---- the fetch of a prefix

-- the row that is found is in the window, and its tag is where it is read
module _ (window prefix : List ℕ) (i : ℕ) (e : Some i ≡ lookup (window_rows window) prefix) where
  inside : i < held (length window) 30 (length window / 30)
  unfolding lookup window_rows
  inside =
      omega (
        arith,
        (position_first (λ (r : Reachable). same_bytes (take (length prefix) r.tag) prefix) (window_rows window) no_reachable i (sym e)).inside,
        length_table reachable_codec (length window / 30) window,
      )

  window_tag : (get_or (window_rows window) i no_reachable).tag ≡ part window (i * 30 + 14) 16
  unfolding window_rows reachable_of
  window_tag =
      ap (λ (r : Reachable). r.tag) (get_d_table reachable_codec (length window / 30) window i no_reachable inside) ∙ part_part window (i * 30) 30 14 16 (omega arith)

-- and so is the whole row
pub window_row : (window prefix : List ℕ) (i : ℕ) → lookup (window_rows window) prefix ≡ Some i → i * 30 + 30 ≤ length window
window_row window prefix i e = omega (arith, inside window prefix i (sym e), held_inside (length window) 30 (length window / 30))

module _ (bad : List BadTag) (ts : List Tombstone) (window : List ℕ) (peer : ContactId) (prefix : List ℕ) where
  abbrev F : List Reply
  F = fetch_for bad ts (window_rows window) peer prefix

  pub fetch_none : None ≡ lookup (window_rows window) prefix → [] ≡ F
  unfolding fetch_for
  fetch_none e = rw (sym e) refl

  module _ (i : ℕ) (e : Some i ≡ lookup (window_rows window) prefix) (tag : List ℕ) (t : tag ≡ part window (i * 30 + 14) 16) where
    found_tag : (get_or (window_rows window) i no_reachable).tag ≡ tag
    found_tag = window_tag window prefix i e ∙ sym t

    pub fetch_bad : is_bad bad peer tag ≡ true → [] ≡ F
    unfolding fetch_for
    fetch_bad b = rw (sym e, found_tag, b) refl

    pub fetch_tombstoned : is_bad bad peer tag ≡ false → tombstoned ts tag ≡ true → [] ≡ F
    unfolding fetch_for tombstoned
    fetch_tombstoned b d = rw (sym e, found_tag, b, d) refl

    pub fetch_tag : is_bad bad peer tag ≡ false → tombstoned ts tag ≡ false → fetch_reply tag ∷ [] ≡ F
    unfolding fetch_for tombstoned
    fetch_tag b d = rw (sym e, found_tag, b, d) refl

-- a tag's fetch is written
pub fetch_put : (a x tag : List ℕ) (k : ℕ) → length tag ≡ 16 → k * 40 + 40 ≤ length a → x ≡ splice a (k * 40) (reply_bytes (fetch_reply tag))
    → Appended 40 a k (reply_bytes (fetch_reply tag) ∷ []) (k + 1) x
fetch_put a x tag k l h ex = append_one 40 a x (reply_bytes (fetch_reply tag)) k (length_fetch tag l) h ex

-- ---- the tomb of a prefix

-- a search for a place, and for what stands there
module _ {A : Type 0} (p : A → Bool) (xs : List A) where
  whole : xs ≡ map (λ (x : A). x) xs ++ []
  whole = sym (append-nil _ ∙ map-id xs)

  find_some : (d : A) (i : ℕ) → position p xs ≡ Some i → find p xs ≡ Some (get_or xs i d)
  find_some d i e = ap (find p) whole ∙ found_in (λ (x : A). x) p [] xs d i (sym e)

  find_none : position p xs ≡ None → find p xs ≡ None
  unfolding find
  find_none e = ap (find p) whole ∙ found_behind (λ (x : A). x) p [] xs (sym e)

-- the tombstones, and the one at the place that is found
module _ (count : ℕ) (tombs prefix : List ℕ) (l : length prefix ≡ 8) (f : Option ℕ)
    (e : f ≡ position (has_key 8 prefix) (rows 44 (held (length tombs) 44 count) tombs)) where
  abbrev Ts : List Tombstone
  Ts = table_of tombstone_codec count tombs

  no_tombstone : Tombstone
  no_tombstone = tombstone_of []

  key_prefix : (b : List ℕ) → has_key 8 prefix b ≡ has_prefix prefix (tombstone_of b)
  unfolding tombstone_of part
  key_prefix b = key_run 8 8 prefix b l ∙ ap (λ (p : List ℕ). same_bytes p prefix) (sym (take-take 8 16 (drop 8 b) (omega arith)))

  found : f ≡ position (has_prefix prefix) Ts
  found = table_find tombstone_codec count (held (length tombs) 44 count) tombs refl (has_key 8 prefix) (has_prefix prefix) key_prefix f e

  module _ {j : ℕ} (h : f ≡ Some j) where
    tomb_inside : j < held (length tombs) 44 count
    tomb_inside =
        omega (arith, (position_first (has_prefix prefix) Ts no_tombstone j (sym found ∙ h)).inside, length_table tombstone_codec count tombs)

    pub tomb_row : j * 44 + 44 ≤ length tombs
    tomb_row = omega (arith, tomb_inside, held_inside (length tombs) 44 count)

    tomb_there : {t : Tombstone} → t ≡ tombstone_of (part tombs (j * 44) 44) → find (has_prefix prefix) Ts ≡ Some t
    tomb_there et =
        find_some (has_prefix prefix) Ts no_tombstone j (sym found ∙ h) ∙ ap Some (get_d_table tombstone_codec count tombs j no_tombstone tomb_inside ∙ sym et)

  module _ (a : List ℕ) (k : ℕ) where
    abbrev Now : ℕ → List ℕ → Type 0
    Now n y = Appended 40 a k (map reply_bytes (tomb_for Ts prefix)) n y

    pub tomb_none : f ≡ None → Now k a
    unfolding tomb_for
    tomb_none h = rw (find_none (has_prefix prefix) Ts (sym found ∙ h)) (append_none 40 a k)

    pub tomb_put : {j : ℕ} → f ≡ Some j → {y : List ℕ} {t : Tombstone} → t ≡ tombstone_of (part tombs (j * 44) 44) → length t.tag ≡ 16 → length t.s ≡ 16
        → k * 40 + 40 ≤ length a → y ≡ splice a (k * 40) (reply_bytes (tomb_reply t.tag t.s)) → Now (k + 1) y
    unfolding tomb_for
    tomb_put h {y} {t} et lt ls r ey =
        rw (tomb_there h et) (append_one 40 a y (reply_bytes (tomb_reply t.tag t.s)) k (length_tomb t.tag t.s lt ls) r ey)

-- ---- the walk through the listed prefixes: of each comes a list of replies

module _ (listed : List ℕ) (l : ℕ) (f : List ℕ → List Reply) (lent : List ℕ) (n : ℕ) where
  abbrev L : List (List ℕ)
  L = table_of prefix_codec l listed

  abbrev of : List ℕ → List (List ℕ)
  of p = map reply_bytes (f p)

  pub record Replying (i k : ℕ) (x : List ℕ) : Type 0 where
    pub within : i ≤ l
    pub fill : Filling 40 of L lent n i k x

  pub replying_start : Replying 0 n lent
  replying_start = record { within = omega arith; fill = filling_start 40 of L lent n }

  module _ (fits : l * 8 ≤ length listed) {i k : ℕ} {x : List ℕ} (R : Replying i k x) where
    listed_held : held (length listed) 8 l ≡ l
    listed_held = held_all (length listed) 8 l (omega arith) fits

    length_listed : length L ≡ l
    length_listed = length_table prefix_codec l listed ∙ listed_held

    pub replying_next : {j : ℕ} {y prefix : List ℕ} → i < l → prefix ≡ part listed (i * 8) 8 → Appended 40 x k (of prefix) j y → j ≤ k + 1
        → j * 40 ≤ length lent → Replying (i + 1) j y
    replying_next h e A b room = record {
      within = omega arith;
      fill = filling_next 40 of L lent n R.fill [] (omega (arith, length_listed))
          (ap of (get_d_table prefix_codec l listed i [] (omega (arith, listed_held)) ∙ sym e)) A b room;
    }

    pub replying_end : l ≤ i → Appended 40 lent n (map reply_bytes (flat_map f L)) k x × (k ≤ n + l)
    replying_end h =
        let w = R.within in
        (rw (map_flat f reply_bytes L) (filling_end 40 of L lent n R.fill (omega (arith, length_listed))), omega (arith, R.fill.below))
