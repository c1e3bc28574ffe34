-- Laws of the depositors and tags of the carried records: gathered in rows, and counted there.
-- Assumes nothing.
use Rattle.std.proofs.Common.{◌≡◌, ℕ, suc, ◌+◌, ◌*◌, ◌≤◌, Bool, true, false, cond, ◌&&◌, List, [], ◌∷◌, ◌++◌, map, length, sym, refl, ap, ◌∙◌, subst, ap₂, append_assoc, append-nil, arith, length-append}
use Rattle.octets.specs.Bytes.{part, same_bytes}
use Rattle.octets.proofs.Parts.{part_part}
use Rattle.table.specs.Lists.{any, count_by, filter}
use Rattle.table.specs.Rows.{rows, has_key, RowsNow}
use Rattle.table.proofs.RowLaws.{length_rows, length_join, length_written, Wide, wide_rows}
use Rattle.load_tests.specs.Records.{records, is_carried, counted, carried_keys, Gathered}
use Rattle.load_tests.specs.Tests.{kind_tests, fails}
use Rattle.load_tests.proofs.RecordLaws.{turn_count}
use Rattle.load_tests.proofs.BlobLaws.{kind_long}
use Rattle.load_tests.proofs.TestLaws.{none_here, none_next}

-- ---- gathered

-- a row pushed into an area leaves its length
length_pushed : (r : List ℕ) (k : ℕ) {a x : List ℕ} {j : ℕ} → RowsNow 24 a (rows 24 k a ++ (r ∷ [])) j x → k * 24 + 24 ≤ length a → length x ≡ length a
length_pushed r k {a} {x} {j} R h =
    let rs = rows 24 k a ++ (r ∷ []) in
    ap length R.area
    ∙ length_written a rs (omega (arith, length_join rs (subst (Wide 24) R.rows (wide_rows 24 j x R.inside)), length-append (rows 24 k a) (r ∷ []), length_rows 24 k a))

-- a walk: the k rows are those of the records so far
pub record Gathering (all rs : List (List ℕ)) (size k : ℕ) (keys : List ℕ) : Type 0 where
  pub kinds : any (fails kind_tests) rs ≡ false
  pub same : length keys ≡ size
  pub room : (k + count_by is_carried rs) * 24 ≤ size
  pub are : rows 24 k keys ++ carried_keys rs ≡ carried_keys all

pub gathering_start : {all rs : List (List ℕ)} (keys : List ℕ) → rs ≡ all → any (fails kind_tests) all ≡ false → count_by is_carried all * 24 ≤ length keys
    → Gathering all rs (length keys) 0 keys
unfolding rows
gathering_start keys e h r = rw e (record { kinds = h; same = refl; room = omega arith; are = refl })

pub gathering_end : {file : List ℕ} {rs : List (List ℕ)} {size k : ℕ} {keys : List ℕ} → Gathering (records file) rs size k keys → rs ≡ [] → Gathered file keys k
unfolding carried_keys filter count_by
gathering_end {rs = rs} {size} {k} {keys} G e = record {
  inside = omega (arith, G.room, G.same);
  are = sym (append-nil (rows 24 k keys)) ∙ ap (λ (l : List (List ℕ)). rows 24 k keys ++ carried_keys l) (sym e) ∙ G.are;
}

module _ {all : List (List ℕ)} {size k : ℕ} {keys : List ℕ} {b : List ℕ} {left rest : List (List ℕ)} (G : Gathering all left size k keys) (e : left ≡ b ∷ rest) where
  keys_here : (x : Bool) → is_carried b ≡ x → carried_keys left ≡ cond x (part b 13 24 ∷ carried_keys rest) (carried_keys rest)
  unfolding carried_keys filter
  keys_here true t = ap carried_keys e ∙ rw t refl
  keys_here false t = ap carried_keys e ∙ rw t refl

  pub row_long : 49 ≤ length b
  row_long = kind_long b (none_here (fails kind_tests) G.kinds e)

  module _ {m : Bool} (em : m ≡ has_key 0 (72 ∷ 67 ∷ []) b) where
    pub gather_room : m ≡ true → k * 24 + 24 ≤ length keys
    unfolding is_carried
    gather_room t = omega (arith, G.room, G.same, turn_count e is_carried true (sym em ∙ t))

    pub gather_next : m ≡ true → {j : ℕ} {x : List ℕ} → RowsNow 24 keys (rows 24 k keys ++ (part b 13 24 ∷ [])) j x → Gathering all rest size j x
    unfolding is_carried
    gather_next t {j} {x} R =
        let l = R.count ∙ length-append (rows 24 k keys) (part b 13 24 ∷ []) in
        record {
          kinds = none_next (fails kind_tests) G.kinds e;
          same = length_pushed (part b 13 24) k R (gather_room t) ∙ G.same;
          room = omega (arith, G.room, l, length_rows 24 k keys, turn_count e is_carried true (sym em ∙ t));
          are =
              ap (λ (rs : List (List ℕ)). rs ++ carried_keys rest) R.rows ∙ append_assoc (rows 24 k keys) (part b 13 24 ∷ []) (carried_keys rest)
              ∙ ap (λ (rs : List (List ℕ)). rows 24 k keys ++ rs) (sym (keys_here true (sym em ∙ t))) ∙ G.are;
        }

    pub gather_past : m ≡ false → Gathering all rest size k keys
    unfolding is_carried
    gather_past t = record {
      kinds = none_next (fails kind_tests) G.kinds e;
      same = G.same;
      room = omega (arith, G.room, turn_count e is_carried false (sym em ∙ t));
      are = ap (λ (rs : List (List ℕ)). rows 24 k keys ++ rs) (sym (keys_here false (sym em ∙ t))) ∙ G.are;
    }

-- ---- counted

module _ (o : ℕ) (key : List ℕ) (fits : o + length key ≤ 24) where
  -- in the rows as in the records
  same_count : (rs : List (List ℕ)) → count_by (has_key o key) (carried_keys rs) ≡ count_by (counted true (13 + o) key) rs
  unfolding carried_keys filter count_by counted has_key
  same_count [] = refl
  same_count (b ∷ rs) = go (is_carried b) (same_count rs)
    where
      go : (x : Bool) → count_by (has_key o key) (carried_keys rs) ≡ count_by (counted true (13 + o) key) rs
          → count_by (has_key o key) (map (λ (r : List ℕ). part r 13 24) (cond x (b ∷ filter is_carried rs) (filter is_carried rs)))
          ≡ cond (x && has_key (13 + o) key b) (suc (count_by (counted true (13 + o) key) rs)) (count_by (counted true (13 + o) key) rs)
      go true e = ap₂ (λ (y : List ℕ) (z : ℕ). cond (same_bytes y key) (suc z) z) (part_part b 13 24 o (length key) fits) e
      go false e = e

  pub in_file : {file keys : List ℕ} {k r : ℕ} → Gathered file keys k → r ≡ count_by (has_key o key) (rows 24 k keys)
      → r ≡ count_by (counted true (13 + o) key) (records file)
  in_file {file} G e = e ∙ ap (count_by (has_key o key)) G.are ∙ same_count (records file)
