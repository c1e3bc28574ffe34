-- Laws of `window`: what one chain adds to what is listed.
-- Assumes nothing.
use Rattle.std.proofs.Common.{◌≡◌, ℕ, zero, suc, ◌+◌, ◌-◌, ◌*◌, ◌/◌, ◌%◌, ◌^◌, ◌≤◌, min, Bool, false, ◌||◌, ltb, List, [], ◌∷◌, ◌++◌, map, reverse, length, take, drop, replicate, sym, refl, ap, ◌∙◌, subst, ap₂, append-nil, suc-add, arith, length-append, length-take, take_all, ltb-false}
use mathlib.Core.List.{map-append, flat_map, reverse-cons}
use lib.ListN.{length-map}
use lib.Seq.{take-nil, take-length}
use Rattle.std.proofs.lemmas.Bool.{or_parts}
use Rattle.octets.specs.Bytes.{part, splice, num, be}
use Rattle.octets.proofs.Parts.{length_part, length_splice, part_part, lent_splice, splice_nil, splice_all, splice_then, splice_grow}
use Rattle.octets.proofs.Numbers.{length_be}
use Rattle.table.specs.Lists.{any}
use Rattle.table.specs.Rows.{all_rows, join, ragged}
use Rattle.std.proofs.lemmas.List.{take-map}
use Rattle.table.proofs.ListLaws.{take_append, flat_map_append, all_each, all_map}
use Rattle.table.proofs.RowLaws.{Wide, length_all_rows, length_join, join_rows, join_append, join_snoc}
use Rattle.chain.specs.Chain.{wrong_dir, next_above, count, next, key_row, chain_keys, window, wrong_table, wrong_rows, listed_keys, chains_keys, ChainsListed, last_index}

-- ---- numbers that are counted

pub length_count : (k n : ℕ) → length (count k n) ≡ n
unfolding count
length_count k zero = refl
length_count k (suc n) = ap suc (length_count (suc k) n)

count_snoc : (k n : ℕ) → count k (n + 1) ≡ count k n ++ ((k + n) ∷ [])
unfolding count
count_snoc k zero = let e : k ≡ k + 0 = omega arith in ap (λ (m : ℕ). m ∷ []) e
count_snoc k (suc n) =
    let e : suc k + n ≡ k + suc n = omega arith in
    ap (count k) (suc-add n 1)
    ∙ ap (λ (l : List ℕ). k ∷ l) (count_snoc (suc k) n ∙ ap (λ (m : ℕ). count (suc k) n ++ (m ∷ [])) e)

take_count : (k n m : ℕ) → take m (count k n) ≡ count k (min m n)
unfolding count
take_count k n zero = let e : 0 ≡ min 0 n = omega arith in ap (count k) e
take_count k zero (suc m) = let e : 0 ≡ min (suc m) 0 = omega arith in ap (count k) e
take_count k (suc n) (suc m) =
    let e : suc (min m n) ≡ min (suc m) (suc n) = omega arith in
    ap (λ (l : List ℕ). k ∷ l) (take_count (suc k) n m) ∙ ap (count k) e

-- ---- the keys of one chain

module _ (chain : List ℕ) (h : 2 ≤ length chain) where
  pub length_key : (idx : ℕ) → length (key_row chain idx) ≡ 6
  unfolding key_row
  length_key idx =
      omega (arith, length-append (part chain 0 2) (be 4 idx), length_part chain 0 2 h, length_be 4 idx)

  wide_keys : (l : List ℕ) → Wide 6 (map (key_row chain) l)
  wide_keys l = all_map (key_row chain) l (all_each length_key l)

  pub length_counted : (k n : ℕ) → length (join (map (key_row chain) (count k n))) ≡ n * 6
  length_counted k n =
      length_join (map (key_row chain) (count k n)) (wide_keys (count k n))
      ∙ ap (λ (m : ℕ). m * 6) (length-map (count k n) (key_row chain) ∙ length_count k n)

  -- one key more
  pub keys_more : (k n : ℕ) → join (map (key_row chain) (count k (n + 1))) ≡ join (map (key_row chain) (count k n)) ++ key_row chain (k + n)
  keys_more k n =
      ap (λ (l : List ℕ). join (map (key_row chain) l)) (count_snoc k n) ∙ ap join (map-append (key_row chain) (count k n) ((k + n) ∷ []))
      ∙ join_snoc (map (key_row chain) (count k n)) (key_row chain (k + n))

  pub length_listed : (room : ℕ) → length (join (listed_keys room chain)) ≡ length (listed_keys room chain) * 6
  unfolding listed_keys
  length_listed room = length_join (listed_keys room chain) (wide_keys (count (next chain) (min room (2 ^ 32 - next chain))))

pub count_listed : (room : ℕ) (chain : List ℕ) → length (listed_keys room chain) ≡ min room (2 ^ 32 - next chain)
unfolding listed_keys
count_listed room chain =
    let k : ℕ = min room (2 ^ 32 - next chain) in
    length-map (count (next chain) k) (key_row chain) ∙ length_count (next chain) k

pub listed_few : {n : ℕ} (room : ℕ) (chain : List ℕ) → n ≡ length (listed_keys room chain) → n ≤ room
listed_few room chain e = omega (arith, count_listed room chain)

-- where no more than reach keys have room, reach does not cut a chain
reached : (reach m chain : ℕ) → m ≤ reach → min m (min (chain + reach) last_index + 1 - chain) ≡ min m (2 ^ 32 - chain)
reached reach m chain h = omega arith

taken : (reach room : ℕ) (chain : List ℕ) → room ≤ reach → take room (chain_keys reach chain) ≡ listed_keys room chain
unfolding chain_keys listed_keys
taken reach room chain h =
    let k : ℕ = min (next chain + reach) last_index + 1 - next chain in
    take-map (key_row chain) room (count (next chain) k)
    ∙ ap (map (key_row chain)) (take_count (next chain) k room ∙ ap (count (next chain)) (reached reach room (next chain) h))

-- ---- the keys of all chains

pub length_chains : (reach : ℕ) (chains : List (List ℕ)) → length (chains_keys reach chains) ≤ reach
unfolding chains_keys
length_chains reach chains = omega (arith, length-take reach (flat_map (chain_keys reach) (reverse chains)))

-- a chain before the others comes after them
pub chains_more : (reach n : ℕ) (chain : List ℕ) (rest : List (List ℕ)) → n ≡ length (chains_keys reach rest)
    → chains_keys reach (chain ∷ rest) ≡ chains_keys reach rest ++ listed_keys (reach - n) chain
unfolding chains_keys flat_map
chains_more reach n chain rest e =
    let f : List ℕ → List (List ℕ) = chain_keys reach in
    let x : List (List ℕ) = flat_map f (reverse rest) in
    let m : reach - length (take reach x) ≡ reach - n = omega arith in
    ap (λ (l : List (List ℕ)). take reach (flat_map f l)) (reverse-cons chain rest)
    ∙ ap (take reach) (flat_map_append f (reverse rest) (chain ∷ []) ∙ ap (λ (l : List (List ℕ)). x ++ l) (append-nil (f chain)))
    ∙ take_append reach x (f chain)
    ∙ ap (λ (l : List (List ℕ)). take reach x ++ l)
    (ap (λ (k : ℕ). take k (f chain)) m ∙ taken reach (reach - n) chain (omega arith))

-- ---- the steps of the walk

-- direction and generation, and the index after them
pub key_made : (x y chain : List ℕ) (idx : ℕ) → 2 ≤ length chain → x ≡ splice (replicate 6 0) 0 (part chain 0 2)
    → y ≡ splice x 2 (be 4 idx) → y ≡ key_row chain idx
unfolding key_row
key_made x y chain idx h ex ey =
    let z : List ℕ = replicate 6 0 in
    let l : length (part chain 0 2) ≡ 2 = length_part chain 0 2 h in
    splice_then z x y 0 2 (part chain 0 2) (be 4 idx) ex ey (omega arith) (omega (arith, length_be 4 idx))
    ∙ splice_all z (key_row chain idx) (length_key chain h idx)

pub keys_put : (a x y chain : List ℕ) (k i : ℕ) → 2 ≤ length chain → i * 6 + 6 ≤ length a
    → x ≡ splice a 0 (join (map (key_row chain) (count k i))) → y ≡ splice x (i * 6) (key_row chain (k + i))
    → y ≡ splice a 0 (join (map (key_row chain) (count k (i + 1))))
keys_put a x y chain k i h room ex ey =
    splice_then a x y 0 (i * 6) (join (map (key_row chain) (count k i))) (key_row chain (k + i)) ex ey
    (omega (arith, length_counted chain h k i)) (omega (arith, length_key chain h (k + i)))
    ∙ ap (splice a 0) (sym (keys_more chain h k i))

-- the numbers as the code has them
pub listed_all : (room n m : ℕ) (chain : List ℕ) → m ≡ num (part chain 2 8) → n ≡ min room (2 ^ 32 - m)
    → (n ≡ length (listed_keys room chain)) × (map (key_row chain) (count m n) ≡ listed_keys room chain)
unfolding listed_keys next
listed_all room n m chain em en =
    let e : map (key_row chain) (count m n) ≡ listed_keys room chain = rw (en, em) in
    (sym (length_count m n) ∙ sym (length-map (count m n) (key_row chain)) ∙ ap length e, e)

-- what was written to the front of a part that was lent stands at the part's start
pub lent_front : (a v y : List ℕ) (at m : ℕ) → length v ≤ m → at + m ≤ length a → y ≡ splice (part a at m) 0 v
    → take at a ++ (y ++ drop m (drop at a)) ≡ splice a at v
lent_front a v y at m h room e =
    let k : length v + (m - length v) ≡ m = omega arith in
    let lp = length_part a at m room in
    let d : splice (part a at m) 0 v ≡ v ++ part a (at + length v) (m - length v) =
    splice_grow (part a at m) v 0 (m - length v) (length v) (omega arith) (omega arith)
    ∙ splice_all (part a at m) (v ++ part (part a at m) (length v) (m - length v)) (omega (arith, length-append v (part (part a at m) (length v) (m - length v)), length_part (part a at m) (length v) (m - length v) (omega arith)))
    ∙ ap (λ (l : List ℕ). v ++ l) (part_part a at m (length v) (m - length v) (omega arith)) in
    lent_splice a y at m (ap length e ∙ length_splice (part a at m) 0 v (omega arith) ∙ lp)
    ∙ ap (splice a at) (e ∙ d) ∙ sym (splice_grow a v at (m - length v) (at + length v) refl (omega arith))

-- no chain yet; one chain more
pub chains_none : (reach : ℕ) (a : List ℕ) (rs : List (List ℕ)) → rs ≡ [] → ChainsListed (chains_keys reach rs) a a 0
unfolding chains_keys flat_map join
chains_none reach a rs e =
    subst (λ (l : List (List ℕ)). ChainsListed l a a 0) (sym (take-nil reach) ∙ ap (chains_keys reach) (sym e))
    (record { total = refl; room = omega arith; width = refl; area = sym (splice_nil a 0) })

-- the next chain's keys, written to what is left of the room, which is lent
pub chains_put : (n m : ℕ) (a x y chain : List ℕ) (rest all : List (List ℕ)) → length x ≡ length a → 2 ≤ length chain → all ≡ chain ∷ rest
    → ChainsListed (chains_keys (length a / 6) rest) a x n
    → m ≡ length (listed_keys (length (part x (n * 6) (length x - n * 6)) / 6) chain)
    → y ≡ splice (part x (n * 6) (length x - n * 6)) 0 (join (listed_keys (length (part x (n * 6) (length x - n * 6)) / 6) chain))
    → ChainsListed (chains_keys (length a / 6) all) a (take (n * 6) x ++ (y ++ drop (length x - n * 6) (drop (n * 6) x))) (n + m)
chains_put n m a x y chain rest all lx hc e so em ey =
    let reach : ℕ = length a / 6 in
    let left : length (part x (n * 6) (length x - n * 6)) / 6 ≡ reach - n =
    omega (arith, length_part x (n * 6) (length x - n * 6) (omega (arith, so.room)), so.room) in
    let u : List (List ℕ) = chains_keys reach rest in
    let v : List (List ℕ) = listed_keys (reach - n) chain in
    let few = length_chains reach rest in
    let l : length v ≤ reach - n = omega (arith, count_listed (reach - n) chain) in
    let lv = length_listed chain hc (reach - n) in
    let em' : m ≡ length v = em ∙ ap (λ (k : ℕ). length (listed_keys k chain)) left in
    let j = join_append u v in
    let back = lent_front x (join v) y (n * 6) (length x - n * 6) (omega (arith, so.total)) (omega (arith, so.room))
    (ey ∙ ap (λ (k : ℕ). splice (part x (n * 6) (length x - n * 6)) 0 (join (listed_keys k chain))) left) in
    subst (λ (z : List (List ℕ)). ChainsListed z a (take (n * 6) x ++ (y ++ drop (length x - n * 6) (drop (n * 6) x))) (n + m)) (sym (ap (chains_keys reach) e ∙ chains_more reach n chain rest so.total))
    (record {
      total = omega (arith, so.total, length-append u v);
      room = omega (arith, so.total);
      width = omega (arith, ap length j, length-append (join u) (join v), so.width);
      area = splice_then a x _ 0 (n * 6) (join u) (join v) so.area back (omega (arith, so.width)) (omega (arith, so.total)) ∙ ap (splice a 0) (sym j);
    })

-- ---- the whole call

-- what is known of rows that are not refused
pub right_rows : (s c : List ℕ) → wrong_rows s c ≡ false → (length s / 6 * 6 ≡ length s) × (length s / 6 ≤ 500)
unfolding wrong_rows wrong_table ragged
right_rows s c e =
    let many : Bool = ltb 500 (length s / 6) in
    let k = or_parts (wrong_table 6 s || wrong_table 10 c) many (or_parts (wrong_table 6 s || wrong_table 10 c || many) (any next_above (all_rows 10 c)) e).0 in
    let whole = (or_parts (ragged 6 s) (any wrong_dir (all_rows 6 s)) (or_parts (wrong_table 6 s) (wrong_table 10 c) k.0).0).0 in
    (omega (arith, ltb-false 0 (length s % 6) whole), ltb-false 500 (length s / 6) k.1)

-- the skipped keys, and the chains' behind them
pub window_parts : (s c : List ℕ) → length s / 6 ≤ 500 → window s c ≡ all_rows 6 s ++ chains_keys (500 - length s / 6) (all_rows 10 c)
unfolding window chains_keys
window_parts s c h =
    let keys : List (List ℕ) = all_rows 6 s in
    let l : length keys ≡ length s / 6 = length_all_rows 6 s in
    let rest : ℕ → List (List ℕ) = λ m. flat_map (chain_keys m) (reverse (all_rows 10 c)) in
    let t : take 500 keys ≡ keys = take_all 500 keys (omega arith) in
    take_append 500 keys (rest (500 - length keys))
    ∙ ap₂ (λ (x : List (List ℕ)) (m : ℕ). x ++ take (500 - length x) (rest (500 - m))) t l
    ∙ ap (λ (m : ℕ). keys ++ take (500 - m) (rest (500 - length s / 6))) l

pub window_put : (s c a x y : List ℕ) (n : ℕ) → (length s / 6 * 6 ≡ length s) × (length s / 6 ≤ 500) → 3000 ≤ length a → x ≡ splice a 0 s
    → ChainsListed (chains_keys (length (part x (length s) (3000 - length s)) / 6) (all_rows 10 c)) (part x (length s) (3000 - length s)) y n
    → (length s / 6 + n ≡ length (window s c)) × (take (length s) x ++ (y ++ drop (3000 - length s) (drop (length s) x)) ≡ splice a 0 (join (window s c)))
unfolding all_rows
window_put s c a x y n right room ex done =
    let whole = right.0 in
    let l : List ℕ = part x (length s) (3000 - length s) in
    let k : ℕ = length s / 6 in
    let more : List (List ℕ) = chains_keys (500 - k) (all_rows 10 c) in
    let w : window s c ≡ all_rows 6 s ++ more = window_parts s c right.1 in
    let j : join (window s c) ≡ s ++ join more =
    ap join w ∙ join_append (all_rows 6 s) more
    ∙ ap (λ (l : List ℕ). l ++ join more) (join_rows 6 k s ∙ ap (λ (i : ℕ). take i s) whole ∙ take-length s) in
    let lx : length x ≡ length a = ap length ex ∙ length_splice a 0 s (omega arith) in
    let left : length l / 6 ≡ 500 - k = omega (arith, length_part x (length s) (3000 - length s) (omega arith)) in
    let listed : ChainsListed more l y n = subst (λ (m : ℕ). ChainsListed (chains_keys m (all_rows 10 c)) l y n) left done in
    let few = length_chains (500 - k) (all_rows 10 c) in (
      omega (arith, ap length w, length-append (all_rows 6 s) more, length_all_rows 6 s, listed.total),
      splice_then a x _ 0 (length s) s (join more) ex
          (lent_front x (join more) y (length s) (3000 - length s) (omega (arith, listed.width, listed.total)) (omega arith) listed.area)
          (omega arith) (omega (arith, listed.width, listed.total))
          ∙ ap (splice a 0) (sym j),
    )
