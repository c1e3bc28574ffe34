-- Laws of the records of a file: the next one, those after it, and how long they are.
-- Assumes nothing.
use Rattle.std.proofs.Common.{◌≡◌, ℕ, zero, suc, ◌+◌, ◌-◌, ◌<◌, ◌≤◌, min, Bool, true, false, cond, ◌&&◌, ◌||◌, eqb, ltb, leb, List, [], ◌∷◌, length, take, drop, sym, refl, ap, ◌∙◌, subst, arith, length-append, length-drop, length-take, length-take-le, drop_of_length-le, le-leb, leb-false, leb-true}
use Rattle.std.proofs.lemmas.Bool.{cond_both}
use mathlib.Core.Bool.{and-false}
use borrow.Author.Tests.{lt-leb}
use Rattle.std.specs.List.{filter, list_any, fold, sum_by}
use Rattle.std.proofs.lemmas.List.{take_rest}
use Rattle.octets.specs.Bytes.{part, num, same_bytes}
use Rattle.table.specs.Lists.{All, none, more, any, count_by}
use Rattle.table.specs.Rows.{join, has_key}
use Rattle.table.proofs.ListLaws.{all_get}
use Rattle.load_tests.specs.declared.RecordIter.{RecordIter}
use Rattle.load_tests.specs.Records.{record_size, records_in, records_at, records, left}
use Rattle.load_tests.specs.Tests.{cut_short}

-- ---- the record at the front

pub size_least : (b : List ℕ) → 12 ≤ record_size b
unfolding record_size
size_least b = omega arith

pub sized : (b : List ℕ) {v : ℕ} → v ≡ num (part b 10 2) → 12 + v ≡ record_size b
unfolding record_size
sized b e = ap (λ (k : ℕ). 12 + k) e

-- one that is not whole
pub records_none : (n : ℕ) (b : List ℕ) → length b < record_size b → records_in n b ≡ []
unfolding records_in
records_none zero b h = refl
records_none (suc n) b h =
    ap (λ (t : Bool). cond t (take (record_size b) b ∷ records_in n (drop (record_size b) b)) []) (lt-leb (record_size b) (length b) h)

-- any bound that is high enough gives the same records
records_bound : (n m : ℕ) (b : List ℕ) → length b ≤ n → length b ≤ m → records_in n b ≡ records_in m b
unfolding records_in
records_bound zero m b h k = sym (records_none m b (omega (arith, size_least b)))
records_bound (suc n) zero b h k = records_none (suc n) b (omega (arith, size_least b))
records_bound (suc n) (suc m) b h k =
    let z = size_least b in
    ap (λ (l : List (List ℕ)). cond (leb (record_size b) (length b)) (take (record_size b) b ∷ l) [])
    (records_bound n m (drop (record_size b) b) (omega (arith, length-drop (record_size b) b)) (omega (arith, length-drop (record_size b) b)))

-- a record that is whole, and those after it
pub records_next : (b : List ℕ) (n : ℕ) → n ≡ record_size b → n ≤ length b → records_in (length b) b ≡ take n b ∷ records_in (length (drop n b)) (drop n b)
unfolding records_in
records_next b n e h =
    let z = size_least b in
    let l : length b ≡ suc (length b - 1) = omega arith in
    ap (λ (k : ℕ). records_in k b) l ∙ step (length b - 1)
    ∙ ap (λ (r : List (List ℕ)). take n b ∷ r) (records_bound (length b - 1) (length (drop n b)) (drop n b) (omega (arith, length-drop n b)) (omega arith))
  where
    step : (k : ℕ) → records_in (suc k) b ≡ take n b ∷ records_in k (drop n b)
    step k =
        rw (← e) (ap (λ (t : Bool). cond t (take n b ∷ records_in k (drop n b)) []) (le-leb n (length b) h))

-- each has its mark, its slot and its length
all_long : (n : ℕ) (b : List ℕ) → All (λ (r : List ℕ). 12 ≤ length r) (records_in n b)
unfolding records_in
all_long zero b = none
all_long (suc n) b =
    cond_both (leb (record_size b) (length b)) _ _ (All (λ (r : List ℕ). 12 ≤ length r))
    (λ q. more (omega (arith, size_least b, length-take-le (record_size b) b (leb-true (record_size b) (length b) q))) (all_long n (drop (record_size b) b))) (λ q. none)

pub records_long : (file : List ℕ) → All (λ (r : List ℕ). 12 ≤ length r) (records file)
unfolding records_at
records_long file = all_long (length file - 10) (drop 10 file)

-- ---- a walk through them

-- a file's stand behind its first ten bytes
pub starts : (file : List ℕ) {k : ℕ} → k ≡ min (length file) 10
    → records_in (length (take (length file - k) (drop k file))) (take (length file - k) (drop k file)) ≡ records file
unfolding records_at
starts file {k} e = rw (take_rest file k) (go (leb 10 (length file)) refl)
  where
    go : (t : Bool) → leb 10 (length file) ≡ t → records_in (length (drop k file)) (drop k file) ≡ records file
    go true q =
        let h : k ≡ 10 = omega (arith, e, leb-true 10 (length file) q) in
        rw h (ap (λ (n : ℕ). records_in n (drop 10 file)) (length-drop 10 file))
    go false q =
        let h = leb-false 10 (length file) q in
        let d : drop k file ≡ [] = drop_of_length-le file {i = k} (omega (arith, e)) in
        let z : drop 10 file ≡ [] = drop_of_length-le file {i = 10} (omega arith) in
        let n : length file - 10 ≡ 0 = omega arith in
        rw (d, z, n) refl

pub turn_long : (walk : RecordIter) {r : List ℕ} {rs : List (List ℕ)} → left walk ≡ r ∷ rs → 12 ≤ length r
unfolding left
turn_long walk {r} {rs} e = all_get 0 (r ∷ rs) r (subst (All (λ (x : List ℕ). 12 ≤ length x)) e (all_long (length walk.rest.now) walk.rest.now)) (omega arith)

module _ {A : Type 0} {all rs : List A} {r : A} (e : all ≡ r ∷ rs) where
  pub turn_count : (p : A → Bool) (x : Bool) → p r ≡ x → count_by p all ≡ cond x (suc (count_by p rs)) (count_by p rs)
  unfolding count_by
  turn_count p x t = ap (count_by p) e ∙ ap (λ (y : Bool). cond y (suc (count_by p rs)) (count_by p rs)) t

-- the records are no longer than what they are of
within_in : (n : ℕ) (b : List ℕ) → length (join (records_in n b)) ≤ length b
unfolding records_in join
within_in zero b = omega arith
within_in (suc n) b =
    cond_both (leb (record_size b) (length b)) _ _ (λ (rs : List (List ℕ)). length (join rs) ≤ length b) (λ q.
    let f = leb-true (record_size b) (length b) q in
    let i = within_in n (drop (record_size b) b) in
    omega (arith, length-append (take (record_size b) b) (join (records_in n (drop (record_size b) b))), length-take-le (record_size b) b f, length-drop (record_size b) b)) (λ q. omega arith)

pub records_within : (file : List ℕ) → length (join (records file)) ≤ length file - 10
unfolding records_at
records_within file = omega (arith, within_in (length file - 10) (drop 10 file), length-drop 10 file)

-- and no more than their bytes
records_few : (n : ℕ) (b : List ℕ) → length (records_in n b) ≤ length b
unfolding records_in
records_few zero b = omega arith
records_few (suc n) b =
    cond_both (leb (record_size b) (length b)) _ _ (λ (rs : List (List ℕ)). length rs ≤ length b)
    (λ q. omega (arith, leb-true (record_size b) (length b) q, size_least b, records_few n (drop (record_size b) b), length-drop (record_size b) b)) (λ q. omega arith)

pub few_records : (file : List ℕ) → length (records file) ≤ length file
unfolding records_at
few_records file = omega (arith, records_few (length file - 10) (drop 10 file), length-drop 10 file)

-- those that a test takes, counted
pub count_filter : (p : List ℕ → Bool) (rs : List (List ℕ)) → length (filter p rs) ≡ count_by p rs
unfolding count_by
count_filter p [] = refl
count_filter p (r ∷ rs) =
    cond_both (p r) _ _ (λ (n : ℕ). length (filter p (r ∷ rs)) ≡ n) (λ e. rw (e, count_filter p rs)) (λ e. rw (e, count_filter p rs))

-- a test of each, as the library writes it
pub list_any_is : (p : List ℕ → Bool) (rs : List (List ℕ)) → list_any p rs ≡ any p rs
unfolding any
list_any_is p [] = refl
list_any_is p (r ∷ rs) = ap (λ (b : Bool). p r || b) (list_any_is p rs)

-- how long the records are together
fold_lengths : (n : ℕ) (rs : List (List ℕ)) → fold (λ (a : ℕ) (x : List ℕ). a + length x) n rs ≡ n + length (join rs)
unfolding join
fold_lengths n [] = omega arith
fold_lengths n (r ∷ rs) = let e = fold_lengths (n + length r) rs in omega (arith, e, length-append r (join rs))

sum_lengths : (rs : List (List ℕ)) → sum_by length rs ≡ length (join rs)
sum_lengths rs = omega (arith, fold_lengths 0 rs)

pub sum_within : (file : List ℕ) → sum_by length (records file) ≤ length file - 10
sum_within file = omega (arith, sum_lengths (records file), records_within file)

-- bytes are left behind the last
pub cut_lem : (file : List ℕ) (all : ℕ) → all ≡ sum_by length (records file) → ltb (10 + all) (length file) ≡ cut_short file
unfolding cut_short
cut_lem file all e = ap (λ (k : ℕ). ltb (10 + k) (length file)) (e ∙ sum_lengths (records file))

-- ---- keys

-- lists of other lengths are not the same
same_short : (x y : List ℕ) → length x < length y → same_bytes x y ≡ false
unfolding same_bytes
same_short [] [] h = absurd (omega arith)
same_short [] (b ∷ y) h = refl
same_short (a ∷ x) [] h = absurd (omega arith)
same_short (a ∷ x) (b ∷ y) h = ap (λ (t : Bool). eqb a b && t) (same_short x y (omega arith)) ∙ and-false (eqb a b)

module _ (b : List ℕ) (o : ℕ) (key : List ℕ) where
  pub no_key : length b - o < length key → false ≡ has_key o key b
  unfolding has_key part
  no_key k = sym (same_short (take (length key) (drop o b)) key (omega (arith, length-take (length key) (drop o b), length-drop o b)))
