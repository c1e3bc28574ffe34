-- Laws of walks through a list, over any test: what is left to find, to count, to ask.
-- Assumes nothing.
use mathlib.Core.Path.{◌≡◌, refl, sym, ap, ap₂, ◌∙◌}
use mathlib.Core.Bool.{Bool, true, false, cond, ◌||◌}
use mathlib.Core.List.{List, [], ◌∷◌, map}
use Prim.Native.Nat.{ℕ, suc, ◌+◌, ◌-◌, ◌*◌, ◌≤◌, ◌<◌}
use native.Mathlib.Numerals.{add-one}
use native.Mathlib.Omega.{arith}
use lib.ListN.{length, take, drop, get_or, drop_of_length-le}
use Rattle.octets.specs.Bytes.{part, same_bytes}
use Rattle.octets.proofs.Parts.{part_part}
use Rattle.std.specs.Prelude.{Option, Some, None}
use Rattle.table.specs.Lists.{All, none, more, count_by, any, position_from, position, is_at, unwrap_or}
use Rattle.table.specs.Rows.{rows, has_key}
use Rattle.table.proofs.RowLaws.{rows_next, length_rows}

module _ {A : Type 0} (p : A → Bool) (xs : List A) where
  -- one more element, of which the test says b
  module _ (i : ℕ) (x : A) (b : Bool) (e : drop i xs ≡ x ∷ drop (i + 1) xs) (t : p x ≡ b) where
    pub position_next : position_from i p (drop i xs) ≡ cond b (Some i) (position_from (i + 1) p (drop (i + 1) xs))
    unfolding position_from
    position_next =
        ap (position_from i p) e ∙ ap₂ (λ (c : Bool) (j : ℕ). cond c (Some i) (position_from j p (drop (i + 1) xs))) t (sym (add-one i))

    pub count_next : count_by p (drop i xs) ≡ cond b (suc (count_by p (drop (i + 1) xs))) (count_by p (drop (i + 1) xs))
    unfolding count_by
    count_next = ap (count_by p) e ∙ ap (λ (c : Bool). cond c (suc (count_by p (drop (i + 1) xs))) (count_by p (drop (i + 1) xs))) t

    pub any_next : any p (drop i xs) ≡ (b || any p (drop (i + 1) xs))
    unfolding any
    any_next = ap (any p) e ∙ ap (λ (c : Bool). c || any p (drop (i + 1) xs)) t

  -- no element is left
  module _ (i : ℕ) (h : length xs ≤ i) where
    pub position_end : position_from i p (drop i xs) ≡ None
    unfolding position_from
    position_end = ap (position_from i p) (drop_of_length-le xs h)

    pub count_end : count_by p (drop i xs) ≡ 0
    unfolding count_by
    count_end = ap (count_by p) (drop_of_length-le xs h)

    pub any_end : any p (drop i xs) ≡ false
    unfolding any
    any_end = ap (any p) (drop_of_length-le xs h)

-- the same index, said otherwise
pub found_at : {A : Type 0} (p : A → Bool) (xs : List A) {i j : ℕ} {f : Option ℕ} → i ≡ j → f ≡ position_from i p (drop i xs) → f ≡ position_from j p (drop j xs)
found_at p xs e h = h ∙ ap (λ (k : ℕ). position_from k p (drop k xs)) e

-- a test of what is mapped, and the same test before
pub position_map : {A B : Type 0} (f : A → B) (p : A → Bool) (q : B → Bool) → ((r : A) → p r ≡ q (f r)) → (i : ℕ) (x : List A)
    → position_from i p x ≡ position_from i q (map f x)
unfolding position_from
position_map f p q same i [] = refl
position_map f p q same i (r ∷ x) = ap₂ (λ (b : Bool) (z : Option ℕ). cond b (Some i) z) (same r) (position_map f p q same (suc i) x)

-- there is a place just where there is such an element
pub position_any : {A : Type 0} (p : A → Bool) (i : ℕ) (x : List A) → is_at (position_from i p x) ≡ any p x
unfolding position_from any
position_any p i [] = refl
position_any p i (r ∷ x) = go (p r) ∙ ap (λ (b : Bool). p r || b) (position_any p (suc i) x)
  where
    go : (b : Bool) → is_at (cond b (Some i) (position_from (suc i) p x)) ≡ (b || is_at (position_from (suc i) p x))
    go true = refl
    go false = refl

-- what stands at the place that is found, and before it
pub record First {A : Type 0} (p : A → Bool) (x : List A) (d : A) (j : ℕ) : Type 0 where
  pub inside : j < length x
  pub holds : p (get_or x j d) ≡ true
  pub before : any p (take j x) ≡ false

first_from : {A : Type 0} (p : A → Bool) (i : ℕ) (x : List A) (d : A) (j : ℕ) → position_from i p x ≡ Some j → (i ≤ j) × First p x d (j - i)
unfolding position_from any
first_from p i [] d j e = let z : ◌≡◌ {A = ℕ} 0 1 = cc in absurd (omega arith)
first_from p i (r ∷ x) d j e = go (p r) refl e (first_from p (suc i) x d j)
  where
    go : (b : Bool) → p r ≡ b → cond b (Some i) (position_from (suc i) p x) ≡ Some j
        → (position_from (suc i) p x ≡ Some j → (suc i ≤ j) × First p x d (j - suc i)) → (i ≤ j) × First p (r ∷ x) d (j - i)
    go true t f rest = let z : i ≡ j = cc in let k : j - i ≡ 0 = omega arith in (
      omega arith,
      rw k (record { inside = omega arith; holds = t; before = refl }),
    )
    go false t f rest = let q = rest f in let k : j - i ≡ suc (j - suc i) = omega (arith, q.0) in (
      omega (arith, q.0),
      rw k (record { inside = omega (arith, q.1.inside); holds = q.1.holds; before = ap (λ (b : Bool). b || any p (take (j - suc i) x)) t ∙ q.1.before }),
    )

pub position_first : {A : Type 0} (p : A → Bool) (x : List A) (d : A) (j : ℕ) → position p x ≡ Some j → First p x d j
position_first p x d j e = let z : j - 0 ≡ j = omega arith in rw z at (first_from p 0 x d j e).1

-- the place that is found, or the end of the list
pub position_le : {A : Type 0} (p : A → Bool) (x : List A) → unwrap_or (length x) (position p x) ≤ length x
unfolding position_from
position_le p [] = omega arith
position_le p (r ∷ x) = go (position p (r ∷ x)) refl
  where
    go : (f : Option ℕ) → position p (r ∷ x) ≡ f → unwrap_or (suc (length x)) f ≤ suc (length x)
    go (Some j) e = omega (arith, (position_first p (r ∷ x) r j e).inside)
    go None e = omega arith

-- there is none: the test fails of each
pub any_none : {A : Type 0} (p : A → Bool) (x : List A) → any p x ≡ false → All (λ (r : A). p r ≡ false) x
unfolding any
any_none p [] e = none
any_none p (r ∷ x) e = go (p r) refl e (any_none p x)
  where
    go : (b : Bool) → p r ≡ b → (b || any p x) ≡ false → (any p x ≡ false → All (λ (s : _). p s ≡ false) x) → All (λ (s : _). p s ≡ false) (r ∷ x)
    go true t f rest = let z : ◌≡◌ {A = ℕ} 0 1 = cc in absurd (omega arith)
    go false t f rest = more t (rest f)

-- ---- what a test at row i says of the rows from i on

module _ (w n : ℕ) (a : List ℕ) (p : List ℕ → Bool) where
  pub row_next : (i : ℕ) → i < n → (row : List ℕ) → row ≡ part a (i * w) w → (b : Bool) → b ≡ p row → {d : Bool} → b ≡ d
      → position_from i p (drop i (rows w n a)) ≡ cond d (Some i) (position_from (i + 1) p (drop (i + 1) (rows w n a)))
  row_next i h row e b t {d} f =
      position_next p (rows w n a) i (part a (i * w) w) d (rows_next w i n a h) (sym (ap p e) ∙ sym t ∙ f)

  pub row_counted : (i : ℕ) → i < n → (row : List ℕ) → row ≡ part a (i * w) w → (b : Bool) → b ≡ p row → {d : Bool} → b ≡ d
      → count_by p (drop i (rows w n a)) ≡ cond d (suc (count_by p (drop (i + 1) (rows w n a)))) (count_by p (drop (i + 1) (rows w n a)))
  row_counted i h row e b t {d} f = count_next p (rows w n a) i (part a (i * w) w) d (rows_next w i n a h) (sym (ap p e) ∙ sym t ∙ f)

  pub rows_end : (i : ℕ) → n ≤ i → position_from i p (drop i (rows w n a)) ≡ None
  rows_end i h = position_end p (rows w n a) i (omega (arith, length_rows w n a))

-- ---- a key at an offset of the rows of an area

-- a row that has a key of n bytes
pub key_run : (o n : ℕ) (key b : List ℕ) → length key ≡ n → has_key o key b ≡ same_bytes (part b o n) key
unfolding has_key
key_run o n key b e = ap (λ (k : ℕ). same_bytes (part b o k) key) e

module _ (w n : ℕ) (a key : List ℕ) (o : ℕ) (fits : o + length key ≤ w) where
  -- what a comparison at row i says of the rows from i on
  pub find_next : (i : ℕ) → i < n → (b d : Bool) → d ≡ same_bytes (part a (i * w + o) (length key)) key → d ≡ b
      → position_from i (has_key o key) (drop i (rows w n a)) ≡ cond b (Some i) (position_from (i + 1) (has_key o key) (drop (i + 1) (rows w n a)))
  unfolding has_key
  find_next i h b d e t =
      position_next (has_key o key) (rows w n a) i (part a (i * w) w) b (rows_next w i n a h)
      (ap (λ (r : List ℕ). same_bytes r key) (part_part a (i * w) w o (length key) fits) ∙ sym e ∙ t)
