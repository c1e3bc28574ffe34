-- Laws of lists, over any type of element.
-- Assumes nothing.
use mathlib.Core.Path.{◌≡◌, refl, sym, ap, ap₂, ◌∙◌}
use mathlib.Core.Bool.{Bool, true, false, cond, ◌||◌, or_assoc}
use mathlib.Core.List.{List, [], ◌∷◌, ◌++◌, append_assoc, map, map-append, flat_map}
use Prim.Native.Nat.{ℕ, zero, suc, ◌+◌, ◌-◌, ◌≤◌, ◌<◌}
use native.Mathlib.Omega.{arith}
use lib.ListN.{length, take, drop, get_or, length-append, length-drop}
use lib.Seq.{length-take-le}
use Rattle.std.proofs.Common.{add-one, append-nil, take-suc}
use Rattle.std.proofs.lemmas.List.{take-map, drop-map, drop_more, take-append-drop}
use Rattle.table.specs.Lists.{All, none, more, insert_at, remove_at, replace_at, filter, count_by, any}

-- of two lists, what is taken of the second is what the first leaves
pub take_append : {A : Type 0} (n : ℕ) (x y : List A) → take n (x ++ y) ≡ take n x ++ take (n - length (take n x)) y
take_append zero x y = refl
take_append (suc n) [] y = let e : suc n ≡ suc n - 0 = omega arith in ap (λ (k : ℕ). take k y) e
take_append (suc n) (r ∷ x) y =
    let e : n - length (take n x) ≡ suc n - suc (length (take n x)) = omega arith in
    ap (λ (l : List _). r ∷ l) (take_append n x y ∙ ap (λ (k : ℕ). take n x ++ take k y) e)

pub flat_map_append : {A B : Type 0} (f : A → List B) (x y : List A) → flat_map f (x ++ y) ≡ flat_map f x ++ flat_map f y
unfolding flat_map
flat_map_append f [] y = refl
flat_map_append f (r ∷ x) y = ap (λ (l : List _). f r ++ l) (flat_map_append f x y) ∙ sym (append_assoc (f r) (flat_map f x) (flat_map f y))

-- what is made of one element more
pub flat_map_next : {A B : Type 0} (f : A → List B) (xs : List A) (i : ℕ) (d : A) → i < length xs → flat_map f (take (i + 1) xs) ≡ flat_map f (take i xs) ++ f (get_or xs i d)
unfolding flat_map
flat_map_next f xs i d h =
    ap (λ (k : ℕ). flat_map f (take k xs)) (add-one i) ∙ ap (flat_map f) (take-suc xs i d h) ∙ flat_map_append f (take i xs) (get_or xs i d ∷ [])
    ∙ ap (λ (l : List _). flat_map f (take i xs) ++ l) (append-nil (f (get_or xs i d)))

-- a list at one of its elements
pub split_at : {A : Type 0} (xs : List A) (i : ℕ) (d : A) → i < length xs → take i xs ++ (get_or xs i d ∷ drop (i + 1) xs) ≡ xs
split_at xs i d h = ap (λ (l : List _). take i xs ++ l) (sym (drop_more xs i d h)) ∙ take-append-drop i xs

-- ---- how many there are after a change

module _ {A : Type 0} (xs : List A) (i : ℕ) where
  front : i ≤ length xs → length (take i xs) ≡ i
  front h = length-take-le i xs h

  pub length_insert_at : (x : A) → i ≤ length xs → length (insert_at i x xs) ≡ length xs + 1
  unfolding insert_at
  length_insert_at x h = omega (arith, length-append (take i xs) (x ∷ drop i xs), front h, length-drop i xs)

  pub length_remove_at : i < length xs → length (remove_at i xs) ≡ length xs - 1
  unfolding remove_at
  length_remove_at h = omega (arith, length-append (take i xs) (drop (i + 1) xs), front (omega arith), length-drop (i + 1) xs)

  pub length_replace_at : (x : A) → i < length xs → length (replace_at i x xs) ≡ length xs
  unfolding replace_at
  length_replace_at x h = omega (arith, length-append (take i xs) (x ∷ drop (i + 1) xs), front (omega arith), length-drop (i + 1) xs)

-- ---- what all elements have

-- of each that is kept the test holds
pub filter_holds : {A : Type 0} (q : A → Bool) (x : List A) → All (λ (r : A). q r ≡ true) (filter q x)
unfolding filter
filter_holds q [] = none
filter_holds q (r ∷ x) = go (q r) refl (filter_holds q x)
  where
    go : (b : Bool) → q r ≡ b → All (λ (s : _). q s ≡ true) (filter q x) → All (λ (s : _). q s ≡ true) (cond b (r ∷ filter q x) (filter q x))
    go true e a = more e a
    go false e a = a

module _ {A : Type 0} {P : A → Type 0} where
  pub all_each : ((r : A) → P r) → (x : List A) → All P x
  all_each f [] = none
  all_each f (r ∷ x) = more (f r) (all_each f x)

  pub all_append : (x y : List A) → All P x → All P y → All P (x ++ y)
  all_append [] y a b = b
  all_append (r ∷ x) y (more p a) b = more p (all_append x y a b)

  pub all_take : (i : ℕ) (x : List A) → All P x → All P (take i x)
  all_take zero x a = none
  all_take (suc i) [] a = none
  all_take (suc i) (r ∷ x) (more p a) = more p (all_take i x a)

  pub all_drop : (i : ℕ) (x : List A) → All P x → All P (drop i x)
  all_drop zero x a = a
  all_drop (suc i) [] a = none
  all_drop (suc i) (r ∷ x) (more p a) = all_drop i x a

  pub all_get : (i : ℕ) (x : List A) (d : A) → All P x → i < length x → P (get_or x i d)
  all_get i [] d a h = absurd (omega arith)
  all_get zero (r ∷ x) d (more p a) h = p
  all_get (suc i) (r ∷ x) d (more p a) h = all_get i x d a (omega arith)

  pub all_push : (x : List A) (r : A) → All P x → P r → All P (x ++ (r ∷ []))
  all_push x r a p = all_append x (r ∷ []) a (more p none)

  pub all_insert_at : (i : ℕ) (r : A) (x : List A) → All P x → P r → All P (insert_at i r x)
  unfolding insert_at
  all_insert_at i r x a p = all_append (take i x) (r ∷ drop i x) (all_take i x a) (more p (all_drop i x a))

  pub all_remove_at : (i : ℕ) (x : List A) → All P x → All P (remove_at i x)
  unfolding remove_at
  all_remove_at i x a = all_append (take i x) (drop (i + 1) x) (all_take i x a) (all_drop (i + 1) x a)

  pub all_replace_at : (i : ℕ) (r : A) (x : List A) → All P x → P r → All P (replace_at i r x)
  unfolding replace_at
  all_replace_at i r x a p = all_append (take i x) (r ∷ drop (i + 1) x) (all_take i x a) (more p (all_drop (i + 1) x a))

  all_cond : (b : Bool) (r : A) (x : List A) → P r → All P x → All P (cond b (r ∷ x) x)
  all_cond true r x p a = more p a
  all_cond false r x p a = a

  pub all_filter : (q : A → Bool) (x : List A) → All P x → All P (filter q x)
  unfolding filter
  all_filter q [] a = none
  all_filter q (r ∷ x) (more p a) = all_cond (q r) r (filter q x) p (all_filter q x a)

  pub all_imp : {Q : A → Type 0} → ((r : A) → P r → Q r) → (x : List A) → All P x → All Q x
  all_imp f [] a = none
  all_imp f (r ∷ x) (more p a) = more (f r p) (all_imp f x a)

pub all_map : {A B : Type 0} {Q : B → Type 0} (f : A → B) (x : List A) → All (λ (r : A). Q (f r)) x → All Q (map f x)
all_map f [] a = none
all_map f (r ∷ x) (more p a) = more p (all_map f x a)

-- ---- a test, on lists that grow

module _ {A : Type 0} (p : A → Bool) where
  pub filter_all : (x : List A) → All (λ (r : A). p r ≡ true) x → filter p x ≡ x
  unfolding filter
  filter_all [] a = refl
  filter_all (r ∷ x) (more e a) = rw (e, filter_all x a)

  pub filter_append : (x y : List A) → filter p (x ++ y) ≡ filter p x ++ filter p y
  unfolding filter
  filter_append [] y = refl
  filter_append (r ∷ x) y = ap (λ (l : List A). cond (p r) (r ∷ l) l) (filter_append x y) ∙ go (p r)
    where
      go : (b : Bool) → cond b (r ∷ (filter p x ++ filter p y)) (filter p x ++ filter p y) ≡ cond b (r ∷ filter p x) (filter p x) ++ filter p y
      go true = refl
      go false = refl

  pub count_append : (x y : List A) → count_by p (x ++ y) ≡ count_by p x + count_by p y
  unfolding count_by
  count_append [] y = omega arith
  count_append (r ∷ x) y = ap (λ (n : ℕ). cond (p r) (suc n) n) (count_append x y) ∙ go (p r)
    where
      go : (b : Bool) → cond b (suc (count_by p x + count_by p y)) (count_by p x + count_by p y) ≡ cond b (suc (count_by p x)) (count_by p x) + count_by p y
      go true = omega arith
      go false = refl

  pub any_append : (x y : List A) → any p (x ++ y) ≡ (any p x || any p y)
  unfolding any
  any_append [] y = refl
  any_append (r ∷ x) y = ap (λ (b : Bool). p r || b) (any_append x y) ∙ sym (or_assoc (p r) (any p x) (any p y))

  -- as many are counted as are kept
  pub count_filter : (x : List A) → count_by p x ≡ length (filter p x)
  unfolding count_by filter
  count_filter [] = refl
  count_filter (r ∷ x) = ap (λ (n : ℕ). cond (p r) (suc n) n) (count_filter x) ∙ go (p r)
    where
      go : (b : Bool) → cond b (suc (length (filter p x))) (length (filter p x)) ≡ length (cond b (r ∷ filter p x) (filter p x))
      go true = refl
      go false = refl

  pub length_filter : (x : List A) → length (filter p x) ≤ length x
  unfolding filter
  length_filter [] = omega arith
  length_filter (r ∷ x) = go (p r) (length_filter x)
    where
      go : (b : Bool) → length (filter p x) ≤ length x → length (cond b (r ∷ filter p x) (filter p x)) ≤ suc (length x)
      go true h = omega arith
      go false h = omega arith

-- ---- a map

module _ {A B : Type 0} (f : A → B) where
  pub map_insert_at : (i : ℕ) (r : A) (x : List A) → map f (insert_at i r x) ≡ insert_at i (f r) (map f x)
  unfolding insert_at
  map_insert_at i r x = map-append f (take i x) (r ∷ drop i x) ∙ ap₂ (λ (p q : List B). p ++ (f r ∷ q)) (sym (take-map f i x)) (sym (drop-map f i x))

  pub map_remove_at : (i : ℕ) (x : List A) → map f (remove_at i x) ≡ remove_at i (map f x)
  unfolding remove_at
  map_remove_at i x = map-append f (take i x) (drop (i + 1) x) ∙ ap₂ (λ (p q : List B). p ++ q) (sym (take-map f i x)) (sym (drop-map f (i + 1) x))

  pub map_replace_at : (i : ℕ) (r : A) (x : List A) → map f (replace_at i r x) ≡ replace_at i (f r) (map f x)
  unfolding replace_at
  map_replace_at i r x = map-append f (take i x) (r ∷ drop (i + 1) x) ∙ ap₂ (λ (p q : List B). p ++ (f r ∷ q)) (sym (take-map f i x)) (sym (drop-map f (i + 1) x))

  -- a test of what is mapped, and the same test before
  module _ (p : A → Bool) (q : B → Bool) (same : (r : A) → p r ≡ q (f r)) where
    pub filter_map : (x : List A) → map f (filter p x) ≡ filter q (map f x)
    unfolding filter
    filter_map [] = refl
    filter_map (r ∷ x) = go (p r) ∙ ap₂ (λ (b : Bool) (l : List B). cond b (f r ∷ l) l) (same r) (filter_map x)
      where
        go : (b : Bool) → map f (cond b (r ∷ filter p x) (filter p x)) ≡ cond b (f r ∷ map f (filter p x)) (map f (filter p x))
        go true = refl
        go false = refl

    pub count_map : (x : List A) → count_by p x ≡ count_by q (map f x)
    unfolding count_by
    count_map [] = refl
    count_map (r ∷ x) = ap₂ (λ (b : Bool) (n : ℕ). cond b (suc n) n) (same r) (count_map x)
