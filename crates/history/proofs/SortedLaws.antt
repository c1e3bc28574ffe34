-- Laws of sorted lists, and of lists of which some elements go and the others may change.
-- Assumes nothing.
use Rattle.std.proofs.Common.{◌≡◌, ℕ, zero, suc, ◌+◌, ◌<◌, ◌≤◌, Bool, true, false, cond, leb, ◌⊎◌, List, [], ◌∷◌, ◌++◌, map, length, get_or, take, drop, sym, refl, ap, ◌∙◌, subst, inl, inr, add-one, arith, take-append-drop, drop_of_length-le, leb-false, leb-true, Option, Some, None}
use Rattle.table.specs.Lists.{All, none, more, any, filter, count_by, position, is_at, unwrap_or, insert_at, remove_at, replace_at}
use Rattle.std.proofs.lemmas.List.{drop_more}
use Rattle.table.proofs.ListLaws.{all_append, all_take, all_drop, all_imp, split_at}
use Rattle.table.proofs.FindLaws.{position_any, position_first, any_none}
use Rattle.model.specs.Basics.{merge}
use Rattle.model.proofs.Laws.{all_merge}
use Rattle.history.specs.Order.{Sorted, empty, next, ◌∈◌, here, there}

-- ---- elements

module _ {A : Type 0} where
  pub none_in : {x : A} → x ∈ [] → ⊥
  none_in = elim [ ]

  pub all_in : {P : A → Type 0} {x : A} {xs : List A} → All P xs → x ∈ xs → P x
  all_in (more p a) here = p
  all_in (more p a) (there m) = all_in a m
  all_in {P = P} none h = elim h [ ]

  pub in_right : (xs ys : List A) {x : A} → x ∈ ys → x ∈ (xs ++ ys)
  in_right [] ys m = m
  in_right (z ∷ xs) ys m = there (in_right xs ys m)

  pub in_left : (xs ys : List A) {x : A} → x ∈ xs → x ∈ (xs ++ ys)
  in_left (z ∷ xs) ys here = here
  in_left (z ∷ xs) ys (there m) = there (in_left xs ys m)
  in_left [] ys h = elim h [ ]

  pub in_append : (xs ys : List A) {x : A} → x ∈ (xs ++ ys) → (x ∈ xs) ⊎ (x ∈ ys)
  in_append [] ys m = inr m
  in_append (z ∷ xs) ys here = inl here
  in_append (z ∷ xs) ys (there m) = go (in_append xs ys m)
    where
      go : {x : A} → (x ∈ xs) ⊎ (x ∈ ys) → (x ∈ (z ∷ xs)) ⊎ (x ∈ ys)
      go (inl m) = inl (there m)
      go (inr m) = inr m

  pub in_one : {x y : A} → x ∈ (y ∷ []) → x ≡ y
  in_one here = refl
  in_one {y = y} (there h) = elim h [ ]

  all_between : {P : A → Type 0} (xs ys : List A) (x : A) → All P (xs ++ ys) → P x → All P (xs ++ (x ∷ ys))
  all_between [] ys x a p = more p a
  all_between (z ∷ xs) ys x (more q a) p = more q (all_between xs ys x a p)

  all_middle : {P : A → Type 0} (xs ys : List A) (y : A) → All P (xs ++ (y ∷ ys)) → P y
  all_middle [] ys y (more p a) = p
  all_middle (x ∷ xs) ys y (more p a) = all_middle xs ys y a

  pub all_both : {P Q : A → Type 0} (xs : List A) → All P xs → All Q xs → All (λ (x : A). P x × Q x) xs
  all_both [] a b = none
  all_both (x ∷ xs) (more p a) (more q b) = more (p, q) (all_both xs a b)

pub all_unmap : {A B : Type 0} {Q : B → Type 0} (f : A → B) (xs : List A) → All Q (map f xs) → All (λ (x : A). Q (f x)) xs
all_unmap f [] a = none
all_unmap f (x ∷ xs) (more q a) = more q (all_unmap f xs a)

-- ---- sorted lists

module _ {A : Type 0} {R : A → A → Type 0} where
  sorted_right : (xs ys : List A) → Sorted R (xs ++ ys) → Sorted R ys
  sorted_right [] ys s = s
  sorted_right (x ∷ xs) ys (next a s) = sorted_right xs ys s

  pub head_all : {x : A} {xs : List A} → Sorted R (x ∷ xs) → All (R x) xs
  head_all (next a s) = a

  -- the elements after the one at i
  pub sorted_after : (xs : List A) (i : ℕ) (d : A) → i < length xs → Sorted R xs → All (R (get_or xs i d)) (drop (i + 1) xs)
  sorted_after xs i d h s = head_all (sorted_right (take i xs) (get_or xs i d ∷ drop (i + 1) xs) (subst (Sorted R) (sym (split_at xs i d h)) s))

  sorted_between : (xs ys : List A) (x : A) → Sorted R (xs ++ ys) → All (λ (y : A). R y x) xs → All (R x) ys → Sorted R (xs ++ (x ∷ ys))
  sorted_between [] ys x s a b = next b s
  sorted_between (z ∷ xs) ys x (next t s) (more r a) b = next (all_between xs ys x t r) (sorted_between xs ys x s a b)

  pub sorted_push : (xs : List A) (x : A) → Sorted R xs → All (λ (y : A). R y x) xs → Sorted R (xs ++ (x ∷ []))
  sorted_push [] x s a = next none empty
  sorted_push (y ∷ xs) x (next t s) (more r a) = next (all_append xs (x ∷ []) t (more r none)) (sorted_push xs x s a)

  sorted_left : (xs ys : List A) (y : A) → Sorted R (xs ++ (y ∷ ys)) → All (λ (x : A). R x y) xs
  sorted_left [] ys y s = none
  sorted_left (x ∷ xs) ys y (next a s) = more (all_middle xs ys y a) (sorted_left xs ys y s)

  -- what holds of the elements before and after the one at i holds of those that its removal leaves
  pub sorted_others : (P : A → Type 0) (xs : List A) (i : ℕ) (d : A) → i < length xs → Sorted R xs
      → ((y : A) → R y (get_or xs i d) → P y) → ((y : A) → R (get_or xs i d) y → P y) → All P (remove_at i xs)
  unfolding remove_at
  sorted_others P xs i d h s f g =
      all_append (take i xs) (drop (i + 1) xs)
      (all_imp f (take i xs) (sorted_left (take i xs) (drop (i + 1) xs) (get_or xs i d) (subst (Sorted R) (sym (split_at xs i d h)) s)))
      (all_imp g (drop (i + 1) xs) (sorted_after xs i d h s))

  -- put in at any place, where the relation holds with each both ways
  pub sorted_insert_at : (i : ℕ) (x : A) (xs : List A) → All (λ (y : A). R y x) xs → All (R x) xs → Sorted R xs → Sorted R (insert_at i x xs)
  unfolding insert_at
  sorted_insert_at i x xs a b s =
      sorted_between (take i xs) (drop i xs) x (subst (Sorted R) (sym (take-append-drop i xs)) s) (all_take i xs a) (all_drop i xs b)

  -- put in before the first of which the test holds: those of which it does not are before it, and the others after
  pub sorted_insert : (p : A → Bool) (x : A) (xs : List A) → ((a b c : A) → R a b → R b c → R a c)
      → All (λ (y : A). p y ≡ false → R y x) xs → All (λ (y : A). p y ≡ true → R x y) xs
      → Sorted R xs → Sorted R (insert_at (unwrap_or (length xs) (position p xs)) x xs)
  unfolding insert_at
  sorted_insert p x xs trans low high s = go (position p xs) refl
    where
      kept : (i : ℕ) → Sorted R (take i xs ++ drop i xs)
      kept i = subst (Sorted R) (sym (take-append-drop i xs)) s

      both : (ys : List A) → All (λ (y : A). p y ≡ false) ys → All (λ (y : A). p y ≡ false → R y x) ys → All (λ (y : A). R y x) ys
      both [] a b = none
      both (y ∷ ys) (more e a) (more f b) = more (f e) (both ys a b)

      below : (i : ℕ) → any p (take i xs) ≡ false → All (λ (y : A). R y x) (take i xs)
      below i e = both (take i xs) (any_none p (take i xs) e) (all_take i xs low)

      at_get : {P : A → Type 0} (ys : List A) (i : ℕ) (d : A) → All P ys → i < length ys → P (get_or ys i d)
      at_get (y ∷ ys) zero d (more q a) h = q
      at_get (y ∷ ys) (suc i) d (more q a) h = at_get ys i d a (omega arith)
      at_get {P = P} [] i d _ h = elim h [ ]

      go : (f : Option ℕ) → position p xs ≡ f → Sorted R (take (unwrap_or (length xs) f) xs ++ (x ∷ drop (unwrap_or (length xs) f) xs))
      go (Some i) e =
          let f = position_first p xs x i e in
          let n : A = get_or xs i x in
          let r : R x n = at_get xs i x high f.inside f.holds in
          let after : All (R x) (drop i xs) = subst (All (R x)) (sym (drop_more xs i x f.inside)) (more r (all_imp (λ y q. trans x n y r q) (drop (i + 1) xs) (sorted_after xs i x f.inside s))) in
          sorted_between (take i xs) (drop i xs) x (kept i) (below i f.before) after
      go None e =
          sorted_between (take (length xs) xs) (drop (length xs) xs) x (kept (length xs))
          (all_take (length xs) xs (both xs (any_none p xs (sym (position_any p 0 xs) ∙ ap is_at e)) low))
          (subst (All (R x)) (sym (drop_of_length-le xs {i = length xs} (omega arith))) none)

-- ---- what becomes of a list

-- of an element that went G holds, and of one that stayed S holds with what it is now
pub data Became {A : Type 0} (G : A → Type 0) (S : A → A → Type 0) : List A → List A → Type 0 where
  ends : Became G S [] []
  stays : {x y : A} {xs ys : List A} → S x y → Became G S xs ys → Became G S (x ∷ xs) (y ∷ ys)
  goes : {x : A} {xs ys : List A} → G x → Became G S xs ys → Became G S (x ∷ xs) ys

-- any one is taken out
module _ {A : Type 0} where
  abbrev pub Cut : List A → List A → Type 0
  Cut xs ys = Became (λ (x : A). Unit {0}) (λ (x y : A). y ≡ x) xs ys

  cut_none : (xs : List A) → Cut xs xs
  cut_none [] = ends
  cut_none (x ∷ xs) = stays refl (cut_none xs)

  cut_at : (i : ℕ) (xs : List A) → Cut xs (take i xs ++ drop (suc i) xs)
  cut_at zero [] = ends
  cut_at (suc i) [] = ends
  cut_at zero (x ∷ xs) = goes tt (cut_none xs)
  cut_at (suc i) (x ∷ xs) = stays refl (cut_at i xs)

  pub became_cut : (i : ℕ) (xs : List A) → Cut xs (remove_at i xs)
  unfolding remove_at
  became_cut i xs = rw (add-one i) (cut_at i xs)

module _ {A : Type 0} {G : A → Type 0} {S : A → A → Type 0} where
  pub became_same : (xs : List A) → All (λ (x : A). S x x) xs → Became G S xs xs
  became_same [] a = ends
  became_same (x ∷ xs) (more s a) = stays s (became_same xs a)

  pub became_append : {xs ys zs ws : List A} → Became G S xs ys → Became G S zs ws → Became G S (xs ++ zs) (ys ++ ws)
  became_append ends c = c
  became_append (stays s b) c = stays s (became_append b c)
  became_append (goes g b) c = goes g (became_append b c)

  pub became_filter : (p : A → Bool) (xs : List A) → ((x : A) → S x x) → ((x : A) → p x ≡ false → G x) → Became G S xs (filter p xs)
  unfolding filter
  became_filter p [] s g = ends
  became_filter p (x ∷ xs) s g = go (p x) refl (became_filter p xs s g)
    where
      go : (b : Bool) → p x ≡ b → Became G S xs (filter p xs) → Became G S (x ∷ xs) (cond b (x ∷ filter p xs) (filter p xs))
      go true e h = stays (s x) h
      go false e h = goes (g x e) h

  pub became_map : (f : A → A) (xs : List A) → ((x : A) → S x (f x)) → Became G S xs (map f xs)
  became_map f [] s = ends
  became_map f (x ∷ xs) s = stays (s x) (became_map f xs s)

  pub became_replaced : (xs : List A) (i : ℕ) (d y : A) → i < length xs → S (get_or xs i d) y → All (λ (x : A). S x x) (take i xs)
      → All (λ (x : A). S x x) (drop (i + 1) xs) → Became G S xs (replace_at i y xs)
  unfolding replace_at
  became_replaced xs i d y h s a b =
      subst (λ (l : List A). Became G S l (take i xs ++ (y ∷ drop (i + 1) xs))) (split_at xs i d h)
      (became_append (became_same (take i xs) a) (stays s (became_same (drop (i + 1) xs) b)))

  pub became_removed : (xs : List A) (i : ℕ) (d : A) → i < length xs → G (get_or xs i d) → ((x : A) → S x x) → Became G S xs (remove_at i xs)
  unfolding remove_at
  became_removed xs i d h g s =
      subst (λ (l : List A). Became G S l (take i xs ++ drop (i + 1) xs)) (split_at xs i d h)
      (became_append (every (take i xs)) (goes g (every (drop (i + 1) xs))))
    where
      every : (ys : List A) → Became G S ys ys
      every [] = ends
      every (y ∷ ys) = stays (s y) (every ys)

  pub became_then : {xs ys zs : List A} → ((x y z : A) → S x y → S y z → S x z) → ((x : A) → G x) → Became G S xs ys → Became G S ys zs → Became G S xs zs
  became_then t g ends c = c
  became_then t g (stays {x = x} {y = y} s b) (stays {y = z} r c) = stays (t x y z s r) (became_then t g b c)
  became_then t g (stays {x = x} s b) (goes h c) = goes (g x) (became_then t g b c)
  became_then t g (goes h b) c = goes h (became_then t g b c)

  -- ---- what is kept

  pub became_all : {P Q : A → Type 0} {xs ys : List A} → ((x y : A) → S x y → P x → Q y) → Became G S xs ys → All P xs → All Q ys
  became_all f ends a = none
  became_all f (stays {x = x} {y = y} s b) (more p a) = more (f x y s p) (became_all f b a)
  became_all f (goes g b) (more p a) = became_all f b a

  pub became_sorted : {R T : A → A → Type 0} {xs ys : List A} → ((x y z w : A) → S x y → S z w → R x z → T y w)
      → Became G S xs ys → Sorted R xs → Sorted T ys
  became_sorted f ends a = empty
  became_sorted f (stays {x = x} {y = y} s b) (next t a) = next (became_all (λ z w u r. f x y z w s u r) b t) (became_sorted f b a)
  became_sorted f (goes g b) (next t a) = became_sorted f b a

  pub became_length : {xs ys : List A} → Became G S xs ys → length ys ≤ length xs
  became_length ends = omega arith
  became_length (stays s b) = let h = became_length b in omega arith
  became_length (goes g b) = let h = became_length b in omega arith

  pub became_count : (p : A → Bool) {xs ys : List A} → ((x y : A) → S x y → p y ≡ p x) → Became G S xs ys → count_by p ys ≤ count_by p xs
  unfolding count_by
  became_count p f ends = omega arith
  became_count p f (stays {x = x} {y = y} {xs = xs} {ys = ys} s b) = rw (f x y s) (go (p x) (became_count p f b))
    where
      go : (b : Bool) → count_by p ys ≤ count_by p xs → cond b (suc (count_by p ys)) (count_by p ys) ≤ cond b (suc (count_by p xs)) (count_by p xs)
      go true h = omega arith
      go false h = h
  became_count p f (goes {x = x} {xs = xs} {ys = ys} g b) = go (p x) (became_count p f b)
    where
      go : (b : Bool) → count_by p ys ≤ count_by p xs → count_by p ys ≤ cond b (suc (count_by p xs)) (count_by p xs)
      go true h = omega arith
      go false h = h

  pub became_back : {xs ys : List A} {y : A} → Became G S xs ys → y ∈ ys → (x : A) × (x ∈ xs) × S x y
  became_back (stays {x = x} s b) here = (x, here, s)
  became_back (stays s b) (there m) = let t = became_back b m in (t.0, there t.1, t.2)
  became_back (goes g b) m = let t = became_back b m in (t.0, there t.1, t.2)
  became_back {y = y} ends m = elim m [ ]

  -- in a sorted list an element that goes leaves nothing behind: what is there came from others
  pub became_gone : {R : A → A → Type 0} {xs ys : List A} {x : A} → Sorted R xs → Became G S xs ys → x ∈ xs
      → (G x × All (λ (y : A). (z : A) × S z y × (R x z ⊎ R z x)) ys) ⊎ ((y : A) × (y ∈ ys) × S x y)
  became_gone (next a s) (stays {y = y} t b) here = inr (y, here, t)
  became_gone (next a s) (goes g b) here = inl (g, became_all (λ z w t r. (z, t, inl r)) b a)
  became_gone {R = R} (next a s) (stays {x = w} {y = v} {xs = xs} {ys = ys} t b) (there {x = x} m) = go (became_gone s b m)
    where
      go : (G x × All (λ (y : A). (z : A) × S z y × (R x z ⊎ R z x)) ys) ⊎ ((y : A) × (y ∈ ys) × S x y)
          → (G x × All (λ (y : A). (z : A) × S z y × (R x z ⊎ R z x)) (v ∷ ys)) ⊎ ((y : A) × (y ∈ (v ∷ ys)) × S x y)
      go (inl q) = inl (q.0, more (w, t, inr (all_in a m)) q.1)
      go (inr q) = inr (q.0, there q.1, q.2)
  became_gone (next a s) (goes g b) (there m) = became_gone s b m
  became_gone {R = R} {ys = ys} empty _ h = elim h [ ]

-- ---- two lists merged

-- lists that rise, with no number in both, rise when they are merged
pub rises_merge : {A : Type 0} (key : A → ℕ) (xs ys : List A) → Sorted (λ (a b : A). key a < key b) xs → Sorted (λ (a b : A). key a < key b) ys
    → All (λ (x : A). All (λ (y : A). key x ≡ key y → ⊥) ys) xs → Sorted (λ (a b : A). key a < key b) (merge key xs ys)
unfolding merge
rises_merge key [] ys s t c = t
rises_merge key (x ∷ xs) [] s t c = s
rises_merge {A} key (x ∷ xs) (y ∷ ys) (next a s) (next b t) (more (more r d) c) =
    go (leb (key x) (key y)) refl (rises_merge key xs (y ∷ ys) s (next b t) c) (rises_merge key (x ∷ xs) ys (next a s) t (more d (all_imp rest xs c)))
  where
    rest : (z : A) → All (λ (u : A). key z ≡ key u → ⊥) (y ∷ ys) → All (λ (u : A). key z ≡ key u → ⊥) ys
    rest z (more p q) = q

    less : key x ≤ key y → key x < key y
    less h = by (leb (key y) (key x)) refl
      where
        by : (b : Bool) → leb (key y) (key x) ≡ b → key x < key y
        by true e = absurd (r (omega (arith, h, leb-true (key y) (key x) e)))
        by false e = leb-false (key y) (key x) e

    go : (u : Bool) → leb (key x) (key y) ≡ u → Sorted (λ (a b : A). key a < key b) (merge key xs (y ∷ ys)) → Sorted (λ (a b : A). key a < key b) (merge key (x ∷ xs) ys)
        → Sorted (λ (a b : A). key a < key b) (cond u (x ∷ merge key xs (y ∷ ys)) (y ∷ merge key (x ∷ xs) ys))
    go true e p q =
        let l : key x < key y = less (leb-true (key x) (key y) e) in
        let m : All (λ (z : A). key x < key z) (y ∷ ys) = more l (all_imp (λ z k. omega (arith, l, k)) ys b) in
        next (all_merge key xs (y ∷ ys) a m) p
    go false e p q =
        let l : key y < key x = leb-false (key x) (key y) e in
        let m : All (λ (z : A). key y < key z) (x ∷ xs) = more l (all_imp (λ z k. omega (arith, l, k)) xs a) in
        next (all_merge key (x ∷ xs) ys m b) q
