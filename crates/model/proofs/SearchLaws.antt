-- Laws of `find`: where it stops in a list that is made of another, and where it goes on behind it.
-- Assumes nothing.
use Rattle.std.proofs.Common.{◌≡◌, ℕ, suc, ◌-◌, ◌≤◌, Bool, true, false, cond, ◌&&◌, List, [], ◌∷◌, ◌++◌, map, get_or, sym, refl, ap, ◌∙◌, arith, Some, None}
use Rattle.table.specs.Lists.{position_from, position, filter}
use Rattle.table.proofs.ListLaws.{all_each, filter_all}
use Rattle.model.specs.Basics.{find}

-- among those kept, each made into something else, with more behind
module _ {A E : Type 0} (f : A → E) (p : E → Bool) (k : A → Bool) (ys : List E) where
  abbrev q : A → Bool
  q x = k x && p (f x)

  find_first : (d : A) (xs : List A) (j i : ℕ) → position_from j q xs ≡ Some i
      → (j ≤ i) × (find p (map f (filter k xs) ++ ys) ≡ Some (f (get_or xs (i - j) d)))
  unfolding position_from filter find
  find_first d [] j i e = cc
  find_first d (x ∷ xs) j i e = go (k x) (p (f x)) refl refl e (find_first d xs (suc j) i)
    where
      go : (b c : Bool) → k x ≡ b → p (f x) ≡ c → cond (b && c) (Some j) (position_from (suc j) q xs) ≡ Some i
          → (position_from (suc j) q xs ≡ Some i → (suc j ≤ i) × (find p (map f (filter k xs) ++ ys) ≡ Some (f (get_or xs (i - suc j) d))))
          → (j ≤ i) × (find p (map f (cond b (x ∷ filter k xs) (filter k xs)) ++ ys) ≡ Some (f (get_or (x ∷ xs) (i - j) d)))
      go true true t u h rest = let z : j ≡ i = cc in let m : i - j ≡ 0 = omega arith in (omega arith, rw (u, m))
      go true false t u h rest = let y = rest h in let m : i - j ≡ suc (i - suc j) = omega (arith, y.0) in (omega (arith, y.0), rw (u, m) y.1)
      go false c t u h rest = let y = rest h in let m : i - j ≡ suc (i - suc j) = omega (arith, y.0) in (omega (arith, y.0), rw m y.1)

  pub find_at : (d : A) (xs : List A) (i : ℕ) → position q xs ≡ Some i → find p (map f (filter k xs) ++ ys) ≡ Some (f (get_or xs i d))
  find_at d xs i e = let z : i - 0 ≡ i = omega arith in (find_first d xs 0 i e).1 ∙ ap (λ (n : ℕ). Some (f (get_or xs n d))) z

  pub find_past : (xs : List A) (j : ℕ) → position_from j q xs ≡ None → find p (map f (filter k xs) ++ ys) ≡ find p ys
  unfolding position_from filter find
  find_past [] j e = refl
  find_past (x ∷ xs) j e = go (k x) (p (f x)) refl refl e (find_past xs (suc j))
    where
      go : (b c : Bool) → k x ≡ b → p (f x) ≡ c → cond (b && c) (Some j) (position_from (suc j) q xs) ≡ None
          → (position_from (suc j) q xs ≡ None → find p (map f (filter k xs) ++ ys) ≡ find p ys)
          → find p (map f (cond b (x ∷ filter k xs) (filter k xs)) ++ ys) ≡ find p ys
      go true true t u h rest = cc
      go true false t u h rest = rw u (rest h)
      go false c t u h rest = rest h

-- among all, each made into something else, with more behind
module _ {A E : Type 0} (f : A → E) (p : E → Bool) (ys : List E) (xs : List A) where
  unfiltered : find p (map f xs ++ ys) ≡ find p (map f (filter (λ (x : A). true) xs) ++ ys)
  unfiltered = ap (λ (l : List A). find p (map f l ++ ys)) (sym (filter_all (λ x. true) xs (all_each (λ x. refl) xs)))

  pub found_in : (d : A) (i : ℕ) → Some i ≡ position (λ (x : A). p (f x)) xs → find p (map f xs ++ ys) ≡ Some (f (get_or xs i d))
  found_in d i e = unfiltered ∙ find_at f p (λ (x : A). true) ys d xs i (sym e)

  pub found_behind : None ≡ position (λ (x : A). p (f x)) xs → find p (map f xs ++ ys) ≡ find p ys
  found_behind e = unfiltered ∙ find_past f p (λ (x : A). true) ys xs 0 (sym e)
