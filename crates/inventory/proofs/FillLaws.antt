-- What is made of a list element by element, and rows written of it.
-- Assumes nothing.
use Rattle.std.proofs.Common.{◌≡◌, ℕ, ◌+◌, ◌*◌, ◌<◌, ◌≤◌, List, [], ◌∷◌, ◌++◌, map, length, get_or, take, refl, ap, ◌∙◌, ap₂, arith, take_all}
use mathlib.Core.List.{map-append, flat_map}
use Rattle.table.proofs.ListLaws.{flat_map_next}
use Rattle.offers.specs.Appended.{Appended}
use Rattle.offers.proofs.AppendLaws.{append_none, append_then}

-- ---- element by element

module _ {A B : Type 0} (f : A → List B) where
  -- all of them
  pub flat_end : (xs : List A) (i : ℕ) → length xs ≤ i → flat_map f (take i xs) ≡ flat_map f xs
  flat_end xs i h = ap (flat_map f) (take_all i xs h)

  -- what is made of each of those
  pub map_flat : {C : Type 0} (g : B → C) (xs : List A) → map g (flat_map f xs) ≡ flat_map (λ (x : A). map g (f x)) xs
  unfolding flat_map
  map_flat g [] = refl
  map_flat g (x ∷ xs) = map-append g (f x) (flat_map f xs) ∙ ap (λ (l : List _). map g (f x) ++ l) (map_flat g xs)

  pub flat_same : (g : A → List B) → ((x : A) → f x ≡ g x) → (xs : List A) → flat_map f xs ≡ flat_map g xs
  unfolding flat_map
  flat_same g e [] = refl
  flat_same g e (x ∷ xs) = ap₂ (λ (y z : List B). y ++ z) (e x) (flat_same g e xs)

-- ---- rows made of the elements of a list: of i of them, the rows stand behind the n that were there; there are k then

module _ {A : Type 0} (w : ℕ) (f : A → List (List ℕ)) (xs : List A) (lent : List ℕ) (n : ℕ) where
  pub record Filling (i k : ℕ) (x : List ℕ) : Type 0 where
    pub within : i ≤ length xs
    pub below : k ≤ n + i
    pub rows : Appended w lent n (flat_map f (take i xs)) k x
    pub size : length x ≡ length lent

  pub filling_start : Filling 0 n lent
  unfolding flat_map
  filling_start = record { within = omega arith; below = omega arith; rows = append_none w lent n; size = refl }

  module _ {i k : ℕ} {x : List ℕ} (F : Filling i k x) where
    pub filling_next : {j : ℕ} {y : List ℕ} {rs : List (List ℕ)} (d : A) → i < length xs → f (get_or xs i d) ≡ rs → Appended w x k rs j y → j ≤ k + 1
        → j * w ≤ length lent → Filling (i + 1) j y
    filling_next {j} {y} {rs} d h e B b room =
        let s : flat_map f (take (i + 1) xs) ≡ flat_map f (take i xs) ++ rs = flat_map_next f xs i d h ∙ ap (λ (l : List (List ℕ)). flat_map f (take i xs) ++ l) e in
        let l = F.below in
        record { within = omega arith; below = omega arith; rows = rw s (append_then w F.rows B room); size = B.size ∙ F.size }

    pub filling_end : length xs ≤ i → Appended w lent n (flat_map f xs) k x
    filling_end h = rw (flat_end f xs i h) at F.rows
