-- Lists of anything: the changes that a table knows, and what is asked of its rows. The same definitions serve rows of bytes and typed rows.
-- Assumes nothing.
use Rattle.std.specs.Prelude.{ℕ, suc, ◌+◌, Bool, true, false, cond, ◌||◌, List, [], ◌∷◌, ◌++◌, take, drop, Option, Some, None}

-- each element has the property
pub data All {A : Type 0} (P : A → Type 0) : List A → Type 0 where
  none : All P []
  more : {x : A} {xs : List A} → P x → All P xs → All P (x ∷ xs)

module _ {A : Type 0} where
  -- x put in at index i; the element at i taken out; x in place of the element at i
  unfoldable pub insert_at : ℕ → A → List A → List A
  insert_at i x xs = take i xs ++ (x ∷ drop i xs)

  unfoldable pub remove_at : ℕ → List A → List A
  remove_at i xs = take i xs ++ drop (i + 1) xs

  unfoldable pub replace_at : ℕ → A → List A → List A
  replace_at i x xs = take i xs ++ (x ∷ drop (i + 1) xs)

  -- those of which the test holds, in their order; how many; is there one
  unfoldable pub filter : (A → Bool) → List A → List A
  filter p [] = []
  filter p (x ∷ xs) = cond (p x) (x ∷ filter p xs) (filter p xs)

  unfoldable pub count_by : (A → Bool) → List A → ℕ
  count_by p [] = 0
  count_by p (x ∷ xs) = cond (p x) (suc (count_by p xs)) (count_by p xs)

  unfoldable pub any : (A → Bool) → List A → Bool
  any p [] = false
  any p (x ∷ xs) = p x || any p xs

  -- where the first one stands of which the test holds, the first of the list standing at i
  unfoldable pub position_from : ℕ → (A → Bool) → List A → Option ℕ
  position_from i p [] = None
  position_from i p (x ∷ xs) = cond (p x) (Some i) (position_from (suc i) p xs)

  abbrev pub position : (A → Bool) → List A → Option ℕ
  position = position_from 0

abbrev pub is_at : Option ℕ → Bool
is_at (Some i) = true
is_at None = false

-- the index found, or the one given
abbrev pub unwrap_or : ℕ → Option ℕ → ℕ
unwrap_or d (Some i) = i
unwrap_or d None = d
