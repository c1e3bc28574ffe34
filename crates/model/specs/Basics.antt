-- What the definitions of the model share: what follows from a search, and two lists merged by a number.
-- Assumes nothing.
use Rattle.std.specs.Prelude.{ℕ, Bool, cond, List, [], ◌∷◌, take, ◌==◌, nat_le, Option, Some, None}
use Rattle.courier_core.specs.declared.ContactId.{ContactId}

-- Rust's `match` on the place that a search answers, and on what it finds
abbrev pub match_found : {B : Type 0} → Option ℕ → (ℕ → B) → B → B
match_found (Some i) at otherwise = at i
match_found None at otherwise = otherwise

abbrev pub match_some : {A B : Type 0} → Option A → (A → B) → B → B
match_some (Some a) is otherwise = is a
match_some None is otherwise = otherwise

module _ {A : Type 0} where
  -- Rust's `find`: the first for which the test holds
  unfoldable pub find : (A → Bool) → List A → Option A
  find p [] = None
  find p (x ∷ xs) = cond (p x) (Some x) (find p xs)

  -- two lists as one, by a number of each element; of equal ones the first list's come first
  unfoldable pub merge : (A → ℕ) → List A → List A → List A
  merge key [] ys = ys
  merge key (x ∷ xs) [] = x ∷ xs
  merge key (x ∷ xs) (y ∷ ys) = cond (nat_le (key x) (key y)) (x ∷ merge key xs (y ∷ ys)) (y ∷ merge key (x ∷ xs) ys)

abbrev pub same_contact : ContactId → ContactId → Bool
same_contact a b = a.0 == b.0

-- `trunc8`: the prefix of a tag
abbrev pub trunc8 : List ℕ → List ℕ
trunc8 tag = take 8 tag
