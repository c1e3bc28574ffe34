-- Of the rows of a typed table before i those that a test keeps, each made into something else: a walk from row to row, over any codec.
-- Assumes nothing.
use Rattle.std.proofs.Common.{◌≡◌, ℕ, ◌+◌, ◌*◌, ◌<◌, ◌≤◌, Bool, true, false, cond, List, [], ◌∷◌, ◌++◌, map, length, take, sym, refl, ap, ◌∙◌, add-one, arith, take_all, take-suc}
use mathlib.Core.List.{map-append}
use Rattle.octets.specs.Bytes.{part}
use Rattle.table.specs.Lists.{filter}
use Rattle.table.specs.Rows.{held}
use Rattle.table.specs.Codec.{Codec, table_of}
use Rattle.table.proofs.ListLaws.{filter_append}
use Rattle.table.proofs.TableLaws.{length_table, get_d_table}

module _ {A B : Type 0} (c : Codec A) (count : ℕ) (a : List ℕ) (f : A → B) (p : A → Bool) (i : ℕ) where
  abbrev T : List A
  T = table_of c count a

  -- row i, of which the test says d
  pub sift_next : {row : A} {d : Bool} → i < held (length a) c.width count → row ≡ c.decode (part a (i * c.width) c.width) → p row ≡ d
      → map f (filter p (take (i + 1) T)) ≡ map f (filter p (take i T)) ++ cond d (f row ∷ []) []
  unfolding filter
  sift_next {row} {d} h e t =
      let n : take (i + 1) T ≡ take i T ++ (row ∷ []) =
      ap (λ (j : ℕ). take j T) (add-one i) ∙ take-suc T i row (omega (arith, length_table c count a))
      ∙ ap (λ (r : A). take i T ++ (r ∷ [])) (get_d_table c count a i row h ∙ sym e) in
      ap (λ (l : List A). map f (filter p l)) n ∙ ap (map f) (filter_append p (take i T) (row ∷ []))
      ∙ map-append f (filter p (take i T)) (cond (p row) (row ∷ []) [])
      ∙ ap (λ (x : Bool). map f (filter p (take i T)) ++ map f (cond x (row ∷ []) [])) t
      ∙ ap (λ (l : List B). map f (filter p (take i T)) ++ l) (go d)
    where
      go : (d : Bool) → map f (cond d (row ∷ []) []) ≡ cond d (f row ∷ []) []
      go true = refl
      go false = refl

  pub sift_end : held (length a) c.width count ≤ i → map f (filter p (take i T)) ≡ map f (filter p T)
  sift_end h = ap (λ (l : List A). map f (filter p l)) (take_all i T (omega (arith, length_table c count a)))
