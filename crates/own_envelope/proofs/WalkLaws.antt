-- A walk through the rows of a typed table, over any codec and any test: what the row at i says of those from i on, and of the first.
-- Assumes nothing.
use Rattle.std.proofs.Common.{◌≡◌, ℕ, zero, suc, ◌+◌, ◌*◌, ◌<◌, ◌≤◌, Bool, true, false, cond, List, [], ◌∷◌, length, drop, sym, ap, ◌∙◌, arith, Some, None}
use Rattle.octets.specs.Bytes.{part}
use Rattle.table.specs.Lists.{position, position_from, unwrap_or}
use Rattle.table.specs.Rows.{held}
use Rattle.table.specs.Codec.{Codec, table_of}
use Rattle.table.proofs.FindLaws.{position_next, position_end}
use Rattle.table.proofs.TableLaws.{length_table, table_next}

module _ {A : Type 0} (c : Codec A) (count : ℕ) (a : List ℕ) (p : A → Bool) (i : ℕ) where
  abbrev T : List A
  T = table_of c count a

  -- row i, of which a test says d
  module _ {row : A} {b d : Bool} (h : i < held (length a) c.width count) (e : row ≡ c.decode (part a (i * c.width) c.width)) (t : b ≡ p row)
      (f : b ≡ d) where
    pub place_row : position p T ≡ position_from i p (drop i T) → position p T ≡ cond d (Some i) (position_from (i + 1) p (drop (i + 1) T))
    place_row left = left ∙ position_next p T i _ d (table_next c count a i h) (ap p (sym e) ∙ sym t ∙ f)

  -- no row is left
  module _ (h : held (length a) c.width count ≤ i) where
    pub place_past : position p T ≡ position_from i p (drop i T) → position p T ≡ None
    place_past left = left ∙ position_end p T i (omega (arith, length_table c count a))

-- a place that is found from k on: the first is no later
pub first_found : {A : Type 0} (p : A → Bool) (i : ℕ) (xs : List A) (k d : ℕ) {m : ℕ} → i + k ≡ m → position_from m p (drop k xs) ≡ Some m
    → unwrap_or d (position_from i p xs) ≤ m
unfolding position_from
first_found p i xs zero d {m} e f = let z : i ≡ m = omega arith in rw z (omega (arith, ap (unwrap_or d) f))
first_found p i [] (suc k) d e f = let z : ◌≡◌ {A = ℕ} 0 1 = cc in absurd (omega arith)
first_found p i (r ∷ xs) (suc k) d {m} e f = go (p r) (first_found p (suc i) xs k d (omega arith) f)
  where
    go : (b : Bool) → unwrap_or d (position_from (suc i) p xs) ≤ m → unwrap_or d (cond b (Some i) (position_from (suc i) p xs)) ≤ m
    go true rest = omega arith
    go false rest = rest
