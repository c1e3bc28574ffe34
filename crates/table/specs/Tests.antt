-- What a test of rows asks and says: a closure that is called at rows of w bytes.
-- Assumes nothing.
use Rattle.std.specs.Prelude.{◌≡◌, ℕ, Bool, List, length}
use Rattle.std.specs.Fn.{Shared}
use denote.Ref.{Bor}

module _ {F : Type 0} (g : Shared F (Bor (List ℕ) × Unit {0}) Bool) (test : F) (w : ℕ) where
  -- the test may be called at any row of w bytes
  abbrev pub TakesRows : Type 0
  TakesRows = (row : Bor (List ℕ)) → length row.now ≡ w → g.pre test (row, tt)

  -- of a row of w bytes it answers what p says of the row
  abbrev pub TestsRows : (List ℕ → Bool) → Type 0
  TestsRows p = (row : Bor (List ℕ)) (b : Bool) → length row.now ≡ w → g.post test (row, tt) b → b ≡ p row.now
