-- The byte of a direction and back.
-- Assumes nothing.
use Rattle.std.proofs.Common.{◌≡◌, ℕ, Bool, true, false, cond, eqb, refl, eqb-true, Some, None}
use Rattle.chain.specs.Chain.{dir_label, dir_of}
use Rattle.chain.specs.declared.Dir.{Dir}
use Rattle.chain.specs.declared.Dir.TheVariants.{I, R}

pub label_read : (d : Dir) → dir_of (dir_label d) ≡ Some d
label_read I = refl
label_read R = refl

-- a byte that is read as a direction is its label
pub read_label : (b : ℕ) (d : Dir) → dir_of b ≡ Some d → b ≡ dir_label d
read_label b d e = go (eqb b 73) (eqb b 82) refl refl e
  where
    go : (x y : Bool) → eqb b 73 ≡ x → eqb b 82 ≡ y → cond x (Some I) (cond y (Some R) None) ≡ Some d → b ≡ dir_label d
    go true y ex ey h = let i : I ≡ d = cc in rw (← i) (eqb-true b 73 ex)
    go false true ex ey h = let r : R ≡ d = cc in rw (← r) (eqb-true b 82 ey)
    go false false ex ey h = cc
