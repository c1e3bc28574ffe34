-- The standard's "For t = .. to ..".
-- Assumes nothing.
use Rattle.std.specs.Prelude.{ℕ, zero, suc, ◌+◌, List}

-- x, after n times x = f x t, for t, t + 1, ..
unfoldable pub turns : (f : List ℕ → ℕ → List ℕ) (n t : ℕ) (x : List ℕ) → List ℕ
turns f zero t x = x
turns f (suc n) t x = turns f n (t + 1) (f x t)
