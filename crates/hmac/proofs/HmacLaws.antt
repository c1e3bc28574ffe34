-- The key as one block. Assumes nothing.
use mathlib.Core.Path.{◌≡◌, refl, ap, ap₂, ◌∙◌}
use mathlib.Core.List.{List, ◌++◌, append-nil}
use mathlib.Core.Bool.{Bool, true, false, cond}
use Prim.Native.Nat.{ℕ, ◌-◌, ◌≤◌, ◌<◌}
use native.Mathlib.Omega.{arith}
use lib.ListN.{length, replicate}
use lib.Dec.{eqb, ltb}
use borrow.Author.Tests.{ne_eqb, lt-ltb, le-ltb, eqb-true}
use Rattle.sha384.specs.Sha384.{sha384}
use Rattle.hmac.specs.Hmac.{K0}

-- ---- K0

pub long_key : (key h : List ℕ) → 128 < length key → h ≡ sha384 key → length h ≡ 48 → h ++ replicate (128 - length h) 0 ≡ K0 key
unfolding K0
long_key key h l e n =
    rw (ne_eqb (length key) 128 (λ e. omega arith), lt-ltb 128 (length key) l)
    (ap₂ (λ (x : List ℕ) (k : ℕ). x ++ replicate (128 - k) 0) e n)

pub short_key : (key : List ℕ) → length key ≤ 128 → key ++ replicate (128 - length key) 0 ≡ K0 key
unfolding K0
short_key key h = go (eqb (length key) 128) refl
  where
    go : (b : Bool) → eqb (length key) 128 ≡ b
        → key ++ replicate (128 - length key) 0
        ≡ cond b key (cond (ltb 128 (length key)) (sha384 key ++ replicate (128 - 48) 0) (key ++ replicate (128 - length key) 0))
    go true e =
        let z : 128 - length key ≡ 0 = omega (arith, eqb-true (length key) 128 e) in
        ap (λ (k : ℕ). key ++ replicate k 0) z ∙ append-nil key
    go false e = rw (le-ltb 128 (length key) h)
