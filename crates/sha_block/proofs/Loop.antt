-- Laws of `turns`: a loop that has reached t of n has turns f (n - t) t left to do.
-- Assumes nothing.
use Rattle.std.proofs.Common.{◌≡◌, ℕ, zero, suc, ◌+◌, ◌-◌, ◌<◌, ◌≤◌, List, sym, refl, ap, ◌∙◌, add-zero, arith}
use Rattle.sha_block.specs.Loop.{turns}

pub turns_none : (f : List ℕ → ℕ → List ℕ) (t : ℕ) (x : List ℕ) → turns f 0 t x ≡ x
unfolding turns
turns_none f t x = refl

-- j turns, and n more
pub turns_add : (f : List ℕ → ℕ → List ℕ) (j n t : ℕ) (x : List ℕ) → turns f (j + n) t x ≡ turns f n (t + j) (turns f j t x)
unfolding turns
turns_add f zero n t x = let e : zero + n ≡ n = omega arith in rw (e, add-zero)
turns_add f (suc j) n t x =
    let e : suc j + n ≡ suc (j + n) = omega arith in
    let d : t + 1 + j ≡ t + suc j = omega arith in
    ap (λ (k : ℕ). turns f k t x) e ∙ turns_add f j n (t + 1) (f x t) ∙ ap (λ (k : ℕ). turns f n k (turns f j (t + 1) (f x t))) d

module _ (f : List ℕ → ℕ → List ℕ) (n t : ℕ) (x : List ℕ) {r : List ℕ} (left : r ≡ turns f (n - t) t x) where
  -- j turns done at once
  pub again : (j : ℕ) {y : List ℕ} → t + j ≤ n → y ≡ turns f j t x → r ≡ turns f (n - (t + j)) (t + j) y
  again j {y} h e =
      let d : n - t ≡ j + (n - (t + j)) = omega arith in
      left ∙ ap (λ (k : ℕ). turns f k t x) d ∙ turns_add f j (n - (t + j)) t x ∙ ap (turns f (n - (t + j)) (t + j)) (sym e)

  pub done : n ≤ t → r ≡ x
  unfolding turns
  done h = let d : n - t ≡ 0 = omega arith in left ∙ ap (λ (k : ℕ). turns f k t x) d

-- two loops whose turns do the same
pub turns_same : (f g : List ℕ → ℕ → List ℕ) (n s t : ℕ) (x : List ℕ)
    → ((y : List ℕ) (i : ℕ) → i < n → f y (s + i) ≡ g y (t + i)) → turns f n s x ≡ turns g n t x
unfolding turns
turns_same f g zero s t x h = refl
turns_same f g (suc n) s t x h =
    let p : f x s ≡ g x t = ap (f x) (sym (add-zero s)) ∙ h x 0 (omega arith) ∙ ap (g x) (add-zero t) in
    ap (turns f n (s + 1)) p
    ∙ turns_same f g n (s + 1) (t + 1) (g x t) (λ y i l.
    let ds : s + 1 + i ≡ s + suc i = omega arith in
    let dt : t + 1 + i ≡ t + suc i = omega arith in
    ap (f y) ds ∙ h y (suc i) (omega arith) ∙ ap (g y) (sym dt))
