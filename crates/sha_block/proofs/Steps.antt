-- The rounds of 6.4.2, over plain values.
-- Assumes nothing.
use Rattle.std.proofs.Common.{◌≡◌, ℕ, ◌+◌, List, take, arith}
use Rattle.sha_block.specs.Loop.{turns}
use Rattle.sha_block.specs.Block.{schedule, longer, round, summed, compress}

-- four rounds, one after the other
pub four_rounds : (f : List ℕ → ℕ → List ℕ) (s : List ℕ) (t : ℕ) {a b c d : List ℕ} → a ≡ f s t → b ≡ f a (t + 1) → c ≡ f b (t + 2) → d ≡ f c (t + 3)
    → d ≡ turns f 4 t s
unfolding turns
four_rounds f s t ea eb ec ed =
    let two : t + 1 + 1 ≡ t + 2 = omega arith in
    let three : t + 1 + 1 + 1 ≡ t + 3 = omega arith in
    cc

-- the four steps, one after the other
pub steps : (h b v : List ℕ) {w s r : List ℕ} → schedule b ≡ turns (longer b) 64 16 (take 16 v)
    → ((a : List ℕ) → w ≡ turns (longer a) 64 16 (take 16 v)) → s ≡ turns (round w) 80 0 h → r ≡ summed s h → r ≡ compress h b
unfolding compress
steps h b v ev ew es er = cc (ew b)
