-- The schedule, one word more.
-- Assumes nothing.
use Rattle.std.proofs.Common.{◌≡◌, ℕ, ◌+◌, ◌-◌, ◌*◌, ◌<◌, ◌≤◌, List, length, get_or, take, set, add-one, arith, get_or-take, take-suc-set, le-ltb, lt-ltb}
use Rattle.octets.specs.Bytes.{part, num}
use Rattle.octets.proofs.Parts.{part_part}
use Rattle.sha_block.specs.Block.{M, mixed, W, longer}

-- the word t is stored behind those before it
stored : (b w : List ℕ) (t v : ℕ) → t < length w → v ≡ W b (take t w) t → take (t + 1) (set w t v) ≡ longer b (take t w) t
unfolding longer
stored b w t v h e = rw (add-one t, take-suc-set w t v h, e)

-- for t below 16, it is the block's
pub loaded : (m w : List ℕ) (at t v : ℕ) → t < 16 → t < length w → v ≡ num (part m (at + 8 * t) 8)
    → take (t + 1) (set w t v) ≡ longer (part m at 128) (take t w) t
unfolding W M
loaded m w at t v h l e =
    stored (part m at 128) w t v l (rw (lt-ltb t 16 h, part_part m at 128 (8 * t) 8 (omega arith)) e)

-- from 16 on, it is made from four words before it
pub extended : (b w : List ℕ) (t v : ℕ) → 16 ≤ t → t < length w
    → v ≡ mixed (get_or w (t - 2) 0) (get_or w (t - 7) 0) (get_or w (t - 15) 0) (get_or w (t - 16) 0)
    → take (t + 1) (set w t v) ≡ longer b (take t w) t
unfolding W
extended b w t v h l e =
    let before : (j : ℕ) → 0 < j → j ≤ 16 → get_or (take t w) (t - j) 0 ≡ get_or w (t - j) 0 = λ j p q. get_or-take t w (t - j) 0 (omega arith) in
    let w2 : get_or (take t w) (t - 2) 0 ≡ get_or w (t - 2) 0 = before 2 (omega arith) (omega arith) in
    let w7 : get_or (take t w) (t - 7) 0 ≡ get_or w (t - 7) 0 = before 7 (omega arith) (omega arith) in
    let w15 : get_or (take t w) (t - 15) 0 ≡ get_or w (t - 15) 0 = before 15 (omega arith) (omega arith) in
    let w16 : get_or (take t w) (t - 16) 0 ≡ get_or w (t - 16) 0 = before 16 (omega arith) (omega arith) in
    stored b w t v l (rw (le-ltb t 16 h, w2, w7, w15, w16) e)
