-- A message, block by block.
-- Assumes nothing.
use mathlib.Core.Path.{◌≡◌, sym, ap, ap₂, ◌∙◌}
use mathlib.Core.List.{List, [], ◌++◌, append_assoc}
use Prim.Native.Nat.{ℕ, ◌+◌, ◌*◌, ◌/◌, ◌<◌}
use native.Mathlib.Omega.{arith}
use lib.ListN.{length, take, drop, length-append, length-drop, take-append-drop, drop_of_length-le}
use lib.Seq.{length-take-le}
use Rattle.octets.specs.Bytes.{part}
use Rattle.octets.proofs.Parts.{part_left, part_right}
use Rattle.sha_block.specs.Loop.{turns}
use Rattle.sha_block.specs.Block.{compress}
use Rattle.sha_block.proofs.Loop.{turns_add, turns_same}
use Rattle.sha384.specs.Padding.{padding, padded}
use Rattle.sha384.specs.Sha384.{H0, next, hashed, digest, sha384}

-- blocks that are the same take a hash value to the same
hash_same : (p q : List ℕ) (n s t : ℕ) (h : List ℕ) → ((i : ℕ) → i < n → part p (128 * (s + i)) 128 ≡ part q (128 * (t + i)) 128)
    → turns (next p) n s h ≡ turns (next q) n t h
unfolding next
hash_same p q n s t h e = turns_same (next p) (next q) n s t h (λ y i l. ap (compress y) (e i l))

-- the blocks of x, and then those of what is left of x with y after it
pub hashed_append : (h x y : List ℕ) → hashed h (x ++ y) ≡ hashed (hashed h x) (drop (128 * (length x / 128)) x ++ y)
unfolding hashed
hashed_append h x y =
    let q : ℕ = length x / 128 in
    let u : List ℕ = take (128 * q) x in
    let v : List ℕ = drop (128 * q) x ++ y in
    let lu : length u ≡ 128 * q = length-take-le (128 * q) x (omega arith) in
    let split : x ++ y ≡ u ++ v = ap (λ (l : List ℕ). l ++ y) (sym (take-append-drop (128 * q) x)) ∙ append_assoc u (drop (128 * q) x) y in
    let n : length (x ++ y) / 128 ≡ q + length v / 128 =
    omega (arith, length-append x y, length-append (drop (128 * q) x) y, length-drop (128 * q) x) in
    ap (λ (k : ℕ). turns (next (x ++ y)) k 0 h) n
    ∙ turns_add (next (x ++ y)) q (length v / 128) 0 h
    ∙ ap (turns (next (x ++ y)) (length v / 128) (0 + q)) (hash_same (x ++ y) x q 0 0 h (λ i l. part_left x y (128 * (0 + i)) 128 (omega arith)))
    ∙ hash_same (x ++ y) v (length v / 128) (0 + q) 0 (turns (next x) q 0 h) (λ i l.
    let e : 128 * (0 + q + i) ≡ 128 * q + 128 * (0 + i) = omega arith in
    ap₂ (λ (l : List ℕ) (k : ℕ). part l k 128) split e ∙ part_right u v (128 * q) (128 * (0 + i)) 128 lu)

pub whole : (m : List ℕ) {g h d : List ℕ} → g ≡ H0 → h ≡ hashed g (m ++ padding (0 + length m)) → d ≡ digest h → d ≡ sha384 m
unfolding sha384 padded
whole m eg eh ed = let e : 0 + length m ≡ length m = omega arith in cc

one_block : (h a : List ℕ) → length a ≡ 128 → hashed h a ≡ compress h (part a 0 128)
unfolding hashed turns next
one_block h a la = ap (λ (k : ℕ). turns (next a) (k / 128) 0 h) la

pub after : (a m : List ℕ) {s g h d : List ℕ} → length a ≡ 128 → s ≡ H0 → g ≡ compress s (part a 0 128)
    → h ≡ hashed g (m ++ padding (128 + length m)) → d ≡ digest h → d ≡ sha384 (a ++ m)
unfolding sha384 padded
after a m {s} {g} {h} {d} la es eg eh ed =
    let n : length (a ++ m) ≡ 128 + length m = omega (arith, length-append a m) in
    let p : List ℕ = m ++ padding (128 + length m) in
    let none : drop (128 * (length a / 128)) a ≡ [] = drop_of_length-le a {i = 128 * (length a / 128)} (omega arith) in
    let whole : hashed s (a ++ p) ≡ hashed g p = hashed_append s a p ∙ ap₂ (λ (k l : List ℕ). hashed k (l ++ p)) (one_block s a la ∙ sym eg) none in
    let e : (a ++ m) ++ padding (length (a ++ m)) ≡ a ++ p = ap (λ (k : ℕ). (a ++ m) ++ padding k) n ∙ append_assoc a m (padding (128 + length m)) in
    cc
