-- The window at its corners.
-- Assumes nothing.
use mathlib.Core.Path.{◌≡◌, refl, sym, ap, ◌∙◌}
use mathlib.Core.List.{List, [], ◌∷◌, ◌++◌, append-nil, map, flat_map, reverse, reverse-cons, reverse-append}
use Prim.Native.Nat.{ℕ, ◌+◌, ◌-◌, ◌*◌, ◌/◌, ◌^◌, min}
use native.Mathlib.Omega.{arith}
use lib.ListN.{length, take, length-append}
use Rattle.octets.specs.Bytes.{part, num, be}
use Rattle.table.specs.Rows.{rows, all_rows}
use Rattle.table.proofs.ListLaws.{flat_map_append}
use Rattle.table.proofs.RowLaws.{length_all_rows, all_rows_append}
use Rattle.chain.specs.Chain.{count, next, key_row, chain_keys, chains_keys, window, last_index}
use Rattle.chain.proofs.Keys.{window_parts}

-- a chain row of direction d and generation g
abbrev pub chain_row : ℕ → ℕ → ℕ → List ℕ
chain_row d g n = d ∷ g ∷ be 8 n

-- the key that a chain at next 7 lists where one is left
one_key : (d g : ℕ) → chains_keys 1 (all_rows 10 (chain_row d g 7)) ≡ (d ∷ g ∷ be 4 7) ∷ []
unfolding all_rows rows chains_keys flat_map chain_keys count next key_row num part be
one_key d g = refl

no_key : (reach d g : ℕ) → chain_keys reach (chain_row d g (2 ^ 32)) ≡ []
unfolding chain_keys count next num part be
no_key reach d g =
    let e : min (2 ^ 32 + reach) last_index + 1 - 2 ^ 32 ≡ 0 = omega arith in
    ap (λ (n : ℕ). map (key_row (chain_row d g (2 ^ 32))) (count (2 ^ 32) n)) e

pub last_seven : (s : List ℕ) (d g : ℕ) → length s ≡ 499 * 6 → window s (chain_row d g 7) ≡ all_rows 6 s ++ ((d ∷ g ∷ be 4 7) ∷ [])
last_seven s d g h =
    let n : length s / 6 ≡ 499 = omega arith in
    window_parts s (chain_row d g 7) (omega arith)
    ∙ ap (λ (k : ℕ). all_rows 6 s ++ chains_keys (500 - k) (all_rows 10 (chain_row d g 7))) n
    ∙ ap (λ (l : List (List ℕ)). all_rows 6 s ++ l) (one_key d g)

pub none_left : (s c : List ℕ) → length s ≡ 500 * 6 → window s c ≡ all_rows 6 s
unfolding chains_keys
none_left s c h =
    let n : length s / 6 ≡ 500 = omega arith in
    window_parts s c (omega arith) ∙ ap (λ (k : ℕ). all_rows 6 s ++ chains_keys (500 - k) (all_rows 10 c)) n ∙ append-nil (all_rows 6 s)

-- a chain whose keys are none does not show, wherever it stands
hidden : (f : List ℕ → List (List ℕ)) (x y : List (List ℕ)) (c : List ℕ) → f c ≡ []
    → flat_map f (reverse (x ++ (c ∷ y))) ≡ flat_map f (reverse (x ++ y))
unfolding flat_map
hidden f x y c e =
    ap (flat_map f) (reverse-append x (c ∷ y) ∙ ap (λ (l : List (List ℕ)). l ++ reverse x) (reverse-cons c y))
    ∙ flat_map_append f (reverse y ++ (c ∷ [])) (reverse x)
    ∙ ap (λ (l : List (List ℕ)). l ++ flat_map f (reverse x))
    (flat_map_append f (reverse y) (c ∷ []) ∙ ap (λ (l : List (List ℕ)). flat_map f (reverse y) ++ (l ++ [])) e ∙ append-nil (flat_map f (reverse y)))
    ∙ sym (ap (flat_map f) (reverse-append x y) ∙ flat_map_append f (reverse y) (reverse x))

one_row : (y : List ℕ) (d g : ℕ) → all_rows 10 (chain_row d g (2 ^ 32) ++ y) ≡ chain_row d g (2 ^ 32) ∷ all_rows 10 y
unfolding all_rows rows be
one_row y d g = all_rows_append 10 1 (chain_row d g (2 ^ 32)) y (omega arith) refl

pub at_the_end : (s x y : List ℕ) (d g k : ℕ) → length x ≡ k * 10 → window s (x ++ (chain_row d g (2 ^ 32) ++ y)) ≡ window s (x ++ y)
unfolding window
at_the_end s x y d g k h =
    let keys : List (List ℕ) = all_rows 6 s in
    let reach : ℕ = 500 - length keys in
    let c : List ℕ = chain_row d g (2 ^ 32) in
    let listed : List (List ℕ) → List (List ℕ) = λ l. take 500 (keys ++ flat_map (chain_keys reach) (reverse l)) in
    ap listed (all_rows_append 10 k x (c ++ y) (omega arith) h ∙ ap (λ (l : List (List ℕ)). all_rows 10 x ++ l) (one_row y d g))
    ∙ ap (λ (l : List (List ℕ)). take 500 (keys ++ l)) (hidden (chain_keys reach) (all_rows 10 x) (all_rows 10 y) c (no_key reach d g))
    ∙ ap listed (sym (all_rows_append 10 k x y (omega arith) h))

pub count_seven : (s : List ℕ) (d g : ℕ) → length s ≡ 499 * 6 → length (window s (chain_row d g 7)) ≡ 500
count_seven s d g h = omega (arith, ap length (last_seven s d g h), length-append (all_rows 6 s) ((d ∷ g ∷ be 4 7) ∷ []), length_all_rows 6 s)
