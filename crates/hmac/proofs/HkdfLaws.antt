-- HKDF, block by block. Assumes nothing.
use mathlib.Core.Path.{◌≡◌, refl, sym, ap, ◌∙◌}
use mathlib.Core.List.{List, [], ◌∷◌, ◌++◌}
use Prim.Native.Nat.{ℕ, suc, ◌+◌, ◌-◌, ◌*◌, ◌/◌, ◌≤◌, ◌<◌, min}
use native.Mathlib.Numerals.{add-one}
use native.Mathlib.Omega.{arith}
use lib.ListN.{length, take, drop, length-append, length-take}
use mathlib.Core.Logic.{◌⊎◌, inl, inr, ⊎_elim}
use lib.Seq.{take_all, drop_at, take-nil, take-append-add}
use lib.Dec.{leb}
use mathlib.Core.Bool.{Bool, true, false}
use borrow.Author.Tests.{leb-true, leb-false}
use Rattle.std.proofs.lemmas.List.{drop-take}
use Rattle.octets.specs.Bytes.{splice}
use Rattle.octets.proofs.Parts.{length_splice, take_written}
use Rattle.hmac.specs.Hmac.{K0, keyed, hmac}
use Rattle.hmac.specs.Hkdf.{T, up_to, expand}

-- ---- 2.3

-- i blocks are written, as far as there is room for them; T(i) stands from the block i - 1 on, which for i = 0 is empty
pub record Expanding (prk info out : List ℕ) (L i : ℕ) : Type 0 where
  pub last : drop (48 * (i - 1)) (up_to prk info i) ≡ T prk info i
  pub size : length out ≡ L
  pub near : 48 * i < L + 48
  pub full : length (up_to prk info i) ≡ 48 * i
  pub done : take (48 * i) out ≡ take L (up_to prk info i)

pub expand_start : (prk info out : List ℕ) → Expanding prk info out (length out) 0
unfolding T up_to
expand_start prk info out = record { last = refl; size = refl; near = omega arith; full = refl; done = sym (take-nil (length out)) }

module _ (prk info out : List ℕ) (L i : ℕ) (s : Expanding prk info out L i) where
  -- what stands before the block i + 1, where there is room for more
  filled_up : 48 * i < L → take (48 * i) out ≡ up_to prk info i
  filled_up h = s.done ∙ take_all L (up_to prk info i) (omega (arith, s.full))

  previous_block : (j : ℕ) → 48 * i < L → j ≡ i - 1 → take (48 * i - 48 * j) (drop (48 * j) out) ≡ T prk info i
  previous_block j h e =
      let n : 48 * j + (48 * i - 48 * j) ≡ 48 * i = omega arith in
      sym (drop-take (48 * j) (48 * i - 48 * j) out) ∙ ap (λ (k : ℕ). drop (48 * j) (take k out)) n
      ∙ (λ k. drop (48 * e k) (filled_up h k)) ∙ s.last

  pub expand_step : (out' r k0 : List ℕ) (j : ℕ) → 48 * i < L → length r ≡ 48 → k0 ≡ K0 prk → j ≡ i - 1
      → r ≡ keyed k0 (take (48 * i - 48 * j) (drop (48 * j) out) ++ info ++ ((i + 1) ∷ []))
      → out' ≡ splice out (48 * i) (take (L - 48 * i) r) → Expanding prk info out' L (i + 1)
  unfolding T up_to hmac
  expand_step out' r k0 j h lr ek ej er eo =
      let v : List ℕ = take (L - 48 * i) r in
      let lv : length v ≡ min (L - 48 * i) 48 = length-take (L - 48 * i) r ∙ ap (min (L - 48 * i)) lr in
      let fits : 48 * i + length v ≤ length out = omega (arith, s.size) in
      let size : length out' ≡ L = ap length eo ∙ length_splice out (48 * i) v fits ∙ s.size in
      let e_t : r ≡ T prk info (suc i) = er ∙ (λ k. keyed (ek k) (previous_block j h ej k ++ info ++ ((add-one i k) ∷ []))) in
      let all : up_to prk info (suc i) ≡ up_to prk info i ++ r = ap (λ (l : List ℕ). up_to prk info i ++ l) (sym e_t) in
      let left : take L (up_to prk info i ++ r) ≡ up_to prk info i ++ v =
      ap (λ (n : ℕ). take n (up_to prk info i ++ r)) (sum L i s.full h) ∙ take-append-add (up_to prk info i) r (L - 48 * i) in
      let ends : take (48 * (i + 1)) out' ≡ take (48 * i + length v) out' = reach out' L i (length v) size lv in
      record {
        last =
            let n : i + 1 - 1 ≡ i = omega arith in
            (λ j. drop (48 * n j) (up_to prk info (add-one i j))) ∙ drop_at (up_to prk info i) (T prk info (suc i)) (48 * i) s.full
            ∙ ap (T prk info) (sym (add-one i));
        size = size;
        near = omega arith;
        full = ap (λ (n : ℕ). length (up_to prk info n)) (add-one i) ∙ ap length all ∙ length-append (up_to prk info i) r ∙ omega (arith, s.full);
        done = ends ∙ ap (take (48 * i + length v)) eo ∙ take_written out (48 * i) v fits ∙ ap (λ (l : List ℕ). l ++ v) (filled_up h) ∙ sym left
            ∙ ap (take L) (sym all ∙ ap (up_to prk info) (sym (add-one i)));
      }
    where
      sum : (L i : ℕ) → length (up_to prk info i) ≡ 48 * i → 48 * i < L → L ≡ length (up_to prk info i) + (L - 48 * i)
      sum L i e h = omega arith

      -- either there is room for all of a block, or the area ends
      reach : (x : List ℕ) (L i n : ℕ) → length x ≡ L → n ≡ min (L - 48 * i) 48 → take (48 * (i + 1)) x ≡ take (48 * i + n) x
      reach x L i n lx en =
          ⊎_elim
          (λ (e : 48 * (i + 1) ≡ 48 * i + n). ap (λ (k : ℕ). take k x) e)
          (λ (e : (L ≤ 48 * (i + 1)) × (L ≤ 48 * i + n)). take_all (48 * (i + 1)) x (omega arith) ∙ sym (take_all (48 * i + n) x (omega arith)))
          (cases (leb 48 (L - 48 * i)) refl)
        where
          cases : (b : Bool) → leb 48 (L - 48 * i) ≡ b → (48 * (i + 1) ≡ 48 * i + n) ⊎ ((L ≤ 48 * (i + 1)) × (L ≤ 48 * i + n))
          cases true e = inl (omega (arith, leb-true 48 (L - 48 * i) e))
          cases false e = let h = leb-false 48 (L - 48 * i) e in inr (omega arith, omega arith)

  pub expand_end : L ≤ 48 * i → out ≡ expand prk info L
  unfolding expand
  expand_end h =
      let n : (L + 47) / 48 ≡ i = omega (arith, s.near) in
      sym (take_all (48 * i) out (omega (arith, s.size))) ∙ s.done ∙ ap (λ (k : ℕ). take L (up_to prk info k)) (sym n)
