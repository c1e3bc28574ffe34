-- Laws of the blob in a record: what `held_decode` takes, and how long it is.
-- Assumes nothing.
use Rattle.std.proofs.Common.{◌≡◌, ℕ, ◌-◌, ◌≤◌, Bool, true, false, not, ◌&&◌, ◌||◌, eqb, leb, List, [], ◌∷◌, length, get_or, take, drop, sym, refl, ap, ◌∙◌, arith, length-drop, eqb-true, leb-true, Option, Some, None}
use Rattle.std.proofs.lemmas.List.{take_rest}
use Rattle.std.proofs.lemmas.Bool.{cond_both, or_parts}
use mathlib.Core.Bool.{or-true}
use Rattle.courier.proofs.Laws.{both, carried_fits}
use Rattle.table.specs.Lists.{any}
use Rattle.table.specs.Rows.{has_key}
use Rattle.state.specs.Held.{Held, carried, tombstone, carried_of, tombstone_of, carried_in, tombstone_in, held_decode, held_read}
use Rattle.state.proofs.HeldLaws.{reads_back_parts, passes}
use Rattle.state.specs.declared.Held.{Held as Read}
use Rattle.state.specs.declared.Held.TheVariants as read
use Rattle.model.specs.Basics.{match_some}
use Rattle.model.specs.Saved.{held_mark}
use Rattle.load_tests.specs.Records.{is_carried, is_tombstone}
use Rattle.load_tests.specs.Tests.{strange_mark, refused_blob, other_kind, kind_tests, fails}

-- what a blob has that is taken
abbrev pub Decoded : List ℕ → Option Held → Type 0
Decoded b None = Unit {0}
Decoded b (Some (carried r ct)) = (r ≡ carried_of b) × ((ct ≡ drop 46 b) × ((46 ≤ length b) × (length b ≤ 2110)))
Decoded b (Some (tombstone t)) = (t ≡ tombstone_of b) × (length b ≡ 37)

pub decoded : (b : List ℕ) → Decoded b (held_decode b)
unfolding held_decode carried_in tombstone_in
decoded b =
    cond_both (eqb (get_or b 0 0) 0) _ _ (Decoded b)
    (λ k. cond_both (leb 46 (length b) && passes b) _ _ (Decoded b) (λ e.
    let f = both (leb 46 (length b)) (passes b) e in
    let h : 46 ≤ length b = leb-true 46 (length b) f.0 in
    (refl, (refl, (h, omega (arith, carried_fits (length b - 46) (reads_back_parts _ _ f.1).0))))) (λ e. tt))
    (λ k. cond_both (eqb (get_or b 0 0) 1) _ _ (Decoded b) (λ t. cond_both (eqb (length b) 37) _ _ (Decoded b) (λ e. (refl, eqb-true (length b) 37 e)) (λ e. tt)) (λ t. tt))

-- a blob that is not refused has 37 bytes or more
decoded_long : (b : List ℕ) (d : Option Held) → Decoded b d → match_some d (λ (h : Held). false) true ≡ false → 37 ≤ length b
decoded_long b None D e = absurd (cc)
decoded_long b (Some (carried r ct)) D e = omega (arith, D.1.1.0)
decoded_long b (Some (tombstone t)) D e = omega (arith, D.1)

-- ---- mark, blob and kind

module _ (b : List ℕ) where
  pub kind_long : fails kind_tests b ≡ false → 49 ≤ length b
  unfolding fails any refused_blob
  kind_long e =
      let g = decoded_long (drop 12 b) (held_decode (drop 12 b)) (decoded (drop 12 b)) (or_parts _ _ (or_parts (strange_mark b) _ e).1).0 in
      omega (arith, length-drop 12 b)

  abbrev tests : Option Held → Bool → Bool → Bool
  tests d hc ht =
      not (hc || ht)
      || (match_some d (λ (h : Held). false) true || (match_some d (λ (h : Held). not (has_key 0 (held_mark h) b)) false || false))

  -- what `decode` says of the blob is the kind that it is tested for
  abbrev pub ByKind : Option Read → Bool → Type 0
  ByKind None r = true ≡ r
  ByKind (Some (read.Carried c)) r = not (has_key 0 (72 ∷ 67 ∷ []) b) ≡ r
  ByKind (Some (read.Tombstone t)) r = not (has_key 0 (72 ∷ 84 ∷ []) b) ≡ r

  by_carried : (x y : Bool) → not x ≡ (not (x || y) || (false || (not x || false)))
  by_carried true y = refl
  by_carried false true = refl
  by_carried false false = refl

  by_tombstone : (x y : Bool) → not y ≡ (not (x || y) || (false || (not y || false)))
  by_tombstone true true = refl
  by_tombstone true false = refl
  by_tombstone false true = refl
  by_tombstone false false = refl

  by_kind : (d : Option Held) → ByKind (held_read d) (tests d (has_key 0 (72 ∷ 67 ∷ []) b) (has_key 0 (72 ∷ 84 ∷ []) b))
  by_kind None = sym (or-true (not (has_key 0 (72 ∷ 67 ∷ []) b || has_key 0 (72 ∷ 84 ∷ []) b)))
  by_kind (Some (carried r ct)) = by_carried (has_key 0 (72 ∷ 67 ∷ []) b) (has_key 0 (72 ∷ 84 ∷ []) b)
  by_kind (Some (tombstone t)) = by_tombstone (has_key 0 (72 ∷ 67 ∷ []) b) (has_key 0 (72 ∷ 84 ∷ []) b)

  pub kind_tested : (d : Option Read) → d ≡ held_read (held_decode (drop 12 b)) → ByKind d (fails kind_tests b)
  unfolding fails any strange_mark refused_blob other_kind is_carried is_tombstone
  kind_tested d e = rw e (by_kind (held_decode (drop 12 b)))

-- what `decode` says of the blob of a record, as it is lent
pub read_lent : (b : List ℕ) {r e : Option Read} → r ≡ held_read (held_decode (take (length b - 12) (drop 12 b))) → r ≡ e → e ≡ held_read (held_decode (drop 12 b))
read_lent b q f = sym f ∙ q ∙ ap (λ (l : List ℕ). held_read (held_decode l)) (take_rest b 12)
