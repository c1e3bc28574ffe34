-- Rows written behind others.
-- Assumes nothing.
use Rattle.std.proofs.Common.{◌≡◌, ℕ, ◌+◌, ◌*◌, ◌≤◌, List, [], ◌∷◌, ◌++◌, length, sym, refl, ap, ◌∙◌, append-nil, add-mul, one-mul, zero-mul, arith, length-append}
use Rattle.octets.specs.Bytes.{splice}
use Rattle.octets.proofs.Parts.{splice_nil, splice_then, length_splice}
use Rattle.table.specs.Rows.{join}
use Rattle.table.proofs.RowLaws.{join_append}
use Rattle.offers.specs.Appended.{Appended}

module _ (w : ℕ) where
  pub append_none : (a : List ℕ) (n : ℕ) → Appended w a n [] n a
  unfolding join
  append_none a n = record { count = omega arith; wide = sym (zero-mul w); area = sym (splice_nil a (n * w)); size = refl }

  pub append_one : (a x r : List ℕ) (n : ℕ) → length r ≡ w → n * w + w ≤ length a → x ≡ splice a (n * w) r → Appended w a n (r ∷ []) (n + 1) x
  unfolding join
  append_one a x r n e h ex = record {
    count = refl;
    wide = ap length (append-nil r) ∙ e ∙ sym (one-mul w);
    area = ex ∙ ap (splice a (n * w)) (sym (append-nil r));
    size = ap length ex ∙ length_splice a (n * w) r (omega arith);
  }

  pub append_then : {a x y : List ℕ} {rs ss : List (List ℕ)} {n m k : ℕ} → Appended w a n rs m x → Appended w x m ss k y → k * w ≤ length a
      → Appended w a n (rs ++ ss) k y
  append_then {a} {x} {y} {rs} {ss} {n} {m} {k} A B h =
      let l = length-append rs ss in
      let j : length (join (rs ++ ss)) ≡ length (join rs) + length (join ss) = ap length (join_append rs ss) ∙ length-append (join rs) (join ss) in
      let p : m * w ≡ n * w + length rs * w = ap (λ (z : ℕ). z * w) A.count ∙ add-mul n (length rs) w in
      let q : k * w ≡ m * w + length ss * w = ap (λ (z : ℕ). z * w) B.count ∙ add-mul m (length ss) w in
      let s : length (rs ++ ss) * w ≡ length rs * w + length ss * w = ap (λ (z : ℕ). z * w) l ∙ add-mul (length rs) (length ss) w in
      record {
        count = omega arith;
        wide = omega arith;
        area = splice_then a x y (n * w) (m * w) (join rs) (join ss) A.area B.area (omega arith) (omega arith) ∙ ap (splice a (n * w)) (sym (join_append rs ss));
        size = B.size ∙ A.size;
      }
