-- The rows with the tag are as many as `table::count` finds that have it as their key.
-- Assumes nothing.
use Rattle.std.proofs.Common.{◌≡◌, ℕ, zero, suc, ◌+◌, ◌*◌, cond, Bool, List, length, drop, refl, sym, ap, ap₂, ◌∙◌, add-one, arith}
use Rattle.octets.specs.Bytes.{part, same_bytes}
use Rattle.octets.proofs.Parts.{part_part}
use Rattle.table.specs.Lists.{count_by}
use Rattle.table.specs.Rows.{rows, has_key}
use Rattle.table.proofs.ListLaws.{count_append}
use Rattle.table.proofs.RowLaws.{rows_add}
use Rattle.bench_exports.specs.Tags.{tagged}

-- the bytes at 16 are the tag: the row has it as its key
pub key_here : {r : Bool} (row tag : List ℕ) → r ≡ same_bytes (part row 16 (length tag)) tag → r ≡ has_key 16 tag row
unfolding has_key
key_here row tag e = e

module _ (a tag : List ℕ) (l : length tag ≡ 16) where
  key_of : (n : ℕ) → has_key 16 tag (part a (n * 57) 57) ≡ same_bytes (part a (57 * n + 16) 16) tag
  unfolding has_key
  key_of n =
      let at : n * 57 + 16 ≡ 57 * n + 16 = omega arith in
      ap (λ (b : List ℕ). same_bytes b tag)
      (ap (part (part a (n * 57) 57) 16) l ∙ part_part a (n * 57) 57 16 16 (omega arith) ∙ ap (λ (k : ℕ). part a k 16) at)

  one : (n : ℕ) → count_by (has_key 16 tag) (rows 57 1 (drop (n * 57) a)) ≡ cond (same_bytes (part a (57 * n + 16) 16) tag) 1 0
  unfolding count_by rows part
  one n = ap (λ (b : Bool). cond b 1 0) (key_of n)

  pub counted : (n : ℕ) → count_by (has_key 16 tag) (rows 57 n a) ≡ tagged a tag n
  unfolding tagged count_by rows
  counted zero = refl
  counted (suc n) =
      ap (λ (k : ℕ). count_by (has_key 16 tag) (rows 57 k a)) (sym (add-one n))
      ∙ ap (count_by (has_key 16 tag)) (rows_add 57 n 1 a)
      ∙ count_append (has_key 16 tag) (rows 57 n a) (rows 57 1 (drop (n * 57) a))
      ∙ ap₂ (λ (x y : ℕ). x + y) (counted n) (one n)
