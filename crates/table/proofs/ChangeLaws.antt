-- Each change of a table as the write that makes it: a row behind the last, put in, taken out, put in another's place.
-- Assumes nothing.
use Rattle.std.proofs.Common.{mul-le-mul_right}
use mathlib.Core.Path.{◌≡◌, ap, ap₂, ◌∙◌}
use mathlib.Core.List.{List, [], ◌∷◌, ◌++◌}
use Prim.Native.Nat.{ℕ, ◌+◌, ◌-◌, ◌*◌, ◌≤◌, ◌<◌}
use native.Mathlib.Omega.{arith}
use lib.ListN.{length, take, drop, length-append}
use Rattle.octets.specs.Bytes.{Bytes, splice, part}
use Rattle.octets.proofs.Parts.{length_part, splice_grow, splice_under}
use Rattle.table.specs.Lists.{insert_at, remove_at, replace_at}
use Rattle.table.specs.Rows.{rows, join, RowsNow}
use Rattle.table.proofs.ListLaws.{length_insert_at, length_remove_at, length_replace_at, all_push, all_insert_at, all_remove_at, all_replace_at}
use Rattle.table.proofs.RowLaws.{row_in, next_row, length_rows, join_rows, join_take, join_drop, join_append, join_snoc, Wide, wide_rows, splice_written, rows_now}

module _ (w n : ℕ) (a : List ℕ) (bytes : Bytes a) (fits : n * w ≤ length a) where
  abbrev R : List (List ℕ)
  R = rows w n a

  size : length R ≡ n
  size = length_rows w n a

  wide : Wide w R
  wide = wide_rows w n a fits

  -- the bytes of the rows past row i
  past : (i : ℕ) → i < n → join (drop (i + 1) R) ≡ part a (i * w + w) (n * w - (i * w + w))
  past i h = join_drop w (i + 1) n a (omega arith) ∙ ap (λ (k : ℕ). part a k (n * w - k)) (next_row i w)

  pub pushed : (x r : List ℕ) (m : ℕ) → n * w + w ≤ length a → length r ≡ w → m ≡ n + 1 → x ≡ splice a (n * w) r
      → RowsNow w a (R ++ (r ∷ [])) m x
  pushed x r m k lr em ex =
      let e : join (R ++ (r ∷ [])) ≡ take (n * w) a ++ r = join_snoc R r ∙ ap (λ (l : List ℕ). l ++ r) (join_rows w n a) in
      rows_now a x (R ++ (r ∷ [])) m bytes (all_push R r wide lr) (omega (arith, ap (λ (j : ℕ). j * w) em, next_row n w))
      (omega (arith, length-append R (r ∷ []), size)) (ex ∙ splice_written a r (n * w) (R ++ (r ∷ [])) (omega arith) e)

  -- the row is put over what the rows from i on left when they moved up
  pub inserted : (x y r : List ℕ) (i m : ℕ) → i ≤ n → n * w + w ≤ length a → length r ≡ w → m ≡ n + 1
      → x ≡ splice a (i * w + w) (part a (i * w) (n * w - i * w)) → y ≡ splice x (i * w) r → RowsNow w a (insert_at i r R) m y
  unfolding join insert_at
  inserted x y r i m h k lr em ex ey =
      let g = mul-le-mul_right w h in
      let v : List ℕ = part a (i * w) (n * w - i * w) in
      let lv : length v ≡ n * w - i * w = length_part a (i * w) (n * w - i * w) (omega arith) in
      let e : join (insert_at i r R) ≡ take (i * w) a ++ (r ++ v) =
      join_append (take i R) (r ∷ drop i R) ∙ ap₂ (λ (p q : List ℕ). p ++ (r ++ q)) (join_take w i n a h) (join_drop w i n a h) in
      rows_now a y (insert_at i r R) m bytes (all_insert_at i r R wide lr) (omega (arith, ap (λ (j : ℕ). j * w) em, next_row n w))
      (omega (arith, length_insert_at R i r (omega (arith, size)), size))
      (ey ∙ ap (λ (l : List ℕ). splice l (i * w) r) ex ∙ splice_under a r v (i * w) (i * w + w) (omega arith) (omega arith)
      ∙ splice_written a (r ++ v) (i * w) (insert_at i r R) (omega arith) e)

  pub removed : (x : List ℕ) (i m : ℕ) → i < n → m ≡ n - 1 → x ≡ splice a (i * w) (part a (i * w + w) (n * w - i * w - w))
      → RowsNow w a (remove_at i R) m x
  unfolding remove_at
  removed x i m h em ex =
      let g = row_in i n w h in
      let s : n * w - i * w - w ≡ n * w - (i * w + w) = omega arith in
      let v : List ℕ = part a (i * w + w) (n * w - (i * w + w)) in
      let e : join (remove_at i R) ≡ take (i * w) a ++ v =
      join_append (take i R) (drop (i + 1) R) ∙ ap₂ (λ (p q : List ℕ). p ++ q) (join_take w i n a (omega arith)) (past i h) in
      rows_now a x (remove_at i R) m bytes (all_remove_at i R wide) (omega (arith, mul-le-mul_right {m = m} {n = n} w (omega arith)))
      (omega (arith, length_remove_at R i (omega (arith, size)), size))
      (ex ∙ ap (λ (j : ℕ). splice a (i * w) (part a (i * w + w) j)) s ∙ splice_written a v (i * w) (remove_at i R) (omega arith) e)

  pub replaced : (x r : List ℕ) (i : ℕ) → i < n → length r ≡ w → x ≡ splice a (i * w) r → RowsNow w a (replace_at i r R) n x
  unfolding join replace_at
  replaced x r i h lr ex =
      let g = row_in i n w h in
      let v : List ℕ = part a (i * w + w) (n * w - (i * w + w)) in
      let e : join (replace_at i r R) ≡ take (i * w) a ++ (r ++ v) =
      join_append (take i R) (r ∷ drop (i + 1) R) ∙ ap₂ (λ (p q : List ℕ). p ++ (r ++ q)) (join_take w i n a (omega arith)) (past i h) in
      rows_now a x (replace_at i r R) n bytes (all_replace_at i r R wide lr) fits
      (omega (arith, length_replace_at R i r (omega (arith, size)), size))
      (ex ∙ splice_grow a r (i * w) (n * w - (i * w + w)) (i * w + w) (omega arith) (omega arith)
      ∙ splice_written a (r ++ v) (i * w) (replace_at i r R) (omega arith) e)
