-- Rows that fail a test are taken out in place: the invariant of that loop, over any test and any width, with its start, its two steps and
-- its end. In row i of the area so far stands row i of the area at entry, so that the test may read it there.
-- Assumes nothing.
use mathlib.Core.Path.{◌≡◌, refl, sym, ap, ◌∙◌}
use mathlib.Core.Bool.{Bool, true, false, cond}
use mathlib.Core.List.{List, [], ◌∷◌, ◌++◌, append-nil}
use Prim.Native.Nat.{ℕ, ◌+◌, ◌*◌, ◌≤◌, ◌<◌}
use native.Mathlib.Nat.{mul-le-mul_right, add-zero}
use native.Mathlib.Numerals.{add-one}
use native.Mathlib.Omega.{arith}
use lib.ListN.{length, take, length-append}
use lib.Seq.{take-suc, take_all}
use Rattle.octets.specs.Bytes.{Bytes, splice, part}
use Rattle.octets.proofs.Parts.{read_past, splice_next, length_part, length_splice}
use Rattle.table.specs.Lists.{filter}
use Rattle.table.specs.Rows.{rows, written, join, RowsNow, Retaining}
use Rattle.table.proofs.ListLaws.{all_take, all_filter, filter_append}
use Rattle.table.proofs.RowLaws.{row_in, length_rows, get_d_rows, wide_rows, length_join, join_append, splice_written, written_splice, written_none, rows_now}

module _ (p : List ℕ → Bool) (w n : ℕ) (a : List ℕ) where
  abbrev R : List (List ℕ)
  R = rows w n a

  -- the rows kept of the first i
  abbrev K : ℕ → List (List ℕ)
  K i = filter p (take i R)

  pub retain_start : Retaining p w n a 0 0 a
  unfolding filter
  retain_start = record { within = omega arith; below = omega arith; count = refl; area = sym (written_none a); size = refl }

  module _ (fits : n * w ≤ length a) (i k : ℕ) (x : List ℕ) (I : Retaining p w n a i k x) where
    length_kept : length (join (K i)) ≡ k * w
    length_kept =
        length_join (K i) (all_filter p (take i R) (all_take i R (wide_rows w n a fits))) ∙ ap (λ (m : ℕ). m * w) (sym I.count)

    pub retain_end : Bytes a → n ≤ i → RowsNow w a (filter p R) k x
    retain_end b h =
        let e : K i ≡ filter p R = ap (filter p) (take_all i R (omega (arith, length_rows w n a))) in
        rows_now a x (filter p R) k b (all_filter p R (wide_rows w n a fits)) (omega (arith, mul-le-mul_right {m = k} {n = n} w (omega (arith, I.below, I.within))))
        (I.count ∙ ap length e) (I.area ∙ ap (written a) e)

    module _ (h : i < n) where
      -- a field of row i, and the row, are still those of the area at entry
      pub retain_field : (o m : ℕ) → o + m ≤ w → part x (i * w + o) m ≡ part a (i * w + o) m
      retain_field o m g =
          let l = length_kept in
          let q = mul-le-mul_right w I.below in
          let r = row_in i n w h in
          ap (λ (y : List ℕ). part y (i * w + o) m) (I.area ∙ written_splice a (K i))
          ∙ read_past a 0 (join (K i)) (i * w + o) m (omega arith) (omega arith)

      pub retain_row : part x (i * w) w ≡ part a (i * w) w
      retain_row =
          ap (λ (j : ℕ). part x j w) (sym (add-zero (i * w))) ∙ retain_field 0 w (omega arith) ∙ ap (λ (j : ℕ). part a j w) (add-zero (i * w))

      K-next : (b : Bool) → p (part x (i * w) w) ≡ b → K (i + 1) ≡ K i ++ cond b (part a (i * w) w ∷ []) []
      unfolding filter
      K-next b e =
          let t : take (i + 1) R ≡ take i R ++ (part a (i * w) w ∷ []) =
          ap (λ (j : ℕ). take j R) (add-one i) ∙ take-suc R i [] (omega (arith, length_rows w n a))
          ∙ ap (λ (r : List ℕ). take i R ++ (r ∷ [])) (get_d_rows w i n a [] h) in
          ap (filter p) t ∙ filter_append p (take i R) (part a (i * w) w ∷ [])
          ∙ ap (λ (c : Bool). K i ++ cond c (part a (i * w) w ∷ []) []) (ap p (sym retain_row) ∙ e)

      -- row i fails the test
      pub retain_drop : (y : List ℕ) (m : ℕ) → p (part x (i * w) w) ≡ false → m ≡ k → y ≡ x → Retaining p w n a (i + 1) m y
      retain_drop y m e em ey =
          let d : K i ≡ K (i + 1) = sym (K-next false e ∙ append-nil (K i)) in
          record {
            within = omega arith;
            below = omega (arith, I.below);
            count = em ∙ I.count ∙ ap length d;
            area = ey ∙ I.area ∙ ap (written a) d;
            size = ap length ey ∙ I.size;
          }

      -- row i is kept, in place k
      pub retain_keep : (y : List ℕ) (m : ℕ) → p (part x (i * w) w) ≡ true → m ≡ k + 1 → y ≡ splice x (k * w) (part x (i * w) w)
          → Retaining p w n a (i + 1) m y
      unfolding join
      retain_keep y m e em ey =
          let r : List ℕ = part a (i * w) w in
          let d : K (i + 1) ≡ K i ++ (r ∷ []) = K-next true e in
          let l = length_kept in
          let q = mul-le-mul_right w I.below in
          let g = row_in i n w h in
          let lr : length r ≡ w = length_part a (i * w) w (omega arith) in
          let z : k * w ≡ 0 + length (join (K i)) = omega arith in
          let j : join (K (i + 1)) ≡ join (K i) ++ r = ap join d ∙ join_append (K i) (r ∷ []) ∙ ap (λ (t : List ℕ). join (K i) ++ t) (append-nil r) in
          let c : y ≡ splice a 0 (join (K i) ++ r) =
          ey ∙ (λ s. splice ((I.area ∙ written_splice a (K i)) s) (z s) (retain_row s)) ∙ splice_next a 0 (join (K i)) r (omega arith) in
          record {
            within = omega arith;
            below = omega (arith, I.below);
            count = omega (arith, I.count, ap length d, length-append (K i) (r ∷ []));
            area = c ∙ splice_written a (join (K i) ++ r) 0 (K (i + 1)) (omega arith) j;
            size = ap length c ∙ length_splice a 0 (join (K i) ++ r) (omega (arith, length-append (join (K i)) r));
          }
