-- Rows of a typed table that a test keeps, each changed, written over the table in place: the invariant of that loop, over any codec.
-- In row i of the area so far stands row i of the area at entry.
-- Assumes nothing.
use Rattle.std.proofs.Common.{mul-le-mul_right, ◌≡◌, ℕ, ◌+◌, ◌*◌, ◌<◌, ◌≤◌, Bool, true, false, List, [], ◌∷◌, ◌++◌, map, length, take, sym, refl, ap, ◌∙◌, append-nil, arith, length-append}
use Rattle.octets.specs.Bytes.{Bytes, splice, part}
use Rattle.octets.proofs.Parts.{read_past}
use Rattle.table.specs.Lists.{All, filter}
use Rattle.table.specs.Rows.{held, join}
use Rattle.table.specs.Codec.{Codec, CodecLaws, table_of, with_table}
use Rattle.table.proofs.ListLaws.{all_map, all_imp, all_filter, all_take}
use Rattle.table.proofs.RowLaws.{row_in, next_row, held_inside, written_none, written_splice}
use Rattle.table.proofs.TableLaws.{length_table, table_proper, length_encoded, length_with, with_push}
use Rattle.maintenance.specs.Expiry.{Rewritten, Rewriting}
use Rattle.maintenance.proofs.SiftLaws.{sift_next, sift_end}

module _ {A : Type 0} {c : Codec A} {P : A → Type 0} (laws : CodecLaws c P) (f : A → A) (p : A → Bool) (keeps : (r : A) → P r → P (f r))
    (count : ℕ) (a : List ℕ) (bytes : Bytes a) where
  abbrev W : ℕ
  W = c.width

  abbrev T : List A
  T = table_of c count a

  abbrev K : ℕ → List A
  K i = map f (filter p (take i T))

  proper_kept : (i : ℕ) → All P (K i)
  proper_kept i =
      all_map f (filter p (take i T))
      (all_imp keeps (filter p (take i T)) (all_filter p (take i T) (all_take i T (table_proper laws count a bytes))))

  pub rewrite_start : Rewriting c f p T a 0 0 a
  unfolding filter with_table
  rewrite_start = record { within = omega arith; below = omega arith; rewritten = record { count = refl; area = sym (written_none a) }; size = refl }

  module _ (i k : ℕ) (x : List ℕ) (I : Rewriting c f p T a i k x) where
    module _ (h : i < held (length a) W count) where
      fits : k * W + W ≤ length a
      fits = omega (arith, mul-le-mul_right W I.below, row_in i (held (length a) W count) W h, held_inside (length a) W count)

      pub rewrite_row : part x (i * W) W ≡ part a (i * W) W
      unfolding with_table
      rewrite_row =
          let l : length (join (map c.encode (K i))) ≡ k * W =
          length_encoded laws (K i) (proper_kept i) ∙ ap (λ (n : ℕ). n * W) (sym I.rewritten.count) in
          ap (λ (y : List ℕ). part y (i * W) W) (I.rewritten.area ∙ written_splice a (map c.encode (K i)))
          ∙ read_past a 0 (join (map c.encode (K i))) (i * W) W (omega (arith, fits)) (omega (arith, mul-le-mul_right W I.below))

      module _ {row : A} (e : row ≡ c.decode (part x (i * W) W)) where
        at_entry : row ≡ c.decode (part a (i * W) W)
        at_entry = e ∙ ap c.decode rewrite_row

        -- row i is kept, changed, in place k
        pub rewrite_keep : (y b : List ℕ) (m : ℕ) → p row ≡ true → m ≡ k + 1 → b ≡ c.encode (f row) → y ≡ splice x (k * W) b → Rewriting c f p T a (i + 1) m y
        rewrite_keep y b m t em eb ey =
            let s : K (i + 1) ≡ K i ++ (f row ∷ []) = sift_next c count a f p i h at_entry t in
            let n : m ≡ length (K (i + 1)) = omega (arith, em, I.rewritten.count, ap length s, length-append (K i) (f row ∷ [])) in
            let r : y ≡ with_table c a (K (i + 1)) =
            with_push laws a x y b (K i) (f row) (k * W) (proper_kept i) (ap (λ (n : ℕ). n * W) I.rewritten.count) I.rewritten.area eb ey
            ∙ ap (with_table c a) (sym s) in
            record {
              within = omega (arith, length_table c count a);
              below = omega (arith, I.below);
              rewritten = record { count = n; area = r };
              size = ap length r ∙ length_with laws a (K (i + 1)) (proper_kept (i + 1)) (omega (arith, fits, next_row k W, ap (λ (j : ℕ). j * W) (sym n ∙ em)));
            }

        -- row i is taken out
        pub rewrite_drop : (y : List ℕ) (m : ℕ) → p row ≡ false → m ≡ k → y ≡ x → Rewriting c f p T a (i + 1) m y
        rewrite_drop y m t em ey =
            let s : K i ≡ K (i + 1) = sym (sift_next c count a f p i h at_entry t ∙ append-nil (K i)) in
            record {
              within = omega (arith, length_table c count a);
              below = omega (arith, I.below);
              rewritten = record { count = em ∙ I.rewritten.count ∙ ap length s; area = ey ∙ I.rewritten.area ∙ ap (with_table c a) s };
              size = ap length ey ∙ I.size;
            }

    pub rewrite_end : held (length a) W count ≤ i → Rewritten c a (map f (filter p T)) k x
    rewrite_end h =
        let s = sift_end c count a f p i h in
        record { count = I.rewritten.count ∙ ap length s; area = I.rewritten.area ∙ ap (with_table c a) s }
