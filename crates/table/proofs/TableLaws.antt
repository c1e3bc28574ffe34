-- Laws of typed tables, over any codec. Each change of the rows of bytes is the same change of the typed rows.
-- Assumes nothing.
use mathlib.Core.Path.{◌≡◌, refl, sym, ap, ap₂, ◌∙◌, subst}
use mathlib.Core.Bool.{Bool}
use mathlib.Core.List.{List, [], ◌∷◌, ◌++◌, map, map-append, append-nil}
use Prim.Native.Nat.{ℕ, zero, suc, ◌+◌, ◌*◌, ◌/◌, ◌≤◌, ◌<◌}
use native.Mathlib.Nat.{mul-le-mul_right, zero-min}
use native.Mathlib.Omega.{arith}
use lib.ListN.{length, take, drop, get_or, length-map}
use lib.Seq.{length-take-le}
use Rattle.octets.specs.Bytes.{Bytes, part, splice}
use Rattle.std.specs.Prelude.{Option}
use Rattle.table.specs.Lists.{All, none, more, insert_at, remove_at, replace_at, filter, any, position, is_at}
use Rattle.table.specs.Rows.{held, rows, join, written, RowsNow}
use Rattle.table.specs.Codec.{Codec, CodecLaws, table_of, with_table, TableNow}
use Rattle.std.proofs.lemmas.List.{drop-map, take-append-drop}
use Rattle.table.proofs.ListLaws.{all_push, all_insert_at, all_remove_at, all_replace_at, all_filter, all_map, map_insert_at, map_remove_at, map_replace_at, filter_map}
use Rattle.table.proofs.RowLaws.{held_inside, held_all, held_held, length_rows, rows_next, Wide, all_rows_lem, length_join, join_rows, rows_join, length_written, written_splice, written_over, written_push}
use Rattle.table.proofs.FindLaws.{position_map, position_any}

-- ---- what is read

module _ {A : Type 0} (c : Codec A) (count : ℕ) (a : List ℕ) where
  abbrev w : ℕ
  w = c.width

  abbrev n : ℕ
  n = held (length a) c.width count

  pub length_table : length (table_of c count a) ≡ n
  unfolding table_of
  length_table = length-map (rows w n a) c.decode ∙ length_rows w n a

  -- where all rows fit
  pub length_whole : 0 < w → count * w ≤ length a → length (table_of c count a) ≡ count
  length_whole wide fits = length_table ∙ held_all (length a) w count wide fits

  -- row i, and those after it; row i by its index
  pub table_next : (i : ℕ) → i < n → drop i (table_of c count a) ≡ c.decode (part a (i * w) w) ∷ drop (i + 1) (table_of c count a)
  unfolding table_of
  table_next i h =
      drop-map c.decode i (rows w n a) ∙ ap (map c.decode) (rows_next w i n a h)
      ∙ ap (λ (l : List A). c.decode (part a (i * w) w) ∷ l) (sym (drop-map c.decode (i + 1) (rows w n a)))

  pub get_d_table : (i : ℕ) (d : A) → i < n → get_or (table_of c count a) i d ≡ c.decode (part a (i * w) w)
  get_d_table i d h = go (table_of c count a) i (table_next i h)
    where
      go : (xs : List A) (j : ℕ) {x : A} {ys : List A} → drop j xs ≡ x ∷ ys → get_or xs j d ≡ x
      go [] zero e = let z : ◌≡◌ {A = ℕ} 0 1 = cc in absurd (omega arith)
      go [] (suc j) e = let z : ◌≡◌ {A = ℕ} 0 1 = cc in absurd (omega arith)
      go (y ∷ xs) zero e = cc
      go (y ∷ xs) (suc j) e = go xs j e

-- a search through the rows of bytes is the search through the typed rows, where the tests are the same
module _ {A : Type 0} (c : Codec A) (count n : ℕ) (a : List ℕ) (held-n : n ≡ held (length a) c.width count)
    (p : List ℕ → Bool) (q : A → Bool) (same : (b : List ℕ) → p b ≡ q (c.decode b)) (f : Option ℕ) (e : f ≡ position p (rows c.width n a)) where
  pub table_find : f ≡ position q (table_of c count a)
  unfolding table_of
  table_find =
      e ∙ position_map c.decode p q same 0 (rows c.width n a) ∙ ap (λ (k : ℕ). position q (map c.decode (rows c.width k a))) held-n

-- a test of the rows of bytes is the same test of the typed rows
pub table_any : {A : Type 0} (c : Codec A) (count n : ℕ) (a : List ℕ) → n ≡ held (length a) c.width count → (p : List ℕ → Bool) (q : A → Bool)
    → ((b : List ℕ) → p b ≡ q (c.decode b)) → (b : Bool) → b ≡ any p (rows c.width n a) → b ≡ any q (table_of c count a)
table_any c count n a h p q same b e =
    let R : List (List ℕ) = rows c.width n a in
    e ∙ sym (position_any p 0 R) ∙ ap is_at (table_find c count n a h p q same (position p R) refl) ∙ position_any q 0 (table_of c count a)

pub table_none : {A : Type 0} (c : Codec A) (a : List ℕ) → table_of c 0 a ≡ []
unfolding table_of held rows
table_none c a = ap (λ (m : ℕ). map c.decode (rows c.width m a)) (zero-min (length a / c.width))

-- a table at a count, and at the count that fits
pub table_held : {A : Type 0} (c : Codec A) (count n : ℕ) (a : List ℕ) → 0 < c.width → n ≡ held (length a) c.width count → table_of c n a ≡ table_of c count a
unfolding table_of
table_held c count n a z e =
    ap (λ (k : ℕ). map c.decode (rows c.width k a)) (sym (held_held (length a) c.width count n z e) ∙ e)

-- one row at the front of an area
pub with_one : {A : Type 0} (c : Codec A) (a x b : List ℕ) (t : A) → b ≡ c.encode t → x ≡ splice a 0 b → x ≡ with_table c a (t ∷ [])
unfolding with_table join
with_one c a x b t e h = h ∙ ap (splice a 0) (e ∙ sym (append-nil (c.encode t))) ∙ sym (written_splice a (c.encode t ∷ []))

module _ {A : Type 0} {c : Codec A} {P : A → Type 0} (laws : CodecLaws c P) where
  abbrev W : ℕ
  W = c.width

  -- ---- rows of bytes, and back

  abbrev Back : List ℕ → Type 0
  Back b = c.encode (c.decode b) ≡ b

  back_all : (rs : List (List ℕ)) → All Back rs → map c.encode (map c.decode rs) ≡ rs
  back_all [] p = refl
  back_all (r ∷ rs) (more q p) = ap₂ (λ (x : List ℕ) (xs : List (List ℕ)). x ∷ xs) q (back_all rs p)

  module _ (count : ℕ) (a : List ℕ) (bytes : Bytes a) where
    inside : held (length a) W count * W ≤ length a
    inside = held_inside (length a) W count

    all_back : All Back (rows W (held (length a) W count) a)
    all_back = all_rows_lem W laws.encode_decode (held (length a) W count) a inside bytes

    -- the table of an area of bytes has proper rows, and their bytes are those that stand there
    pub table_proper : All P (table_of c count a)
    unfolding table_of
    table_proper = all_map c.decode (rows W (held (length a) W count) a) (all_rows_lem W laws.proper (held (length a) W count) a inside bytes)

    pub encode_table : map c.encode (table_of c count a) ≡ rows W (held (length a) W count) a
    unfolding table_of
    encode_table = back_all (rows W (held (length a) W count) a) all_back

    -- rows that a test of their bytes keeps are those that the same test of the typed rows keeps
    encode_filter : (p : List ℕ → Bool) (q : A → Bool) → ((b : List ℕ) → p b ≡ q (c.decode b))
        → map c.encode (filter q (table_of c count a)) ≡ filter p (rows W (held (length a) W count) a)
    unfolding table_of
    encode_filter p q same =
        let R : List (List ℕ) = rows W (held (length a) W count) a in
        ap (map c.encode) (sym (filter_map c.decode p q same R)) ∙ back_all (filter p R) (all_filter p R all_back)

  -- ---- what is written

  decode_all : (ts : List A) → All P ts → map c.decode (map c.encode ts) ≡ ts
  decode_all [] p = refl
  decode_all (t ∷ ts) (more q p) = ap₂ (λ (x : A) (xs : List A). x ∷ xs) (laws.decode_encode t q) (decode_all ts p)

  wide_all : (ts : List A) → All P ts → Wide W (map c.encode ts)
  wide_all [] p = none
  wide_all (t ∷ ts) (more q p) = more (laws.size t q) (wide_all ts p)

  pub length_encoded : (ts : List A) → All P ts → length (join (map c.encode ts)) ≡ length ts * W
  length_encoded ts p = length_join (map c.encode ts) (wide_all ts p) ∙ ap (λ (n : ℕ). n * W) (length-map ts c.encode)

  pub length_with : (a : List ℕ) (ts : List A) → All P ts → length ts * W ≤ length a → length (with_table c a ts) ≡ length a
  unfolding with_table
  length_with a ts p h = length_written a (map c.encode ts) (omega (arith, length_encoded ts p))

  -- what is written is read back
  pub table_with : (a : List ℕ) (ts : List A) → All P ts → length ts * W ≤ length a → table_of c (length ts) (with_table c a ts) ≡ ts
  unfolding table_of with_table written
  table_with a ts p h =
      let x : List ℕ = with_table c a ts in
      let es : List (List ℕ) = map c.encode ts in
      let m : held (length x) W (length ts) ≡ length es =
      held_all (length x) W (length ts) laws.wide (omega (arith, length_with a ts p h)) ∙ sym (length-map ts c.encode) in
      ap (λ (n : ℕ). map c.decode (rows W n x)) m
      ∙ ap (map c.decode) (rows_join es (drop (length (join es)) a) (wide_all ts p)) ∙ decode_all ts p

  -- a table that is written back as it was read changes no byte
  pub with_same : (count : ℕ) (a : List ℕ) → Bytes a → with_table c a (table_of c count a) ≡ a
  unfolding with_table written
  with_same count a b =
      let n : ℕ = held (length a) W count in
      let l : length (take (n * W) a) ≡ n * W = length-take-le (n * W) a (held_inside (length a) W count) in
      ap (λ (r : List (List ℕ)). join r ++ drop (length (join r)) a) (encode_table count a b)
      ∙ ap (λ (x : List ℕ). x ++ drop (length x) a) (join_rows W n a) ∙ ap (λ (m : ℕ). take (n * W) a ++ drop m a) l ∙ take-append-drop (n * W) a

  -- a table over a table, if it has no fewer rows
  pub with_over : (a : List ℕ) (ts us : List A) → All P ts → All P us → length ts ≤ length us → with_table c (with_table c a ts) us ≡ with_table c a us
  unfolding with_table
  with_over a ts us p q h =
      written_over a (map c.encode ts) (map c.encode us) (omega (arith, length_encoded ts p, length_encoded us q, mul-le-mul_right W h))

  -- a row behind those that stand at the front of an area
  pub with_push : (a x y b : List ℕ) (ts : List A) (t : A) (at : ℕ) → All P ts → at ≡ length ts * W → x ≡ with_table c a ts → b ≡ c.encode t
      → y ≡ splice x at b → y ≡ with_table c a (ts ++ (t ∷ []))
  unfolding with_table
  with_push a x y b ts t at p ea ex eb ey =
      let es : List (List ℕ) = map c.encode ts in
      ey ∙ ap (λ (z : List ℕ). splice z at b) ex ∙ ap₂ (λ (k : ℕ) (v : List ℕ). splice (written a es) k v) (ea ∙ sym (length_encoded ts p)) eb
      ∙ written_push a (c.encode t) es ∙ ap (written a) (sym (map-append c.encode ts (t ∷ [])))

  -- ---- the changes

  -- what holds of rows of bytes holds of the typed rows that they are the bytes of
  pub table_now : (a x : List ℕ) (rs : List (List ℕ)) (ts : List A) (m : ℕ) → All P ts → rs ≡ map c.encode ts → RowsNow W a rs m x → TableNow c a ts m x
  unfolding table_of with_table
  table_now a x rs ts m p e N =
      let h : held (length x) W m ≡ m = held_all (length x) W m laws.wide N.inside in
      record {
        count = N.count ∙ ap length e ∙ length-map ts c.encode;
        area = N.area ∙ ap (written a) e;
        table = ap (λ (k : ℕ). map c.decode (rows W k x)) h ∙ ap (map c.decode) (N.rows ∙ e) ∙ decode_all ts p;
        fits = sym h;
      }

  now_proper : {a x : List ℕ} {ts : List A} {m : ℕ} → Bytes x → TableNow c a ts m x → All P ts
  now_proper {x = x} {m = m} b T = subst (All P) T.table (table_proper m x b)

  -- one change after another, which leaves no fewer rows, is one change of what stood there first
  pub table_then : {a x y : List ℕ} {ts : List A} {n m : ℕ} (f : List A → List A) → (All P ts → All P (f ts)) → Bytes x → n ≤ m
      → TableNow c a ts n x → TableNow c x (f (table_of c n x)) m y → TableNow c a (f ts) m y
  table_then {a} {x} {y} {ts} {n} {m} f keeps b h T U =
      let N : TableNow c x (f ts) m y = subst (λ (l : List A). TableNow c x (f l) m y) T.table U in
      let p : All P ts = now_proper b T in
      record {
        count = N.count;
        area = N.area ∙ ap (λ (z : List ℕ). with_table c z (f ts)) T.area
            ∙ with_over a ts (f ts) p (keeps p) (omega (arith, T.count, N.count));
        table = N.table;
        fits = N.fits;
      }

  module _ (count n : ℕ) (a x : List ℕ) (m : ℕ) (held-n : n ≡ held (length a) W count) where
    abbrev T : List A
    T = table_of c count a

    bytes_of : Bytes a → rows W n a ≡ map c.encode T
    bytes_of b = ap (λ (k : ℕ). rows W k a) held-n ∙ sym (encode_table count a b)

    pub table_push : (b : List ℕ) (t : A) → P t → b ≡ c.encode t → RowsNow W a (rows W n a ++ (b ∷ [])) m x → TableNow c a (T ++ (t ∷ [])) m x
    table_push b t p e N =
        table_now a x (rows W n a ++ (b ∷ [])) (T ++ (t ∷ [])) m (all_push T t (table_proper count a N.bytes) p)
        (ap₂ (λ (l : List (List ℕ)) (r : List ℕ). l ++ (r ∷ [])) (bytes_of N.bytes) e ∙ sym (map-append c.encode T (t ∷ []))) N

    pub table_insert : (b : List ℕ) (i : ℕ) (t : A) → P t → b ≡ c.encode t → RowsNow W a (insert_at i b (rows W n a)) m x → TableNow c a (insert_at i t T) m x
    table_insert b i t p e N =
        table_now a x (insert_at i b (rows W n a)) (insert_at i t T) m (all_insert_at i t T (table_proper count a N.bytes) p)
        (ap₂ (insert_at i) e (bytes_of N.bytes) ∙ sym (map_insert_at c.encode i t T)) N

    pub table_remove : (i : ℕ) → RowsNow W a (remove_at i (rows W n a)) m x → TableNow c a (remove_at i T) m x
    table_remove i N =
        table_now a x (remove_at i (rows W n a)) (remove_at i T) m (all_remove_at i T (table_proper count a N.bytes))
        (ap (remove_at i) (bytes_of N.bytes) ∙ sym (map_remove_at c.encode i T)) N

    pub table_replace : (b : List ℕ) (i : ℕ) (t : A) → P t → b ≡ c.encode t → RowsNow W a (replace_at i b (rows W n a)) m x → TableNow c a (replace_at i t T) m x
    table_replace b i t p e N =
        table_now a x (replace_at i b (rows W n a)) (replace_at i t T) m (all_replace_at i t T (table_proper count a N.bytes) p)
        (ap₂ (replace_at i) e (bytes_of N.bytes) ∙ sym (map_replace_at c.encode i t T)) N

    -- the test of the bytes of a row is the test of the row
    pub table_retain : (p : List ℕ → Bool) (q : A → Bool) → ((b : List ℕ) → p b ≡ q (c.decode b)) → RowsNow W a (filter p (rows W n a)) m x
        → TableNow c a (filter q T) m x
    table_retain p q same N =
        table_now a x (filter p (rows W n a)) (filter q T) m (all_filter q T (table_proper count a N.bytes))
        (ap (λ (k : ℕ). filter p (rows W k a)) held-n ∙ sym (encode_filter count a N.bytes p q same)) N
