-- Laws of the rows of an area and of an area with rows written at its front, over any width.
-- Assumes nothing.
use mathlib.Core.Path.{◌≡◌, refl, sym, ap, ap₂, subst, ◌∙◌}
use mathlib.Core.List.{List, [], ◌∷◌, ◌++◌, append_assoc, append-nil}
use Prim.Native.Nat.{ℕ, zero, suc, ◌+◌, ◌-◌, ◌*◌, ◌/◌, ◌≤◌, ◌<◌, min}
use native.Mathlib.Nat.{add-zero, zero-add, zero-mul, suc-add, suc-mul, add-mul, one-mul, mul_comm, mul-sub, mul-le-mul_right, div-mul-le_self, mul-add-div_right, mul-div_cancel, le-div_iff_mul-le, min-eq_left, min-le_left, min-le_right}
use native.Mathlib.Omega.{arith}
use lib.ListN.{length, take, drop, get_or, length-append, length-drop, drop_of_length-le}
use lib.Seq.{take-add, drop-drop, take_at, drop_at, take-append-le, drop-append-le, get_or-drop, length-take-le, drop-append-add}
use Rattle.octets.specs.Bytes.{Bytes, splice, part}
use Rattle.octets.proofs.Parts.{length_part}
use Rattle.octets.proofs.Numbers.{bytes_take, bytes_drop}
use Rattle.table.specs.Lists.{All, none, more}
use Rattle.table.specs.Rows.{held, rows, all_rows, join, written, Fits, RowsNow}

-- ---- products: `omega` takes i * w as an unknown, so these say what is known of it

-- row i lies within n rows
pub row_in : (i n w : ℕ) → i < n → i * w + w ≤ n * w
row_in i n w h = omega (arith, suc-mul i w, mul-le-mul_right {m = suc i} {n = n} w h)

-- row i as the code takes it out of an area, and its length
module _ (a : List ℕ) (w i n : ℕ) where
  pub row_at : part a (i * w) (i * w + w - i * w) ≡ part a (i * w) w
  row_at = let e : i * w + w - i * w ≡ w = omega arith in ap (part a (i * w)) e

  pub length_row : i < n → n * w ≤ length a → length (part a (i * w) (i * w + w - i * w)) ≡ w
  length_row h f = ap length row_at ∙ length_part a (i * w) w (omega (arith, row_in i n w h))

pub next_row : (i w : ℕ) → (i + 1) * w ≡ i * w + w
next_row i w = add-mul i 1 w ∙ ap (λ (k : ℕ). i * w + k) (one-mul w)

pub sub_rows : (n i w : ℕ) → (n - i) * w ≡ n * w - i * w
sub_rows n i w = mul_comm (n - i) w ∙ mul-sub w n i ∙ ap₂ (λ (x y : ℕ). x - y) (mul_comm w n) (mul_comm w i)

-- ---- the count that fits

pub held_inside : (len w count : ℕ) → held len w count * w ≤ len
unfolding held
held_inside len w count = omega (arith, mul-le-mul_right {m = min count (len / w)} {n = len / w} w (min-le_right count (len / w)), div-mul-le_self len w)

-- it is at most the count, and at most what fits
pub held_le : (len w count : ℕ) → (held len w count ≤ count) × (held len w count ≤ len / w)
unfolding held
held_le len w count = (min-le_left count (len / w), min-le_right count (len / w))

-- a count that fits is the count
pub held_all : (len w count : ℕ) → 0 < w → count * w ≤ len → held len w count ≡ count
unfolding held
held_all len w count hw h = min-eq_left ((le-div_iff_mul-le hw).1 h)

-- the count that fits, cut again
pub held_held : (len w count n : ℕ) → 0 < w → n ≡ held len w count → n ≡ held len w n
held_held len w count n z e = sym (held_all len w n z (omega (arith, ap (λ (k : ℕ). k * w) e, held_inside len w count)))

pub fits : (len w count : ℕ) → Fits len w count (min count (len / w))
unfolding held
fits len w count = record { is = refl; inside = omega (arith, mul-le-mul_right {m = min count (len / w)} {n = len / w} w (min-le_right count (len / w)), div-mul-le_self len w) }

pub fits_at : {len w k m r : ℕ} → k ≡ m → Fits len w k r → Fits len w m r
fits_at {len} {w} e f = record { is = f.is ∙ ap (held len w) e; inside = f.inside }

-- ---- the rows of an area

module _ (w : ℕ) where
  pub length_rows : (n : ℕ) (a : List ℕ) → length (rows w n a) ≡ n
  unfolding rows
  length_rows zero a = refl
  length_rows (suc n) a = ap suc (length_rows n (drop w a))

  pub rows_add : (n m : ℕ) (a : List ℕ) → rows w (n + m) a ≡ rows w n a ++ rows w m (drop (n * w) a)
  unfolding rows
  rows_add zero m a = ap (λ (k : ℕ). rows w k a) (zero-add m) ∙ ap (λ (k : ℕ). rows w m (drop k a)) (sym (zero-mul w))
  rows_add (suc n) m a =
      let e : w + n * w ≡ suc n * w = omega (arith, suc-mul n w) in
      ap (λ (k : ℕ). rows w k a) (suc-add n m)
      ∙ ap (λ (r : List (List ℕ)). take w a ∷ r)
      (rows_add n m (drop w a)
      ∙ ap (λ (l : List ℕ). rows w n (drop w a) ++ rows w m l) (drop-drop (n * w) w a ∙ ap (λ (k : ℕ). drop k a) e))

  pub take_rows : (i n : ℕ) (a : List ℕ) → i ≤ n → take i (rows w n a) ≡ rows w i a
  take_rows i n a h =
      let e : n ≡ i + (n - i) = omega arith in
      ap (λ (k : ℕ). take i (rows w k a)) e ∙ ap (take i) (rows_add i (n - i) a)
      ∙ take_at (rows w i a) (rows w (n - i) (drop (i * w) a)) i (length_rows i a)

  pub drop_rows : (i n : ℕ) (a : List ℕ) → i ≤ n → drop i (rows w n a) ≡ rows w (n - i) (drop (i * w) a)
  drop_rows i n a h =
      let e : n ≡ i + (n - i) = omega arith in
      ap (λ (k : ℕ). drop i (rows w k a)) e ∙ ap (drop i) (rows_add i (n - i) a)
      ∙ drop_at (rows w i a) (rows w (n - i) (drop (i * w) a)) i (length_rows i a)

  -- row i, and those after it
  pub rows_next : (i n : ℕ) (a : List ℕ) → i < n → drop i (rows w n a) ≡ part a (i * w) w ∷ drop (i + 1) (rows w n a)
  unfolding rows part
  rows_next i n a h =
      let e : n - i ≡ suc (n - (i + 1)) = omega arith in
      drop_rows i n a (omega arith) ∙ ap (λ (k : ℕ). rows w k (drop (i * w) a)) e
      ∙ ap (λ (r : List (List ℕ)). take w (drop (i * w) a) ∷ r)
      (ap (rows w (n - (i + 1))) (drop-drop w (i * w) a ∙ ap (λ (k : ℕ). drop k a) (sym (next_row i w)))
      ∙ sym (drop_rows (i + 1) n a (omega arith)))

  pub get_d_rows : (i n : ℕ) (a d : List ℕ) → i < n → get_or (rows w n a) i d ≡ part a (i * w) w
  get_d_rows i n a d h =
      ap (λ (k : ℕ). get_or (rows w n a) k d) (sym (add-zero i)) ∙ sym (get_or-drop i (rows w n a) 0 d)
      ∙ ap (λ (l : List (List ℕ)). get_or l 0 d) (rows_next i n a h)

  -- the bytes of the rows are the area's
  pub join_rows : (n : ℕ) (a : List ℕ) → join (rows w n a) ≡ take (n * w) a
  unfolding join rows
  join_rows zero a = ap (λ (k : ℕ). take k a) (sym (zero-mul w))
  join_rows (suc n) a =
      let e : w + n * w ≡ suc n * w = omega (arith, suc-mul n w) in
      ap (λ (l : List ℕ). take w a ++ l) (join_rows n (drop w a)) ∙ sym (take-add w (n * w) a) ∙ ap (λ (k : ℕ). take k a) e

  pub join_take : (i n : ℕ) (a : List ℕ) → i ≤ n → join (take i (rows w n a)) ≡ take (i * w) a
  join_take i n a h = ap join (take_rows i n a h) ∙ join_rows i a

  pub join_drop : (i n : ℕ) (a : List ℕ) → i ≤ n → join (drop i (rows w n a)) ≡ part a (i * w) (n * w - i * w)
  unfolding part
  join_drop i n a h =
      ap join (drop_rows i n a h) ∙ join_rows (n - i) (drop (i * w) a) ∙ ap (λ (k : ℕ). take k (drop (i * w) a)) (sub_rows n i w)

pub join_append : (x y : List (List ℕ)) → join (x ++ y) ≡ join x ++ join y
unfolding join
join_append [] y = refl
join_append (r ∷ x) y = ap (λ (l : List ℕ). r ++ l) (join_append x y) ∙ sym (append_assoc r (join x) (join y))

pub join_snoc : (x : List (List ℕ)) (r : List ℕ) → join (x ++ (r ∷ [])) ≡ join x ++ r
unfolding join
join_snoc x r = join_append x (r ∷ []) ∙ ap (λ (l : List ℕ). join x ++ l) (append-nil r)

-- the rows of a front do not see what comes after it
pub rows_front : (w k : ℕ) (x y : List ℕ) → k * w ≤ length x → rows w k (x ++ y) ≡ rows w k x
unfolding rows
rows_front w zero x y h = refl
rows_front w (suc k) x y h =
    let l : w ≤ length x = omega (arith, suc-mul k w) in
    ap₂ (λ (r : List ℕ) (rs : List (List ℕ)). r ∷ rs) (take-append-le w x y l)
    (ap (rows w k) (drop-append-le w x y l) ∙ rows_front w k (drop w x) y (omega (arith, suc-mul k w, length-drop w x)))

-- ---- all rows that fit an area

module _ (w : ℕ) (a : List ℕ) where
  pub length_all_rows : length (all_rows w a) ≡ length a / w
  unfolding all_rows
  length_all_rows = length_rows w (length a / w) a

  pub all_rows_next : (i : ℕ) → i < length a / w → drop i (all_rows w a) ≡ part a (i * w) w ∷ drop (i + 1) (all_rows w a)
  unfolding all_rows
  all_rows_next i h = rows_next w i (length a / w) a h

  -- row i as it is lent, by its start and end, and those from j on
  pub all_rows_lent : (i j m : ℕ) → i < length a / w → j ≡ i + 1 → m ≡ w → drop i (all_rows w a) ≡ take m (drop (i * w) a) ∷ drop j (all_rows w a)
  unfolding part
  all_rows_lent i j m h ej em = all_rows_next i h ∙ ap₂ (λ (k l : ℕ). take l (drop (i * w) a) ∷ drop k (all_rows w a)) (sym ej) (sym em)

  pub all_rows_end : (i : ℕ) → length a / w ≤ i → drop i (all_rows w a) ≡ []
  all_rows_end i h = drop_of_length-le (all_rows w a) {i = i} (omega (arith, length_all_rows))

-- k rows, and what comes after them
pub all_rows_append : (w k : ℕ) (x y : List ℕ) → 0 < w → length x ≡ k * w → all_rows w (x ++ y) ≡ all_rows w x ++ all_rows w y
unfolding all_rows
all_rows_append w k x y hw h =
    let n : length (x ++ y) / w ≡ k + length y / w =
    ap (λ (m : ℕ). m / w) (length-append x y ∙ ap (λ (m : ℕ). m + length y) h) ∙ mul-add-div_right hw k (length y) in
    let m : k ≡ length x / w = sym (ap (λ (l : ℕ). l / w) h ∙ mul-div_cancel k hw) in
    ap (λ (l : ℕ). rows w l (x ++ y)) n ∙ rows_add w k (length y / w) (x ++ y)
    ∙ ap₂ (λ (r : List (List ℕ)) (l : List ℕ). r ++ rows w (length y / w) l)
    (rows_front w k x y (omega arith) ∙ ap (λ (l : ℕ). rows w l x) m) (drop_at x y (k * w) h)

-- ---- rows that are all of one width

abbrev pub Wide : ℕ → List (List ℕ) → Type 0
Wide w = All (λ (r : List ℕ). length r ≡ w)

pub wide_rows : (w n : ℕ) (a : List ℕ) → n * w ≤ length a → Wide w (rows w n a)
unfolding rows
wide_rows w zero a h = none
wide_rows w (suc n) a h =
    more (length-take-le w a (omega (arith, suc-mul n w)))
    (wide_rows w n (drop w a) (omega (arith, suc-mul n w, length-drop w a)))

-- what each row of an area of bytes has
pub all_rows_lem : {Q : List ℕ → Type 0} (w : ℕ) → ((r : List ℕ) → length r ≡ w → Bytes r → Q r) → (n : ℕ) (a : List ℕ) → n * w ≤ length a → Bytes a
    → All Q (rows w n a)
unfolding rows
all_rows_lem w f zero a h b = none
all_rows_lem w f (suc n) a h b =
    more (f (take w a) (length-take-le w a (omega (arith, suc-mul n w))) (bytes_take w a b))
    (all_rows_lem w f n (drop w a) (omega (arith, suc-mul n w, length-drop w a)) (bytes_drop w a b))

pub length_join : {w : ℕ} (rs : List (List ℕ)) → Wide w rs → length (join rs) ≡ length rs * w
unfolding join
length_join {w} [] e = sym (zero-mul w)
length_join {w} (r ∷ rs) (more h e) = omega (arith, length-append r (join rs), length_join rs e, suc-mul (length rs) w)

pub rows_join : {w : ℕ} (rs : List (List ℕ)) (rest : List ℕ) → Wide w rs → rows w (length rs) (join rs ++ rest) ≡ rs
unfolding rows join
rows_join [] rest e = refl
rows_join {w} (r ∷ rs) rest (more h e) =
    ap (rows w (suc (length rs))) (append_assoc r (join rs) rest)
    ∙ ap₂ (λ (x y : List ℕ). x ∷ rows w (length rs) y) (take_at r (join rs ++ rest) w h) (drop_at r (join rs ++ rest) w h)
    ∙ ap (λ (l : List (List ℕ)). r ∷ l) (rows_join rs rest e)

-- ---- an area with rows written at its front

pub length_written : (a : List ℕ) (rs : List (List ℕ)) → length (join rs) ≤ length a → length (written a rs) ≡ length a
unfolding written
length_written a rs h = simp (length-append, length-drop) (omega arith)

pub written_none : (a : List ℕ) → written a [] ≡ a
unfolding written join
written_none a = refl

-- a run of bytes written at an index leaves the rows whose bytes are those before it and the run
pub splice_written : (a v : List ℕ) (at : ℕ) (rs : List (List ℕ)) → at ≤ length a → join rs ≡ take at a ++ v → splice a at v ≡ written a rs
unfolding splice written
splice_written a v at rs h e =
    let l : length (join rs) ≡ at + length v = omega (arith, ap length e, length-append (take at a) v, length-take-le at a h) in
    ap₂ (λ (x : List ℕ) (k : ℕ). x ++ drop k a) (sym e) (sym l)

pub written_splice : (a : List ℕ) (rs : List (List ℕ)) → written a rs ≡ splice a 0 (join rs)
written_splice a rs = sym (splice_written a (join rs) 0 rs (omega arith) refl)

-- rows over rows, if they are no fewer
pub written_over : (a : List ℕ) (rs ss : List (List ℕ)) → length (join rs) ≤ length (join ss) → written (written a rs) ss ≡ written a ss
unfolding written
written_over a rs ss h =
    let k : ℕ = length (join ss) - length (join rs) in
    let e : length (join ss) ≡ length (join rs) + k = omega arith in
    ap (λ (l : List ℕ). join ss ++ l)
    (ap (λ (m : ℕ). drop m (join rs ++ drop (length (join rs)) a)) e
    ∙ drop-append-add (join rs) (drop (length (join rs)) a) k
    ∙ drop-drop k (length (join rs)) a ∙ ap (λ (m : ℕ). drop m a) (sym e))

-- a row behind those that are written
pub written_push : (a b : List ℕ) (rs : List (List ℕ)) → splice (written a rs) (length (join rs)) b ≡ written a (rs ++ (b ∷ []))
unfolding written
written_push a b rs =
    let behind : List ℕ = drop (length (join rs)) a in
    splice_written (join rs ++ behind) b (length (join rs)) (rs ++ (b ∷ [])) (omega (arith, length-append (join rs) behind))
    (join_snoc rs b ∙ ap (λ (l : List ℕ). l ++ b) (sym (take_at (join rs) behind (length (join rs)) refl)))
    ∙ written_over a rs (rs ++ (b ∷ [])) (omega (arith, ap length (join_snoc rs b), length-append (join rs) b))

-- ---- what the rows of an area are now

module _ {w : ℕ} (a x : List ℕ) (rs : List (List ℕ)) (m : ℕ) where
  pub rows_now : Bytes a → Wide w rs → m * w ≤ length a → m ≡ length rs → x ≡ written a rs → RowsNow w a rs m x
  unfolding written
  rows_now b e h em ex =
      let lj : length (join rs) ≤ length a = omega (arith, length_join rs e, ap (λ (k : ℕ). k * w) em) in
      record {
        count = em;
        area = ex;
        rows = ap₂ (λ (k : ℕ) (l : List ℕ). rows w k l) em ex ∙ rows_join rs (drop (length (join rs)) a) e;
        inside = omega (arith, ap length ex, length_written a rs lj);
        bytes = b;
      }

-- the bytes of the rows that there are now
length_now : {w : ℕ} {a : List ℕ} {rs : List (List ℕ)} {m : ℕ} {x : List ℕ} → RowsNow w a rs m x → length (join rs) ≡ m * w
length_now {w} {rs = rs} {m} {x} R =
    length_join rs (subst (Wide w) R.rows (wide_rows w m x R.inside)) ∙ ap (λ (k : ℕ). k * w) (sym R.count)

-- one change after another, which leaves no fewer rows, is one change of what stood there first
pub rows_then : {w : ℕ} {a x y : List ℕ} {rs : List (List ℕ)} {n m : ℕ} (f : List (List ℕ) → List (List ℕ)) → n ≤ m
    → RowsNow w a rs n x → RowsNow w x (f (rows w n x)) m y → RowsNow w a (f rs) m y
rows_then {w} {a} {x} {y} {rs} {n} {m} f h R S =
    let T : RowsNow w x (f rs) m y = subst (λ (l : List (List ℕ)). RowsNow w x (f l) m y) R.rows S in
    let l : length (join rs) ≤ length (join (f rs)) = omega (arith, length_now R, length_now T, mul-le-mul_right {m = n} {n = m} w h) in
    record {
      count = T.count;
      area = T.area ∙ ap (λ (z : List ℕ). written z (f rs)) R.area ∙ written_over a rs (f rs) l;
      rows = T.rows;
      inside = T.inside;
      bytes = R.bytes;
    }
