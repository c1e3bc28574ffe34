-- Laws of the window's rows: by their tags, their directions and their keys.
-- Assumes nothing.
use Rattle.std.proofs.Common.{◌≡◌, ℕ, ◌+◌, ◌*◌, ◌/◌, ◌%◌, ◌<◌, ◌≤◌, Bool, true, false, cond, not, Option, Some, ◌&&◌, ◌||◌, eqb, ltb, List, [], ◌∷◌, length, get_or, take, drop, zero, suc, ◌-◌, sym, refl, ap, ◌∙◌, ap₂, arith, length-drop, take-take}
use Rattle.std.specs.Bool.{MatchBool}
use Rattle.std.specs.List.{AllWithin, HoldsAt, range_with_len}
use Rattle.std.proofs.lemmas.List.FromFn.{length-range_with_len, get_or-range_with_len}
use Rattle.std.specs.Ordering.{partial_lt, partial_ordering_then, nat_cmp, is_lt, is_some_and}
use Rattle.std.specs.declared.cmp.Ordering.{Ordering}
use Rattle.std.specs.declared.cmp.Ordering.TheVariants.{Less, Equal, Greater}
use Rattle.octets.specs.Bytes.{part, num, same_bytes}
use Rattle.chain.specs.Chain.{dir_of, no_dir}
use Rattle.table.specs.Lists.{any, position}
use Rattle.table.specs.Rows.{held, rows, has_key, ragged}
use Rattle.table.proofs.TableLaws.{length_table, table_next, table_find}
use Rattle.rows.specs.declared.Reachable.{Reachable}
use Rattle.rows.specs.Rows.{reachable_codec, reachable_of}
use Rattle.model.specs.Window.{window_rows, lookup, wrong_direction, key_below, keys_rise, wrong_window}
use Rattle.octets.proofs.Numbers.{num_one}

-- a key of 16 bytes or fewer is that of the tag's front
pub key_front : (o : ℕ) (key b : List ℕ) → length key ≤ 16 → has_key o key b ≡ same_bytes (take (length key) (part b o 16)) key
unfolding has_key part
key_front o key b h = ap (λ (l : List ℕ). same_bytes l key) (sym (take-take (length key) 16 (drop o b) h))

-- the rows of a window are all that fit
pub whole_rows : (a : List ℕ) → length a / 30 ≡ held (length a) 30 (length a / 30)
unfolding held
whole_rows a = omega arith

-- the byte of a direction, as it is read
pub direction : (row : List ℕ) (b : Bool) → length row ≡ 30 → b ≡ no_dir (dir_of (get_or row 8 0)) → b ≡ no_dir (dir_of (num (part row 8 1)))
direction row b h e = e ∙ ap (λ (x : ℕ). no_dir (dir_of x)) (sym (num_one row 8 (omega arith)))

-- the first row that has a key is the first typed row whose tag begins with it
pub looked_up : (a key : List ℕ) (f : Option ℕ) → length key ≤ 16 → f ≡ position (has_key 14 key) (rows 30 (length a / 30) a) → f ≡ lookup (window_rows a) key
unfolding lookup window_rows reachable_of
looked_up a key f h e = table_find reachable_codec (length a / 30) (length a / 30) a (whole_rows a) _ _ (λ b. key_front 14 key b h) f e

abbrev by : Bool → Bool → Option Ordering
by l e = Some (cond l Less (cond e Equal Greater))

-- the order of keys, as that of tuples and as the model's
pub key_order : (a b : Reachable)
    → partial_lt (λ (p q : ℕ × ℕ × ℕ × ℕ). partial_ordering_then (partial_ordering_then (partial_ordering_then (Some (nat_cmp p.0 q.0)) (Some (nat_cmp p.1 q.1)))
    (Some (nat_cmp p.2 q.2))) (Some (nat_cmp p.3 q.3))) (a.contact.0, a.dir, a.generation, a.idx) (b.contact.0, b.dir, b.generation, b.idx) ≡ key_below a b
unfolding key_below
key_order a b =
    go (ltb a.contact.0 b.contact.0) (eqb a.contact.0 b.contact.0) (ltb a.dir b.dir) (eqb a.dir b.dir)
    (ltb a.generation b.generation) (eqb a.generation b.generation) (ltb a.idx b.idx) (eqb a.idx b.idx)
  where
    go : (l e m f n g o h : Bool)
        → is_some_and is_lt (partial_ordering_then (partial_ordering_then (partial_ordering_then (by l e) (by m f)) (by n g)) (by o h))
        ≡ (l || (e && (m || (f && (n || (g && o))))))
    go true e m f n g o h = refl
    go false false m f n g o h = refl
    go false true true f n g o h = refl
    go false true false false n g o h = refl
    go false true false true true g o h = refl
    go false true false true false false o h = refl
    go false true false true false true true h = refl
    go false true false true false true false true = refl
    go false true false true false true false false = refl

module _ (a : List ℕ) where
  window_next : (i : ℕ) → i < length a / 30 → drop i (window_rows a) ≡ reachable_of (part a (i * 30) 30) ∷ drop (i + 1) (window_rows a)
  unfolding window_rows held
  window_next i h = table_next reachable_codec (length a / 30) a i (omega arith)

  length_window : length (window_rows a) ≡ length a / 30
  unfolding window_rows held
  length_window = omega (arith, length_table reachable_codec (length a / 30) a)

  -- ---- keys: a row against the next

  pub rise_next : (i : ℕ) (b : Bool) → i + 1 < length a / 30 → key_below (reachable_of (part a (i * 30) 30)) (reachable_of (part a (i * 30 + 30) 30)) ≡ b
      → keys_rise (drop i (window_rows a)) ≡ (b && keys_rise (drop (i + 1) (window_rows a)))
  unfolding keys_rise
  rise_next i b h e =
      let z : (i + 1) * 30 ≡ i * 30 + 30 = omega arith in
      let x : Reachable = reachable_of (part a (i * 30) 30) in
      let next : drop (i + 1) (window_rows a) ≡ reachable_of (part a (i * 30 + 30) 30) ∷ drop (i + 1 + 1) (window_rows a) =
      window_next (i + 1) h ∙ ap (λ (k : ℕ). reachable_of (part a k 30) ∷ drop (i + 1 + 1) (window_rows a)) z in
      ap keys_rise (window_next i (omega arith) ∙ ap (λ (l : List Reachable). x ∷ l) next)
      ∙ ap₂ (λ (c : Bool) (l : List Reachable). c && keys_rise l) e (sym next)

  pub rise_end : (i : ℕ) → length a / 30 ≤ i + 1 → keys_rise (drop i (window_rows a)) ≡ true
  unfolding keys_rise
  rise_end i h = go (drop i (window_rows a)) (omega (arith, length_window, length-drop i (window_rows a)))
    where
      go : (l : List Reachable) → length l ≤ 1 → keys_rise l ≡ true
      go [] k = refl
      go (x ∷ []) k = refl
      go (x ∷ y ∷ l) k = absurd (omega arith)

  abbrev rises : ℕ → Bool
  rises i = key_below (reachable_of (part a (i * 30) 30)) (reachable_of (part a (i * 30 + 30) 30))

  -- every row from the first on, against the next
  rise_all : (k i : ℕ) → i + k ≡ length a / 30 → ((j : ℕ) → i ≤ j → j + 1 < length a / 30 → rises j ≡ true) → keys_rise (drop i (window_rows a)) ≡ true
  rise_all zero i e h = rise_end i (omega arith)
  rise_all (suc zero) i e h = rise_end i (omega arith)
  rise_all (suc (suc k)) i e h =
      rise_next i true (omega arith) (h i (omega arith) (omega arith)) ∙ rise_all (suc k) (i + 1) (omega arith) (λ j l m. h j (omega arith) m)

  -- one that doesn't rise, d rows on
  rise_not : (d i : ℕ) → i + d + 1 < length a / 30 → rises (i + d) ≡ false → keys_rise (drop i (window_rows a)) ≡ false
  rise_not zero i h e = rise_next i false (omega arith) (let z : i + 0 ≡ i = omega arith in ap rises (sym z) ∙ e)
  rise_not (suc d) i h e =
      let z : i + 1 + d ≡ i + suc d = omega arith in
      rise_next i (rises i) (omega arith) refl ∙ ap (λ (b : Bool). rises i && b) (rise_not d (i + 1) (omega arith) (ap rises z ∙ e)) ∙ go (rises i)
    where
      go : (b : Bool) → (b && false) ≡ false
      go true = refl
      go false = refl

  -- what `all` says of the rows from the second on, each against the one before it
  abbrev pub rise_at : Bool → ℕ → Type 0
  rise_at b i = rises (i - 1) ≡ b

  pub rise_told : (r : Bool) (n : ℕ) → n ≡ length a / 30 - 1
      → MatchBool r (AllWithin (rise_at true) (range_with_len 1 n) 0 (length (range_with_len 1 n))) ((k : ℕ) × (k < length (range_with_len 1 n)) × HoldsAt (rise_at false) (range_with_len 1 n) k)
      → r ≡ keys_rise (window_rows a)
  rise_told true n e h =
      sym (rise_all (length a / 30) 0 (omega arith) (λ j l m.
      let k : j < n = omega arith in
      let z : j ≡ get_or (range_with_len 1 n) j 0 - 1 = omega (arith, get_or-range_with_len 1 n j 0 k) in
      ap rises z ∙ h j 0 l (omega (arith, k, length-range_with_len 1 n))))
  rise_told false n e h =
      let k : h.0 < n = omega (arith, h.1, length-range_with_len 1 n) in
      let z : 0 + h.0 ≡ get_or (range_with_len 1 n) h.0 0 - 1 = omega (arith, get_or-range_with_len 1 n h.0 0 k) in
      sym (rise_not h.0 0 (omega arith) (ap rises z ∙ h.2 0))

pub wrong_of : (a : List ℕ) (x y z : Bool) → ltb 0 (length a % 30) ≡ x → any wrong_direction (window_rows a) ≡ y → keys_rise (window_rows a) ≡ z
    → wrong_window a ≡ (x || y || not z)
unfolding wrong_window ragged
wrong_of a x y z px py pz = rw (px, py, pz)
