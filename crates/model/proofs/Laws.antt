-- Laws of the model's definitions: the bytes that carried rows can have, the place of the least expiry, the saved file, refusals, the bytes of actions.
-- Assumes nothing.
use Rattle.std.proofs.Common.{◌≡◌, ℕ, suc, ◌+◌, ◌-◌, ◌*◌, ◌^◌, ◌<◌, ◌≤◌, min, Bool, true, false, cond, ltb, leb, List, [], ◌∷◌, ◌++◌, map, length, get_or, drop, sym, refl, ap, ◌∙◌, subst, ap₂, append-nil, add-zero, add-one, arith, length-append, length-drop, length-take, get_or-drop, drop-drop, ltb-false, ltb-true, le-ltb, lt-ltb}
use mathlib.Core.List.Perm
use mathlib.Core.List.{Perm, perm_middle, map-append}
use native.Mathlib.Nat.{min-le_left, min-le_right}
use lib.ListN.{length-map}
use Rattle.octets.specs.Bytes.{part, splice}
use Rattle.octets.proofs.Numbers.{length_be}
use Rattle.octets.proofs.Parts.{splice_then}
use Rattle.table.specs.Lists.{All}
use Rattle.table.specs.Lists as lists
use Rattle.table.specs.Rows.{join}
use Rattle.table.proofs.ListLaws.{all_each, all_map}
use Rattle.table.proofs.RowLaws.{length_join, join_append}
use Rattle.state.specs.Sizes.{cell_size}
use Rattle.rows.specs.declared.Carried.{Carried}
use Rattle.rows.specs.declared.Tombstone.{Tombstone}
use Rattle.rows.specs.declared.Action.{Action}
use Rattle.rows.specs.Rows.{action_bytes}
use Rattle.rows.specs.Limits.{max_cells}
use Rattle.model.specs.Basics.{merge}
use Rattle.model.specs.State.{State}
use Rattle.model.specs.Calls.{Cells, of_own, of_carried, no_cell, cell_from, first_cell, reply_cell}
use Rattle.model.specs.Cells.{cell_start, cell_length, ciphertext}
use Rattle.model.specs.Custody.{carried_total}
use Rattle.model.specs.Tombs.{no_tombstone, least_from, least_expiry}
use Rattle.model.specs.Saved.{Slotted, saved_carried, saved_tombstones, saved_rows, save_held, IsSaved}

-- a carried row has at most 37 + 2,064 bytes
pub carried_total_lem : (size : ℕ) (rs : List Carried) → carried_total size rs ≤ length rs * 2101
unfolding carried_total cell_length
carried_total_lem size [] = omega arith
carried_total_lem size (r ∷ rs) =
    omega (arith, carried_total_lem size rs, min-le_left (min r.len cell_size) (min size (max_cells * cell_size) - r.cell * cell_size), min-le_right r.len cell_size)

-- what lies inside the cells that count lies inside the area
inside_area : (n most size start : ℕ) → n ≤ min size most - start → min n (size - min start size) ≡ n
inside_area n most size start h = omega (arith, min-le_left size most)

-- the length of a ciphertext
pub length_ciphertext : (area : List ℕ) (cell len : ℕ) → length (ciphertext area cell len) ≡ cell_length (length area) cell len
unfolding ciphertext cell_start cell_length part
length_ciphertext area cell len =
    length-take (min (min len cell_size) (min (length area) (max_cells * cell_size) - cell * cell_size)) (drop (min (cell * cell_size) (length area)) area)
    ∙ ap (min _) (length-drop (min (cell * cell_size) (length area)) area)
    ∙ inside_area _ (max_cells * cell_size) (length area) (cell * cell_size) (min-le_right (min len cell_size) _)

-- a row whose cell counts has what lies inside the cell and the area
pub counted_length : (size cell len : ℕ) → cell < max_cells → cell_length size cell len ≡ min (min len cell_size) (size - cell * cell_size)
unfolding cell_length
counted_length size cell len h = omega arith

-- so the ciphertext of a length that fits into its cell and the area is that part of the area
pub ciphertext_inside : (area : List ℕ) (cell len : ℕ) → cell < max_cells → len ≤ cell_size → cell * cell_size + len ≤ length area
    → ciphertext area cell len ≡ part area (cell * cell_size) len
unfolding ciphertext cell_start
ciphertext_inside area cell len h k fits =
    let a : min (cell * cell_size) (length area) ≡ cell * cell_size = omega arith in
    let b : min (min len cell_size) (length area - cell * cell_size) ≡ len = omega arith in
    ap₂ (part area) a (counted_length (length area) cell len h ∙ b)

-- a row whose cell does not count has no ciphertext
pub uncounted_length : (size cell len : ℕ) → 256 ≤ cell → cell_length size cell len ≡ 0
unfolding cell_length
uncounted_length size cell len h = omega arith

-- ---- a reply's cell

pub counted_cell : (first cell : ℕ) → cell < max_cells → cell_from first cell ≡ first + cell
counted_cell first cell h = ap (λ (b : Bool). cond b (first + cell) no_cell) (lt-ltb cell max_cells h)

pub uncounted_cell : (first cell : ℕ) → max_cells ≤ cell → cell_from first cell ≡ no_cell
uncounted_cell first cell h = ap (λ (b : Bool). cond b (first + cell) no_cell) (le-ltb cell max_cells h)

told : (k j : Cells) (c e : ℕ) → c < 256 → reply_cell k c ≡ reply_cell j e → (e < 256) × (first_cell k + c ≡ first_cell j + e)
told k j c e h same = go (ltb e max_cells) refl
  where
    first : (i : Cells) → first_cell i ≤ 256
    first of_own = omega arith
    first of_carried = omega arith

    go : (b : Bool) → ltb e max_cells ≡ b → (e < 256) × (first_cell k + c ≡ first_cell j + e)
    go true t = let l : e < 256 = ltb-true e max_cells t in (l, sym (counted_cell (first_cell k) c h) ∙ same ∙ counted_cell (first_cell j) e l)
    go false t = absurd (omega (arith, first k, counted_cell (first_cell k) c h, same, uncounted_cell (first_cell j) e (ltb-false e max_cells t)))

-- a row whose cell does not count says so in its reply
pub uncounted_reply : (k : Cells) (cell : ℕ) → 256 ≤ cell → reply_cell k cell ≡ 65535
uncounted_reply k cell h = uncounted_cell (first_cell k) cell h

-- the cell of a row that counts is no other row's: a reply tells which area it means, and which cell of it
pub cells_apart : (k j : Cells) (c e : ℕ) → c < 256 → reply_cell k c ≡ reply_cell j e → (k ≡ j) × (c ≡ e)
cells_apart of_own of_own c e h same = (refl, omega (arith, (told of_own of_own c e h same).1))
cells_apart of_own of_carried c e h same = absurd (omega (arith, (told of_own of_carried c e h same).1))
cells_apart of_carried of_own c e h same = let p = told of_carried of_own c e h same in absurd (omega (arith, p.0, p.1))
cells_apart of_carried of_carried c e h same = (refl, omega (arith, (told of_carried of_carried c e h same).1))

-- ---- the least expiry

abbrev pub expiry_at : List Tombstone → ℕ → ℕ
expiry_at ts j = (get_or ts j no_tombstone).expiry_min

-- what holds below i and at i holds below i + 1
upto : (P : ℕ → Type 0) (i : ℕ) → ((j : ℕ) → j < i → P j) → P i → (j : ℕ) → j < suc i → P j
upto P i f p j h = go (ltb j i) refl
  where
    go : (b : Bool) → ltb j i ≡ b → P j
    go true e = f j (ltb-true j i e)
    go false e = let q : i ≡ j = omega (arith, ltb-false j i e) in subst P q p

-- of the first i tombstones the one at best has the least expiry, and those before it a greater one
pub record Least (ts : List Tombstone) (i best : ℕ) : Type 0 where
  pub inside : best < i
  pub least : (j : ℕ) → j < i → expiry_at ts best ≤ expiry_at ts j
  pub first : (j : ℕ) → j < best → expiry_at ts best < expiry_at ts j

module _ (ts : List Tombstone) where
  at_drop : (i : ℕ) (t : Tombstone) (rest : List Tombstone) → drop i ts ≡ t ∷ rest → t.expiry_min ≡ expiry_at ts i
  at_drop i t rest e = ap (λ (l : List Tombstone). expiry_at l 0) (sym e) ∙ ap (λ (x : Tombstone). x.expiry_min) (get_or-drop i ts 0 no_tombstone ∙ ap (λ (n : ℕ). get_or ts n no_tombstone) (add-zero i))

  past_drop : (i : ℕ) (t : Tombstone) (rest : List Tombstone) → drop i ts ≡ t ∷ rest → drop (suc i) ts ≡ rest
  past_drop i t rest e = ap (λ (n : ℕ). drop n ts) (sym (add-one i)) ∙ sym (drop-drop 1 i ts) ∙ ap (drop 1) e

  by_test : (n : ℕ) (b : Bool) (x y : ℕ) → (b ≡ true → Least ts n x) → (b ≡ false → Least ts n y) → Least ts n (cond b x y)
  by_test n true x y f g = f refl
  by_test n false x y f g = g refl

  lower : (i best : ℕ) → expiry_at ts i < expiry_at ts best → Least ts i best → Least ts (suc i) i
  lower i best h l = record {
    inside = omega arith;
    least = upto (λ (j : ℕ). expiry_at ts i ≤ expiry_at ts j) i (λ j b. omega (arith, l.least j b)) (omega arith);
    first = λ j b. omega (arith, l.least j b);
  }

  later : (i best : ℕ) → expiry_at ts best ≤ expiry_at ts i → Least ts i best → Least ts (suc i) best
  later i best h l = record {
    inside = omega (arith, l.inside);
    least = upto (λ (j : ℕ). expiry_at ts best ≤ expiry_at ts j) i l.least h;
    first = l.first;
  }

  least_from_lem : (rest : List Tombstone) (i best low : ℕ) → drop i ts ≡ rest → low ≡ expiry_at ts best → Least ts i best
      → Least ts (i + length rest) (least_from i best low rest)
  unfolding least_from
  least_from_lem [] i best low e q l = subst (λ (n : ℕ). Least ts n best) (sym (add-zero i)) l
  least_from_lem (t ∷ rest) i best low e q l =
      let n : suc i + length rest ≡ i + suc (length rest) = omega arith in
      let at : t.expiry_min ≡ expiry_at ts i = at_drop i t rest e in
      by_test (i + suc (length rest)) (ltb t.expiry_min low) (least_from (suc i) i t.expiry_min rest) (least_from (suc i) best low rest)
      (λ b. subst (λ (m : ℕ). Least ts m (least_from (suc i) i t.expiry_min rest)) n
      (least_from_lem rest (suc i) i t.expiry_min (past_drop i t rest e) at (lower i best (omega (arith, ltb-true t.expiry_min low b)) l)))
      (λ b. subst (λ (m : ℕ). Least ts m (least_from (suc i) best low rest)) n
      (least_from_lem rest (suc i) best low (past_drop i t rest e) q (later i best (omega (arith, ltb-false t.expiry_min low b)) l)))

-- the place that `store_tombstone` frees: least expiry, the first among equals
pub least_expiry_lem : (t : Tombstone) (ts : List Tombstone) → t.expiry_min < 2 ^ 32 → Least (t ∷ ts) (length (t ∷ ts)) (least_expiry (t ∷ ts))
unfolding least_from
least_expiry_lem t ts h =
    by_test (t ∷ ts) (suc (length ts)) (ltb t.expiry_min (2 ^ 32)) (least_from 1 0 t.expiry_min ts) (least_from 1 0 (2 ^ 32) ts)
    (λ b. subst (λ (m : ℕ). Least (t ∷ ts) m (least_from 1 0 t.expiry_min ts)) (omega arith)
    (least_from_lem (t ∷ ts) ts 1 0 t.expiry_min refl refl (record {
      inside = omega arith;
      least = λ j b. let z : j ≡ 0 = omega arith in omega (arith, ap (expiry_at (t ∷ ts)) z);
      first = λ j b. absurd (omega arith);
    })))
    (λ b. absurd (omega (arith, ltb-false t.expiry_min (2 ^ 32) b)))

-- ---- two lists merged

-- the merged list has the elements of both, each once
module _ {A : Type 0} (key : A → ℕ) where
  by_key : (b : Bool) (x y : A) (l r all : List A) → Perm (x ∷ l) all → Perm (y ∷ r) all → Perm (cond b (x ∷ l) (y ∷ r)) all
  by_key true x y l r all p q = p
  by_key false x y l r all p q = q

  pub perm_merge : (xs ys : List A) → Perm (merge key xs ys) (xs ++ ys)
  unfolding merge
  perm_merge [] ys = Perm.refl ys
  perm_merge (x ∷ xs) [] = subst (Perm (x ∷ xs)) (sym (append-nil (x ∷ xs))) (Perm.refl (x ∷ xs))
  perm_merge (x ∷ xs) (y ∷ ys) =
      by_key (leb (key x) (key y)) x y (merge key xs (y ∷ ys)) (merge key (x ∷ xs) ys) ((x ∷ xs) ++ (y ∷ ys))
      (Perm.cons x (perm_merge xs (y ∷ ys)))
      (Perm.trans (Perm.cons y (perm_merge (x ∷ xs) ys)) (Perm.symm (perm_middle (x ∷ xs) ys)))

pub length_merge : {A : Type 0} (key : A → ℕ) (xs ys : List A) → length (merge key xs ys) ≡ length xs + length ys
unfolding merge
length_merge key [] ys = omega arith
length_merge key (x ∷ xs) [] = omega arith
length_merge key (x ∷ xs) (y ∷ ys) = go (leb (key x) (key y)) (length_merge key xs (y ∷ ys)) (length_merge key (x ∷ xs) ys)
  where
    go : (b : Bool) → length (merge key xs (y ∷ ys)) ≡ length xs + suc (length ys) → length (merge key (x ∷ xs) ys) ≡ suc (length xs) + length ys
        → length (cond b (x ∷ merge key xs (y ∷ ys)) (y ∷ merge key (x ∷ xs) ys)) ≡ suc (length xs) + suc (length ys)
    go true l r = omega arith
    go false l r = omega arith

-- what holds of the elements of both holds of the merged ones
pub all_merge : {A : Type 0} {P : A → Type 0} (key : A → ℕ) (xs ys : List A) → All P xs → All P ys → All P (merge key xs ys)
unfolding merge
all_merge key [] ys p q = q
all_merge key (x ∷ xs) [] p q = p
all_merge {A} {P} key (x ∷ xs) (y ∷ ys) (lists.more h p) (lists.more k q) =
    go (leb (key x) (key y)) (all_merge key xs (y ∷ ys) p (lists.more k q)) (all_merge key (x ∷ xs) ys (lists.more h p) q)
  where
    go : (b : Bool) → All P (merge key xs (y ∷ ys)) → All P (merge key (x ∷ xs) ys) → All P (cond b (x ∷ merge key xs (y ∷ ys)) (y ∷ merge key (x ∷ xs) ys))
    go true l r = lists.more h l
    go false l r = lists.more k r

-- ---- the saved file

-- the file is what document 01 fixes
pub saved : (s : State) → IsSaved s (save_held s).bytes
unfolding save_held saved_rows
saved s = record { rows = saved_rows s; once = perm_merge (λ (h : Slotted). h.slot) (saved_carried s) (saved_tombstones s); bytes = refl }

-- ---- actions listed one behind the other

-- a row of the action area has 13 bytes
pub length_action : (r : Action) → length (action_bytes r) ≡ 13
unfolding action_bytes
length_action r = simp (length-append, length_be)

pub length_actions : (acts : List Action) → length (join (map action_bytes acts)) ≡ length acts * 13
length_actions acts =
    length_join (map action_bytes acts) (all_map action_bytes acts (all_each length_action acts)) ∙ ap (λ (n : ℕ). n * 13) (length-map acts action_bytes)

-- one action listed
pub one_listed : (p : Action) (ac y : List ℕ) (at : ℕ) → y ≡ splice ac at (action_bytes p) → y ≡ splice ac at (join (map action_bytes (p ∷ [])))
unfolding join
one_listed p ac y at e = e ∙ ap (splice ac at) (sym (append-nil (action_bytes p)))

-- actions behind others
pub listed_behind : (first then : List Action) (ac z y : List ℕ) (at place : ℕ) → z ≡ splice ac at (join (map action_bytes first))
    → y ≡ splice z place (join (map action_bytes then)) → place ≡ at + 13 * length first → place + 13 * length then ≤ length ac
    → y ≡ splice ac at (join (map action_bytes (first ++ then)))
listed_behind first then ac z y at place ez ey ep h =
    splice_then ac z y at place (join (map action_bytes first)) (join (map action_bytes then)) ez ey (omega (arith, length_actions first, ep)) (omega (arith, length_actions then, h))
    ∙ ap (splice ac at) (sym (ap join (map-append action_bytes first then) ∙ join_append (map action_bytes first) (map action_bytes then)))
