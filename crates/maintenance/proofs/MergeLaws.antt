-- Laws of the deletions: the slots of two tables merged, one row further at a time.
-- Assumes nothing.
use Rattle.std.proofs.Common.{◌≡◌, ℕ, ◌+◌, ◌*◌, ◌<◌, ◌≤◌, Bool, true, false, ltb, List, [], ◌∷◌, ◌++◌, map, length, drop, sym, refl, ap, ◌∙◌, ap₂, append_assoc, append-nil, arith, drop_of_length-le, ltb-false, ltb-true}
use mathlib.Core.List.{map-append}
use lib.ListN.{length-map}
use Rattle.octets.specs.Bytes.{splice}
use Rattle.table.specs.Lists.{filter}
use Rattle.table.proofs.ListLaws.{length_filter}
use Rattle.rows.specs.declared.Carried.{Carried}
use Rattle.rows.specs.declared.Tombstone.{Tombstone}
use Rattle.rows.specs.Rows.{action_bytes}
use Rattle.model.specs.Basics.{merge}
use Rattle.model.specs.Calls.{delete_courier}
use Rattle.model.specs.Maintenance.{carried_expired, tombstone_expired, expired_slots}
use Rattle.model.proofs.Laws.{length_merge}
use Rattle.by_slot.proofs.SlotLaws.{merge_left_end, merge_left, merge_right_end, merge_right}
use Rattle.maintenance.specs.Expiry.{Listed, Merging}
use Rattle.maintenance.proofs.ListedLaws.{listed_none, listed_push}

abbrev same : ℕ → ℕ
same n = n

-- no more deletions than rows
pub length_expired : (minute : ℕ) (cs : List Carried) (ts : List Tombstone) → length (expired_slots minute cs ts) ≤ length cs + length ts
unfolding expired_slots
length_expired minute cs ts =
    let xs : List Carried = filter (carried_expired minute) cs in
    let ys : List Tombstone = filter (tombstone_expired minute) ts in
    omega (
      arith,
      length_merge same (map (λ (r : Carried). r.slot) xs) (map (λ (t : Tombstone). t.slot) ys),
      length-map xs (λ (r : Carried). r.slot),
      length-map ys (λ (t : Tombstone). t.slot),
      length_filter (carried_expired minute) cs,
      length_filter (tombstone_expired minute) ts,
    )

-- ---- the rows from p and q on, and the rows r and t that stand there

module _ (minute : ℕ) (cs : List Carried) (ts : List Tombstone) (p q : ℕ) {r : Carried} {t : Tombstone}
    (ec : p < length cs → drop p cs ≡ r ∷ drop (p + 1) cs) (et : q < length ts → drop q ts ≡ t ∷ drop (q + 1) ts) where
  abbrev slots_of : (p q : ℕ) → List ℕ
  slots_of i j = expired_slots minute (drop i cs) (drop j ts)

  pub pass_carried : p < length cs → carried_expired minute r ≡ false → slots_of p q ≡ slots_of (p + 1) q
  unfolding expired_slots filter
  pass_carried h e = rw (ec h, e)

  pub pass_tombstone : q < length ts → tombstone_expired minute t ≡ false → slots_of p q ≡ slots_of p (q + 1)
  unfolding expired_slots filter
  pass_tombstone h e = rw (et h, e)

  -- both rows have expired, where they are there
  module _ (xc : p < length cs → carried_expired minute r ≡ true) (xt : q < length ts → tombstone_expired minute t ≡ true) where
    pub first_carried : p < length cs → (q < length ts → r.slot ≤ t.slot) → slots_of p q ≡ r.slot ∷ slots_of (p + 1) q
    unfolding expired_slots filter
    first_carried h le = go (ltb q (length ts)) refl
      where
        go : (b : Bool) → ltb q (length ts) ≡ b → slots_of p q ≡ r.slot ∷ slots_of (p + 1) q
        go true e = let k = ltb-true q (length ts) e in rw (ec h, xc h, et k, xt k) (merge_left same r.slot t.slot _ _ (le k))
        go false e = rw (ec h, xc h, drop_of_length-le ts {i = q} (ltb-false q (length ts) e)) (merge_left_end same r.slot _)

    pub first_tombstone : q < length ts → (p < length cs → t.slot < r.slot) → slots_of p q ≡ t.slot ∷ slots_of p (q + 1)
    unfolding expired_slots filter
    first_tombstone h lt = go (ltb p (length cs)) refl
      where
        go : (b : Bool) → ltb p (length cs) ≡ b → slots_of p q ≡ t.slot ∷ slots_of p (q + 1)
        go true e = let k = ltb-true p (length cs) e in rw (et h, xt h, ec k, xc k) (merge_right same r.slot t.slot _ _ (lt k))
        go false e = rw (et h, xt h, drop_of_length-le cs {i = p} (ltb-false p (length cs) e)) (merge_right_end same t.slot _)

-- ---- the list so far

module _ (minute : ℕ) (cs : List Carried) (ts : List Tombstone) (ac : List ℕ) (k : ℕ) where
  pub merging_start : Merging minute cs ts ac k ac 0 0 k
  merging_start = record { slots = []; listed = listed_none ac k; rest = refl; left = omega arith; right = omega arith; below = omega arith }

  module _ (x : List ℕ) (p q m : ℕ) (I : Merging minute cs ts ac k x p q m) where
    pub merging_pass : (i j : ℕ) → p + q < i + j → i ≤ length cs → j ≤ length ts
        → expired_slots minute (drop p cs) (drop q ts) ≡ expired_slots minute (drop i cs) (drop j ts)
        → Merging minute cs ts ac k x i j m
    merging_pass i j f hi hj e = record {
      slots = I.slots;
      listed = I.listed;
      rest = ap (λ (l : List ℕ). I.slots ++ l) (sym e) ∙ I.rest;
      left = hi;
      right = hj;
      below = omega (arith, I.below);
    }

    pub merging_list : (i j : ℕ) (s : ℕ) (y : List ℕ) → p + q < i + j → i ≤ length cs → j ≤ length ts
        → expired_slots minute (drop p cs) (drop q ts) ≡ s ∷ expired_slots minute (drop i cs) (drop j ts)
        → y ≡ splice x (m * 13) (action_bytes (delete_courier s)) → (m + 1) * 13 ≤ length ac → Merging minute cs ts ac k y i j (m + 1)
    merging_list i j s y f hi hj e ey h = record {
      slots = I.slots ++ (s ∷ []);
      listed = rw (map-append delete_courier I.slots (s ∷ [])) (listed_push (map delete_courier I.slots) (delete_courier s) (m + 1) I.listed ey refl h);
      rest = append_assoc I.slots (s ∷ []) _ ∙ ap (λ (l : List ℕ). I.slots ++ l) (sym e) ∙ I.rest;
      left = hi;
      right = hj;
      below = omega (arith, I.below);
    }

    pub merging_end : length cs + length ts ≤ p + q → Listed ac k (map delete_courier (expired_slots minute cs ts)) m x
    unfolding expired_slots filter merge
    merging_end h =
        let dc : drop p cs ≡ [] = drop_of_length-le cs {i = p} (omega (arith, I.left, I.right)) in
        let dt : drop q ts ≡ [] = drop_of_length-le ts {i = q} (omega (arith, I.left, I.right)) in
        let e : I.slots ≡ expired_slots minute cs ts =
        sym (append-nil I.slots) ∙ ap₂ (λ (u : List Carried) (v : List Tombstone). I.slots ++ expired_slots minute u v) (sym dc) (sym dt) ∙ I.rest in
        rw (← e) I.listed
