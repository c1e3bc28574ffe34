-- The flagged rows are written: their replies one behind the other, and their offers.
-- Assumes nothing.
use Rattle.std.proofs.Common.{◌≡◌, ℕ, zero, suc, ◌+◌, ◌*◌, ◌/◌, ◌<◌, ◌≤◌, Bool, true, false, cond, List, [], ◌∷◌, ◌++◌, map, length, get_or, take, sym, refl, ap, ◌∙◌, ap₂, append-nil, add-one, arith, take_all}
use mathlib.Core.List.{map-append}
use native.Mathlib.Nat.{zero-min}
use Rattle.table.specs.Lists.{filter}
use Rattle.table.specs.Rows.{held}
use Rattle.table.specs.Codec.{with_table, TableNow}
use Rattle.table.proofs.RowLaws.{written_none}
use Rattle.table.proofs.TableLaws.{table_none, table_then}
use Rattle.rows.specs.Rows.{offer_codec, reply_bytes}
use Rattle.rows.proofs.Laws.{offer_laws}
use Rattle.model.specs.Exchange.{Envelope, own_envelope_of, carried_envelope_of, no_carried, reply_for, halved, insert_offer, insert_offers}
use Rattle.model.proofs.KeepRows.{insert_one}
use Rattle.model.proofs.CornerLaws.{insert_append}
use Rattle.offers.specs.Appended.{Appended}
use Rattle.offers.specs.declared.Held.{Held}
use Rattle.offers.specs.Areas.{how_many, own_of, carried_of, held_envelope}
use Rattle.offers.specs.Entries.{held_envelopes}
use Rattle.offers.specs.Offers.{flagged_of, halves_of, Handed, WritesOffers}
use Rattle.offers.proofs.AppendLaws.{append_none, append_one, append_then}
use Rattle.offers.proofs.EntryLaws.{length_held, held_is}

-- ---- rows with flags

module _ {A : Type 0} where
  -- one row more
  flagged_next : (fs : List Bool) (xs : List A) (i : ℕ) (d : A) → i < length fs → i < length xs
      → flagged_of (take (suc i) fs) (take (suc i) xs) ≡ flagged_of (take i fs) (take i xs) ++ cond (get_or fs i false) (get_or xs i d ∷ []) []
  unfolding flagged_of
  flagged_next [] xs i d f x = absurd (omega arith)
  flagged_next (b ∷ fs) [] i d f x = absurd (omega arith)
  flagged_next (b ∷ fs) (y ∷ xs) zero d f x = refl
  flagged_next (b ∷ fs) (y ∷ xs) (suc i) d f x = go b (flagged_next fs xs i d (omega arith) (omega arith))
    where
      go : (c : Bool) → flagged_of (take (suc i) fs) (take (suc i) xs) ≡ flagged_of (take i fs) (take i xs) ++ cond (get_or fs i false) (get_or xs i d ∷ []) []
          → cond c (y ∷ flagged_of (take (suc i) fs) (take (suc i) xs)) (flagged_of (take (suc i) fs) (take (suc i) xs))
          ≡ cond c (y ∷ flagged_of (take i fs) (take i xs)) (flagged_of (take i fs) (take i xs)) ++ cond (get_or fs i false) (get_or xs i d ∷ []) []
      go true h = ap (λ (l : List A). y ∷ l) h
      go false h = h

  -- all of them
  flagged_end : (fs : List Bool) (xs : List A) (i : ℕ) → length xs ≤ i → flagged_of (take i fs) (take i xs) ≡ flagged_of fs xs
  unfolding flagged_of
  flagged_end [] xs zero h = refl
  flagged_end [] xs (suc i) h = refl
  flagged_end (b ∷ fs) [] zero h = refl
  flagged_end (b ∷ fs) [] (suc i) h = refl
  flagged_end (b ∷ fs) (y ∷ xs) zero h = absurd (omega arith)
  flagged_end (b ∷ fs) (y ∷ xs) (suc i) h = ap (λ (l : List A). cond b (y ∷ l) l) (flagged_end fs xs i (omega arith))

  -- flags that are a test's answers
  by_test : (p : A → Bool) (xs : List A) → flagged_of (map p xs) xs ≡ filter p xs
  unfolding flagged_of filter
  by_test p [] = refl
  by_test p (x ∷ xs) = ap (λ (l : List A). cond (p x) (x ∷ l) l) (by_test p xs)

  pub flagged_filter : (p : A → Bool) (fs : List Bool) (xs : List A) → take (length xs) fs ≡ map p xs → flagged_of fs xs ≡ filter p xs
  flagged_filter p fs xs e =
      sym (flagged_end fs xs (length xs) (omega arith)) ∙ ap₂ (λ (gs : List Bool) (ys : List A). flagged_of gs ys) e (take_all (length xs) xs (omega arith)) ∙ by_test p xs

-- ---- the offers

no_offers : (a : List ℕ) → TableNow offer_codec a [] 0 a
unfolding with_table held
no_offers a = record { count = refl; area = sym (written_none a); table = table_none offer_codec a; fits = sym (zero-min (length a / 17)) }

-- ---- the walk: i rows seen, k replies and c offers there

module _ (kept : Held) (flags : List Bool) (lent : List ℕ) (first : ℕ) (offers : List ℕ) where
  abbrev E : List Envelope
  E = held_envelopes (own_of kept) (carried_of kept)

  abbrev sent : ℕ → List Envelope
  sent i = halves_of (take i flags) (take i E)

  pub record Offering (i k c : ℕ) (x y : List ℕ) : Type 0 where
    pub within : i ≤ how_many kept
    pub few : c ≤ i
    pub below : k ≤ first + i
    pub rows : Appended 40 lent first (map reply_bytes (map reply_for (sent i))) k x
    pub table : TableNow offer_codec offers (insert_offers (sent i) []) c y
    pub size : length y ≡ length offers

  pub offering_start : Offering 0 first 0 lent offers
  unfolding flagged_of insert_offers
  offering_start = record {
    within = omega arith;
    few = omega arith;
    below = omega arith;
    rows = append_none 40 lent first;
    table = no_offers offers;
    size = refl;
  }

  module _ (fits : how_many kept ≤ length flags) {i k c : ℕ} {x y : List ℕ} (O : Offering i k c x y) where
    total : length E ≡ how_many kept
    total = length_held own_envelope_of carried_envelope_of kept

    abbrev here : Envelope
    here = held_envelope kept i

    module _ (h : i < how_many kept) where
      one_more : (b : Bool) → get_or flags i false ≡ b → sent (i + 1) ≡ sent i ++ cond b (halved here ∷ []) []
      one_more b e =
          ap (λ (j : ℕ). sent j) (add-one i)
          ∙ ap (map halved) (flagged_next flags E i (carried_envelope_of no_carried) (omega arith) (omega (arith, total)))
          ∙ map-append halved (flagged_of (take i flags) (take i E)) (cond (get_or flags i false) (get_or E i (carried_envelope_of no_carried) ∷ []) [])
          ∙ ap (λ (l : List Envelope). sent i ++ l) (rw (e, held_is own_envelope_of carried_envelope_of kept i h) (go b))
        where
          go : (b : Bool) → map halved (cond b (here ∷ []) []) ≡ cond b (halved here ∷ []) []
          go true = refl
          go false = refl

      -- nothing of this row
      pub offering_skip : get_or flags i false ≡ false → Offering (i + 1) k c x y
      offering_skip e =
          let s : sent (i + 1) ≡ sent i = one_more false e ∙ append-nil (sent i) in
          let f = O.few in
          let b = O.below in
          record { within = omega arith; few = omega arith; below = omega arith; rows = rw s O.rows; table = rw s O.table; size = O.size }

      -- its envelope with half of the copies
      pub offering_next : {d : ℕ} {z w : List ℕ} → get_or flags i false ≡ true → Handed (halved here) x k y c z d w
          → k * 40 + 40 ≤ length lent → Offering (i + 1) (k + 1) d z w
      unfolding insert_offers
      offering_next {d} {z} {w} e H r =
          let v : Envelope = halved here in
          let s : sent (i + 1) ≡ sent i ++ (v ∷ []) = one_more true e in
          let A : Appended 40 x k (reply_bytes (reply_for v) ∷ []) (k + 1) z = append_one 40 x z (reply_bytes (reply_for v)) k H.wide (omega (arith, O.rows.size)) H.reply in
          let q : map reply_bytes (map reply_for (sent (i + 1))) ≡ map reply_bytes (map reply_for (sent i)) ++ (reply_bytes (reply_for v) ∷ []) =
          ap (λ (l : List Envelope). map reply_bytes (map reply_for l)) s ∙ ap (map reply_bytes) (map-append reply_for (sent i) (v ∷ [])) ∙ map-append reply_bytes (map reply_for (sent i)) (reply_for v ∷ []) in
          let t : insert_offers (sent (i + 1)) [] ≡ insert_offer v (insert_offers (sent i) []) = ap (λ (l : List Envelope). insert_offers l []) s ∙ insert_append (sent i) (v ∷ []) [] in
          let f = O.few in
          let b = O.below in
          let u = H.less in
          record {
            within = omega arith;
            few = omega arith;
            below = omega arith;
            rows = rw q (append_then 40 O.rows A (omega arith));
            table = rw t (table_then offer_laws (insert_offer v) (λ a. (insert_one v (insert_offers (sent i) []) H.proper a).0) H.bytes H.more O.table H.table);
            size = H.size ∙ O.size;
          }

    pub offering_end : how_many kept ≤ i → (first + how_many kept) * 40 ≤ length lent → WritesOffers (halves_of flags E) lent first offers k x c y
    offering_end h r =
        let s : sent i ≡ halves_of flags E = ap (map halved) (flagged_end flags E i (omega (arith, total))) in
        record { rows = rw s at O.rows; room = let b = O.below in let w = O.within in omega arith; table = rw s at O.table }
