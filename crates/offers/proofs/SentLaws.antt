-- What is flagged and written is what the model offers, and the count is that of the rows for which it searches the tombstones.
-- Assumes nothing.
use Rattle.std.proofs.Common.{◌≡◌, ℕ, Bool, true, false, cond, List, [], ◌∷◌, map, length, sym, refl, ap, ◌∙◌}
use lib.ListN.{length-map}
use Rattle.courier_core.specs.declared.ContactId.{ContactId}
use Rattle.table.specs.Lists.{filter}
use Rattle.table.proofs.ListLaws.{count_filter}
use Rattle.rows.specs.declared.Own.{Own}
use Rattle.rows.specs.declared.Carried.{Carried}
use Rattle.rows.specs.declared.Tombstone.{Tombstone}
use Rattle.model.specs.Exchange.{Envelope, envelopes, in_question, is_offered, halved}
use Rattle.offers.specs.Entries.{held_envelopes, Entry, entries, passes}
use Rattle.offers.specs.Offers.{ListsOffers, flagged_of, halves_of}
use Rattle.offers.proofs.EntryLaws.{filter_envelopes, entry_envelopes}
use Rattle.offers.proofs.WritingLaws.{flagged_filter}

flagged_map : {A B : Type 0} (f : A → B) (fs : List Bool) (xs : List A) → flagged_of fs (map f xs) ≡ map f (flagged_of fs xs)
unfolding flagged_of
flagged_map f [] xs = refl
flagged_map f (b ∷ fs) [] = refl
flagged_map {B = B} f (b ∷ fs) (x ∷ xs) = go b (flagged_map f fs xs)
  where
    go : (c : Bool) → flagged_of fs (map f xs) ≡ map f (flagged_of fs xs)
        → cond c (f x ∷ flagged_of fs (map f xs)) (flagged_of fs (map f xs)) ≡ map f (cond c (x ∷ flagged_of fs xs) (flagged_of fs xs))
    go true h = ap (λ (l : List B). f x ∷ l) h
    go false h = h

module _ (peer : ContactId) (own : List Own) (carried : List Carried) (ts : List Tombstone) (ls : List (List ℕ)) {lent : List Bool} (searched : ℕ) (flags : List Bool)
    (L : ListsOffers ts ls (entries peer own carried) lent searched flags) where
  abbrev E : List Entry
  E = entries peer own carried

  abbrev envelope : Entry → Envelope
  envelope e = e.envelope

  pub offers_sent : halves_of flags (held_envelopes own carried) ≡ map halved (filter (is_offered ts ls) (envelopes own carried peer))
  offers_sent =
      ap (map halved)
      (ap (flagged_of flags) (sym (entry_envelopes peer own carried)) ∙ flagged_map envelope flags E ∙ ap (map envelope) (flagged_filter (passes (is_offered ts ls)) flags E L.flagged)
      ∙ sym (filter_envelopes peer (is_offered ts ls) own carried))

  pub searched_counted : searched ≡ length (filter (in_question ls) (envelopes own carried peer))
  searched_counted =
      L.counted ∙ count_filter (passes (in_question ls)) E ∙ sym (length-map (filter (passes (in_question ls)) E) envelope)
      ∙ sym (ap length (filter_envelopes peer (in_question ls) own carried))
