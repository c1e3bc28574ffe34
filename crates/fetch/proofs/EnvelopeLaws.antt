-- The model's search through the envelopes is the search through own rows, then through carried rows.
-- Assumes nothing.
use Rattle.std.proofs.Common.{◌≡◌, ℕ, List, [], map, get_or, sym, ap, ◌∙◌, append-nil, Some, None}
use Rattle.courier_core.specs.declared.ContactId.{ContactId}
use Rattle.table.specs.Lists.{position}
use Rattle.rows.specs.declared.Own.{Own}
use Rattle.rows.specs.declared.Carried.{Carried}
use Rattle.model.specs.Basics.{find}
use Rattle.model.specs.Custody.{carried_of_tag}
use Rattle.model.specs.Exchange.{Envelope, own_envelope_of, carried_envelope_of, not_for, envelopes, envelope_of_tag, no_own, no_carried}
use Rattle.model.proofs.SearchLaws.{find_at, find_past, found_in, found_behind}
use Rattle.holdings.specs.Searches.{for_others}

module _ (own : List Own) (carried : List Carried) (peer : ContactId) (tag : List ℕ) where
  abbrev tail : List Envelope
  tail = map carried_envelope_of carried

  pub own_found : (i : ℕ) → Some i ≡ position (for_others peer tag) own
      → find (envelope_of_tag tag) (envelopes own carried peer) ≡ Some (own_envelope_of (get_or own i no_own))
  unfolding envelopes own_envelope_of
  own_found i e = find_at own_envelope_of (envelope_of_tag tag) (not_for peer) tail no_own own i (sym e)

  module _ (n : None ≡ position (for_others peer tag) own) where
    past : find (envelope_of_tag tag) (envelopes own carried peer) ≡ find (envelope_of_tag tag) tail
    unfolding envelopes own_envelope_of
    past = find_past own_envelope_of (envelope_of_tag tag) (not_for peer) tail own 0 (sym n)

    pub carried_found : (i : ℕ) → Some i ≡ position (carried_of_tag tag) carried
        → find (envelope_of_tag tag) (envelopes own carried peer) ≡ Some (carried_envelope_of (get_or carried i no_carried))
    unfolding carried_envelope_of
    carried_found i e =
        past ∙ ap (find (envelope_of_tag tag)) (sym (append-nil tail)) ∙ found_in carried_envelope_of (envelope_of_tag tag) [] carried no_carried i e

    pub none_found : None ≡ position (carried_of_tag tag) carried → find (envelope_of_tag tag) (envelopes own carried peer) ≡ None
    unfolding carried_envelope_of find
    none_found e =
        past ∙ ap (find (envelope_of_tag tag)) (sym (append-nil tail)) ∙ found_behind carried_envelope_of (envelope_of_tag tag) [] carried e
