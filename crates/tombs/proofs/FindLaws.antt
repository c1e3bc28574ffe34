-- Laws of what a tomb finds.
-- Assumes nothing.
use Rattle.std.proofs.Common.{◌≡◌, ℕ, ◌*◌, ◌<◌, Bool, true, false, cond, List, length, get_or, sym, refl, ap, ◌∙◌, Option, Some, None}
use Rattle.octets.specs.Bytes.{part}
use Rattle.table.specs.Lists.{position}
use Rattle.table.specs.Rows.{held}
use Rattle.table.specs.declared.lent.Table.{Table}
use Rattle.table.specs.Tables.{rows_in}
use Rattle.table.proofs.TableLaws.{get_d_table}
use Rattle.courier.specs.Tags.{commitment_of, tombstone_matches}
use Rattle.rows.specs.declared.Own.{Own}
use Rattle.rows.specs.declared.Carried.{Carried}
use Rattle.rows.specs.Rows.{own_width, own_codec, own_of, carried_width, carried_codec, carried_of}
use Rattle.model.specs.Basics.{match_found}
use Rattle.model.specs.Custody.{own_of_tag, carried_of_tag}
use Rattle.model.specs.Exchange.{no_carried, no_own}
use Rattle.model.specs.Tombs as model
use Rattle.model.specs.Tombs.{meets}
use Rattle.holdings.proofs.SearchLaws.{found_inside}
use Rattle.tombs.specs.declared.Found.TheVariants as found
use Rattle.tombs.specs.Tombs.{Finds}

-- ---- what a tomb finds

module _ (own : Table own_width) (carried : Table carried_width) (tag secret : List ℕ) where
  abbrev To : List Own
  To = rows_in own_codec own

  abbrev Tc : List Carried
  Tc = rows_in carried_codec carried

  abbrev in_own : Option ℕ → model.Met
  in_own f = match_found f (λ i. cond (tombstone_matches (commitment_of (get_or To i no_own).s) secret) (model.own_at i) model.wrong) model.unknown

  abbrev in_carried : Option ℕ → Option ℕ → model.Met
  in_carried f g = match_found f (λ i. cond (tombstone_matches (get_or Tc i no_carried).c secret) (model.carried_at i) model.wrong) (in_own g)

  met_by : {f g : Option ℕ} → f ≡ position (carried_of_tag tag) Tc → g ≡ position (own_of_tag tag) To → in_carried f g ≡ meets To Tc tag secret
  unfolding meets
  met_by e q = λ j. in_carried (e j) (q j)

  module _ {i : ℕ} (e : Some i ≡ position (carried_of_tag tag) Tc) where
    carried_inside : i < held (length carried.area.now) 57 carried.count
    carried_inside = found_inside carried_codec carried.count carried.area.now (carried_of_tag tag) no_carried e

    module _ {row : Carried} (er : row ≡ carried_of (part carried.area.now (i * 57) 57)) where
      carried_by : {b : Bool} → b ≡ tombstone_matches row.c secret → cond b (model.carried_at i) model.wrong ≡ meets To Tc tag secret
      carried_by q =
          ap (λ (x : Bool). cond x (model.carried_at i) model.wrong)
          (q ∙ ap (λ (r : Carried). tombstone_matches r.c secret) (er ∙ sym (get_d_table carried_codec carried.count carried.area.now i no_carried carried_inside))) ∙ met_by e refl

      pub finds_carried : true ≡ tombstone_matches row.c secret → Finds own carried tag secret (found.CarriedAt i)
      finds_carried q = record { is = carried_by q; inside = carried_inside }

      pub finds_wrong : false ≡ tombstone_matches row.c secret → Finds own carried tag secret found.WrongSecret
      finds_wrong q = record { is = carried_by q; inside = tt }

  module _ (n : None ≡ position (carried_of_tag tag) Tc) where
    pub finds_unknown : None ≡ position (own_of_tag tag) To → Finds own carried tag secret found.UnknownTag
    finds_unknown e = record { is = met_by n e; inside = tt }

    module _ {i : ℕ} (e : Some i ≡ position (own_of_tag tag) To) where
      own_inside : i < held (length own.area.now) 54 own.count
      own_inside = found_inside own_codec own.count own.area.now (own_of_tag tag) no_own e

      module _ {row : Own} (er : row ≡ own_of (part own.area.now (i * 54) 54)) {m : List ℕ} (em : m ≡ commitment_of row.s) where
        own_by : {b : Bool} → b ≡ tombstone_matches m secret → cond b (model.own_at i) model.wrong ≡ meets To Tc tag secret
        own_by q =
            ap (λ (x : Bool). cond x (model.own_at i) model.wrong)
            (q ∙ ap (λ (x : List ℕ). tombstone_matches x secret) em ∙ ap (λ (r : Own). tombstone_matches (commitment_of r.s) secret) (er ∙ sym (get_d_table own_codec own.count own.area.now i no_own own_inside))) ∙ met_by n e

        pub finds_own : true ≡ tombstone_matches m secret → Finds own carried tag secret (found.OwnAt i)
        finds_own q = record { is = own_by q; inside = own_inside }

        pub finds_other : false ≡ tombstone_matches m secret → Finds own carried tag secret found.WrongSecret
        finds_other q = record { is = own_by q; inside = tt }
