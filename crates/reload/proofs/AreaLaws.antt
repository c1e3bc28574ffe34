-- The theorem about saving and loading on fresh areas.
-- Assumes nothing.
use Rattle.std.proofs.Common.{◌≡◌, ℕ, ◌^◌, ◌<◌, List, [], ◌∷◌, map, sym, refl, ap, ◌∙◌, subst, arith}
use Rattle.octets.specs.Bytes.{Bytes}
use Rattle.table.specs.Lists.{All}
use Rattle.table.specs.Lists as lists
use Rattle.rows.specs.declared.Device.{Device}
use Rattle.rows.specs.Device.{fresh_device}
use Rattle.model.specs.State.{State, Change, apply}
use Rattle.model.specs.Step.{Post}
use Rattle.model.specs.Areas.{PostAreas, view, view_session, view_post, store, Fresh}
use Rattle.model.specs.Good.{Sized, Good}
use Rattle.model.proofs.StoreLaws.{sized_store, view_store}
use Rattle.model.proofs.RunLaws.{GoodPost, after_areas_lem, good_after, fresh_post, fresh_view, fresh_good}
use Rattle.history.specs.History.{Empty}
use Rattle.history.proofs.HistoryLaws.{fresh_empty}
use Rattle.load.specs.Load.{load_step}
use Rattle.reload.specs.Doings.{Doing, call, load, ProperDoing, after_load, after_doing, run_doings, after_load_areas, after_doing_areas, run_doings_areas}
use Rattle.reload.specs.SavedHistory.{ReadBackHistory, SavedOnAreas}
use Rattle.reload.proofs.KeepLaws.{good_load}
use Rattle.reload.proofs.DoingLaws.{saved_history, read_back_history, screen_history}

-- ---- a load on areas

module _ (p : PostAreas) (file : List ℕ) (w : Bytes file) (g : GoodPost p) where
  abbrev change : Change
  change = (load_step (view p.areas) file).change

  kept : Good (apply (view p.areas) change)
  kept = good_load (view p.areas) file w g.good

  viewed : view (store p.areas change) ≡ apply (view p.areas) change
  viewed = view_store p.areas change g.sized kept

  load_areas : view_post (after_load_areas p file) ≡ after_load (view_post p) file
  unfolding view_post after_load_areas after_load
  load_areas = ap (λ (s : State). record { state = s; sessions = map view_session p.sessions }) viewed

  good_after_load : GoodPost (after_load_areas p file)
  unfolding after_load_areas
  good_after_load = record { sized = sized_store p.areas change g.sized kept; good = subst Good (sym viewed) kept; sessions = g.sessions }

-- ---- a list of calls and loads

doing_areas : (p : PostAreas) (d : Doing) → ProperDoing d → GoodPost p → GoodPost (after_doing_areas p d) × (view_post (after_doing_areas p d) ≡ after_doing (view_post p) d)
unfolding after_doing_areas after_doing
doing_areas p (call l) h g = (good_after p l g h, after_areas_lem p l g h)
doing_areas p (load file) h g = (good_after_load p file h g, load_areas p file h g)

run_areas_lem : (ds : List Doing) (p : PostAreas) → GoodPost p → All ProperDoing ds → view_post (run_doings_areas p ds) ≡ run_doings (view_post p) ds
unfolding run_doings_areas run_doings
run_areas_lem [] p g a = refl
run_areas_lem (d ∷ ds) p g (lists.more h a) =
    let q = doing_areas p d h g in run_areas_lem ds (after_doing_areas p d) q.0 a ∙ ap (λ (x : Post). run_doings x ds) q.1

-- ---- from fresh areas

-- Of every list of calls and loads on fresh areas: each is of the definitions that its contract cites.
module _ (p : PostAreas) (fresh : Fresh p) (sized : Sized p.areas) (copies : p.areas.device.courier.copies < 2 ^ 8) where
  pub saved_history_areas : (ds : List Doing) → All ProperDoing ds → SavedOnAreas p ds
  saved_history_areas ds a =
      let seen : view_post p ≡ fresh_post p = fresh_view p fresh in
      let empty : Empty (view_post p) = subst Empty (sym seen) (fresh_empty p) in
      let few : (view_post p).state.courier.copies < 2 ^ 8 = subst (λ (q : Post). q.state.courier.copies < 2 ^ 8) (sym seen) copies in
      record {
        seen = run_areas_lem ds p (fresh_good p fresh sized copies) a;
        history = saved_history (view_post p) empty few ds a;
        read_back = λ t. read_back_history (view_post p) empty few (subst (λ (q : Post). 0 < q.state.courier.lifetime_min) (sym seen) t) ds a;
        screen = screen_history (view_post p) empty few ds a;
      }

-- On fresh areas with the device that `Device::fresh` gives nothing is asked of the setting either.
pub read_back_fresh : (p : PostAreas) → Fresh p → Sized p.areas → p.areas.device ≡ fresh_device → (ds : List Doing) → All ProperDoing ds → ReadBackHistory (view_post p) ds
read_back_fresh p fresh sized e ds a =
    let few : p.areas.device.courier.copies < 2 ^ 8 = subst (λ (d : Device). d.courier.copies < 2 ^ 8) (sym e) (omega arith) in
    let lasts : 0 < p.areas.device.courier.lifetime_min = subst (λ (d : Device). 0 < d.courier.lifetime_min) (sym e) (omega arith) in
    (saved_history_areas p fresh sized few ds a).read_back lasts
