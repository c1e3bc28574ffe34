-- Laws of copies that are handed over: the row that they are taken off, and its action.
-- Assumes nothing.
use Rattle.std.proofs.Common.{◌≡◌, ℕ, ◌*◌, ◌<◌, List, [], ◌∷◌, length, get_or, sym, refl, ap, ◌∙◌, subst, Option, Some, None}
use Rattle.octets.specs.Bytes.{part, splice}
use Rattle.table.specs.Lists.{position, replace_at}
use Rattle.table.specs.Rows.{held, join, written}
use Rattle.table.specs.Codec.{Codec, table_of, with_table, TableNow}
use Rattle.table.proofs.TableLaws.{get_d_table, with_one}
use Rattle.rows.specs.declared.Device.{Device}
use Rattle.rows.specs.declared.Own.{Own}
use Rattle.rows.specs.declared.Carried.{Carried}
use Rattle.rows.specs.declared.Action.{Action}
use Rattle.rows.specs.Rows.{own_codec, carried_codec, action_codec, action_bytes}
use Rattle.model.specs.Basics.{match_found}
use Rattle.model.specs.State.{Change, nothing, own_now, carried_now}
use Rattle.model.specs.Custody.{own_of_tag, carried_of_tag}
use Rattle.model.specs.Exchange.{no_carried, no_own, lowered, own_lowered, handed_over, handed_actions}
use Rattle.model.specs.Areas.{store_device, bytes_after}
use Rattle.handover.specs.Handing.{TakenOff, put_of, put_of_own, TakenOffCarried, TakenOffOwn, device_with, HandedAs}

-- the row that is read is the one at i, and so is the one that is written in its place
pub takes_off : {A : Type 0} (c : Codec A) (none : A) (low : A → A) (act : A → Action) (count i : ℕ) (a ac : List ℕ) (m : ℕ) (x y : List ℕ)
    → i < held (length a) c.width count → {row new : A} → row ≡ c.decode (part a (i * c.width) c.width) → new ≡ low row
    → y ≡ splice ac 0 (action_bytes (act row)) → TableNow c a (replace_at i new (table_of c count a)) m x → TakenOff c none low act count i a ac m x y
takes_off {A} c none low act count i a ac m x y inside {row} er en ey N =
    let g : row ≡ get_or (table_of c count a) i none = er ∙ sym (get_d_table c count a i none inside) in
    record {
      rows = subst (λ (r : A). TableNow c a (replace_at i r (table_of c count a)) m x) (en ∙ ap low g) N;
      action = ey ∙ ap (λ (r : A). splice ac 0 (action_bytes (act r))) g;
    }

module _ (d : Device) (tag : List ℕ) (n : ℕ) (own carried ac : List ℕ) where
  abbrev To : List Own
  To = table_of own_codec d.own own

  abbrev Tc : List Carried
  Tc = table_of carried_codec d.carried carried

  -- by the places of the carried row and of the own row
  abbrev pub change_by : Option ℕ → Option ℕ → Change
  change_by f g =
      match_found f (λ i. carried_now (replace_at i (lowered n (get_or Tc i no_carried)) Tc)) (match_found g (λ i. own_now (replace_at i (own_lowered n (get_or To i no_own)) To)) nothing)

  abbrev actions_by : Option ℕ → Option ℕ → List Action
  actions_by f g = match_found f (λ i. put_of (get_or Tc i no_carried) ∷ []) (match_found g (λ i. put_of_own (get_or To i no_own) ∷ []) [])

  handed_as : (f g : Option ℕ) → f ≡ position (carried_of_tag tag) Tc → g ≡ position (own_of_tag tag) To → {r : Device} {k : ℕ} {x y z : List ℕ}
      → r ≡ store_device d (change_by f g) → x ≡ bytes_after own_codec own (change_by f g).queue.own → y ≡ bytes_after carried_codec carried (change_by f g).held.carried
      → z ≡ with_table action_codec ac (actions_by f g) → k ≡ length (actions_by f g) → HandedAs d tag n own carried ac r k x y z
  unfolding handed_over handed_actions
  handed_as f g e q dr dx dy dz dk =
      let c : change_by f g ≡ handed_over To Tc tag n = λ j. change_by (e j) (q j) in
      let l : actions_by f g ≡ handed_actions To Tc tag = λ j. actions_by (e j) (q j) in
      record {
        device = dr ∙ ap (store_device d) c;
        owned = dx ∙ ap (λ (u : Change). bytes_after own_codec own u.queue.own) c;
        held = dy ∙ ap (λ (u : Change). bytes_after carried_codec carried u.held.carried) c;
        actions = dz ∙ ap (with_table action_codec ac) l;
        count = dk ∙ ap length l;
      }

  pub hands_carried : {i m : ℕ} {r : Device} {y z : List ℕ} → Some i ≡ position (carried_of_tag tag) Tc → TakenOffCarried n d.carried i carried ac m y z
      → r ≡ device_with d.own m d → HandedAs d tag n own carried ac r 1 own y z
  unfolding store_device
  hands_carried {i} e T q =
      handed_as (Some i) _ e refl (q ∙ ap (λ (k : ℕ). device_with d.own k d) T.rows.count) refl T.rows.area
      (with_one action_codec ac _ _ (put_of (get_or Tc i no_carried)) refl T.action) refl

  module _ (p : None ≡ position (carried_of_tag tag) Tc) where
    pub hands_own : {i m : ℕ} {r : Device} {x z : List ℕ} → Some i ≡ position (own_of_tag tag) To → TakenOffOwn n d.own i own ac m x z
        → r ≡ device_with m d.carried d → HandedAs d tag n own carried ac r 1 x carried z
    unfolding store_device
    hands_own {i} e T q =
        handed_as None (Some i) p e (q ∙ ap (λ (k : ℕ). device_with k d.carried d) T.rows.count) T.rows.area refl
        (with_one action_codec ac _ _ (put_of_own (get_or To i no_own)) refl T.action) refl

    pub hands_nothing : None ≡ position (own_of_tag tag) To → HandedAs d tag n own carried ac d 0 own carried ac
    unfolding store_device with_table written join
    hands_nothing e = handed_as None None p e refl refl refl refl refl
