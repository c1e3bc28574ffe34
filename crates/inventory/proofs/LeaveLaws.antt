-- What the call leaves behind the exchange that it is lent.
-- Assumes nothing.
use Rattle.std.proofs.Common.{◌≡◌, ℕ, Bool, true, false, cond, eqb, List, length, refl, ap, length-append, Result}
use Rattle.courier_core.specs.declared.ContactId.{ContactId}
use Rattle.courier_core.specs.declared.Refusal.{Refusal}
use Rattle.rows.specs.declared.Device.{Device}
use Rattle.rows.specs.declared.Exchange.{Exchange}
use Rattle.rows.specs.declared.Reachable.{Reachable}
use Rattle.model.specs.State.{State}
use Rattle.model.specs.Calls.{Result as Outcome, inventory_received}
use Rattle.model.specs.Window.{window_rows, prefix_rows}
use Rattle.model.specs.Exchange.{answer_inventory, list_more, too_many, receive_inventory}
use Rattle.model.specs.Step.{perform}
use Rattle.model.specs.Areas.{Areas, SessionAreas, AnswerAreas, view, store_session}
use Rattle.model.specs.Lent.{Does}
use Rattle.holdings.specs.Lends.{exchange_of, Lends}
use Rattle.model.proofs.RefusalLaws.{by_test}
use Rattle.holdings.proofs.LendLaws.{Leaves, lends}
use Rattle.inventory.specs.declared.Said.{Said}
use Rattle.inventory.specs.Inventory.{received_says, received_in, inventory_leaves}

-- ---- what a result's change makes of the exchange that is lent

module _ (e : SessionAreas) (s : State) (window : List Reachable) (peer : ContactId) (listed : List (List ℕ)) where
  abbrev Listing-leaves : Outcome → Type 0
  Listing-leaves o = Leaves e (inventory_leaves peer listed e.exchange s) o

  -- the empty list, which ends the inventory
  answer_leaves : eqb (length listed) 0 ≡ true → Listing-leaves (answer_inventory s window peer)
  unfolding answer_inventory inventory_leaves store_session
  answer_leaves q = rw q refl

  -- any other list
  more_leaves : eqb (length listed) 0 ≡ false → Listing-leaves (list_more s.session.exchange listed)
  unfolding list_more inventory_leaves store_session
  more_leaves q = rw q (ap (λ (n : ℕ). exchange_of e.exchange.peer e.exchange.complete n e.exchange.offered) (length-append s.session.exchange.listed listed))

  list_leaves : (b : Bool) → eqb (length listed) 0 ≡ b → Listing-leaves (cond b (answer_inventory s window peer) (list_more s.session.exchange listed))
  list_leaves true q = answer_leaves q
  list_leaves false q = more_leaves q

  inventory_leaves_lem : Listing-leaves (receive_inventory s window peer listed)
  unfolding receive_inventory store_session
  inventory_leaves_lem = by_test Listing-leaves (too_many s.session.exchange (length listed)) refl (list_leaves (eqb (length listed) 0) refl)

-- ---- the call

pub inventory_lends : {d : Device} {contacts own carried tombstones bad : List ℕ} {e x : Exchange} {prefixes offers prefixes' offers' : List ℕ}
    {replies : ℕ} {window : List ℕ} {peer : ContactId} {listed : List ℕ} {r : Result Said Refusal} {lent back : AnswerAreas}
    → Does received_says (inventory_received replies window peer listed) r
    (received_in d contacts own carried tombstones bad e prefixes offers) (received_in d contacts own carried tombstones bad x prefixes' offers') lent back
    → Lends received_says (inventory_received replies window peer listed) r
    (received_in d contacts own carried tombstones bad e prefixes offers) (received_in d contacts own carried tombstones bad x prefixes' offers') lent back
    (inventory_leaves peer (prefix_rows listed) e) e x
unfolding perform
inventory_lends {d = d} {contacts = contacts} {own = own} {carried = carried} {tombstones = tombstones} {bad = bad} {e = e} {prefixes = prefixes} {offers = offers} {window = window} {peer = peer} {listed = listed} =
    let before : Areas → Areas = received_in d contacts own carried tombstones bad e prefixes offers in
    lends (λ a. refl) (λ a. refl) (λ a. inventory_leaves_lem (before a).session (view (before a)) (window_rows window) peer (prefix_rows listed))
