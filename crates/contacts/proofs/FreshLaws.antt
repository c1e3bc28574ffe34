-- What `fresh_exchange` leaves behind the exchange that it is lent.
-- Assumes nothing.
use Rattle.std.proofs.Common.{ℕ, List, refl, Result}
use Rattle.courier_core.specs.declared.ContactId.{ContactId}
use Rattle.courier_core.specs.declared.Refusal.{Refusal}
use Rattle.rows.specs.declared.Device.{Device}
use Rattle.rows.specs.declared.Exchange.{Exchange}
use Rattle.model.specs.State.{State}
use Rattle.model.specs.Calls.{open_exchange}
use Rattle.model.specs.Contacts.{opened_for, open_exchanged}
use Rattle.model.specs.Step.{perform}
use Rattle.model.specs.Areas.{Areas, SessionAreas, view, store_session}
use Rattle.model.specs.Lent.{Does, no_answers}
use Rattle.holdings.specs.Lends.{Lends}
use Rattle.holdings.proofs.LendLaws.{Leaves, lends}
use Rattle.contacts.specs.Answers.{said_of}
use Rattle.contacts.specs.Fresh.{fresh_leaves, fresh_in}

fresh_leaves_lem : (e : SessionAreas) (s : State) (peer : ContactId) → Leaves e (fresh_leaves peer s) (open_exchanged peer)
unfolding open_exchanged opened_for fresh_leaves store_session
fresh_leaves_lem e s peer = refl

-- the call that opens an exchange
pub fresh_lends : {d : Device} {contacts : List ℕ} {e x : Exchange} {prefixes offers : List ℕ} {peer : ContactId} {r : Result Unit Refusal}
    → Does said_of (open_exchange peer) r (fresh_in d contacts e prefixes offers) (fresh_in d contacts x prefixes offers) no_answers no_answers
    → Lends said_of (open_exchange peer) r (fresh_in d contacts e prefixes offers) (fresh_in d contacts x prefixes offers) no_answers no_answers (fresh_leaves peer) e x
unfolding perform
fresh_lends {d = d} {contacts = contacts} {e = e} {x = x} {prefixes = prefixes} {offers = offers} {peer = peer} =
    let before : Areas → Areas = fresh_in d contacts e prefixes offers in
    lends (λ a. refl) (λ a. refl) (λ a. fresh_leaves_lem (before a).session (view (before a)) peer)
