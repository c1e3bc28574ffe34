-- The areas that a call is lent, set into areas that are anything otherwise: what a call's contract speaks of.
-- Assumes nothing.
use Rattle.std.specs.Prelude
use Rattle.std.specs.Prelude.{ℕ, List, []}
use Rattle.rows.specs.declared.Device.{Device}
use Rattle.rows.specs.declared.Exchange.{Exchange}
use Rattle.courier_core.specs.declared.Refusal.{Refusal}
use Rattle.model.specs.Calls.{Call, Result}
use Rattle.model.specs.Step.{step}
use Rattle.model.specs.Areas.{Areas, SessionAreas, AnswerAreas, Written, view, with_session_areas}

-- a call that is lent no answer area
abbrev pub no_answers : AnswerAreas
no_answers = record { replies = []; actions = []; bytes = [] }

-- a call that is lent replies, actions or both; or prefixes, a blob, a file or a page
abbrev pub replies_lent : List ℕ → AnswerAreas
replies_lent area = record { replies = area; actions = []; bytes = [] }

abbrev pub actions_lent : List ℕ → AnswerAreas
actions_lent area = record { replies = []; actions = area; bytes = [] }

abbrev pub answers_lent : (replies actions : List ℕ) → AnswerAreas
answers_lent replies actions = record { replies = replies; actions = actions; bytes = [] }

abbrev pub bytes_lent : List ℕ → AnswerAreas
bytes_lent area = record { replies = []; actions = []; bytes = area }

-- areas with one of their parts another
abbrev pub device_in : Device → Areas → Areas
device_in x a = record a { device = x }

abbrev pub contacts_in : List ℕ → Areas → Areas
contacts_in x a = record a { contacts = x }

abbrev pub own_in : List ℕ → Areas → Areas
own_in x a = record a { own = x }

abbrev pub carried_in : List ℕ → Areas → Areas
carried_in x a = record a { carried = x }

abbrev pub tombstones_in : List ℕ → Areas → Areas
tombstones_in x a = record a { tombstones = x }

abbrev pub bad_tags_in : List ℕ → Areas → Areas
bad_tags_in x a = record a { bad_tags = x }

abbrev pub own_cells_in : List ℕ → Areas → Areas
own_cells_in x a = record a { own_cells = x }

abbrev pub carried_cells_in : List ℕ → Areas → Areas
carried_cells_in x a = record a { carried_cells = x }

-- an exchange, its prefixes and its offers
abbrev pub exchange_in : Exchange → List ℕ → List ℕ → Areas → Areas
exchange_in e prefixes offers a = with_session_areas a (record { exchange = e; prefixes = prefixes; offers = offers })

-- all open exchanges, each with its areas
abbrev pub sessions_in : List SessionAreas → Areas → Areas
sessions_in es a = record a { sessions = es }

-- What the contract of every call says: of any areas, those that it is lent set into them, it answers and leaves what the model's step gives, and
-- the number of its refusal is the step's.
abbrev pub Does : {A : Type 0} → (Result → A) → Call → Prelude.Result A Refusal → (Areas → Areas) → (Areas → Areas) → AnswerAreas → AnswerAreas → Type 0
Does says call r before after lent back = (a : Areas) → Written says (step (view (before a)) call) r (before a) (after a) lent back
