-- The life of a carried row: the call that gives it, what calls take off it, and how it leaves. It is read off calls, answers and rows.
-- Assumes nothing.
use Rattle.std.specs.Prelude.{◌≡◌, ℕ, ◌≤◌, false, cond, ◌&&◌, List, [], ◌∷◌, slice_index_or}
use Rattle.courier_core.specs.declared.ContactId.{ContactId}
use Rattle.courier_core.specs.declared.Verification.{Verification}
use Rattle.table.specs.Lists.{position}
use Rattle.courier.specs.declared.Custody.{Custody}
use Rattle.courier.specs.Tags.{commitment_of}
use Rattle.rows.specs.declared.Carried.{Carried}
use Rattle.rows.specs.declared.Offer.{Offer}
use Rattle.model.specs.Basics.{match_found}
use Rattle.model.specs.State.{State}
use Rattle.model.specs.Calls
use Rattle.model.specs.Calls.{Call, Result, is_refused}
use Rattle.model.specs.Contacts.{minute_of}
use Rattle.model.specs.Cells.{ciphertext}
use Rattle.model.specs.Custody.{carried_of_tag, is_accepted}
use Rattle.model.specs.Exchange.{offer_of_tag, no_offer, lowered}
use Rattle.model.specs.Step.{Post, Lent, state_for, answer_to, after}
use Rattle.history.specs.Order.{◌∈◌}

-- ---- calls by what demand 3 asks of them

pub data Role : Type 0 where
  code_for : (tag : List ℕ) → Custody → Role  -- a custody code
  contact_says : (id : ContactId) → Verification → Role  -- a contact call
  opens_exchange : Role  -- a fresh exchange
  lists_prefixes : (listed : List ℕ) → Role  -- an inventory received
  other : Role

abbrev pub role : Call → Role
role (Calls.contact id v) = contact_says id v
role (Calls.setting enabled copies lifetime) = other
role (Calls.clock seconds) = other
role (Calls.open_exchange peer) = opens_exchange
role (Calls.envelope replies actions window peer head ct) = other
role (Calls.inventory_received replies window peer listed) = lists_prefixes listed
role (Calls.fetch replies peer tag) = other
role (Calls.custody_answer actions peer tag code) = code_for tag code
role (Calls.tomb actions peer tag secret) = other
role (Calls.opened replies actions peer tag secret expiry) = other
role (Calls.failed peer tag) = other
role (Calls.stored_tombstone actions tag secret expiry) = other
role (Calls.add_own id msgno key dir generation idx secret ct) = other
role (Calls.maintenance actions) = other
role (Calls.inventory_of_ours prefixes peer) = other
role (Calls.row_blob blob slot) = other
role (Calls.save file) = other
role (Calls.page area number) = other

-- ---- copies

-- the copies of a tag that an exchange has offered, and for which no code has come yet
abbrev pub offered_copies : List Offer → List ℕ → ℕ
offered_copies os tag = match_found (position (offer_of_tag tag) os) (λ i. (slice_index_or os i no_offer).copies) 0

-- Only Accepted takes the handed copies off, and of rows with one tag the source takes the carried one.
abbrev pub handed_by : State → Result → Role → Carried → ℕ
handed_by s o (code_for tag code) r =
    cond (is_refused o.answer) 0 (cond (is_accepted code && carried_of_tag tag r) (offered_copies s.session.exchange.offered tag) 0)
handed_by s o (contact_says id v) r = 0
handed_by s o opens_exchange r = 0
handed_by s o (lists_prefixes listed) r = 0
handed_by s o other r = 0

-- the copies that a call takes off a carried row
abbrev pub handed : Post → Lent → Carried → ℕ
handed p l r = handed_by (state_for p l) (answer_to p l) (role l.call) r

-- one row, seen earlier and later: its copies have not risen and its other fields are the same
pub record Later (r e : Carried) : Type 0 where
  pub slot : e.slot ≡ r.slot
  pub depositor : e.depositor ≡ r.depositor
  pub tag : e.tag ≡ r.tag
  pub c : e.c ≡ r.c
  pub expiry : e.expiry_min ≡ r.expiry_min
  pub len : e.len ≡ r.len
  pub cell : e.cell ≡ r.cell
  pub copies : e.copies ≤ r.copies

-- ---- leaving

-- by maintenance at or after its expiry, or by a tomb whose secret hashes to its commitment
pub data Leaves (s : State) (o : Result) (r : Carried) : Call → Type 0 where
  expires : (actions : ℕ) → is_refused o.answer ≡ false → r.expiry_min ≤ minute_of s → Leaves s o r (Calls.maintenance actions)
  ended : (actions : ℕ) (peer : ContactId) (tag secret : List ℕ) → is_refused o.answer ≡ false → tag ≡ r.tag → commitment_of secret ≡ r.c
      → Leaves s o r (Calls.tomb actions peer tag secret)

-- ---- a life

-- the post has the row, and the row's ciphertext is ct
pub record Holds (p : Post) (r : Carried) (ct : List ℕ) : Type 0 where
  pub row : r ∈ p.state.carried
  pub bytes : ciphertext p.state.carried_cells r.cell r.len ≡ ct

-- A row with ciphertext ct is held before and after each call of a list: its copies fall by what the call hands over, stopping at 0, and
-- nothing else of it changes. It is r before the list, and e after it.
pub data Lives (ct : List ℕ) : Post → Carried → List Lent → Carried → Type 0 where
  ends : {p : Post} {e : Carried} → Holds p e ct → Lives ct p e [] e
  goes_on : {p : Post} {l : Lent} {ls : List Lent} {r e : Carried} → Holds p r ct → Lives ct (after p l) (lowered (handed p l r) r) ls e
      → Lives ct p r (l ∷ ls) e
