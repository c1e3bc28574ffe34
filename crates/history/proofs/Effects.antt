-- What a call does to the tables: six things to held rows, five to own rows, two to contacts.
-- Assumes nothing.
use Rattle.std.proofs.Common.{◌≡◌, ℕ, ◌+◌, ◌*◌, ◌<◌, ◌≤◌, true, false, not, ◌&&◌, leb, List, [], ◌∷◌, ◌++◌, length, get_or, Some}
use Rattle.octets.specs.Bytes.{splice}
use Rattle.courier_core.specs.declared.ContactId.{ContactId}
use Rattle.courier_core.specs.declared.Verification.{Verification}
use Rattle.table.specs.Lists.{All, any, filter, position, remove_at, replace_at}
use Rattle.courier.specs.declared.Header.{Header}
use Rattle.courier.specs.declared.Custody.TheVariants as custody
use Rattle.courier.specs.Tags.{tombstone_matches}
use Rattle.state.specs.Sizes.{cell_size}
use Rattle.rows.specs.declared.Contact.{Contact}
use Rattle.rows.specs.declared.Own.{Own}
use Rattle.rows.specs.declared.Carried.{Carried}
use Rattle.rows.specs.declared.Tombstone.{Tombstone}
use Rattle.model.specs.State.{State, apply}
use Rattle.model.specs.Calls
use Rattle.model.specs.Calls.{Call, Result, is_refused}
use Rattle.model.specs.Contacts.{minute_of, end_of, known, is_verified, put_contact}
use Rattle.model.specs.Cells.{free_cell}
use Rattle.model.specs.Custody.{carried_of_tag, quota, deposited, carried_named, carried_cell, new_carried, answer_custody}
use Rattle.model.specs.Exchange.{no_carried, no_own, lowered, own_lowered}
use Rattle.model.specs.Tombs.{remaining, insert_by_slot, turned}
use Rattle.model.specs.Own.{is_message, own_named, insert_own}
use Rattle.model.specs.Maintenance.{carried_expired, tombstone_expired, maintain_own}
use Rattle.history.specs.Life.{Role, code_for, contact_says, opens_exchange, lists_prefixes, other, role, offered_copies, handed_by}
use Rattle.history.specs.Limits.{max_carried}

-- ---- held rows

-- no copies are taken off any row
abbrev pub Unhanded : State → Result → Role → Type 0
Unhanded s o ρ = All (λ (r : Carried). handed_by s o ρ r ≡ 0) s.carried

-- what the tests of an accepted envelope have shown
pub record Placed (s : State) (peer : ContactId) (head : Header) (len : ℕ) : Type 0 where
  pub peer_known : known s.contacts peer ≡ true
  pub new : any (carried_of_tag head.tag) s.carried ≡ false
  pub room : length s.carried < max_carried
  pub below : deposited s.carried peer < quota (is_verified s.contacts peer)
  pub small : len ≤ 2064
  pub cell : free_cell (length s.carried_cells) (carried_named s) ≡ Some (carried_cell s)

pub data HeldStep (s : State) (o : Result) : Call → List Carried → List Tombstone → ℕ → List ℕ → Type 0 where
  same : {c : Call} → Unhanded s o (role c) → HeldStep s o c s.carried s.tombstones s.next_slot s.carried_cells
  gave : (replies actions : ℕ) (window : List ℕ) (peer : ContactId) (head : Header) (ct : List ℕ) → Placed s peer head (length ct)
      → o ≡ answer_custody s peer head ct custody.Accepted
      → HeldStep s o (Calls.envelope replies actions window peer head ct) (s.carried ++ (new_carried s peer head (length ct) ∷ [])) s.tombstones
      (s.next_slot + 1) (splice s.carried_cells (carried_cell s * cell_size) ct)
  handed_on : (actions : ℕ) (peer : ContactId) (tag : List ℕ) (i : ℕ) → position (carried_of_tag tag) s.carried ≡ Some i
      → is_refused o.answer ≡ false
      → HeldStep s o (Calls.custody_answer actions peer tag custody.Accepted)
      (replace_at i (lowered (offered_copies s.session.exchange.offered tag) (get_or s.carried i no_carried)) s.carried)
      s.tombstones s.next_slot s.carried_cells
  stored : {c : Call} → Unhanded s o (role c) → (t : Tombstone) → t.slot ≡ s.next_slot
      → HeldStep s o c s.carried (remaining s.tombstones ++ (t ∷ [])) (s.next_slot + 1) s.carried_cells
  turns : (actions : ℕ) (peer : ContactId) (tag secret : List ℕ) (i : ℕ) → position (carried_of_tag tag) s.carried ≡ Some i
      → tombstone_matches (get_or s.carried i no_carried).c secret ≡ true → is_refused o.answer ≡ false
      → HeldStep s o (Calls.tomb actions peer tag secret) (remove_at i s.carried)
      (insert_by_slot (turned (get_or s.carried i no_carried) tag secret) (remaining s.tombstones)) s.next_slot s.carried_cells
  sweeps : (actions : ℕ) → is_refused o.answer ≡ false
      → HeldStep s o (Calls.maintenance actions) (filter (λ (r : Carried). not (carried_expired (minute_of s) r)) s.carried)
      (filter (λ (t : Tombstone). not (tombstone_expired (minute_of s) t)) s.tombstones) s.next_slot s.carried_cells

-- ---- own rows

pub record Made (s : State) (new : Own) : Type 0 where
  pub contact_known : known s.contacts new.contact ≡ true
  pub number_new : any (is_message new.contact new.msgno) s.own ≡ false
  pub small : new.len ≤ 2064
  pub cell : free_cell (length s.own_cells) (own_named s) ≡ Some new.cell

pub data OwnStep (s : State) : List Own → List ℕ → Type 0 where
  same : OwnStep s s.own s.own_cells
  lowers : (i n : ℕ) → i < length s.own → OwnStep s (replace_at i (own_lowered n (get_or s.own i no_own)) s.own) s.own_cells
  removes : (i : ℕ) → i < length s.own → OwnStep s (remove_at i s.own) s.own_cells
  makes : (new : Own) (ct : List ℕ) → Made s new → length ct ≡ new.len
      → OwnStep s (insert_own s.contacts new s.own) (splice s.own_cells (new.cell * cell_size) ct)
  maintains : OwnStep s (maintain_own (minute_of s) s.courier.copies (end_of s) s.own) s.own_cells

-- ---- contacts

abbrev pub Silent : Role → Type 0
Silent (code_for tag code) = Unit {0}
Silent (contact_says id v) = ⊥
Silent opens_exchange = Unit {0}
Silent (lists_prefixes listed) = Unit {0}
Silent other = Unit {0}

pub data ContactStep (s : State) : Role → List Contact → Type 0 where
  same : {ρ : Role} → Silent ρ → ContactStep s ρ s.contacts
  puts : (id : ContactId) (v : Verification) → (not (known s.contacts id) && leb 256 (length s.contacts)) ≡ false
      → ContactStep s (contact_says id v) (put_contact s.contacts id v)
  shut : (id : ContactId) (v : Verification) → known s.contacts id ≡ false → 256 ≤ length s.contacts → ContactStep s (contact_says id v) s.contacts

-- ---- a call

pub record Effect (s : State) (c : Call) (o : Result) : Type 0 where
  pub held : HeldStep s o c (apply s o.change).carried (apply s o.change).tombstones (apply s o.change).next_slot (apply s o.change).carried_cells
  pub own : OwnStep s (apply s o.change).own (apply s o.change).own_cells
  pub contacts : ContactStep s (role c) (apply s o.change).contacts
