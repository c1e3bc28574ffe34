-- Who is verified, read off the list of calls; and what a contact is owed whose envelope reaches the test Full.
-- Assumes nothing.
use Rattle.std.specs.Prelude.{◌≡◌, ℕ, ◌<◌, ◌≤◌, Bool, true, false, cond, not, ◌&&◌, ◌||◌, List, [], ◌∷◌, ◌≢◌, nat_lt}
use Rattle.octets.specs.Bytes.{same_bytes}
use Rattle.courier_core.specs.declared.ContactId.{ContactId}
use Rattle.courier_core.specs.declared.Verification.{Verification}
use Rattle.courier_core.specs.declared.Verification.TheVariants as verification
use Rattle.courier_core.specs.declared.Refusal.TheVariants as refusal
use Rattle.table.specs.Lists.{any, count_by}
use Rattle.courier.specs.declared.Header.{Header}
use Rattle.courier.specs.declared.Custody.TheVariants as custody
use Rattle.courier.specs.Courier.{envelope_valid}
use Rattle.rows.specs.declared.Contact.{Contact}
use Rattle.rows.specs.declared.Reachable.{Reachable}
use Rattle.model.specs.Basics.{same_contact}
use Rattle.model.specs.State.{State, nothing}
use Rattle.model.specs.Calls.{Result, result, only, refused, done, short_replies, short_actions, put_courier, custody_reply}
use Rattle.model.specs.Contacts.{minute_of, known}
use Rattle.model.specs.Window.{window_rows, wrong_window, strangers}
use Rattle.model.specs.Custody.{deposited, duplicate}
use Rattle.model.specs.Step.{Lent}
use Rattle.history.specs.Life.{Role, code_for, contact_says, opens_exchange, lists_prefixes, other, role}
use Rattle.history.specs.Limits.{max_per_verified, max_per_depositor, u64_max}

-- ---- who is verified

-- does a contact call say 1
abbrev pub says1 : Verification → Bool
says1 verification.Unverified = false
says1 verification.Verified = true
says1 verification.Compromised = false

-- is a contact verified after a call, if v says whether it was before
abbrev pub said_by : ContactId → Bool → Role → Bool
said_by id v (code_for tag code) = v
said_by id v (contact_says who w) = cond (same_contact who id) (says1 w) v
said_by id v opens_exchange = v
said_by id v (lists_prefixes listed) = v
said_by id v other = v

-- does the newest contact call on it say 1; v if there is none
abbrev pub newest_says : ContactId → Bool → List Lent → Bool
newest_says id v [] = v
newest_says id v (l ∷ ls) = newest_says id (said_by id v (role l.call)) ls

abbrev pub verified_after : ContactId → List Lent → Bool
verified_after id ls = newest_says id false ls

-- did a contact call on it ever say 1
abbrev pub ever_verified : ContactId → List Lent → Bool
ever_verified id ls = any (λ (l : Lent). said_by id false (role l.call)) ls

-- ---- the share

-- An envelope call reaches the test Full if 1, 2 and 12 don't hold, its tag is in no window row, and the source's tests Off, Invalid,
-- Duplicate don't apply.
pub record Reaches (s : State) (replies actions : ℕ) (window : List ℕ) (peer : ContactId) (head : Header) (len : ℕ) : Type 0 where
  pub not1 : (short_replies replies || short_actions s actions) ≡ false
  pub not12 : wrong_window window ≡ false
  pub not2 : (not (known s.contacts peer) || strangers s.contacts (window_rows window)) ≡ false
  pub not_ours : any (λ (r : Reachable). same_bytes r.tag head.tag) (window_rows window) ≡ false
  pub not_off : s.courier.enabled ≡ true
  pub not_invalid : envelope_valid len head.copies head.expiry_min (minute_of s) ≡ true
  pub not_duplicate : duplicate s head.tag ≡ false

-- how many contacts other than this one have carried rows
abbrev pub others_with_rows : State → ContactId → ℕ
others_with_rows s id = count_by (λ (q : Contact). not (same_contact q.id id) && nat_lt 0 (deposited s.carried q.id)) s.contacts

-- max_per_verified if the contact is verified, max_per_depositor otherwise
abbrev pub quota_of : Bool → ℕ
quota_of verified = cond verified max_per_verified max_per_depositor

-- What P is owed there: Full exactly if it has its quota or more, and else Accepted, or refused by 6 if slot numbers have run out.
pub record Owed (s : State) (peer : ContactId) (head : Header) (quota : ℕ) (o : Result) : Type 0 where
  pub full : quota ≤ deposited s.carried peer → o ≡ result done (custody_reply head.tag custody.Full ∷ []) [] nothing
  pub no_slot : deposited s.carried peer < quota → s.next_slot ≡ u64_max → o ≡ only (refused refusal.NoSlot)
  pub accepted : deposited s.carried peer < quota → (s.next_slot ≢ u64_max)
      → (o.answer ≡ done) × (o.replies ≡ custody_reply head.tag custody.Accepted ∷ []) × (o.actions ≡ put_courier s.next_slot ∷ [])
