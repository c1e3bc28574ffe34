-- The clock in minutes, contacts, and the calls that set them: contact, setting, clock, fresh exchange.
-- Assumes nothing.
use Rattle.std.specs.Prelude.{ℕ, ◌+◌, ◌/◌, min, Bool, false, not, ◌&&◌, List, [], ◌∷◌, ◌++◌, length, nat_eq, nat_le, slice_index_or, Option, Some, None}
use Rattle.courier_core.specs.Core.{verification_byte}
use Rattle.courier_core.specs.declared.ContactId.{ContactId}
use Rattle.courier_core.specs.declared.Verification.{Verification}
use Rattle.courier_core.specs.declared.Refusal.{Refusal}
use Rattle.courier_core.specs.declared.Refusal.TheVariants as refusal
use Rattle.table.specs.Lists.{any, position, unwrap_or, replace_at}
use Rattle.state.specs.declared.CourierConfig.{CourierConfig}
use Rattle.state.specs.Config.{in_range}
use Rattle.rows.specs.declared.Contact.{Contact}
use Rattle.rows.specs.Limits.{max_contacts}
use Rattle.model.specs.Basics.{match_found, same_contact}
use Rattle.model.specs.State.{State, Change, clock_now, courier_now, contacts_now, peer_now, complete_now, listed_now, offered_now, ◌and◌}
use Rattle.model.specs.Calls.{Result, result, done, short_exchange}

-- ---- time

abbrev pub last_minute : ℕ
last_minute = 4294967295

-- `now_min`: seconds / 60, at most 2^32 − 1
unfoldable pub now_min : ℕ → ℕ
now_min seconds = min (seconds / 60) last_minute

-- `lifetime_end`: minute + lifetime, stopped at 2^32 − 1
unfoldable pub lifetime_end : ℕ → CourierConfig → ℕ
lifetime_end seconds config = min (now_min seconds + config.lifetime_min) last_minute

abbrev pub minute_of : State → ℕ
minute_of s = now_min s.now_s

abbrev pub end_of : State → ℕ
end_of s = lifetime_end s.now_s s.courier

-- ---- contacts

abbrev pub no_contact : Contact
no_contact = record { id = record { 0 = 0 }; verification = 0 }

abbrev pub is_contact : ContactId → Contact → Bool
is_contact id p = same_contact p.id id

unfoldable pub known : List Contact → ContactId → Bool
known ps id = any (is_contact id) ps

unfoldable pub contact_place : List Contact → ContactId → Option ℕ
contact_place ps id = position (is_contact id) ps

-- a verification byte other than 1 is not verified
unfoldable pub is_verified : List Contact → ContactId → Bool
is_verified ps id = match_found (contact_place ps id) (λ i. nat_eq (slice_index_or ps i no_contact).verification 1) false

-- how many contacts were added before this one
unfoldable pub added_before : List Contact → ContactId → ℕ
added_before ps id = unwrap_or (length ps) (contact_place ps id)

-- a contact added at the end, or altered in its place
unfoldable pub put_contact : List Contact → ContactId → Verification → List Contact
put_contact ps id v =
    let p : Contact = record { id = id; verification = verification_byte v } in
    match_found (contact_place ps id) (λ i. replace_at i p ps) (ps ++ (p ∷ []))

unfoldable pub contact_tests : State → ContactId → List (Bool × Refusal)
contact_tests s id = (not (known s.contacts id) && nat_le max_contacts (length s.contacts), refusal.LogRecord) ∷ []

unfoldable pub set_contact : State → ContactId → Verification → Result
set_contact s id v = result done [] [] (contacts_now (put_contact s.contacts id v))

-- ---- setting and clock

unfoldable pub setting_tests : ℕ → ℕ → List (Bool × Refusal)
setting_tests copies lifetime = (not (in_range copies lifetime), refusal.Configuration) ∷ []

unfoldable pub set_config : Bool → ℕ → ℕ → Result
set_config enabled copies lifetime = result done [] [] (courier_now (record { enabled = enabled; copies = copies; lifetime_min = lifetime }))

unfoldable pub set_clock : ℕ → Result
set_clock seconds = result done [] [] (clock_now seconds)

-- ---- a fresh exchange

-- `Exchange::default`, opened for a peer
unfoldable pub opened_for : ContactId → Change
opened_for peer = peer_now (Some peer) and complete_now false and listed_now [] and offered_now []

-- is the exchange opened for this peer: number 3 if not
abbrev pub is_for : ContactId → Option ContactId → Bool
is_for peer (Some p) = same_contact p peer
is_for peer None = false

unfoldable pub open_exchange_tests : State → ContactId → List (Bool × Refusal)
open_exchange_tests s peer = (short_exchange s, refusal.ShortArea) ∷ (not (known s.contacts peer), refusal.UnknownContact) ∷ []

unfoldable pub open_exchanged : ContactId → Result
open_exchanged peer = result done [] [] (opened_for peer)
