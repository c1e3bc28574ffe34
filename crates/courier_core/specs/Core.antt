-- Document 01's numbers of the refusals ("Refused calls") and bytes of a verification ("Drill program", PT).
-- Assumes nothing.
use Rattle.std.specs.Prelude.{ℕ, Bool, cond, List, [], ◌∷◌, ◌==◌, Option, Some, None, Result, Ok, Err}
use Rattle.courier_core.specs.declared.Refusal.{Refusal}
use Rattle.courier_core.specs.declared.Refusal.TheVariants as refusal
use Rattle.courier_core.specs.declared.Verification.{Verification}
use Rattle.courier_core.specs.declared.Verification.TheVariants as verification

abbrev pub refusal_number : Refusal → ℕ
refusal_number refusal.ShortArea = 1  -- an area is shorter than its size
refusal_number refusal.UnknownContact = 2  -- the contact, or one in a window row, isn't known
refusal_number refusal.WrongExchange = 3  -- the exchange was opened for another contact or for none
refusal_number refusal.NoCell = 4  -- a row would be added and its cells are all used
refusal_number refusal.NoTombstoneRow = 5  -- a tombstone would be added and, after any deletion, all R rows are used
refusal_number refusal.NoSlot = 6  -- a new slot is needed and next slot is 2^64 − 1
refusal_number refusal.Configuration = 7  -- outside its range
refusal_number refusal.SavedFile = 8
refusal_number refusal.NoBadTagRow = 9  -- a new bad tag and no row left
refusal_number refusal.MessageNumberTaken = 10  -- own row
refusal_number refusal.OwnLength = 11  -- own ciphertext less 16 is no inner length
refusal_number refusal.WindowRows = 12  -- window or prefix area not whole rows, and what else is wrong with them
refusal_number refusal.LogRecord = 13

-- The number by which an answer is refused, 0 of every other: what a contract tells of it.
abbrev pub number_of : {A : Type 0} → Result A Refusal → ℕ
number_of (Err why) = refusal_number why
number_of (Ok said) = 0

abbrev pub verification_byte : Verification → ℕ
verification_byte verification.Unverified = 0
verification_byte verification.Verified = 1
verification_byte verification.Compromised = 2

-- the verification that a byte says: a byte above 2 says none
abbrev pub verification_from : ℕ → Option Verification
verification_from byte =
    cond (byte == 0) (Some verification.Unverified) (cond (byte == 1) (Some verification.Verified) (cond (byte == 2) (Some verification.Compromised) None))

-- A call's refusals are one list of (condition, refusal) in document 01's order: what the first that holds says, and `otherwise` where none holds.
abbrev pub first_of {ℓ} : {A : Type ℓ} → List (Bool × Refusal) → (Refusal → A) → A → A
first_of [] refused otherwise = otherwise
first_of (t ∷ ts) refused otherwise = cond t.0 (refused t.1) (first_of ts refused otherwise)
