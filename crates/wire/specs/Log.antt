-- The log's grammar (document 01, "Drill program" and number 13): a record is a mark of two letters, two bytes of body length, a body.
-- Assumes nothing.
use Rattle.std.specs.Prelude.{ℕ, ◌-◌, ◌%◌, Bool, true, false, cond, ◌&&◌, List, length, drop, ◌==◌, nat_le, nat_lt, Option, Some, None, Result, Ok, Err}
use Rattle.octets.specs.Bytes.{part, num}
use Rattle.courier_core.specs.declared.ContactId.{ContactId}
use Rattle.courier_core.specs.declared.Refusal.{Refusal}
use Rattle.courier_core.specs.declared.Refusal.TheVariants as refusal
use Rattle.courier_core.specs.declared.Verification.{Verification}
use Rattle.courier_core.specs.Core.{verification_from}
use Rattle.courier.specs.declared.Header.{Header}
use Rattle.courier.specs.declared.Custody.{Custody}
use Rattle.courier.specs.Courier.{header_of, from_code}
use Rattle.wire.specs.declared.Mark.{Mark}
use Rattle.wire.specs.declared.Mark.TheVariants as mark
use Rattle.wire.specs.declared.Head.{Head}

pub data Record : Type 0 where
  clock : (seconds : ℕ) → Record
  contact : (id : ContactId) → Verification → Record
  session : (peer : ContactId) → Record
  envelope : (peer : ContactId) → Header → (ct : List ℕ) → Record
  inventory : (peer : ContactId) (prefixes : List ℕ) → Record
  fetch : (peer : ContactId) (tag : List ℕ) → Record
  custody : (peer : ContactId) (tag : List ℕ) → Custody → Record
  tomb : (peer : ContactId) (tag s : List ℕ) → Record
  maintenance : Record
  setting : (enabled : Bool) (copies lifetime : ℕ) → Record

-- ---- the head

-- a mark's two letters as a number
unfoldable pub mark_of : ℕ → Mark
mark_of m =
    cond (m == 17227) mark.Clock  -- CK
    (cond (m == 20564) mark.Contact  -- PT
    (cond (m == 21331) mark.Session  -- SS
    (cond (m == 17742) mark.Envelope  -- EN
    (cond (m == 18774) mark.Inventory  -- IV
    (cond (m == 17989) mark.Fetch  -- FE
    (cond (m == 17237) mark.Custody  -- CU
    (cond (m == 21570) mark.Tomb  -- TB
    (cond (m == 19796) mark.Maintenance  -- MT
    (cond (m == 17222) mark.Setting mark.Unknown)))))))))  -- CF

-- has a body of n bytes its mark's shape
unfoldable pub shaped : Mark → ℕ → Bool
shaped mark.Clock n = n == 8  -- seconds
shaped mark.Contact n = n == 9  -- contact, verification
shaped mark.Session n = n == 8  -- peer
shaped mark.Envelope n = nat_le 45 n  -- peer, envelope: 37 bytes and a ciphertext
shaped mark.Inventory n = nat_le 8 n && n % 8 == 0  -- peer, whole prefixes
shaped mark.Fetch n = n == 24  -- peer, tag
shaped mark.Custody n = n == 25  -- peer, tag, code
shaped mark.Tomb n = n == 40  -- peer, tag, secret
shaped mark.Maintenance n = n == 0
shaped mark.Setting n = n == 4  -- enabled, copies, lifetime
shaped mark.Unknown n = false

unfoldable pub fits : Mark → ℕ → Bool
fits m n = nat_le n 8192 && shaped m n

abbrev pub mark_at : List ℕ → Mark
mark_at s = mark_of (num (part s 0 2))

abbrev pub size_at : List ℕ → ℕ
size_at s = num (part s 2 2)

-- What is read of a head: none where the bytes end before its record does.
abbrev pub ReadHead : Type 0
ReadHead = Result (Option Head) Refusal

abbrev pub whole : Mark → ℕ → ReadHead
whole m n = Ok (Some (record { mark = m; len = n }))

-- What stands at the front of the bytes s: a head that is wrong is so before its body is there.
unfoldable pub head_of : List ℕ → ReadHead
head_of s =
    cond (nat_lt (length s) 4) (Ok None)
    (cond (fits (mark_at s) (size_at s)) (cond (nat_le (size_at s) (length s - 4)) (whole (mark_at s) (size_at s)) (Ok None)) (Err refusal.LogRecord))

-- ---- the body

abbrev pub mapped : {A B : Type 0} → (A → B) → Option A → Option B
mapped f None = None
mapped f (Some a) = Some (f a)

-- the bytes for a verification, and for enabled; anything else is none
abbrev pub verification_of : ℕ → Option Verification
verification_of v = verification_from v

unfoldable pub enabled_of : ℕ → Option Bool
enabled_of e = cond (e == 0) (Some false) (cond (e == 1) (Some true) None)

abbrev pub peer_in : List ℕ → ContactId
peer_in b = record { 0 = num (part b 0 8) }

-- what a body says that has its mark's shape: none where a verification, a code or enabled is wrong
unfoldable pub values_of : Mark → List ℕ → Option Record
values_of mark.Clock b = Some (clock (num (part b 0 8)))
values_of mark.Contact b = mapped (contact (peer_in b)) (verification_of (num (part b 8 1)))
values_of mark.Session b = Some (session (peer_in b))
values_of mark.Envelope b = Some (envelope (peer_in b) (header_of (part b 8 37)) (drop 45 b))
values_of mark.Inventory b = Some (inventory (peer_in b) (drop 8 b))
values_of mark.Fetch b = Some (fetch (peer_in b) (part b 8 16))
values_of mark.Custody b = mapped (custody (peer_in b) (part b 8 16)) (from_code (num (part b 24 1)))
values_of mark.Tomb b = Some (tomb (peer_in b) (part b 8 16) (part b 24 16))
values_of mark.Maintenance b = Some maintenance
values_of mark.Setting b = mapped (λ enabled. setting enabled (num (part b 1 1)) (num (part b 2 2))) (enabled_of (num (part b 0 1)))
values_of mark.Unknown b = None

-- a body, whatever it is: none is number 13
unfoldable pub body_of : Mark → List ℕ → Option Record
body_of m b = cond (fits m (length b)) (values_of m b) None
