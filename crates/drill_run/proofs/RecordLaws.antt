-- The records of a log of bytes are proper: numbers fit their types, and runs have their length. Assumes nothing.
use Rattle.std.proofs.Common.{◌≡◌, ℕ, zero, suc, ◌+◌, ◌≤◌, Bool, true, false, cond, List, [], ◌∷◌, map, length, drop, refl, arith, Option, Some, None, Ok, Err}
use Rattle.octets.specs.Bytes.{Bytes, part, num}
use Rattle.octets.proofs.Parts.{length_part}
use Rattle.octets.proofs.Numbers.{bytes_part, bytes_drop, num_part_lt}
use Rattle.courier_core.specs.declared.Verification.{Verification}
use Rattle.courier.specs.declared.Custody.{Custody}
use Rattle.courier.specs.Courier.{header_of, from_code}
use Rattle.table.specs.Lists.{All, none, more}
use Rattle.rows.specs.Proper.{Run}
use Rattle.wire.specs.declared.Mark.{Mark}
use Rattle.wire.specs.declared.Mark.TheVariants as mark
use Rattle.wire.specs.Log as log
use Rattle.wire.specs.Log.{Record, ReadHead, fits, head_of, mapped, verification_of, enabled_of, peer_in, values_of, body_of}
use Rattle.wire.proofs.HeadLaws.{least_size, fit_size}
use Rattle.model.specs.State.{State}
use Rattle.model.specs.Step.{Lent}
use Rattle.model.specs.Good.{ProperHeader, ProperCall}
use Rattle.drill_run.specs.Drill.{call_of, state_after, last_record, records_by, records_from, records_of, performed, lent_of}

abbrev pub ProperRecord : Option Record → Type 0
ProperRecord None = Unit {0}
ProperRecord (Some r) = ProperCall (call_of r)

-- ---- a body

module _ (b : List ℕ) (bytes : Bytes b) where
  run : (at n : ℕ) → at + n ≤ length b → Run n (part b at n)
  run at n h = record { size = length_part b at n h; bytes = bytes_part b at n bytes }

  header : length b ≡ 37 → ProperHeader (header_of b)
  unfolding header_of
  header e = record {
    tag = run 0 16 (omega arith);
    c = run 16 16 (omega arith);
    expiry_min = num_part_lt b 32 4 (omega arith) bytes;
    copies = num_part_lt b 36 1 (omega arith) bytes;
  }

module _ (b : List ℕ) (bytes : Bytes b) where
  contact_proper : 9 ≤ length b → (v : Option Verification) → ProperRecord (mapped (log.contact (peer_in b)) v)
  contact_proper h None = tt
  contact_proper h (Some v) = num_part_lt b 0 8 (omega arith) bytes

  custody_proper : (c : Option Custody) → ProperRecord (mapped (log.custody (peer_in b) (part b 8 16)) c)
  custody_proper None = tt
  custody_proper (Some c) = tt

  setting_proper : 4 ≤ length b → (e : Option Bool) → ProperRecord (mapped (λ enabled. log.setting enabled (num (part b 1 1)) (num (part b 2 2))) e)
  setting_proper h None = tt
  setting_proper h (Some e) = num_part_lt b 1 1 (omega arith) bytes

  values_proper : (m : Mark) → least_size m ≤ length b → ProperRecord (values_of m b)
  unfolding values_of
  values_proper mark.Clock h = tt
  values_proper mark.Contact h = contact_proper h (verification_of (num (part b 8 1)))
  values_proper mark.Session h = tt
  values_proper mark.Envelope h = (num_part_lt b 0 8 (omega arith) bytes, header (part b 8 37) (bytes_part b 8 37 bytes) (length_part b 8 37 (omega arith)))
  values_proper mark.Inventory h = bytes_drop 8 b bytes
  values_proper mark.Fetch h = tt
  values_proper mark.Custody h = custody_proper (from_code (num (part b 24 1)))
  values_proper mark.Tomb h = (run b bytes 8 16 (omega arith), run b bytes 24 16 (omega arith))
  values_proper mark.Maintenance h = tt
  values_proper mark.Setting h = setting_proper h (enabled_of (num (part b 0 1)))
  values_proper mark.Unknown h = tt

  pub body_proper : (m : Mark) → ProperRecord (body_of m b)
  unfolding body_of
  body_proper m = go (fits m (length b)) refl
    where
      go : (f : Bool) → fits m (length b) ≡ f → ProperRecord (cond f (values_of m b) None)
      go true e = values_proper m (fit_size m (length b) e)
      go false e = tt

-- ---- a log

by_proper : (h : ReadHead) (b : List ℕ) (behind : List ℕ → List (Option Record)) → Bytes b → ((n : ℕ) → All ProperRecord (behind (drop n b))) → All ProperRecord (records_by h b behind)
unfolding records_by
by_proper (Ok (Some h)) b behind bytes p = more (body_proper (part b 4 h.len) (bytes_part b 4 h.len bytes) h.mark) (p (4 + h.len))
by_proper (Ok None) b behind bytes p = more tt none
by_proper (Err why) b behind bytes p = more tt none

from_proper : (n : ℕ) (b : List ℕ) → Bytes b → All ProperRecord (records_from n b)
unfolding records_from
from_proper zero b bytes = none
from_proper (suc n) [] bytes = none
from_proper (suc n) (x ∷ b) bytes =
    by_proper (head_of (x ∷ b)) (x ∷ b) (records_from n) bytes (λ k. from_proper n (drop k (x ∷ b)) (bytes_drop k (x ∷ b) bytes))

pub records_proper : (b : List ℕ) → Bytes b → All ProperRecord (records_of b)
unfolding records_of
records_proper b bytes = from_proper (length b) b bytes

-- as the model's calls
abbrev pub ProperLent : Lent → Type 0
ProperLent l = ProperCall l.call

unless : (c : Bool) (rs : List Record) → All ProperLent (map lent_of rs) → All ProperLent (map lent_of (cond c [] rs))
unless true rs p = none
unless false rs p = p

pub performed_proper : (s : State) (rs : List (Option Record)) → All ProperRecord rs → All ProperLent (map lent_of (performed s rs))
unfolding performed
performed_proper s [] p = none
performed_proper s (None ∷ rs) p = none
performed_proper s (Some r ∷ rs) (more h p) =
    more h (unless (last_record s (Some r)) (performed (state_after s (Some r)) rs) (performed_proper (state_after s (Some r)) rs p))
