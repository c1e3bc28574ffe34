-- Which of its reasons number 13 has (document 01, "Refused calls"), by the bytes at whose front the refused record stands.
-- Assumes nothing.
use Rattle.std.specs.Prelude.{ℕ, Bool, true, false, cond, List, ltb, leb, length, Option, Some, None, Ok, Err}
use Rattle.octets.specs.Bytes.{part}
use Rattle.wire.specs.declared.Mark.{Mark}
use Rattle.wire.specs.declared.Mark.TheVariants as mark
use Rattle.wire.specs.Log.{Record, ReadHead, mark_at, size_at, head_of, body_of}
use Rattle.drill_reason.specs.declared.Reason.{Reason}
use Rattle.drill_reason.specs.declared.Reason.TheVariants as reason

abbrev pub known : Mark → Bool
known mark.Clock = true
known mark.Contact = true
known mark.Session = true
known mark.Envelope = true
known mark.Inventory = true
known mark.Fetch = true
known mark.Custody = true
known mark.Tomb = true
known mark.Maintenance = true
known mark.Setting = true
known mark.Unknown = false

-- of a head that is wrong: the mark, else the length of the body
unfoldable pub head_reason : Mark → ℕ → Reason
head_reason m n = cond (known m) (cond (leb n 8192) reason.Shape reason.Length) reason.Mark

-- the field that may be wrong in a body of its mark's shape; where there is none, the shape
abbrev pub field_of : Mark → Reason
field_of mark.Clock = reason.Shape
field_of mark.Contact = reason.Verification
field_of mark.Session = reason.Shape
field_of mark.Envelope = reason.Shape
field_of mark.Inventory = reason.Shape
field_of mark.Fetch = reason.Shape
field_of mark.Custody = reason.Code
field_of mark.Tomb = reason.Shape
field_of mark.Maintenance = reason.Shape
field_of mark.Setting = reason.Enabled
field_of mark.Unknown = reason.Mark

-- of a body: a record that the grammar takes is refused by its call alone, a 257th contact
unfoldable pub body_reason : Mark → Option Record → Reason
body_reason m None = field_of m
body_reason m (Some r) = reason.Contacts

abbrev pub reason_by : ReadHead → List ℕ → Reason
reason_by (Ok (Some h)) s = body_reason h.mark (body_of h.mark (part s 4 h.len))
reason_by (Ok None) s = reason.End
reason_by (Err why) s = head_reason (mark_at s) (size_at s)

-- the bytes end before a head does, or the head tells
unfoldable pub reason_of : List ℕ → Reason
reason_of s = cond (ltb (length s) 4) reason.End (reason_by (head_of s) s)
