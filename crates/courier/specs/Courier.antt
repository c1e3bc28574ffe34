-- Document 01's courier.rs: the bytes of an envelope before its ciphertext, what a courier takes, and its answer as a byte.
-- Assumes nothing.
use Rattle.std.specs.Prelude.{ℕ, ◌+◌, ◌-◌, Bool, cond, ◌&&◌, List, [], ◌∷◌, ◌++◌, length, slice_get, leb, ltb, Option, Some, None}
use Rattle.octets.specs.Bytes.{part, num, be}
use Rattle.chain.specs.Chain.{is_bucket}
use Rattle.courier.specs.declared.Header.{Header}
use Rattle.courier.specs.declared.Custody.{Custody}
use Rattle.courier.specs.declared.Custody.TheVariants as custody

-- the bytes of an envelope before its ciphertext, and the greatest inner length that a courier carries
abbrev pub envelope_header : ℕ
envelope_header = 37

abbrev pub courier_inner_max : ℕ
courier_inner_max = 2048

-- `Envelope::encode`: tag 16, commitment 16, expiry 4, copies 1; the ciphertext follows
unfoldable pub header_bytes : Header → List ℕ
header_bytes h = h.tag ++ h.c ++ be 4 h.expiry_min ++ (h.copies ∷ [])

-- the header that 37 bytes spell
unfoldable pub header_of : List ℕ → Header
header_of b = record { tag = part b 0 16; c = part b 16 16; expiry_min = num (part b 32 4); copies = num (part b 36 1) }

-- `Envelope::decode` of the bytes of s from at on: none if they are fewer than 37
unfoldable pub envelope_decode : List ℕ → ℕ → Option Header
envelope_decode s at = cond (leb (at + envelope_header) (length s)) (Some (header_of (part s at envelope_header))) None

-- a ciphertext length that a courier carries: less 16 it is a bucket of at most 2,048
unfoldable pub carried_length : ℕ → Bool
carried_length len = leb 16 len && leb (len - 16) courier_inner_max && is_bucket (len - 16)

-- `Envelope::valid`: ciphertext length, copies, expiry, and the minute that is now
unfoldable pub envelope_valid : ℕ → ℕ → ℕ → ℕ → Bool
envelope_valid len copies expiry minute = carried_length len && ltb 0 copies && ltb minute expiry

-- a custody code as a byte
abbrev pub custody_code : Custody → ℕ
custody_code custody.Accepted = 0
custody_code custody.Full = 1
custody_code custody.Duplicate = 2
custody_code custody.Off = 3
custody_code custody.Invalid = 4

-- each stands in the list where its code says
abbrev pub custody_codes : List Custody
custody_codes = custody.Accepted ∷ custody.Full ∷ custody.Duplicate ∷ custody.Off ∷ custody.Invalid ∷ []

-- `Custody::from_code`: a byte above 4 is no code
unfoldable pub from_code : ℕ → Option Custody
from_code code = slice_get custody_codes code
