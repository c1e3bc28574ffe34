-- Laws of what a courier takes and of its answer as a byte.
-- Assumes nothing.
pub use Rattle.std.proofs.lemmas.Bool.{and_parts as both}
use Rattle.std.proofs.lemmas.Bool.{false_from_ne_true}
use mathlib.Core.Path.{◌≡◌, refl, sym, ap}
use mathlib.Core.Bool.{true, false, ◌&&◌}
use Prim.Native.Nat.{ℕ, zero, suc, ◌-◌, ◌≤◌, ◌<◌}
use native.Mathlib.Omega.{arith}
use Rattle.std.specs.Prelude.{Some, None}
use Rattle.std.proofs.lemmas.Option.{same_Some, none-some, slice_get_past}
use lib.Dec.{leb, ltb}
use borrow.Author.Tests.{leb-true, ltb-true, lt-ltb}
use Rattle.chain.specs.Chain.{is_bucket}
use Rattle.courier.specs.declared.Custody.{Custody}
use Rattle.courier.specs.declared.Custody.TheVariants as custody
use Rattle.courier.specs.Courier.{carried_length, envelope_valid, custody_code, custody_codes, from_code}

-- the custody byte and back
pub code_back : (c : Custody) → from_code (custody_code c) ≡ Some c
unfolding from_code
code_back custody.Accepted = refl
code_back custody.Full = refl
code_back custody.Duplicate = refl
code_back custody.Off = refl
code_back custody.Invalid = refl

same : (a c : Custody) → Some a ≡ Some c → custody_code a ≡ custody_code c
same a c e = ap custody_code (same_Some a c e)

-- a byte that is a code is the code's byte
pub byte_back : (n : ℕ) (c : Custody) → from_code n ≡ Some c → n ≡ custody_code c
unfolding from_code
byte_back zero c e = same custody.Accepted c e
byte_back (suc zero) c e = same custody.Full c e
byte_back (suc (suc zero)) c e = same custody.Duplicate c e
byte_back (suc (suc (suc zero))) c e = same custody.Off c e
byte_back (suc (suc (suc (suc zero)))) c e = same custody.Invalid c e
byte_back (suc (suc (suc (suc (suc n))))) c e = absurd (none-some c e)

-- every byte above 4 is refused
pub no_code : (n : ℕ) → 4 < n → None ≡ from_code n
unfolding from_code
no_code n h = sym (slice_get_past custody_codes n h)

-- a carried ciphertext fits a cell
pub carried_fits : (len : ℕ) → carried_length len ≡ true → (16 ≤ len) × (len ≤ 2064)
unfolding carried_length
carried_fits len e =
    let f = both (leb 16 len && leb (len - 16) 2048) (is_bucket (len - 16)) e in
    let g = both (leb 16 len) (leb (len - 16) 2048) f.0 in
    (leb-true 16 len g.0, omega (arith, leb-true 16 len g.0, leb-true (len - 16) 2048 g.1))

-- the three parts of a valid envelope
pub valid_parts : (len copies expiry minute : ℕ) → envelope_valid len copies expiry minute ≡ true
    → (carried_length len ≡ true) × (0 < copies) × (minute < expiry)
unfolding envelope_valid
valid_parts len copies expiry minute e =
    let f = both (carried_length len && ltb 0 copies) (ltb minute expiry) e in
    let g = both (carried_length len) (ltb 0 copies) f.0 in
    (g.0, ltb-true 0 copies g.1, ltb-true minute expiry f.1)

pub valid_if : (len copies expiry minute : ℕ) → carried_length len ≡ true → 0 < copies → minute < expiry → envelope_valid len copies expiry minute ≡ true
unfolding envelope_valid
valid_if len copies expiry minute e h k = rw (e, lt-ltb 0 copies h, lt-ltb minute expiry k)

-- what lacks copies or time is not valid
pub not_valid : (len copies expiry minute : ℕ) → (0 < copies → minute < expiry → ⊥) → envelope_valid len copies expiry minute ≡ false
not_valid len copies expiry minute k =
    false_from_ne_true (envelope_valid len copies expiry minute) (λ e. let p = valid_parts len copies expiry minute e in k p.1 p.2)
