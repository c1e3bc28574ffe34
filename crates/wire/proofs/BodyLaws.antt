-- Laws of a record's body. Assumes nothing.
use Rattle.std.proofs.Common.{◌≡◌, ℕ, ◌≤◌, Bool, true, false, cond, List, length, sym, refl, ap, ◌∙◌, subst, arith, Option, Some, None}
use Rattle.octets.specs.Bytes.{part, num}
use Rattle.courier.specs.Courier.{from_code}
use Rattle.courier_core.specs.declared.Verification.{Verification}
use Rattle.courier.specs.declared.Custody.{Custody}
use Rattle.wire.specs.declared.Mark.{Mark}
use Rattle.wire.specs.declared.Mark.TheVariants as mark
use Rattle.wire.specs.declared.Body.{Body}
use Rattle.wire.specs.Log
use Rattle.wire.specs.Log.{Record, fits, mapped, verification_of, enabled_of, values_of, body_of, peer_in}
use Rattle.wire.specs.Read.{read_as, record_of, least_of, Told}
use Rattle.wire.proofs.HeadLaws.{least_size, fit_size}

-- a value that is right, and one that is wrong
pub read_some : {A : Type 0} (f : A → Record) {x : Option A} (a : A) → Some a ≡ x → read_as (Some (f a)) ≡ read_as (mapped f x)
read_some f a e = ap (λ (y : Option _). read_as (mapped f y)) e

pub read_none : {A : Type 0} (f : A → Record) {x : Option A} → None ≡ x → None ≡ read_as (mapped f x)
read_none f e = ap (λ (y : Option _). read_as (mapped f y)) e

pub as_mark : {m : Mark} (k : Mark) → m ≡ k → (b : List ℕ) → read_as (values_of k b) ≡ read_as (values_of m b)
as_mark k e b = ap (λ (x : Mark). read_as (values_of x b)) (sym e)

-- ---- what is read, with the body's bytes, is the record

abbrev Kept : Option Record → List ℕ → Type 0
Kept x b = (record_of (read_as x) b ≡ x) × (least_of (read_as x) ≤ length b)

kept_verification : (b : List ℕ) (x : Option Verification) → 9 ≤ length b → Kept (mapped (Log.contact (peer_in b)) x) b
kept_verification b None h = (refl, omega arith)
kept_verification b (Some v) h = (refl, h)

kept_enabled : (b : List ℕ) (copies lifetime : ℕ) (x : Option Bool) → 4 ≤ length b → Kept (mapped (λ enabled. Log.setting enabled copies lifetime) x) b
kept_enabled b copies lifetime None h = (refl, omega arith)
kept_enabled b copies lifetime (Some v) h = (refl, h)

kept_code : (b : List ℕ) (x : Option Custody) → 25 ≤ length b → Kept (mapped (Log.custody (peer_in b) (part b 8 16)) x) b
kept_code b None h = (refl, omega arith)
kept_code b (Some v) h = (refl, h)

kept_values : (m : Mark) (b : List ℕ) → least_size m ≤ length b → Kept (values_of m b) b
unfolding values_of
kept_values mark.Clock b h = (refl, h)
kept_values mark.Contact b h = kept_verification b (verification_of (num (part b 8 1))) h
kept_values mark.Session b h = (refl, h)
kept_values mark.Envelope b h = (refl, h)
kept_values mark.Inventory b h = (refl, h)
kept_values mark.Fetch b h = (refl, h)
kept_values mark.Custody b h = kept_code b (from_code (num (part b 24 1))) h
kept_values mark.Tomb b h = (refl, h)
kept_values mark.Maintenance b h = (refl, h)
kept_values mark.Setting b h = kept_enabled b (num (part b 1 1)) (num (part b 2 2)) (enabled_of (num (part b 0 1))) h
kept_values mark.Unknown b h = (refl, h)

kept_cond : (t : Bool) (x : Option Record) (b : List ℕ) → (t ≡ true → Kept x b) → Kept (cond t x None) b
kept_cond true x b h = h refl
kept_cond false x b h = (refl, omega arith)

kept : (m : Mark) (b : List ℕ) → Kept (body_of m b) b
unfolding body_of
kept m b = kept_cond (fits m (length b)) (values_of m b) b (λ e. kept_values m b (fit_size m (length b) e))

pub told : (m : Mark) (b : List ℕ) (r : Option Body) → r ≡ read_as (body_of m b) → Told m b r
told m b r e = record {
  is = e;
  whole = ap (λ (x : Option Body). record_of x b) e ∙ (kept m b).0;
  room = subst (λ (x : Option Body). least_of x ≤ length b) (sym e) (kept m b).1;
}

-- the two sides of the test of its shape
module _ (m : Mark) (b : List ℕ) (r : Option Body) {t : Bool} (et : t ≡ fits m (length b)) where
  pub told_fit : t ≡ true → r ≡ read_as (values_of m b) → Told m b r
  unfolding body_of
  told_fit e h = told m b r (h ∙ ap (λ (x : Bool). read_as (cond x (values_of m b) None)) (sym e ∙ et))

  pub told_unfit : t ≡ false → r ≡ None → Told m b r
  unfolding body_of
  told_unfit e h = told m b r (h ∙ ap (λ (x : Bool). read_as (cond x (values_of m b) None)) (sym e ∙ et))
