-- Laws of the reader's steps: bytes that are there, and bytes that are not.
-- Assumes nothing.
use Rattle.std.proofs.Common.{◌≡◌, ℕ, suc, ◌+◌, ◌-◌, ◌<◌, ◌≤◌, Bool, true, false, cond, leb, List, length, get_or, sym, refl, ap, ◌∙◌, arith, le-leb, leb-false, leb-true}
use Rattle.std.specs.Prelude.{Some, None}
use Rattle.std.specs.Int.{byte_worth, sum_through}
use Rattle.std.proofs.lemmas.Option.{cond_some}
use borrow.Author.Tests.{lt-leb}
use Rattle.octets.specs.Bytes.{part, num}
use Rattle.octets.proofs.Parts.{part_one}
use Rattle.octets.proofs.Numbers.{num_one, num_read}
use Rattle.state.specs.Reader.{take_at, byte_at, array_at}

module _ {A : Type 0} (n : ℕ) (s : List ℕ) (at : ℕ) (got : List ℕ → A) where
  pub take_whole : at + n ≤ length s → Some (got (part s at n)) ≡ take_at n s at got
  unfolding take_at
  take_whole h = rw (le-leb (at + n) (length s) h)

  pub take_short : length s < at + n → None ≡ take_at n s at got
  unfolding take_at
  take_short h = rw (lt-leb (at + n) (length s) h)

  pub take_some : (x : A) → take_at n s at got ≡ Some x → (at + n ≤ length s) × (got (part s at n) ≡ x)
  unfolding take_at
  take_some x e = let p = cond_some (leb (at + n) (length s)) _ x e in (leb-true (at + n) (length s) p.0, p.1)

  -- what was given is inside
  pub taken : {x : A} → Some x ≡ take_at n s at got → at + n ≤ length s
  taken {x} e = (take_some x (sym e)).0

  pub take_none : take_at n s at got ≡ None → length s < at + n
  unfolding take_at
  take_none e = go (leb (at + n) (length s)) refl e
    where
      go : (b : Bool) → leb (at + n) (length s) ≡ b → cond b (Some (got (part s at n))) None ≡ None → length s < at + n
      go true p q = cc
      go false p q = leb-false (at + n) (length s) p

-- a byte, by what its array gave
pub byte_some : (s : List ℕ) (at : ℕ) {bs : List ℕ} → Some bs ≡ array_at 1 s at → Some (get_or bs 0 0) ≡ byte_at s at
byte_some s at {bs} e =
    let p = take_some 1 s at (λ b. b) bs (sym e) in
    let h : at < length s = omega (arith, p.0) in
    ap Some (ap (λ (b : List ℕ). get_or b 0 0) (sym p.1 ∙ part_one s at h) ∙ sym (num_one s at h)) ∙ take_whole 1 s at num p.0

-- a number of k + 1 bytes, by what its array gave
module _ (k : ℕ) (s : List ℕ) (at : ℕ) where
  pub number_some : {bs : List ℕ} {v : ℕ} → Some bs ≡ array_at (suc k) s at → v ≡ sum_through (λ i. byte_worth (k - i) (get_or bs i 0)) k → Some v ≡ take_at (suc k) s at num
  number_some {bs} {v} e ev =
      let p = take_some (suc k) s at (λ b. b) bs (sym e) in
      ap Some (num_read s at k p.0 (sym p.1) ev) ∙ take_whole (suc k) s at num p.0

  pub number_none : None ≡ array_at (suc k) s at → None ≡ take_at (suc k) s at num
  number_none e = take_short (suc k) s at num (take_none (suc k) s at (λ b. b) (sym e))
