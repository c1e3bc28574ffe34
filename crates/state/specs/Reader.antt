-- What stands at a position of a blob, and how state.rs's `Reader` steps along: nothing where the bytes run out.
-- Assumes nothing.
use Rattle.std.specs.Prelude.{◌≡◌, ℕ, ◌+◌, cond, List, length, nat_le, Option, Some, None, MatchOption}
use Rattle.octets.specs.Bytes.{part, num}
use Rattle.state.specs.declared.Reader.{Reader}

-- `Reader::take`: what the n bytes from at on give, if they are all there
unfoldable pub take_at : {A : Type 0} → ℕ → List ℕ → ℕ → (List ℕ → A) → Option A
take_at n s at got = cond (nat_le (at + n) (length s)) (Some (got (part s at n))) None

abbrev pub byte_at : List ℕ → ℕ → Option ℕ
byte_at s at = take_at 1 s at num

abbrev pub u32_at : List ℕ → ℕ → Option ℕ
u32_at s at = take_at 4 s at num

abbrev pub u64_at : List ℕ → ℕ → Option ℕ
u64_at s at = take_at 8 s at num

abbrev pub array_at : ℕ → List ℕ → ℕ → Option (List ℕ)
array_at n s at = take_at n s at (λ b. b)

-- a reader of the blob b, k bytes along
pub record StandsAt (r : Reader) (b : List ℕ) (k : ℕ) : Type 0 where
  pub blob : r.blob.now ≡ b
  pub at : r.at ≡ k

-- a reader keeps its blob, and goes n bytes along where it gave something
pub record Steps {A : Type 0} (before : Reader) (given : Option A) (n : ℕ) (after : Reader) : Type 0 where
  pub blob : after.blob.now ≡ before.blob.now
  pub at : MatchOption given (after.at ≡ before.at) (λ x. after.at ≡ before.at + n)
