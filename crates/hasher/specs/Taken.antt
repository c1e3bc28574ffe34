-- SHA-384 of a message that comes in parts: what a hasher holds of what it has taken.
-- Assumes nothing.
use Rattle.std.specs.Prelude.{ℕ, ◌+◌, ◌*◌, ◌/◌, ◌%◌, ◌≡◌, List, ◌++◌, length, take, drop}
use Rattle.sha384.specs.Sha384.{H0, hashed}
use Rattle.hasher.specs.declared.Hasher.{Hasher}

-- what is behind the whole blocks
unfoldable pub behind : List ℕ → List ℕ
behind x = drop (128 * (length x / 128)) x

-- the hasher s has taken the bytes x: the whole blocks are hashed, and what is behind them is held
pub record Taken (s : Hasher) (x : List ℕ) : Type 0 where
  pub state : s.state ≡ hashed H0 x
  pub held : take (length x % 128) s.block ≡ behind x
  pub len : s.len ≡ length x

-- the hasher r has taken what s had, and then the bytes m
pub record Adds (s : Hasher) (m : List ℕ) (r : Hasher) : Type 0 where
  pub by_index : (x : List ℕ) → Taken s x → Taken r (x ++ m)
  pub count : r.len ≡ s.len + length m
