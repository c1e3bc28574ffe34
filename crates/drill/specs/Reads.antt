-- What a read leaves. Assumes nothing.
use Rattle.std.specs.Prelude.{ℕ, ◌+◌, ◌≤◌, ◌≡◌, true, Result, Ok, Err, List, length, take}
use Rattle.drill_log.specs.declared.Why.TheVariants as cause
use Rattle.drill_log.specs.Run.{goes_on}
use Rattle.drill_turn.specs.declared.Turn.{Turn}
use Rattle.drill_turn.specs.Stream.{Fed}

-- how many bytes a read gave
abbrev pub count_of : {E : Type 0} → Result ℕ E → ℕ
count_of (Ok n) = n
count_of (Err e) = 0

-- behind the first bytes, which stay, stand n more
pub record Reads (input : List ℕ) (at n : ℕ) (input' : List ℕ) : Type 0 where
  pub room : at + n ≤ length input
  pub front : take at input' ≡ take at input

-- more input where it is wanted; at its end what is not done stands in the buffer
pub record Filled (t : Turn) (input : List ℕ) (t' : Turn) (input' : List ℕ) : Type 0 where
  pub fed : Fed t input t' input'
  pub inside : t'.why ≡ cause.Ended → goes_on t.why ≡ true → t'.have ≤ length input'
