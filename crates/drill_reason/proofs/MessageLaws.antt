-- Laws of the message of number 13. Assumes nothing.
use mathlib.Core.Path.{◌≡◌, subst}
use mathlib.Core.List.{List, ◌++◌}
use Prim.Native.Nat.{ℕ, ◌+◌, ◌≤◌}
use native.Mathlib.Omega.{arith}
use lib.ListN.{length}
use Rattle.text.specs.Text.{Puts}
use Rattle.text.proofs.TextLaws.{puts_then, puts_within}
use Rattle.drill_reason.specs.declared.Reason.{Reason}
use Rattle.drill_reason.specs.declared.Reason.TheVariants as reason
use Rattle.drill_reason.specs.Message.{words_of, longest_words}

-- the words of the reason that was told
words_near : (why : Reason) → length (words_of why) ≤ longest_words
words_near reason.Mark = omega arith
words_near reason.Length = omega arith
words_near reason.Shape = omega arith
words_near reason.Code = omega arith
words_near reason.Verification = omega arith
words_near reason.Enabled = omega arith
words_near reason.Contacts = omega arith
words_near reason.End = omega arith

pub words_put : {o x w : List ℕ} {at r : ℕ} (why : Reason) → w ≡ words_of why → Puts (length w) o at w r x → Puts longest_words o at (words_of why) r x
words_put {o} {x} {w} {at} {r} why e p = puts_within (words_near why) (subst (λ (l : List ℕ). Puts (length l) o at l r x) e p)

-- three texts and four, one behind the other, at the front of an area
module _ {l m n : ℕ} {o x y z : List ℕ} {p q r : ℕ} {a b c : List ℕ} (f : Puts l o 0 a p x) (g : Puts m x p b q y) (h : Puts n y q c r z) where
  pub texts3 : {k : ℕ} → l + m + n ≤ k → k ≤ length o → Puts k o 0 (a ++ b ++ c) r z
  texts3 t room = puts_within t (puts_then (puts_then f g (omega arith)) h (omega arith))

  pub texts4 : {k s j : ℕ} {w d : List ℕ} → Puts j z r d s w → l + m + n + j ≤ k → k ≤ length o → Puts k o 0 (a ++ b ++ c ++ d) s w
  texts4 i t room = puts_within t (puts_then (puts_then (puts_then f g (omega arith)) h (omega arith)) i (omega arith))
