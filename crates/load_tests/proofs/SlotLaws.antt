-- Laws of slots: where they ascend along a file, each is that of one record.
-- Assumes nothing.
use Rattle.std.proofs.Common.{◌≡◌, ℕ, suc, ◌+◌, ◌≤◌, Bool, true, false, List, [], ◌∷◌, length, sym, refl, ap, ◌∙◌, arith}
use Rattle.octets.specs.Bytes.{part, num}
use Rattle.octets.proofs.Compare.{same_eq}
use Rattle.table.specs.Lists.{count_by}
use Rattle.table.specs.Rows.{has_key}
use Rattle.load_tests.specs.Records.{SlotsOnce, counted}
use Rattle.load_tests.proofs.RecordLaws.{turn_count}

-- how many of some records have a slot
abbrev of_slot : List ℕ → List (List ℕ) → ℕ
of_slot slot rs = count_by (counted false 2 slot) rs

-- a record that is counted by its slot has that slot
slot_of : (slot b : List ℕ) → length slot ≡ 8 → counted false 2 slot b ≡ true → num (part b 2 8) ≡ num slot
unfolding counted has_key
slot_of slot b l e = ap num (ap (part b 2) (sym l) ∙ same_eq (part b 2 (length slot)) slot e)

-- a walk: every slot so far is below low, and there once
pub record Ascending (all rs : List (List ℕ)) (low : ℕ) : Type 0 where
  pub once : (slot : List ℕ) → length slot ≡ 8 → of_slot slot all ≤ suc (of_slot slot rs)
  pub none : (slot : List ℕ) → length slot ≡ 8 → low ≤ num slot → of_slot slot all ≡ of_slot slot rs

module _ {all : List (List ℕ)} {low : ℕ} {left rs : List (List ℕ)} {b : List ℕ} (R : Ascending all left low) (e : left ≡ b ∷ rs) where
  module _ {s : ℕ} (q : s ≡ num (part b 2 8)) (k : low ≤ s) where
    step : (slot : List ℕ) → length slot ≡ 8 → (x : Bool) → counted false 2 slot b ≡ x
        → (of_slot slot all ≤ suc (of_slot slot rs)) × (s + 1 ≤ num slot → of_slot slot all ≡ of_slot slot rs)
    step slot l true t =
        let z = slot_of slot b l t in
        let a = turn_count e (counted false 2 slot) true t in
        let n = R.none slot l (omega arith) in
        (omega arith, λ f. absurd (omega arith))
    step slot l false t = let a = turn_count e (counted false 2 slot) false t in (omega (arith, R.once slot l), λ f. R.none slot l (omega arith) ∙ a)

    pub ascending_next : Ascending all rs (s + 1)
    ascending_next = record {
      once = λ slot l. (step slot l (counted false 2 slot b) refl).0;
      none = λ slot l. (step slot l (counted false 2 slot b) refl).1;
    }

pub ascending_end : {all rs : List (List ℕ)} {low : ℕ} → Ascending all rs low → rs ≡ [] → SlotsOnce all
unfolding count_by
ascending_end R e slot l = omega (arith, R.once slot l, ap (of_slot slot) e)
