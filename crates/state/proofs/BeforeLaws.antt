-- What request Five changes of the row reader: a carried row with no copies is read, as it was with one, and nothing else is.
-- Assumes nothing.
use Rattle.std.proofs.Common.{◌≡◌, ℕ, zero, suc, ◌+◌, ◌-◌, ◌<◌, ◌≤◌, Bool, true, false, cond, ◌&&◌, eqb, leb, ltb, List, [], ◌∷◌, length, get_or, set, drop, sym, refl, ap, ◌∙◌, ap₂, arith, eq-eqb, lt-ltb, true≢false, Some, None, Option}
use Rattle.std.proofs.lemmas.List.{get_or-set_same, get_or-set_other, length-set, drop-set-lt}
use mathlib.Core.Bool.{and-true, and-false}
use Rattle.octets.specs.Bytes.{part, num}
use Rattle.octets.proofs.Parts.{part_part, set_splice, read_before}
use Rattle.octets.proofs.Numbers.{num_one}
use Rattle.courier.specs.Courier.{header_of, carried_length, envelope_valid}
use Rattle.courier.proofs.Laws.{not_valid}
use Rattle.state.specs.declared.Carried.{Carried}
use Rattle.state.specs.Held.{Held, carried, tombstone, carried_of, reads_back, carried_in, tombstone_of, tombstone_in, held_decode}
use Rattle.state.specs.Before.{carried_in_before_five, held_decode_before_five, NoCopies, without_copies, read_without_copies, OnlyNoCopies}
use Rattle.state.proofs.HeldLaws.{passes, kind_0}

-- with a copy, what is read back is what is valid at minute 0
valid_copies : (len copies expiry : ℕ) → 0 < copies → envelope_valid len copies expiry 0 ≡ reads_back len expiry
unfolding envelope_valid reads_back
valid_copies len copies expiry h =
    ap (λ (t : Bool). carried_length len && t && ltb 0 expiry) (lt-ltb 0 copies h) ∙ ap (λ (t : Bool). t && ltb 0 expiry) (and-true (carried_length len))

module _ (b : List ℕ) where
  abbrev r : Carried
  r = carried_of b

  abbrev read : Bool → Option Held
  read t = cond t (Some (carried r (drop 46 b))) None

  with_none : r.header.copies ≡ 0 → carried_in_before_five b ≡ None
  unfolding carried_in_before_five
  with_none e =
      ap (λ (t : Bool). read (leb 46 (length b) && t)) (not_valid (length b - 46) r.header.copies r.header.expiry_min 0 (λ h k. omega (arith, e)))
      ∙ ap read (and-false (leb 46 (length b)))

  with_copies : 0 < r.header.copies → carried_in b ≡ carried_in_before_five b
  unfolding carried_in carried_in_before_five
  with_copies h =
      ap (λ (t : Bool). read (leb 46 (length b) && t)) (sym (valid_copies (length b - 46) r.header.copies r.header.expiry_min h))

  no_copies : NoCopies (carried_in b) → r.header.copies ≡ 0
  unfolding carried_in
  no_copies = go (leb 46 (length b) && passes b)
    where
      go : (t : Bool) → NoCopies (read t) → r.header.copies ≡ 0
      go true n = n
      go false n = absurd n

  same_carried : (NoCopies (carried_in b) → ⊥) → carried_in b ≡ carried_in_before_five b
  unfolding carried_in
  same_carried k = by r.header.copies refl
    where
      unread : r.header.copies ≡ 0 → (t : Bool) → (NoCopies (read t) → ⊥) → read t ≡ None
      unread e true f = absurd (f e)
      unread e false f = refl

      by : (n : ℕ) → r.header.copies ≡ n → carried_in b ≡ carried_in_before_five b
      by zero e = unread e (leb 46 (length b) && passes b) k ∙ sym (with_none e)
      by (suc n) e = with_copies (omega (arith, e))

  -- whatever is read of another kind
  abbrev rest : Option Held
  rest = cond (eqb (get_or b 0 0) 1) (tombstone_in b) None

  no_rest : NoCopies rest → ⊥
  unfolding tombstone_in
  no_rest = go (eqb (get_or b 0 0) 1) (eqb (length b) 37)
    where
      go : (k l : Bool) → NoCopies (cond k (cond l (Some (tombstone (tombstone_of b))) None) None) → ⊥
      go true true n = n
      go true false n = n
      go false l n = n

  same_lem : (NoCopies (held_decode b) → ⊥) → held_decode b ≡ held_decode_before_five b
  unfolding held_decode held_decode_before_five
  same_lem = go (eqb (get_or b 0 0) 0)
    where
      go : (t : Bool) → (NoCopies (cond t (carried_in b) rest) → ⊥) → cond t (carried_in b) rest ≡ cond t (carried_in_before_five b) rest
      go true k = same_carried k
      go false k = refl

  refused_lem : NoCopies (held_decode b) → held_decode_before_five b ≡ None
  unfolding held_decode held_decode_before_five
  refused_lem = go (eqb (get_or b 0 0) 0)
    where
      go : (t : Bool) → NoCopies (cond t (carried_in b) rest) → cond t (carried_in_before_five b) rest ≡ None
      go true n = with_none (no_copies n)
      go false n = absurd (no_rest n)

-- ---- with 1 in the byte of copies

module _ (b : List ℕ) (h : 46 ≤ length b) where
  abbrev one : List ℕ
  one = set b 45 1

  length_one : length one ≡ length b
  length_one = length-set b 45 1

  part_one_lem : (i n : ℕ) → i + n ≤ 45 → part one i n ≡ part b i n
  part_one_lem i n k = ap (λ (l : List ℕ). part l i n) (set_splice b 45 1 (omega arith)) ∙ read_before b 45 (1 ∷ []) i n (omega arith) k

  inner : (l : List ℕ) (i n : ℕ) → i + n ≤ 37 → part (part l 9 37) i n ≡ part l (9 + i) n
  inner l i n k = part_part l 9 37 i n k

  inner_same : (i n : ℕ) → i + n ≤ 36 → part (part one 9 37) i n ≡ part (part b 9 37) i n
  inner_same i n k = inner one i n (omega arith) ∙ part_one_lem (9 + i) n (omega arith) ∙ sym (inner b i n (omega arith))

  copies_of : (l : List ℕ) → 46 ≤ length l → num (part (part l 9 37) 36 1) ≡ get_or l 45 0
  copies_of l k = ap num (inner l 36 1 (omega arith)) ∙ num_one l 45 (omega arith)

  one_copy : (carried_of one).header.copies ≡ 1
  unfolding carried_of header_of
  one_copy = copies_of one (omega (arith, length_one)) ∙ get_or-set_same b 45 1 0 (omega arith)

  -- but for its copies the row is the same
  row_one : get_or b 45 0 ≡ 0 → without_copies (carried_of one) ≡ carried_of b
  unfolding carried_of header_of
  row_one e =
      λ i. record {
        depositor = record { 0 = ap num (part_one_lem 1 8 (omega arith)) i };
        header = record {
          tag = inner_same 0 16 (omega arith) i;
          c = inner_same 16 16 (omega arith) i;
          expiry_min = ap num (inner_same 32 4 (omega arith)) i;
          copies = sym (copies_of b h ∙ e) i;
        };
      }

  as_with_1_lem : get_or b 0 0 ≡ 0 → get_or b 45 0 ≡ 0 → held_decode b ≡ read_without_copies (held_decode_before_five one)
  unfolding held_decode_before_five carried_in
  as_with_1_lem k e =
      kind_0 b k
      ∙ go (leb 46 (length b) && passes b) (leb 46 (length one) && passes one) (λ i. leb 46 (sym length_one i) && reads_back (sym length_one i - 46) (expiry i))
      ∙ ap read_without_copies (with_copies one (omega (arith, one_copy)))
      ∙ ap (λ (t : Bool). read_without_copies (cond t (carried_in_before_five one) (rest one))) (sym (eq-eqb (get_or one 0 0) 0 (get_or-set_other b 45 0 1 0 (λ z. omega arith) ∙ k)))
    where
      expiry : (carried_of b).header.expiry_min ≡ (carried_of one).header.expiry_min
      expiry = ap (λ (x : Carried). x.header.expiry_min) (sym (row_one e))

      go : (s t : Bool) → s ≡ t → cond s (Some (carried (carried_of b) (drop 46 b))) None ≡ read_without_copies (cond t (Some (carried (carried_of one) (drop 46 one))) None)
      go true true q = ap₂ (λ (x : Carried) (l : List ℕ). Some (carried x l)) (sym (row_one e)) (sym (drop-set-lt 46 b 45 1 (omega arith)))
      go true false q = absurd (true≢false q)
      go false true q = absurd (true≢false (sym q))
      go false false q = refl

-- Of every blob: nothing but a carried row with no copies is read otherwise than before request Five.
pub only_no_copies : (b : List ℕ) → OnlyNoCopies b
only_no_copies b = record { same = same_lem b; refused = refused_lem b; as_with_1 = λ k h e. as_with_1_lem b h k e }
