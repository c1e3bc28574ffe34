-- Laws of a log: what stands whole at the front stays so whatever follows it, the records behind it, and what is printed.
-- Assumes nothing.
use Rattle.std.proofs.Common.{◌≡◌, ℕ, zero, suc, ◌+◌, ◌-◌, ◌<◌, ◌≤◌, Bool, true, false, cond, ltb, leb, List, [], ◌∷◌, ◌++◌, length, drop, sym, refl, ap, ◌∙◌, subst, ap₂, true≢false, append-nil, arith, length-append, length-drop, ltb-false, leb-true, Option, Some, None, Ok, Err}
use mathlib.Core.List.{flat_map}
use lib.Seq.{drop-append-le}
use Rattle.octets.specs.Bytes.{part, num}
use Rattle.octets.proofs.Parts.{part_left}
use Rattle.courier_core.specs.declared.Refusal.TheVariants as refusal
use Rattle.wire.specs.declared.Head.{Head}
use Rattle.wire.specs.Log.{Record, ReadHead, whole, mark_of, fits, mark_at, size_at, head_of, body_of}
use Rattle.wire.proofs.HeadLaws.{head_whole, head_wrong, of_whole}
use Rattle.model.specs.State.{State}
use Rattle.drill_lines.specs.Lines.{record_lines, last_line}
use Rattle.drill_run.specs.Drill.{record_step, state_after, lines_of, last_record, records_by, records_from, records_of, lines_from, printed, performed, made_of}

-- ---- a head, and more bytes behind

module _ (s t : List ℕ) where
  -- a head that is not in want of bytes stays what it is
  abbrev Stays : ReadHead → Type 0
  Stays (Ok (Some h)) = head_of (s ++ t) ≡ Ok (Some h)
  Stays (Ok None) = Unit {0}
  Stays (Err why) = head_of (s ++ t) ≡ Err why

  stays_cond : (c : Bool) (x y : ReadHead) → (c ≡ true → Stays x) → (c ≡ false → Stays y) → Stays (cond c x y)
  stays_cond true x y hx hy = hx refl
  stays_cond false x y hx hy = hy refl

  module _ (room : 4 ≤ length s) where
    same_mark : mark_at s ≡ mark_at (s ++ t)
    same_mark = ap (λ (p : List ℕ). mark_of (num p)) (sym (part_left s t 0 2 (omega arith)))

    same_size : size_at s ≡ size_at (s ++ t)
    same_size = ap num (sym (part_left s t 2 2 (omega arith)))

    longer : 4 ≤ length (s ++ t)
    longer = omega (arith, length-append s t)

  stays : Stays (head_of s)
  unfolding head_of
  stays =
      stays_cond (ltb (length s) 4) (Ok None) _ (λ e. tt)
      (λ e. let room : 4 ≤ length s = ltb-false (length s) 4 e in
      stays_cond (fits (mark_at s) (size_at s)) _ (Err refusal.LogRecord)
      (λ f. stays_cond (leb (size_at s) (length s - 4)) (whole (mark_at s) (size_at s)) (Ok None)
      (λ g. sym (head_whole (s ++ t) {n = size_at s} {m = mark_at s} {t = true} (same_mark room) (same_size room) (sym f) (longer room) refl
      (omega (arith, leb-true (size_at s) (length s - 4) g, length-append s t))))
      (λ g. tt))
      (λ f. sym (head_wrong (s ++ t) {n = size_at s} {m = mark_at s} {t = false} (same_mark room) (same_size room) (sym f) (longer room) refl)))

  pub whole_stays : {h : Head} → head_of s ≡ Ok (Some h) → head_of (s ++ t) ≡ Ok (Some h)
  whole_stays e = subst Stays e stays

  pub wrong_stays : head_of s ≡ Err refusal.LogRecord → head_of (s ++ t) ≡ Err refusal.LogRecord
  wrong_stays e = subst Stays e stays

-- ---- the records: how many are asked for does not matter, if enough are

records_none : (n : ℕ) → records_from n [] ≡ []
unfolding records_from
records_none zero = refl
records_none (suc n) = refl

same_behind : (h : ReadHead) (b : List ℕ) (f g : List ℕ → List (Option Record)) → ((len : ℕ) → f (drop (4 + len) b) ≡ g (drop (4 + len) b)) → records_by h b f ≡ records_by h b g
unfolding records_by
same_behind (Ok (Some h)) b f g e = ap (λ (l : List (Option Record)). body_of h.mark (part b 4 h.len) ∷ l) (e h.len)
same_behind (Ok None) b f g e = refl
same_behind (Err why) b f g e = refl

records_enough : (n k : ℕ) (b : List ℕ) → length b ≤ n → length b ≤ k → records_from n b ≡ records_from k b
unfolding records_from
records_enough zero k [] h l = sym (records_none k)
records_enough zero k (x ∷ b) h l = absurd (omega arith)
records_enough (suc n) k [] h l = sym (records_none k)
records_enough (suc n) zero (x ∷ b) h l = absurd (omega arith)
records_enough (suc n) (suc k) (x ∷ b) h l =
    same_behind (head_of (x ∷ b)) (x ∷ b) (records_from n) (records_from k)
    (λ len. records_enough n k (drop (4 + len) (x ∷ b)) (omega (arith, length-drop (4 + len) (x ∷ b))) (omega (arith, length-drop (4 + len) (x ∷ b))))

-- ---- the records, by what stands at the front

pub records_end : records_of [] ≡ []
unfolding records_of records_from
records_end = refl

-- some bytes, and the head at their front
records_at_lem : (b : List ℕ) (h : ReadHead) → 0 < length b → head_of b ≡ h → records_of b ≡ records_by h b records_of
unfolding records_of records_from
records_at_lem [] h least e = absurd (omega arith)
records_at_lem (x ∷ b) h least e =
    ap (λ (k : ReadHead). records_by k (x ∷ b) (records_from (length b))) e
    ∙ same_behind h (x ∷ b) (records_from (length b)) records_of
    (λ len. records_enough (length b) (length (drop (4 + len) (x ∷ b))) (drop (4 + len) (x ∷ b)) (omega (arith, length-drop (4 + len) (x ∷ b))) (omega arith))

pub records_whole : {h : Head} (b : List ℕ) → head_of b ≡ Ok (Some h) → records_of b ≡ body_of h.mark (part b 4 h.len) ∷ records_of (drop (4 + h.len) b)
unfolding records_by
records_whole {h} b e = records_at_lem b (Ok (Some h)) (omega (arith, of_whole b refl e)) e

pub records_wrong : (b : List ℕ) → 0 < length b → head_of b ≡ Err refusal.LogRecord → records_of b ≡ None ∷ []
unfolding records_by
records_wrong b least e = records_at_lem b (Err refusal.LogRecord) least e

-- input that ends inside a record
pub records_cut : (b : List ℕ) → 0 < length b → head_of b ≡ Ok None → records_of b ≡ None ∷ []
unfolding records_by
records_cut b least e = records_at_lem b (Ok None) least e

-- ---- what is printed, by what stands at the front, whatever follows

-- of a record that the grammar refuses, whatever the state
pub lines_wrong : (s : State) → lines_from s (None ∷ []) ≡ last_line (Err refusal.LogRecord)
unfolding lines_from lines_of last_record record_step record_lines flat_map
lines_wrong s = append-nil _

pub printed_end : (s : State) → printed s [] ≡ []
unfolding printed lines_from
printed_end s = ap (lines_from s) records_end

pub printed_cut : (s : State) (b : List ℕ) → 0 < length b → head_of b ≡ Ok None → printed s b ≡ last_line (Err refusal.LogRecord)
unfolding printed
printed_cut s b least e = ap (lines_from s) (records_cut b least e) ∙ lines_wrong s

-- a wrong head has its four bytes
wrong_some : (b : List ℕ) → head_of b ≡ Err refusal.LogRecord → 0 < length b
unfolding head_of
wrong_some [] e = let z : ◌≡◌ {A = ℕ} 0 1 = cc in absurd (omega arith)
wrong_some (x ∷ b) e = omega arith

-- the calls that are made of a record and those behind it
made_on : (s : State) (q : Option Record) (rs : List (Option Record)) → last_record s q ≡ false → performed s (q ∷ rs) ≡ made_of q ++ performed (state_after s q) rs
unfolding performed last_record record_step
made_on s None rs f = absurd (true≢false f)
made_on s (Some r) rs f = ap (λ (c : Bool). r ∷ cond c [] (performed (state_after s (Some r)) rs)) f

made_stop : (s : State) (q : Option Record) (rs : List (Option Record)) → last_record s q ≡ true → performed s (q ∷ rs) ≡ made_of q
unfolding performed
made_stop s None rs f = refl
made_stop s (Some r) rs f = ap (λ (c : Bool). r ∷ cond c [] (performed (state_after s (Some r)) rs)) f

module _ (s : State) (b t : List ℕ) where
  pub performed_wrong : head_of b ≡ Err refusal.LogRecord → performed s (records_of (b ++ t)) ≡ []
  unfolding performed
  performed_wrong e = ap (performed s) (records_wrong (b ++ t) (omega (arith, length-append b t, wrong_some b e)) (wrong_stays b t e))

  pub printed_wrong : head_of b ≡ Err refusal.LogRecord → printed s (b ++ t) ≡ last_line (Err refusal.LogRecord)
  unfolding printed
  printed_wrong e =
      ap (lines_from s) (records_wrong (b ++ t) (omega (arith, length-append b t, wrong_some b e)) (wrong_stays b t e)) ∙ lines_wrong s

  module _ {h : Head} (e : head_of b ≡ Ok (Some h)) where
    abbrev record_at : Option Record
    record_at = body_of h.mark (part b 4 h.len)

    inside : 4 + h.len ≤ length b
    inside = of_whole b refl e

    records_on : records_of (b ++ t) ≡ record_at ∷ records_of (drop (4 + h.len) b ++ t)
    records_on =
        records_whole (b ++ t) (whole_stays b t e)
        ∙ ap₂ (λ (p q : List ℕ). body_of h.mark p ∷ records_of q) (part_left b t 4 h.len inside) (drop-append-le (4 + h.len) b t inside)

    pub printed_whole : printed s (b ++ t) ≡ lines_of s record_at ++ cond (last_record s record_at) [] (printed (state_after s record_at) (drop (4 + h.len) b ++ t))
    unfolding printed lines_from
    printed_whole = ap (lines_from s) records_on

    -- it goes on behind a record that is not the last, and stops at one that is
    pub printed_on : last_record s record_at ≡ false → printed s (b ++ t) ≡ lines_of s record_at ++ printed (state_after s record_at) (drop (4 + h.len) b ++ t)
    printed_on f =
        printed_whole
        ∙ ap (λ (c : Bool). lines_of s record_at ++ cond c [] (printed (state_after s record_at) (drop (4 + h.len) b ++ t))) f

    pub printed_stop : last_record s record_at ≡ true → printed s (b ++ t) ≡ lines_of s record_at
    printed_stop f =
        printed_whole
        ∙ ap (λ (c : Bool). lines_of s record_at ++ cond c [] (printed (state_after s record_at) (drop (4 + h.len) b ++ t))) f
        ∙ append-nil (lines_of s record_at)

    -- the calls that are made, in the same way
    pub performed_on : last_record s record_at ≡ false
        → performed s (records_of (b ++ t)) ≡ made_of record_at ++ performed (state_after s record_at) (records_of (drop (4 + h.len) b ++ t))
    performed_on f = ap (performed s) records_on ∙ made_on s record_at (records_of (drop (4 + h.len) b ++ t)) f

    pub performed_stop : last_record s record_at ≡ true → performed s (records_of (b ++ t)) ≡ made_of record_at
    performed_stop f = ap (performed s) records_on ∙ made_stop s record_at (records_of (drop (4 + h.len) b ++ t)) f
