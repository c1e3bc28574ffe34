-- What a refused call leaves: "Nothing changes on a refusal", from the number that the host gets alone.
-- Assumes nothing.
use Rattle.std.proofs.Common.{◌≡◌, ℕ, Bool, true, false, not, ◌&&◌, leb, List, [], sym, refl, ap, ◌∙◌, subst, ap₂, le-leb, arith}
use Rattle.std.specs.Prelude.{Result as Outcome, Ok, Err}
use mathlib.Core.Bool.{false≢true}
use Rattle.courier_core.specs.Core.{refusal_number}
use Rattle.courier_core.specs.declared.Refusal.{Refusal}
use Rattle.rows.specs.declared.Device.{Device}
use Rattle.rows.specs.declared.Exchange.{Exchange}
use Rattle.rows.specs.Device.{fresh_device}
use Rattle.model.specs.State.{State}
use Rattle.model.specs.Calls.{Call, Answer, Result, refused, refused_or, answer_of, only}
use Rattle.model.specs.Step.{step}
use Rattle.model.specs.Areas.{Areas, AnswerAreas, Retold, view, no_session_areas, no_areas}
use Rattle.model.proofs.RefusalLaws.{refused_exactly, only_leaves}
use Rattle.load.specs.Load.{load_step}
use Rattle.load.proofs.ExactLaws.{load_refused_exactly}
use Rattle.boundary.specs.Boundary.{Kept}
use Rattle.host_answers.specs.declared.Answer.{Answer as HostAnswer}
use Rattle.goosetable.specs.Hosts.{LeavesAll, RefusalNumber, IsRefused}

-- ---- a number from 1 to 127 is said of a refusal alone

-- the result is a refusal, and n is its number
pub record Refuses (a : Answer) (n : ℕ) : Type 0 where
  pub why : Refusal
  pub is : a ≡ refused why
  pub number : n ≡ refusal_number why

-- a number that is no refusal's
abbrev pub is_other : ℕ → Bool
is_other n = not (leb 1 n && leb n 127)

pub numbered : (why : Refusal) → is_other (refusal_number why) ≡ false
numbered why = grind arith

-- what a call says, by the number alone, tells a refusal from everything else, and which it is
abbrev pub Tells : {A : Type 0} → (A → HostAnswer) → (Result → A) → Type 0
Tells host says = (o : Result) → RefusalNumber (host (says o)).said → Refuses o.answer (host (says o)).said

other : {A : Type 0} (n : ℕ) → is_other n ≡ true → RefusalNumber n → A
other n e h = absurd (false≢true (ap₂ (λ (a b : Bool). not (a && b)) (sym (le-leb 1 n h.0)) (sym (le-leb n 127 h.1)) ∙ e))

-- what a host says of a refusal has its number, and of whatever else a call says another than a refusal's: then the number tells which it is
pub by_answer : {A : Type 0} (host : Outcome A Refusal → HostAnswer) (says : Result → A) → ((why : Refusal) → (host (Err why)).said ≡ refusal_number why)
    → ((said : A) → is_other (host (Ok said)).said ≡ true) → Tells host (λ o. answer_of says o)
by_answer host says refusing said o h = go o.answer h
  where
    go : (m : Answer) → RefusalNumber (host (refused_or Err (Ok (says o)) m)).said → Refuses m (host (refused_or Err (Ok (says o)) m)).said
    go (refused why) h = record { why = why; is = refl; number = refusing why }
    go rest h = other (host (Ok (says o))).said (said (says o)) h

-- ---- nothing changes

-- a refusal of the call only answers
abbrev pub OnlyAnswers : (State → Result) → Type 0
OnlyAnswers call = (s : State) (why : Refusal) → (call s).answer ≡ refused why → call s ≡ only (refused why)

pub only_answers : (c : Call) → OnlyAnswers (λ s. step s c)
only_answers c s = (refused_exactly s c).unchanged

pub load_answers : (file : List ℕ) → OnlyAnswers (λ s. load_step s file)
load_answers file s = (load_refused_exactly s file).unchanged

-- `place` finds in all areas what the small ones hold, before a call and after it
abbrev pub Places : {S : Type 0} → (Areas → S) → (S → Areas → Areas) → (S → Areas → Areas) → Type 0
Places place before after = ((s : _) (a : Areas) → place (before s a) ≡ s) × ((s : _) (a : Areas) → place (after s a) ≡ s)

-- the device and the exchange
abbrev pub held_by : Areas → Device × Exchange
held_by a = (a.device, a.session.exchange)

module _ {D S A : Type 0} (k : Kept D S) (says : Result → A) (call : State → Result) (r : A) (d x : D) (before after : S → Areas → Areas) (lent back : AnswerAreas)
    (does : (a : Areas) → Retold says (call (view (before (k.holds d) a))) r (before (k.holds d) a) (after (k.holds x) a) lent back) where
  -- a call that only answers; what the small areas hold already, put again, changes no byte (`stays`)
  pub leaves_all : (m : Areas → Answer) → ((a : Areas) → call (view (before (k.holds d) a)) ≡ only (m a)) → (k.holds x ≡ k.holds d → x ≡ d) → (place : Areas → S)
      → Places place before after → LeavesAll k says (m no_areas) r d x before after lent back
  leaves_all m alone stays place p =
      let left : (a : Areas) → (after (k.holds x) a ≡ before (k.holds d) a) × (back ≡ lent) = λ a. only_leaves (m a) (alone a) (does a).areas (does a).answers in
      record {
        answer = (does no_areas).answer ∙ ap says (alone no_areas);
        small = stays (sym (p.1 (k.holds x) no_areas) ∙ ap place (left no_areas).0 ∙ p.0 (k.holds d) no_areas);
        areas = λ a. (left a).0;
        answers = (left no_areas).1;
      }

  -- a call that is refused, by its number
  pub refused_all : (host : A → HostAnswer) → Tells host says → OnlyAnswers call → RefusalNumber (host r).said → (k.holds x ≡ k.holds d → x ≡ d) → (place : Areas → S)
      → Places place before after → IsRefused k says r d x before after lent back
  refused_all host tells answers h stays place p =
      let told : (a : Areas) → Refuses (call (view (before (k.holds d) a))).answer _ = λ a.
      tells (call (view (before (k.holds d) a))) (subst (λ (q : A). RefusalNumber (host q).said) (does a).answer h) in
      record {
        why = (told no_areas).why;
        leaves = leaves_all (λ a. refused (told a).why) (λ a. answers (view (before (k.holds d) a)) (told a).why (told a).is) stays place p;
      }
