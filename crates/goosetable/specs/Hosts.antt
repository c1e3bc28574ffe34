-- What the contract of an exported call says.
-- Assumes nothing.
use Rattle.std.specs.Prelude.{◌≡◌, ℕ, ◌≤◌, List, length, Option, Some, None}
use Rattle.courier_core.specs.declared.ContactId.{ContactId}
use Rattle.courier_core.specs.declared.Refusal.{Refusal}
use Rattle.courier.specs.declared.Header.{Header}
use Rattle.model.specs.State.{State}
use Rattle.model.specs.Calls
use Rattle.model.specs.Calls.{Call, Answer as ModelAnswer, Result, told_at, refused, only}
use Rattle.model.specs.Step.{step}
use Rattle.model.specs.Areas.{Areas, AnswerAreas, Retold, view}
use Rattle.model.specs.Lent.{no_answers}
use Rattle.rows.specs.declared.Device.{Device}
use Rattle.boundary.specs.Boundary.{Kept, device_kept}
use Rattle.host_answers.specs.HostAnswers.{answered}
use Rattle.host_answers.specs.declared.Answer.{Answer}

-- Only m is answered, and every byte of every area that is lent is as it was: of the small areas, of the others, and of those for an answer.
pub record LeavesAll {D S A : Type 0} (k : Kept D S) (says : Result → A) (m : ModelAnswer) (r : A) (d x : D) (before after : S → Areas → Areas) (lent back : AnswerAreas) : Type 0 where
  pub answer : r ≡ says (only m)
  pub small : x ≡ d
  pub areas : (a : Areas) → after (k.holds x) a ≡ before (k.holds d) a
  pub answers : back ≡ lent

-- a refusal's number; the other answers are 0 and 128 to 131
abbrev pub RefusalNumber : ℕ → Type 0
RefusalNumber n = (1 ≤ n) × (n ≤ 127)

-- a refusal is answered, whatever its number
pub record IsRefused {D S A : Type 0} (k : Kept D S) (says : Result → A) (r : A) (d x : D) (before after : S → Areas → Areas) (lent back : AnswerAreas) : Type 0 where
  pub why : Refusal
  pub leaves : LeavesAll k says (refused why) r d x before after lent back

-- the length beside an answer: how many prefixes or bytes are written, the number that a call which is done tells, and 0 where there is neither; of a
-- fetch that finds an envelope it is that of its part
abbrev pub Length : (told : ℕ) → ModelAnswer → ℕ → Type 0
Length told (Calls.done_with Calls.nothing_more) len = len ≡ told
Length told (Calls.done_with (Calls.found cells position n)) len = Unit {0}
Length told (Calls.done_with (Calls.wrote count)) len = len ≡ count
Length told other len = len ≡ 0

-- the counts of replies and actions are how many the model's result has, and the length is what its answer says
pub record Counted (r : Answer) (o : Result) : Type 0 where
  pub replies : r.replies ≡ length o.replies
  pub actions : r.actions ≡ length o.actions
  pub written : Length (told_at 0 o) o.answer r.length

-- Small areas d, which hold the device and the exchange of a call, are x after it. It answers and leaves what `call` gives of the state that all areas hold, and
-- x has just the bytes of what it holds, put into d. Where the number in its answer (`host` r) is a refusal's nothing changes.
pub record Hosts {D S A : Type 0} (k : Kept D S) (host : A → Answer) (says : Result → A) (call : State → Result) (r : A) (d x : D) (before after : S → Areas → Areas) (lent back : AnswerAreas) : Type 0 where
  pub does : (a : Areas) → Retold says (call (view (before (k.holds d) a))) r (before (k.holds d) a) (after (k.holds x) a) lent back
  pub small : x ≡ k.put d (k.holds x)
  pub counted : (a : Areas) → Counted (host r) (call (view (before (k.holds d) a)))
  pub refusal : RefusalNumber (host r).said → IsRefused k says r d x before after lent back

-- the answer alone, or with the area of a row beside it
abbrev pub alone : Answer → Answer
alone r = r

abbrev pub beside_row : Answer × List ℕ → Answer
beside_row r = r.0

-- one of the model's calls
abbrev pub HostsCall : {D S : Type 0} → Kept D S → (Result → Answer) → Call → Answer → D → D → (S → Areas → Areas) → (S → Areas → Areas) → AnswerAreas → AnswerAreas → Type 0
HostsCall k says call r d x before after lent back = Hosts k alone says (λ s. step s call) r d x before after lent back

-- own envelope, with the area of its row
abbrev pub HostsOwn : (Result → Answer × List ℕ) → Call → Answer × List ℕ → List ℕ → List ℕ → (Device → Areas → Areas) → (Device → Areas → Areas) → Type 0
HostsOwn says call r d x before after = Hosts device_kept beside_row says (λ s. step s call) r d x before after no_answers no_answers

-- ---- bytes that a host passes for a value of few cases

-- a byte that reads as x, and what is said of x; or one that reads as nothing, and what is said then
pub data OnRead {A : Type 0} (o : Option A) (right : A → Type 0) (wrong : Type 0) : Type 0 where
  reads : (x : A) → o ≡ Some x → right x → OnRead o right wrong
  unread : o ≡ None → wrong → OnRead o right wrong

-- a wrong byte: the number, and every area that is lent to be written as it was
pub record Stays (number : ℕ) (r : Answer) (before after : List (List ℕ)) : Type 0 where
  pub answer : r ≡ answered number 0 0 0
  pub areas : after ≡ before

-- a call that is done and fills one area
pub record Fills (made : List ℕ) (r : Answer) (after : List ℕ) : Type 0 where
  pub answer : r ≡ answered 0 0 0 0
  pub area : after ≡ made

-- ---- values by their numbers

abbrev pub contact_id : ℕ → ContactId
contact_id id = record { 0 = id }

abbrev pub header_from : (tag c : List ℕ) → (expiry copies : ℕ) → Header
header_from tag c expiry copies = record { tag = tag; c = c; expiry_min = expiry; copies = copies }
