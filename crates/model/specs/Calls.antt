-- The calls, what they answer, and how every call goes: the first refusal that holds, or what it performs.
-- Assumes nothing.
use Rattle.std.specs.Prelude
use Rattle.std.specs.Prelude.{Ok, Err, ℕ, ◌+◌, Bool, true, false, cond, ◌||◌, List, [], ◌∷◌, ◌++◌, replicate, nat_lt, slice_index}
use Rattle.courier_core.specs.Core.{first_of, refusal_number}
use Rattle.courier_core.specs.declared.ContactId.{ContactId}
use Rattle.courier_core.specs.declared.Verification.{Verification}
use Rattle.courier_core.specs.declared.Refusal.{Refusal}
use Rattle.chain.specs.declared.Dir.{Dir}
use Rattle.courier.specs.declared.Header.{Header}
use Rattle.courier.specs.declared.Custody.{Custody}
use Rattle.courier.specs.Courier.{custody_code, header_bytes}
use Rattle.rows.specs.declared.Own.{Own}
use Rattle.rows.specs.declared.Reply.{Reply}
use Rattle.rows.specs.declared.Action.{Action}
use Rattle.rows.specs.Limits.{max_cells, prefix_area, offer_area, reply_area, action_area}
use Rattle.model.specs.State.{State, Change, nothing}

-- A call. Window rows and listed prefixes are the bytes of their areas; replies, actions, prefixes, blob, file and a page's area are the
-- lengths of the areas that are lent for an answer.
pub data Call : Type 0 where
  contact : (id : ContactId) → Verification → Call
  setting : (enabled : Bool) (copies lifetime : ℕ) → Call
  clock : (seconds : ℕ) → Call
  open_exchange : (peer : ContactId) → Call
  envelope : (replies actions : ℕ) (window : List ℕ) (peer : ContactId) (head : Header) (ct : List ℕ) → Call
  inventory_received : (replies : ℕ) (window : List ℕ) (peer : ContactId) (listed : List ℕ) → Call
  fetch : (replies : ℕ) (peer : ContactId) (tag : List ℕ) → Call
  custody_answer : (actions : ℕ) (peer : ContactId) (tag : List ℕ) → Custody → Call
  tomb : (actions : ℕ) (peer : ContactId) (tag s : List ℕ) → Call
  opened : (replies actions : ℕ) (peer : ContactId) (tag s : List ℕ) (expiry : ℕ) → Call
  failed : (peer : ContactId) (tag : List ℕ) → Call
  stored_tombstone : (actions : ℕ) (tag s : List ℕ) (expiry : ℕ) → Call
  add_own : (id : ContactId) (msgno : ℕ) (key : List ℕ) → Dir → (generation idx : ℕ) (s ct : List ℕ) → Call
  maintenance : (actions : ℕ) → Call
  inventory_of_ours : (prefixes : ℕ) (peer : ContactId) → Call
  row_blob : (blob slot : ℕ) → Call
  save : (file : ℕ) → Call
  page : (area number : ℕ) → Call

-- the cell area that a ciphertext is in
pub data Cells : Type 0 where
  of_own of_carried : Cells

-- what a call that is done says beside its replies and actions
pub data Detail : Type 0 where
  nothing_more : Detail
  ours : (contact : ContactId) (generation idx : ℕ) → Detail  -- an envelope in the window
  found : Cells → (position len : ℕ) → Detail  -- fetch: the part of the cell area that is the ciphertext
  missing : Detail  -- fetch: nothing; row blob: no such row
  own_row : Own → Detail  -- own envelope: the row
  no_envelope : Detail  -- own envelope: none
  wrote : (count : ℕ) → Detail  -- prefixes of an inventory, bytes of a blob, a file or a page

pub data Answer : Type 0 where
  refused : Refusal → Answer  -- document 01's number: `answer_number`
  malformed : Answer  -- the yes beside the replies
  done_with : Detail → Answer

abbrev pub done : Answer
done = done_with nothing_more

-- what a call answers, the rows that it writes to the reply and action areas, the bytes that it writes to the area of prefixes, blob,
-- file or page, the numbers that it tells beside its answer, and what it changes
pub record Result : Type 0 where
  pub answer : Answer
  pub replies : List Reply
  pub actions : List Action
  pub bytes : List ℕ
  pub told : List ℕ
  pub change : Change

-- ---- an answer by its parts: the refusal, is it malformed, the detail; whoever reads an answer does it by these, so that one more detail is one more case here

abbrev pub refused_or : {A : Type 0} → (Refusal → A) → A → Answer → A
refused_or refusing otherwise (refused why) = refusing why
refused_or refusing otherwise other = otherwise

abbrev pub is_malformed : Answer → Bool
is_malformed malformed = true
is_malformed other = false

abbrev pub detail : Answer → Detail
detail (done_with d) = d
detail other = nothing_more

abbrev pub is_refused : Answer → Bool
is_refused m = refused_or (λ why. true) false m

-- document 01's number of a refusal, 0 of every other answer
abbrev pub answer_number : Answer → ℕ
answer_number m = refused_or refusal_number 0 m

-- done, with nothing more to say
abbrev pub is_done : Answer → Bool
is_done (done_with nothing_more) = true
is_done other = false

-- how many prefixes or bytes are written
abbrev pub wrote_of : Detail → ℕ
wrote_of (wrote count) = count
wrote_of other = 0

-- what a call answers: its refusal, or what it says where it is not refused
abbrev pub answer_of : {A : Type 0} → (Result → A) → Result → Prelude.Result A Refusal
answer_of says o = refused_or Err (Ok (says o)) o.answer

-- a result without bytes and numbers
abbrev pub result : Answer → List Reply → List Action → Change → Result
result a rs acts c = record { answer = a; replies = rs; actions = acts; bytes = []; told = []; change = c }

-- the same with these numbers
abbrev pub telling : List ℕ → Result → Result
telling ns o = record { answer = o.answer; replies = o.replies; actions = o.actions; bytes = o.bytes; told = ns; change = o.change }

-- the number at i, 0 where none is told
abbrev pub told_at : ℕ → Result → ℕ
told_at i o = slice_index o.told i

-- an answer that changes nothing and lists nothing
abbrev pub only : Answer → Result
only a = result a [] [] nothing

-- a call with its refusals in document 01's order, and what it performs where none holds: nothing changes on a refusal
unfoldable pub step_of : List (Bool × Refusal) → Result → Result
step_of tests performed = first_of tests (λ why. only (refused why)) performed

-- ---- the sizes of number 1

abbrev pub short_replies : ℕ → Bool
short_replies len = nat_lt len reply_area

abbrev pub short_actions : State → ℕ → Bool
short_actions s len = nat_lt len (action_area s.tombstone_rows)

abbrev pub short_exchange : State → Bool
short_exchange s = nat_lt s.session.prefix_area prefix_area || nat_lt s.session.offer_area offer_area

-- ---- rows of the answer areas

abbrev pub put_courier : ℕ → Action
put_courier slot = record { kind = 0; number = slot; msgno = 0 }

abbrev pub delete_courier : ℕ → Action
delete_courier slot = record { kind = 1; number = slot; msgno = 0 }

abbrev pub put_queued : ContactId → ℕ → Action
put_queued id n = record { kind = 2; number = id.0; msgno = n }

abbrev pub fetch_reply : List ℕ → Reply
fetch_reply tag = record { kind = 0; cell = 0; body = tag ++ replicate 21 0 }

-- in a reply, the cell of a row whose cell does not count: it has no ciphertext
abbrev pub no_cell : ℕ
no_cell = 65535

abbrev pub cell_from : ℕ → ℕ → ℕ
cell_from first cell = cond (nat_lt cell max_cells) (first + cell) no_cell

-- an envelope's cell: own from 0, carried from max_cells
abbrev pub first_cell : Cells → ℕ
first_cell of_own = 0
first_cell of_carried = max_cells

abbrev pub reply_cell : Cells → ℕ → ℕ
reply_cell cells cell = cell_from (first_cell cells) cell

-- an envelope, with its cell as a reply says it
abbrev pub envelope_row : ℕ → Header → Reply
envelope_row cell head = record { kind = 1; cell = cell; body = header_bytes head }

abbrev pub envelope_reply : Cells → ℕ → Header → Reply
envelope_reply cells cell head = envelope_row (reply_cell cells cell) head

abbrev pub custody_reply : List ℕ → Custody → Reply
custody_reply tag code = record { kind = 2; cell = 0; body = tag ++ (custody_code code ∷ replicate 20 0) }

abbrev pub tomb_reply : List ℕ → List ℕ → Reply
tomb_reply tag s = record { kind = 3; cell = 0; body = tag ++ s ++ replicate 5 0 }
