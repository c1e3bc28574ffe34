-- What the program writes: bytes that write took, in order. No contract says what the system does with the bytes of a write, so that these
-- definitions count them. Assumes nothing.
use Rattle.std.specs.Prelude.{ℕ, ◌+◌, ◌%◌, ◌^◌, ◌≤◌, ◌≡◌, Bool, true, false, Option, Some, None, List, [], ◌∷◌, ◌++◌, length, take}
use Rattle.model.specs.State.{State}
use Rattle.model.specs.Areas.{Areas}
use Rattle.drill_run.specs.Drill.{printed}
use Rattle.drill_reason.specs.Reason.{reason_of}
use Rattle.drill_reason.specs.Message.{message_of}
use Rattle.drill_log.specs.declared.Why.{Why}
use Rattle.drill_log.specs.declared.Why.TheVariants as cause
use Rattle.drill_turn.specs.declared.Turn.{Turn}
use Rattle.drill_turn.specs.Stream.{left, read_of, AtEnd, Turning}
use Rattle.drill.specs.declared.Wrote.{Wrote}
use Rattle.drill.specs.declared.Ran.{Ran}

-- ---- write

-- Write took these bytes: so many in all, modulo 2^64. Only the law of one write (`takes_once`) and of none (`sent_none`) look behind it, so that
-- what is sent grows by what a write took and by nothing else.
unfoldable pub Sent : ℕ → List ℕ → Type 0
Sent total bytes = length bytes % 2 ^ 64 ≡ total

-- the first n of these bytes were sent, behind all that was before
pub record Takes (total : ℕ) (bytes : List ℕ) (n total' : ℕ) : Type 0 where
  pub near : n ≤ length bytes
  pub sent : (before : List ℕ) → Sent total before → Sent total' (before ++ take n bytes)

-- where it says so, all of them were
unfoldable pub Writes : ℕ → List ℕ → Wrote → Type 0
Writes total bytes w = w.whole ≡ true → (before : List ℕ) → Sent total before → Sent w.total (before ++ bytes)

-- what standard error says of a record that is refused
unfoldable pub told_of : Turn → List ℕ → List ℕ
told_of t input = message_of ((t.records + 1) % 2 ^ 64) ((t.bytes + t.from) % 2 ^ 64) (reason_of (left t input))

-- how the program is used; 10 ends a line
abbrev pub usage : List ℕ
usage =
    -- usage: drill < LOG
    117 ∷ 115 ∷ 97 ∷ 103 ∷ 101 ∷ 58 ∷ 32 ∷ 100 ∷ 114 ∷ 105 ∷ 108 ∷ 108 ∷ 32 ∷ 60 ∷ 32 ∷ 76 ∷ 79 ∷ 71 ∷ 10 ∷
    -- It reads a log from standard input and prints a line for each action and reply, and one for each record.
    73 ∷ 116 ∷ 32 ∷ 114 ∷ 101 ∷ 97 ∷ 100 ∷ 115 ∷ 32 ∷ 97 ∷ 32 ∷ 108 ∷ 111 ∷ 103 ∷ 32 ∷ 102 ∷ 114 ∷ 111 ∷ 109 ∷ 32 ∷ 115 ∷ 116 ∷ 97 ∷ 110 ∷ 100 ∷ 97 ∷ 114
    ∷ 100 ∷ 32 ∷ 105 ∷ 110 ∷ 112 ∷ 117 ∷ 116 ∷ 32 ∷ 97 ∷ 110 ∷ 100 ∷ 32 ∷ 112 ∷ 114 ∷ 105 ∷ 110 ∷ 116 ∷ 115 ∷ 32 ∷ 97 ∷ 32 ∷ 108 ∷ 105 ∷ 110 ∷ 101 ∷ 32 ∷
    102 ∷ 111 ∷ 114 ∷ 32 ∷ 101 ∷ 97 ∷ 99 ∷ 104 ∷ 32 ∷ 97 ∷ 99 ∷ 116 ∷ 105 ∷ 111 ∷ 110 ∷ 32 ∷ 97 ∷ 110 ∷ 100 ∷ 32 ∷ 114 ∷ 101 ∷ 112 ∷ 108 ∷ 121 ∷ 44 ∷ 32 ∷
    97 ∷ 110 ∷ 100 ∷ 32 ∷ 111 ∷ 110 ∷ 101 ∷ 32 ∷ 102 ∷ 111 ∷ 114 ∷ 32 ∷ 101 ∷ 97 ∷ 99 ∷ 104 ∷ 32 ∷ 114 ∷ 101 ∷ 99 ∷ 111 ∷ 114 ∷ 100 ∷ 46 ∷ 10 ∷
    -- samples/README.md tells the format; tools/drill-log makes a log from text.
    115 ∷ 97 ∷ 109 ∷ 112 ∷ 108 ∷ 101 ∷ 115 ∷ 47 ∷ 82 ∷ 69 ∷ 65 ∷ 68 ∷ 77 ∷ 69 ∷ 46 ∷ 109 ∷ 100 ∷ 32 ∷ 116 ∷ 101 ∷ 108 ∷ 108 ∷ 115 ∷ 32 ∷ 116 ∷ 104 ∷ 101 ∷
    32 ∷ 102 ∷ 111 ∷ 114 ∷ 109 ∷ 97 ∷ 116 ∷ 59 ∷ 32 ∷ 116 ∷ 111 ∷ 111 ∷ 108 ∷ 115 ∷ 47 ∷ 100 ∷ 114 ∷ 105 ∷ 108 ∷ 108 ∷ 45 ∷ 108 ∷ 111 ∷ 103 ∷ 32 ∷ 109 ∷
    97 ∷ 107 ∷ 101 ∷ 115 ∷ 32 ∷ 97 ∷ 32 ∷ 108 ∷ 111 ∷ 103 ∷ 32 ∷ 102 ∷ 114 ∷ 111 ∷ 109 ∷ 32 ∷ 116 ∷ 101 ∷ 120 ∷ 116 ∷ 46 ∷ 10 ∷
    []

-- ---- the end of a run

-- Did the run come to a record of number 13 or to the end of the input? Was it cut off neither by a read nor by a write that failed?
abbrev pub is_done : Option Why → Bool
is_done None = false
is_done (Some cause.More) = false
is_done (Some cause.Full) = false
is_done (Some cause.Refused) = true
is_done (Some cause.Ended) = true
is_done (Some cause.Failed) = false

abbrev pub is_unbroken : Option Why → Bool
is_unbroken None = false
is_unbroken (Some cause.More) = true
is_unbroken (Some cause.Full) = true
is_unbroken (Some cause.Refused) = true
is_unbroken (Some cause.Ended) = true
is_unbroken (Some cause.Failed) = false

-- what a run answers of its last turn
abbrev pub ran_of : Turn → (wrote : ℕ) → Option Why → Ran
ran_of t wrote why = record { why = why; read = read_of t; wrote = wrote }

-- After number 13: it is told only where all of the turn's lines were sent.
pub record Halts (t : Turn) (w : Wrote) (r : Ran) : Type 0 where
  pub read : r.read ≡ read_of t
  pub wrote : r.wrote ≡ w.total
  pub refused : is_unbroken r.why ≡ true → (r.why ≡ Some cause.Refused) × (t.why ≡ cause.Refused) × (w.whole ≡ true)

-- the line at the end of the input, if there is one, sent behind all that was
pub record LastSent (t : Turn) (total total' : ℕ) : Type 0 where
  pub put : ℕ
  pub out : List ℕ
  pub end : AtEnd t put out
  pub sent : (before : List ℕ) → Sent total before → Sent total' (before ++ take put out)

-- After the end of the input: it is told only where its last line was sent.
pub record Finishes (t : Turn) (total : ℕ) (r : Ran) : Type 0 where
  pub read : r.read ≡ read_of t
  pub ended : is_unbroken r.why ≡ true → (r.why ≡ Some cause.Ended) × (t.why ≡ cause.Ended) × LastSent t total r.wrote

-- between two turns: all lines of the turns so far were sent
pub record Sending (s : State) (a : Areas) (t : Turn) (input : List ℕ) (total : ℕ) : Type 0 where
  pub turning : Turning s a t input
  pub sent : Sent total turning.lines

-- All that some log prints was sent, of as many bytes as were read; at number 13 it is what any log prints that begins so.
pub record Whole (s : State) (r : Ran) : Type 0 where
  pub log : List ℕ
  pub size : length log % 2 ^ 64 ≡ r.read
  pub sent : Sent r.wrote (printed s log)
  pub begins : r.why ≡ Some cause.Refused → (more : List ℕ) → printed s (log ++ more) ≡ printed s log

-- where a run says that it ended at number 13 or at the end of the input
unfoldable pub SentAll : State → Ran → Type 0
SentAll s r = is_done r.why ≡ true → Whole s r
