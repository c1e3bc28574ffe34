-- The drill's log, read in pieces (document 01, "Drill program"): what one turn hands on to the next. Assumes nothing.
use Rattle.std.specs.Prelude.{◌≡◌, ℕ, ◌+◌, ◌-◌, ◌%◌, ◌^◌, ◌≤◌, true, cond, List, [], ◌++◌, length, take, ◌==◌, Option, None, Some, Ok}
use Rattle.std.specs.Option.{unwrap_or}
use Rattle.octets.specs.Bytes.{part}
use Rattle.wire.specs.Log.{head_of}
use Rattle.rows.specs.declared.Device.{Device}
use Rattle.rows.specs.declared.Exchange.{Exchange}
use Rattle.rows.specs.Device.{fresh_device, closed_exchange}
use Rattle.model.specs.State.{State}
use Rattle.model.specs.Areas.{Areas}
use Rattle.drill_run.specs.Drill.{printed}
use Rattle.drill_log.specs.declared.Why.{Why}
use Rattle.drill_log.specs.declared.Why.TheVariants as cause
use Rattle.drill_log.specs.Run.{Running, Runs, goes_on}
use Rattle.drill_turn.specs.declared.Turn.{Turn}

-- ---- a turn

-- the bytes of the buffer that are not done
abbrev pub left : Turn → List ℕ → List ℕ
left t input = part input t.from (t.have - t.from)

-- how many bytes of the log were read, modulo 2^64
abbrev pub read_of : Turn → ℕ
read_of t = (t.bytes + t.have) % 2 ^ 64

-- they stand in the buffer of 65,536 bytes
pub record Inside (from have : ℕ) : Type 0 where
  pub order : from ≤ have
  pub room : have ≤ 65536

-- what is handed on where no record is performed
abbrev pub turn_of : Device → Exchange → (from have : ℕ) (why : Why) (records bytes : ℕ) → Turn
turn_of d x from have why records bytes = record {
  device = d;
  exchange = x;
  from = from;
  have = have;
  put = 0;
  why = why;
  records = records;
  bytes = bytes;
}

-- at the start: the fresh device, no exchange open, nothing read
abbrev pub first_turn : Turn
first_turn = turn_of fresh_device closed_exchange 0 0 cause.More 0 0

-- the same device and exchange, with other bytes in the buffer
abbrev pub with_input : Turn → (from have : ℕ) (why : Why) (bytes : ℕ) → Turn
with_input t from have why bytes = turn_of t.device t.exchange from have why t.records bytes

-- what is not done stands at the front of the buffer
abbrev pub kept_turn : Turn → Turn
kept_turn t = with_input t 0 (t.have - t.from) cause.More ((t.bytes + t.from) % 2 ^ 64)

-- why a turn goes on or ends after a read of n bytes, of which there are none at the end of the input, or after one that failed
abbrev pub after_read : Option ℕ → Why
after_read None = cause.Failed
after_read (Some n) = cond (n == 0) cause.Ended cause.More

-- the bytes that were read stand in the buffer too
abbrev pub read_turn : Turn → Option ℕ → Turn
read_turn t got = with_input t t.from (t.have + unwrap_or got 0) (after_read got) t.bytes

-- more input is wanted only where no whole record is left
pub record Waits (t : Turn) (input : List ℕ) : Type 0 where
  pub inside : Inside t.from t.have
  pub wants : t.why ≡ cause.More → head_of (left t input) ≡ Ok None

-- what is not done is moved to the front of the buffer
pub record Keeps (t : Turn) (input : List ℕ) (t' : Turn) (input' : List ℕ) : Type 0 where
  pub turn : t' ≡ kept_turn t
  pub bytes : part input' 0 (t.have - t.from) ≡ left t input

-- The device and the exchange stay, and behind what was not done stand the bytes that were read. The end of the input is told only where
-- more was wanted and a read gave nothing.
pub record Fed (t : Turn) (input : List ℕ) (t' : Turn) (input' : List ℕ) : Type 0 where
  pub device : t'.device ≡ t.device
  pub exchange : t'.exchange ≡ t.exchange
  pub inside : Inside t'.from t'.have
  pub more : List ℕ
  pub rest : left t' input' ≡ left t input ++ more
  pub counted : read_of t' ≡ (read_of t + length more) % 2 ^ 64
  pub ended : t'.why ≡ cause.Ended → goes_on t.why ≡ true → (t.why ≡ cause.More) × (more ≡ [])

-- the records of what is not done are performed; the bytes stay where they are
pub record Turned (before after : Areas) (t : Turn) (input : List ℕ) (t' : Turn) (out : List ℕ) : Type 0 where
  pub used : ℕ
  pub from : t'.from ≡ t.from + used
  pub inside : Inside t'.from t'.have
  pub runs : Runs before after (left t input) used out t'.put t'.why
  pub have : t'.have ≡ t.have
  pub bytes : t'.bytes ≡ t.bytes

-- At the end of the input, where more is wanted: these lines, behind those of the turns before, are what the whole log prints.
unfoldable pub Ends : Turn → List ℕ → Type 0
Ends t lines =
    (s : State) (a : Areas) (log so_far input : List ℕ) → t.have ≤ length input → head_of (left t input) ≡ Ok None
    → Running s log a (left t input) so_far → printed s log ≡ so_far ++ lines

-- a line of at most 96 bytes, which is what ends the log's
pub record AtEnd (t : Turn) (put : ℕ) (out : List ℕ) : Type 0 where
  pub near : put ≤ 96
  pub ends : Ends t (take put out)

-- where the input has ended no whole record is left
pub record Stops (t : Turn) (input : List ℕ) : Type 0 where
  pub inside : Inside t.from t.have
  pub wants : t.why ≡ cause.Ended → head_of (left t input) ≡ Ok None

-- ---- from turn to turn

-- Of some log, of as many bytes as the turns count: these lines are what its records that are performed print, the areas hold what they leave,
-- and the rest is not done.
pub record Streamed (s : State) (a : Areas) (rest : List ℕ) (bytes : ℕ) (lines : List ℕ) : Type 0 where
  pub log : List ℕ
  pub run : Running s log a rest lines
  pub size : length log % 2 ^ 64 ≡ bytes

-- what holds between two turns, of the lines that the turns put
pub record Between (s : State) (a : Areas) (t : Turn) (input lines : List ℕ) : Type 0 where
  pub waits : Waits t input
  pub goes_on : goes_on t.why ≡ true
  pub streamed : Streamed s a (left t input) (read_of t) lines

-- what the program's loop keeps to: no contract can name the lines that were written
pub record Turning (s : State) (a : Areas) (t : Turn) (input : List ℕ) : Type 0 where
  pub lines : List ℕ
  pub between : Between s a t input lines

-- the lines are all that some log of so many bytes prints
pub record Printed (s : State) (bytes : ℕ) (lines : List ℕ) : Type 0 where
  pub log : List ℕ
  pub size : length log % 2 ^ 64 ≡ bytes
  pub prints : printed s log ≡ lines
