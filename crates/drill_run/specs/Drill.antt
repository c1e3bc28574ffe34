-- The drill (document 01, "Drill program"): the records of a log, the call that each makes, and the lines of a whole log.
-- Assumes nothing.
use Rattle.std.specs.Prelude.{ℕ, zero, suc, ◌+◌, ◌*◌, Bool, true, false, cond, List, [], ◌∷◌, ◌++◌, length, drop, Option, Some, None, Ok, Err}
use Rattle.octets.specs.Bytes.{part}
use Rattle.courier_core.specs.declared.Refusal.TheVariants as refusal
use Rattle.wire.specs.Log as log
use Rattle.wire.specs.Log.{Record, ReadHead, head_of, body_of}
use Rattle.rows.specs.declared.Device.{Device}
use Rattle.rows.specs.declared.Exchange.{Exchange}
use Rattle.rows.specs.Limits.{prefix_area, offer_area, reply_area, action_area}
use Rattle.rows.specs.Rows.{tombstone_width}
use Rattle.state.specs.Config.{config_default}
use Rattle.model.specs.State.{State, Session, apply, nobody, with_session}
use Rattle.model.specs.Calls as calls
use Rattle.model.specs.Calls.{Call, Result, only, refused}
use Rattle.model.specs.Step.{Post, Lent, empty_state, step, answer_to, after}
use Rattle.model.specs.Areas.{Areas, no_areas}
use Rattle.model.specs.Lent.{device_in, contacts_in, own_in, carried_in, tombstones_in, bad_tags_in, own_cells_in, carried_cells_in, exchange_in, sessions_in}
use Rattle.drill_lines.specs.Lines.{Last, record_lines, last_of, stops_at}

-- ---- a record

-- R, and the bytes of the tombstones' area and of an action area for it
abbrev pub drill_rows : ℕ
drill_rows = 1024

abbrev pub drill_tombstones : ℕ
drill_tombstones = tombstone_width * drill_rows

abbrev pub drill_actions : ℕ
drill_actions = action_area drill_rows

-- the call that a record makes: the answer areas have their whole size for R, and the window is empty
abbrev pub call_of : Record → Call
call_of (log.clock seconds) = calls.clock seconds
call_of (log.contact id v) = calls.contact id v
call_of (log.session peer) = calls.open_exchange peer
call_of (log.envelope peer header ct) = calls.envelope reply_area drill_actions [] peer header ct
call_of (log.inventory peer prefixes) = calls.inventory_received reply_area [] peer prefixes
call_of (log.fetch peer tag) = calls.fetch reply_area peer tag
call_of (log.custody peer tag code) = calls.custody_answer drill_actions peer tag code
call_of (log.tomb peer tag s) = calls.tomb drill_actions peer tag s
call_of log.maintenance = calls.maintenance drill_actions
call_of (log.setting enabled copies lifetime) = calls.setting enabled copies lifetime

-- none is a record that the grammar refuses: number 13
unfoldable pub record_step : State → Option Record → Result
record_step s None = only (refused refusal.LogRecord)
record_step s (Some r) = step s (call_of r)

-- how many actions and replies a call lists, and the last line
unfoldable pub tells : Result → ℕ × (ℕ × Last)
tells o = (length o.actions, (length o.replies, last_of o.answer))

-- the areas that the drill lends with every call, none for bad tags and no exchange but its own, set into any
abbrev pub drill_in : Device → Exchange → (contacts own carried tombstones own_cells cells prefixes offers : List ℕ) → Areas → Areas
drill_in d x c o r t oc rc p f a = device_in d (contacts_in c (own_in o (carried_in r (tombstones_in t (bad_tags_in [] (own_cells_in oc (carried_cells_in rc (exchange_in x p f (sessions_in [] a)))))))))

-- these alone
abbrev pub drill_areas : Device → Exchange → (contacts own carried tombstones own_cells cells prefixes offers : List ℕ) → Areas
drill_areas d x contacts own carried tombstones own_cells cells prefixes offers =
    drill_in d x contacts own carried tombstones own_cells cells prefixes offers no_areas

-- what a record leaves
unfoldable pub state_after : State → Option Record → State
state_after s r = apply s (record_step s r).change

-- what it prints
unfoldable pub lines_of : State → Option Record → List ℕ
lines_of s r = let o : Result = record_step s r in record_lines (state_after s r) o.actions o.replies (last_of o.answer)

-- does the program stop at it: number 13, of the grammar or of the call
unfoldable pub last_record : State → Option Record → Bool
last_record s r = stops_at (last_of (record_step s r).answer)

-- ---- a log

-- A record at the front of b, by its head, and those behind it. A wrong head, and input that ends inside a record, are the last.
unfoldable pub records_by : ReadHead → List ℕ → (List ℕ → List (Option Record)) → List (Option Record)
records_by (Ok (Some h)) b behind = body_of h.mark (part b 4 h.len) ∷ behind (drop (4 + h.len) b)
records_by (Ok None) b behind = None ∷ []
records_by (Err why) b behind = None ∷ []

-- the records of b, n at most
unfoldable pub records_from : ℕ → List ℕ → List (Option Record)
records_from zero b = []
records_from (suc n) [] = []
records_from (suc n) (x ∷ b) = records_by (head_of (x ∷ b)) (x ∷ b) (records_from n)

-- every record has four bytes at least, so that none is left out
unfoldable pub records_of : List ℕ → List (Option Record)
records_of b = records_from (length b) b

-- the lines of records from a state on
unfoldable pub lines_from : State → List (Option Record) → List ℕ
lines_from s [] = []
lines_from s (r ∷ rs) = lines_of s r ++ cond (last_record s r) [] (lines_from (state_after s r) rs)

-- what a log prints from a state on
unfoldable pub printed : State → List ℕ → List ℕ
printed s b = lines_from s (records_of b)

-- ---- a log as a list of the model's calls

-- the records whose calls are made: up to one that the grammar refuses, or to the first that the call refuses with number 13
unfoldable pub performed : State → List (Option Record) → List Record
performed s [] = []
performed s (None ∷ rs) = []
performed s (Some r ∷ rs) = r ∷ cond (last_record s (Some r)) [] (performed (state_after s (Some r)) rs)

-- the call that is made of a record: none of one that the grammar refuses
abbrev pub made_of : Option Record → List Record
made_of None = []
made_of (Some r) = r ∷ []

-- does the log end at a record that the grammar refuses
unfoldable pub ends_wrong : State → List (Option Record) → Bool
ends_wrong s [] = false
ends_wrong s (None ∷ rs) = true
ends_wrong s (Some r ∷ rs) = cond (last_record s (Some r)) false (ends_wrong (state_after s (Some r)) rs)

-- each call is lent the one exchange that is open
abbrev pub lent_of : Record → Lent
lent_of r = record { session = 0; call = call_of r }

-- a post with that one exchange
abbrev pub post_of : State → Post
post_of s = record { state = s; sessions = s.session ∷ [] }

-- what the records leave, and what their calls answer
unfoldable pub after_all : State → List Record → State
after_all s [] = s
after_all s (r ∷ rs) = after_all (state_after s (Some r)) rs

unfoldable pub answers_of : State → List Record → List Result
answers_of s [] = []
answers_of s (r ∷ rs) = record_step s (Some r) ∷ answers_of (state_after s (Some r)) rs

-- the lines of a list of calls from a post on, each of what the model's run answers and leaves there
unfoldable pub run_lines : Post → List Lent → List ℕ
run_lines p [] = []
run_lines p (l ∷ ls) =
    record_lines (after p l).state (answer_to p l).actions (answer_to p l).replies (last_of (answer_to p l).answer) ++ run_lines (after p l) ls

-- ---- at the start

abbrev pub drill_session : Session
drill_session = record { exchange = nobody; prefix_area = prefix_area; offer_area = offer_area }

-- clock 0, `CF` 1, 6, 1,440; no row or contact; R tombstone rows, no bad-tag row; the two cell areas
abbrev pub drill_start : (own_cells cells : List ℕ) → State
drill_start own_cells cells = with_session (empty_state 0 config_default own_cells cells drill_rows 0) drill_session
