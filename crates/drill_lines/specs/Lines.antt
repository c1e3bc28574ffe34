-- The lines of a record (document 01, "Drill program"): those of its actions, those of its replies, and a last one.
-- Assumes nothing.
use Rattle.std.specs.Prelude.{ℕ, Bool, false, cond, List, [], ◌∷◌, ◌++◌, ◌==◌, Result, Ok, Err, Option, Some, None}
use mathlib.Core.List.{flat_map}
use Rattle.octets.specs.Bytes.{part, num}
use Rattle.courier_core.specs.Core.{refusal_number}
use Rattle.courier_core.specs.declared.Refusal.{Refusal}
use Rattle.rows.specs.declared.Reply.{Reply}
use Rattle.rows.specs.declared.Action.{Action}
use Rattle.model.specs.State.{State}
use Rattle.model.specs.Areas.{Areas, view}
use Rattle.saved.specs.Blobs.{held_in}
use Rattle.model.specs.Calls as calls
use Rattle.model.specs.Calls.{Answer, detail, wrote_of}
use Rattle.model.specs.Step.{step}
use Rattle.columns.specs.Columns.{hexes}
use Rattle.state.specs.Sizes.{blob_size}
use Rattle.text.specs.Text.{spaced}
use Rattle.drill_lines.specs.declared.HeldRows.{HeldRows}
use Rattle.drill_lines.specs.declared.Said.{Said}
use Rattle.drill_lines.specs.declared.Said.TheVariants as said

-- ---- one line; 10 is its end

unfoldable pub put_line : ℕ → ℕ → List ℕ
put_line slot blob = (112 ∷ 117 ∷ 116 ∷ []) ++ spaced slot ++ spaced blob ++ (10 ∷ [])  -- put

unfoldable pub del_line : ℕ → List ℕ
del_line slot = (100 ∷ 101 ∷ 108 ∷ []) ++ spaced slot ++ (10 ∷ [])  -- del

unfoldable pub envelope_line : List ℕ → ℕ → ℕ → List ℕ
envelope_line tag expiry copies =
    (101 ∷ 110 ∷ 118 ∷ 101 ∷ 108 ∷ 111 ∷ 112 ∷ 101 ∷ 32 ∷ []) ++ hexes tag ++ spaced expiry ++ spaced copies ++ (10 ∷ [])  -- envelope

unfoldable pub custody_line : List ℕ → ℕ → List ℕ
custody_line tag code = (99 ∷ 117 ∷ 115 ∷ 116 ∷ 111 ∷ 100 ∷ 121 ∷ 32 ∷ []) ++ hexes tag ++ spaced code ++ (10 ∷ [])  -- custody

unfoldable pub tomb_line : List ℕ → List ℕ
tomb_line tag = (116 ∷ 111 ∷ 109 ∷ 98 ∷ 32 ∷ []) ++ hexes tag ++ (10 ∷ [])  -- tomb

-- ---- the line of a row of the answer areas

-- an envelope's body is its header, a custody's its tag and code; a fetch has no line
unfoldable pub reply_line : Reply → List ℕ
reply_line r =
    cond (r.kind == 1) (envelope_line (part r.body 0 16) (num (part r.body 32 4)) (num (part r.body 36 1)))
    (cond (r.kind == 2) (custody_line (part r.body 0 16) (num (part r.body 16 1)))
    (cond (r.kind == 3) (tomb_line (part r.body 0 16)) []))

-- a row's blob has the length that the row blob call answers; an own put has no line
unfoldable pub action_line : (ℕ → ℕ) → Action → List ℕ
action_line blob a = cond (a.kind == 0) (put_line a.number (blob a.number)) (cond (a.kind == 1) (del_line a.number) [])

-- what the row blob call answers, as a length; and that of the model's call
abbrev pub count_of : Result (Option ℕ) Refusal → ℕ
count_of (Ok (Some n)) = n
count_of (Ok None) = 0
count_of (Err why) = 0

unfoldable pub blob_length : State → ℕ → ℕ
blob_length s slot = wrote_of (detail (step s (calls.row_blob blob_size slot)).answer)

-- the state of areas that have these held rows, and are anything otherwise
abbrev pub held_view : HeldRows → Areas → State
held_view h a = view (held_in h.device h.carried.now h.tombstones.now h.cells.now a)

-- ---- the last line

-- how a record ends that is not refused; its last line tells that, or the refusal
pub data Ending : Type 0 where
  done : Ending
  malformed : Ending

abbrev pub Last : Type 0
Last = Result Ending Refusal

unfoldable pub refused_line : ℕ → List ℕ
refused_line number = (114 ∷ 101 ∷ 102 ∷ 117 ∷ 115 ∷ 101 ∷ 100 ∷ []) ++ spaced number ++ (10 ∷ [])  -- refused

abbrev pub last_line : Last → List ℕ
last_line (Ok done) = 111 ∷ 107 ∷ 10 ∷ []  -- ok
last_line (Ok malformed) = 109 ∷ 97 ∷ 108 ∷ 102 ∷ 111 ∷ 114 ∷ 109 ∷ 101 ∷ 100 ∷ 10 ∷ []  -- malformed
last_line (Err why) = refused_line (refusal_number why)

-- the program stops at number 13
abbrev pub stops_at : Last → Bool
stops_at (Ok _) = false
stops_at (Err why) = refusal_number why == 13

abbrev pub last_of : Answer → Last
last_of (calls.refused why) = Err why
last_of calls.malformed = Ok malformed
last_of (calls.done_with d) = Ok done

-- how many actions and replies a call lists, by what it says, and the last line
abbrev pub acted_by : Result Said Refusal → ℕ
acted_by (Ok (said.Listed actions replies)) = actions
acted_by (Ok said.Malformed) = 0
acted_by (Err why) = 0

abbrev pub replied_by : Result Said Refusal → ℕ
replied_by (Ok (said.Listed actions replies)) = replies
replied_by (Ok said.Malformed) = 0
replied_by (Err why) = 0

abbrev pub last_by : Result Said Refusal → Last
last_by (Ok (said.Listed actions replies)) = Ok done
last_by (Ok said.Malformed) = Ok malformed
last_by (Err why) = Err why

-- what a record prints: the lines of its actions, where a put row's blob is that of the state after it, of its replies, and a last one
unfoldable pub record_lines : State → List Action → List Reply → Last → List ℕ
record_lines after actions replies end = flat_map (action_line (blob_length after)) actions ++ flat_map reply_line replies ++ last_line end
