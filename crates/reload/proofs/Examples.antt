-- A post that handed on its last copies is saved and started again, computed.
-- Assumes nothing.
use Rattle.std.proofs.Common.{◌≡◌, true, [], ◌∷◌, map, replicate, refl}
use Rattle.octets.specs.Bytes.{splice, part, num, be, same_bytes}
use Rattle.courier_core.specs.declared.Refusal.TheVariants as refusal
use Rattle.courier_core.specs.declared.Verification.TheVariants as verification
use Rattle.courier.specs.declared.Custody.TheVariants as custody
use Rattle.courier.specs.Courier.{header_bytes, header_of, carried_length}
use Rattle.table.specs.Lists as lists
use Rattle.table.specs.Lists.{any, count_by, insert_at, filter}
use Rattle.table.specs.Rows.{has_key}
use Rattle.state.specs.Held.{carried_head, held_row, carried_of, reads_back, carried_in, held_decode}
use Rattle.rows.specs.declared.Carried.{Carried}
use Rattle.model.specs.Basics.{merge}
use Rattle.model.specs.State.{State, apply}
use Rattle.model.specs.Calls
use Rattle.model.specs.Calls.{Answer, step_of}
use Rattle.model.specs.Contacts.{known}
use Rattle.model.specs.Cells.{cell_start, ciphertext, cell_count}
use Rattle.model.specs.Saved.{carried_held, held_rows, saved_record, saved_file, saved_rows, save_held}
use Rattle.model.specs.Step.{Post, empty_state, run}
use Rattle.model.proofs.Examples.{rows_of, post, id, lend, send, code, offered}
use Rattle.load_tests.specs.Records.{record_size, records_in, records_at, is_carried, is_tombstone, counted}
use Rattle.load_tests.specs.Tests.{strange_mark, refused_blob, other_kind, slot_twice, slot_past, tag_twice, unknown_depositor, many_of_one, fails, short_next, next_not_first, cut_short, many_carried, wrongs, load_tests}
use Rattle.load.specs.Load.{insert_by, load_held, load_record, load_records, loaded, load_held_rows, load_step}
use Rattle.load.specs.Reload.{Reloaded}

-- peers 6, 7 and 8, who were offered 2 of 4 copies each, accept them
handed_on : Post
unfolding rows_of offered code
handed_on = run offered (code 0 6 custody.Accepted ∷ code 1 7 custody.Accepted ∷ code 2 8 custody.Accepted ∷ [])

-- a fresh post that knows the depositor
started : State
unfolding rows_of
started = (run post (lend 0 (Calls.contact (id 5) verification.Verified) ∷ [])).state

-- what a post answers to the file of another; who unfolds it unfolds all that a save and a load compute with
answer_of : State → State → Answer
unfolding apply step_of any count_by lists.position_from insert_at filter has_key merge known splice part num be same_bytes header_bytes header_of carried_length carried_head held_row carried_of reads_back carried_in held_decode cell_start ciphertext cell_count carried_held held_rows saved_record saved_file saved_rows save_held record_size records_in records_at is_carried is_tombstone counted strange_mark refused_blob other_kind slot_twice slot_past tag_twice unknown_depositor many_of_one fails short_next next_not_first cut_short many_carried wrongs load_tests insert_by load_held load_record load_records loaded load_held_rows load_step
answer_of t s = (load_step t (save_held s).bytes).answer

-- no copy is left, and the row is read back
restarted : (map (λ (r : Carried). r.copies) handed_on.state.carried ≡ 0 ∷ []) × Reloaded started handed_on.state
unfolding handed_on started answer_of
restarted = (refl, record { answer = refl; held = refl; next_slot = refl })

-- ---- with a lifetime of 0, which no setting call sets, a row of expiry 0 is accepted at minute 0: it is saved, and its file is refused (by any post: `refuses`)

short_lived : State
unfolding rows_of send
short_lived =
    (run (record { state = empty_state 0 (record { enabled = true; copies = 6; lifetime_min = 0 }) (replicate 4128 0) (replicate 4128 0) 4 4; sessions = post.sessions })
    (lend 0 (Calls.contact (id 5) verification.Verified) ∷ send 5 17 ∷ [])).state

unloadable : (map (λ (r : Carried). r.expiry_min) short_lived.carried ≡ 0 ∷ [])
    × (answer_of started short_lived ≡ Calls.refused refusal.SavedFile)
unfolding short_lived started answer_of
unloadable = (refl, refl)
