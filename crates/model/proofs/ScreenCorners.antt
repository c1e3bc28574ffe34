-- The page as a technician sees it, computed, and written here as text.
-- Assumes nothing.
use Rattle.std.proofs.Common.{◌≡◌, ℕ, ◌-◌, ◌^◌, List, [], ◌∷◌, ◌++◌, replicate, refl}
use Prim.Native.String.{String, [], ◌∷◌}
use Prim.Native.Char.{code}
use Rattle.table.specs.Rows.{join}
use Rattle.columns.specs.Columns.{column, hexes}
use Rattle.state.specs.Config.{config_default}
use Rattle.rows.specs.declared.Carried.{Carried}
use Rattle.model.specs.Basics.{merge}
use Rattle.model.specs.State.{State, apply, carried_now, tombstones_now, ◌and◌}
use Rattle.model.specs.Calls.{wrote, step_of, done_with}
use Rattle.model.specs.Contacts.{now_min}
use Rattle.model.specs.Screen.{shown, page_rows, line_front, minutes_left, carried_end, screen_line, heading, page_bytes, page_tests, show_page}
use Rattle.model.specs.Step.{empty_state, tests, perform, step}
use Rattle.model.specs.Pages.{page_of}

-- the bytes of a text of ASCII, and of a line
pub bytes_of : String → List ℕ
bytes_of [] = []
bytes_of (c ∷ text) = code c ∷ bytes_of text

pub line_of : String → List ℕ
line_of text = bytes_of text ++ (10 ∷ [])

carried_from : (slot depositor : ℕ) (tag : List ℕ) (expiry copies : ℕ) → Carried
carried_from slot depositor tag expiry copies = record {
  slot = slot;
  depositor = record { 0 = depositor };
  tag = tag;
  c = [];
  expiry_min = expiry;
  copies = copies;
  len = 0;
  cell = 0;
}

-- At minute 10: rows of either kind that have minutes left and that are past, one at its expiry, one with the greatest slot, depositor and copies, and every
-- digit of a prefix. Slot 9 is there twice, as no call leaves it: the carried row comes first.
pub seen : State
unfolding carried_from
seen =
    apply (empty_state 659 config_default [] [] 4 4)
    (carried_now
    (carried_from 7 12 (0 ∷ 1 ∷ 10 ∷ 15 ∷ 16 ∷ 160 ∷ 175 ∷ 255 ∷ replicate 8 9) 100 6
    ∷ carried_from 8 3 (35 ∷ 69 ∷ 103 ∷ 137 ∷ 188 ∷ 222 ∷ 152 ∷ 186 ∷ replicate 8 9) 9 1 ∷ carried_from 9 0 (replicate 16 17) 11 0
    ∷ carried_from (2 ^ 64 - 1) (2 ^ 64 - 1) (replicate 16 51) (2 ^ 32 - 1) 255 ∷ [])
    and tombstones_now (record { slot = 9; tag = replicate 16 34; s = []; expiry_min = 10 } ∷ record { slot = 12; tag = replicate 16 68; s = []; expiry_min = 510 } ∷ []))

-- the bytes of page 0, and their count
pub page_seen : (page_of seen 0).bytes ≡
    line_of "HELD                                                                            "
    ++ line_of "                   7 C 00010a0f10a0afff         90   6                   12     "
    ++ line_of "                   8 C 23456789bcde98ba       past   1                    3     "
    ++ line_of "                   9 C 1111111111111111          1   0                    0     "
    ++ line_of "                   9 T 2222222222222222       past                              "
    ++ line_of "                  12 T 4444444444444444        500                              "
    ++ line_of "18446744073709551615 C 3333333333333333 4294967285 255 18446744073709551615     "
unfolding bytes_of line_of seen step step_of tests perform apply now_min merge join column hexes shown page_rows line_front minutes_left carried_end screen_line heading page_bytes page_tests show_page
page_seen = refl

pub page_counted : (page_of seen 0).answer ≡ done_with (wrote 567)
unfolding seen step step_of tests perform apply now_min merge join column hexes shown page_rows line_front minutes_left carried_end screen_line heading page_bytes page_tests show_page
page_counted = refl

-- the next page is past the last
pub page_past_the_last : (page_of seen 1).bytes ≡ line_of "HELD                                                                            "
unfolding bytes_of line_of seen step step_of tests perform apply merge join shown page_rows heading page_bytes page_tests show_page
page_past_the_last = refl
