-- What a terminator is answered with for what is listed, computed: document 01's rules for fetches and tombs, and what request Two changes.
-- Assumes nothing.
use Rattle.std.proofs.Common.{◌≡◌, ℕ, List, [], ◌∷◌, ◌++◌, replicate, refl}
use mathlib.Core.List.{flat_map}
use Rattle.octets.specs.Bytes.{be, num}
use Rattle.rows.specs.declared.Tombstone.{Tombstone}
use Rattle.rows.specs.declared.BadTag.{BadTag}
use Rattle.rows.specs.declared.Reachable.{Reachable}
use Rattle.rows.specs.declared.Reply.{Reply}
use Rattle.rows.specs.Rows as encoded
use Rattle.model.specs.Basics.{find}
use Rattle.model.specs.State.{State}
use Rattle.model.specs.Calls
use Rattle.model.specs.Calls.{of_carried, fetch_reply, envelope_reply, tomb_reply}
use Rattle.model.specs.Window
use Rattle.model.specs.Exchange
use Rattle.model.specs.Exchange.{fetch_for}
use Rattle.model.specs.Tombs
use Rattle.model.specs.Step.{Lent, step, state_for, run}
use Rattle.model.specs.Before
use Rattle.model.specs.Before.{fetch_for_before_two, step_before_two}
use Rattle.model.proofs.Examples.{post, id, of_byte, lend, send, rows_of, begin}

-- ---- a window row that is not fetched

-- a window row of contact n, and two tags of one prefix
reach : ℕ → List ℕ → Reachable
unfolding id
reach n tag = record { contact = id n; dir = 73; generation = 0; idx = 0; tag = tag }

twin : ℕ → List ℕ
twin b = replicate 8 17 ++ replicate 8 b

-- what a prefix that two window rows have brings contact 5, and what it did before request Two
fetched : List BadTag → List Tombstone → List Reply
unfolding id reach twin
fetched bad ts = fetch_for bad ts (reach 1 (twin 1) ∷ reach 2 (twin 2) ∷ []) (id 5) (replicate 8 17)

fetched_before : List BadTag → List Reply
unfolding id reach twin
fetched_before bad = fetch_for_before_two bad (reach 1 (twin 1) ∷ reach 2 (twin 2) ∷ []) (id 5) (replicate 8 17)

-- a tag that is bad for contact n, and a tombstone of a tag
bad_for : ℕ → ℕ → List BadTag
unfolding id twin
bad_for n b = (record { peer = id n; tag = twin b }) ∷ []

tomb_of : ℕ → List Tombstone
unfolding twin
tomb_of b = (record { slot = 0; tag = twin b; s = []; expiry_min = 0 }) ∷ []

-- the first row with the prefix is met; if it is bad for the peer, or a tombstone has its tag, there is no fetch, though the next row has
-- the prefix too; another tag with the prefix that is bad or a tombstone's stops nothing
first_row_met :
    (fetched [] [] ≡ fetch_reply (twin 1) ∷ [])
    × (fetched (bad_for 5 1) [] ≡ [])
    × (fetched (bad_for 5 2) [] ≡ fetch_reply (twin 1) ∷ [])
    × (fetched (bad_for 6 1) [] ≡ fetch_reply (twin 1) ∷ [])
    × (fetched [] (tomb_of 1) ≡ [])
    × (fetched [] (tomb_of 2) ≡ fetch_reply (twin 1) ∷ [])
    × (fetched (bad_for 5 1) (tomb_of 1) ≡ [])
unfolding fetched bad_for tomb_of rows_of fetch_for
first_row_met = (refl, refl, refl, refl, refl, refl, refl)

-- before, tombstones were not asked
first_row_met_before :
    (fetched_before [] ≡ fetch_reply (twin 1) ∷ [])
    × (fetched_before (bad_for 5 1) ≡ [])
    × (fetched_before (bad_for 5 2) ≡ fetch_reply (twin 1) ∷ [])
    × (fetched_before (bad_for 6 1) ≡ fetch_reply (twin 1) ∷ [])
unfolding fetched_before bad_for rows_of fetch_for_before_two
first_row_met_before = (refl, refl, refl, refl)

-- ---- a terminator

-- a window of contact 5: two rows of one prefix, and one of another direction
window_row : ℕ → ℕ → List ℕ → List ℕ
window_row dir idx tag = be 8 5 ++ (dir ∷ 0 ∷ be 4 idx) ++ tag

window : List ℕ
unfolding window_row twin of_byte
window = window_row 73 0 (twin 1) ++ window_row 73 1 (twin 2) ++ window_row 82 0 (of_byte 33)

inventory : List ℕ → Lent
unfolding lend id window
inventory listed = lend 0 (Calls.inventory_received 61440 window (id 5) listed)

stored : List ℕ → ℕ → Lent
unfolding lend of_byte
stored tag expiry = lend 0 (Calls.stored_tombstone 6708 tag (of_byte 66) expiry)

-- at minute 10 one row is carried; tombstones of a tag that is not listed, of the first row's tag, expired, and of the second row's; the
-- prefix of both is listed twice, and one that no window row has
listed : State
unfolding rows_of begin send stored twin inventory Exchange.list_more Tombs.stored_tests Tombs.stored Tombs.store_tombstone
listed =
    state_for
    (run post (begin
    ++ (send 5 50 ∷ stored (of_byte 77) 100 ∷ stored (twin 1) 0 ∷ stored (twin 2) 100
    ∷ inventory (replicate 8 17 ++ replicate 8 33 ++ replicate 8 17 ++ replicate 8 99) ∷ [])))
    (inventory [])

-- behind the fetches: a tomb for each listed time, of the lowest slot, and half of the row's copies
others : List Reply
unfolding twin of_byte
others =
    tomb_reply (twin 1) (of_byte 66) ∷ tomb_reply (twin 1) (of_byte 66)
    ∷ envelope_reply of_carried 0 (record { tag = of_byte 50; c = of_byte 34; expiry_min = 100; copies = 3 }) ∷ []

-- the fetches of the tombstoned tag are lost, each listed time; the rest is in its place
two_fetches_lost :
    ((step listed (inventory []).call).replies ≡ fetch_reply (of_byte 33) ∷ others)
    × ((step_before_two listed (inventory []).call).replies ≡ fetch_reply (twin 1) ∷ fetch_reply (of_byte 33) ∷ fetch_reply (twin 1) ∷ others)
unfolding rows_of listed others inventory window window_row num encoded.reachable_of fetch_for Exchange.tomb_for find Before.fetch_for_before_two Before.answer_inventory_before_two Before.receive_inventory_before Before.perform_before Before.step_before Window.wrong_direction Window.key_below Tombs.no_row_to_store Tombs.tombstoned Tombs.remaining Tombs.no_slot_to_store flat_map
two_fetches_lost = (refl, refl)
