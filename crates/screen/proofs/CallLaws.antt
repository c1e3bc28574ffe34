-- Laws of the page call: each way out as the model's step, and what it leaves.
-- Assumes nothing.
use Rattle.std.proofs.Common.{◌≡◌, ℕ, ◌+◌, ◌-◌, ◌*◌, min, true, false, ltb, List, ◌++◌, map, length, take, drop, sym, refl, ap, ◌∙◌, ap₂, arith, length-append, length-drop, ltb-false, Result, Ok, Err}
use Rattle.std.proofs.lemmas.List.{drop_min, take_min}
use Rattle.octets.specs.Bytes.{splice}
use Rattle.octets.proofs.Parts.{splice_then}
use Rattle.courier_core.specs.declared.Refusal.{Refusal}
use Rattle.courier_core.specs.declared.Refusal.TheVariants as refusal
use Rattle.table.specs.Rows.{join}
use Rattle.table.specs.Codec.{table_of}
use Rattle.table.specs.declared.lent.Table.{Table}
use Rattle.rows.specs.declared.Device.{Device}
use Rattle.rows.specs.declared.Carried.{Carried}
use Rattle.rows.specs.declared.Tombstone.{Tombstone}
use Rattle.rows.specs.Rows.{carried_codec, tombstone_codec}
use Rattle.model.specs.Basics.{merge}
use Rattle.model.specs.Calls.{Call, page}
use Rattle.model.specs.Contacts.{now_min}
use Rattle.model.specs.Screen.{HeldRow, carried_row, tombstone_row, slot_of, shown, page_rows, screen_line, heading, page_bytes, page_tests, show_page}
use Rattle.model.specs.Step.{tests, perform, step}
use Rattle.model.specs.Areas.{Areas, Written, view}
use Rattle.model.specs.Lent.{bytes_lent}
use Rattle.model.proofs.CallLaws.{refused_here, not_here, no_test, refused_call, bytes_call}
use Rattle.by_slot.specs.declared.held.Held.{Held}
use Rattle.by_slot.specs.declared.Cursor.{Cursor}
use Rattle.by_slot.specs.BySlot.{Fitted, rows_left}
use Rattle.by_slot.proofs.SlotLaws.{carried_fitted, tombstones_fitted, length_all}
use Rattle.screen.specs.Page.{left, Passed, RowsPut, page_says, held_in}

-- ---- a part of a list, where the list may end before

module _ {A : Type 0} (l : List A) where
  drop_short : (n k : ℕ) → k ≡ min (length l) n → drop k l ≡ drop n l
  drop_short n k e = let m : k ≡ min n (length l) = omega arith in rw m (drop_min n l)

  take_short : (n k : ℕ) → k ≡ min n (length l) → take k l ≡ take n l
  take_short n k e = rw e (take_min n l)

-- ---- the call

module _ (d : Device) (number : ℕ) (carried tombs lent : List ℕ) (a : Areas) where
  abbrev B : Areas
  B = held_in d carried tombs a

  abbrev C : Call
  C = page (length lent) number

  abbrev Says : Result ℕ Refusal → List ℕ → Type 0
  Says r back = Written page_says (step (view B) C) r B B (bytes_lent lent) (bytes_lent back)

  pub says_short : ltb (length lent) 1620 ≡ true → Says (Err refusal.ShortArea) lent
  unfolding step tests perform page_tests
  says_short e = refused_call refusal.ShortArea (refused_here _ _ _ e) refl refl

-- the page of the rows of tables
module _ (d : Device) (number : ℕ) (h : Held) (lent : List ℕ) (a : Areas) {T : Table 57} {U : Table 44} (F : Fitted T U h) (et : T.count ≡ d.carried)
    (eu : U.count ≡ d.tombstones) where
  abbrev S : Areas
  S = held_in d T.area.now U.area.now a

  abbrev all : List HeldRow
  all = left h 0 0

  all_rows_lem : all ≡ shown (view S)
  unfolding left rows_left shown view
  all_rows_lem =
      ap₂ (λ (x : List Carried) (y : List Tombstone). merge slot_of (map carried_row x) (map tombstone_row y))
      (carried_fitted F ∙ ap (λ (n : ℕ). table_of carried_codec n T.area.now) et)
      (tombstones_fitted F ∙ ap (λ (n : ℕ). table_of tombstone_codec n U.area.now) eu)

  module _ (total k count : ℕ) (t : Cursor) (en : total ≡ h.carried.count + h.tombstones.count) (ek : k ≡ min total (19 * number))
      (ec : count ≡ min 19 (total - k)) (P : Passed h k t) where
    -- the rows that are written are those of the page
    same_rows : take count (left h t.carried t.tombstones) ≡ page_rows (view S) number
    unfolding page_rows left
    same_rows =
        let l : length (drop k all) ≡ h.carried.count + h.tombstones.count - k =
        length-drop k all ∙ ap (λ (i : ℕ). i - k) (length_all slot_of carried_row tombstone_row h) in
        ap (take count) P.rest ∙ take_short (drop k all) 19 count (omega (arith, l))
        ∙ ap (take 19) (drop_short all (19 * number) k (omega (arith, length_all slot_of carried_row tombstone_row h)))
        ∙ ap (λ (l : List HeldRow). take 19 (drop (19 * number) l)) all_rows_lem

    pub says_page : ltb (length lent) 1620 ≡ false → (minute : ℕ) (x back : List ℕ) → minute ≡ now_min d.now_s → x ≡ splice lent 0 heading
        → RowsPut h minute t count x back → Says d number T.area.now U.area.now lent a (Ok (81 + 81 * count)) back
    unfolding step tests perform page_tests show_page page_bytes heading view
    says_page fits minute x back em ex R =
        let F : List HeldRow = take count (left h t.carried t.tombstones) in
        let lines : List ℕ = join (map (screen_line minute) F) in
        let same : heading ++ lines ≡ page_bytes (view S) number =
        ap₂ (λ (i : ℕ) (l : List HeldRow). heading ++ join (map (screen_line i) l)) em same_rows in
        let size : length (heading ++ lines) ≡ 81 + 81 * count = length-append heading lines ∙ ap (λ (i : ℕ). 81 + i) R.size in
        bytes_call (page_bytes (view S) number) (not_here _ _ _ fits (no_test _)) (ap Ok (sym size ∙ ap length same))
        (splice_then lent x back 0 81 heading lines ex R.area refl (omega (arith, ltb-false (length lent) 1620 fits, R.size)) ∙ ap (splice lent 0) same)
