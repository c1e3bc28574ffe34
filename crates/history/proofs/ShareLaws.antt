-- With 256 cells and at most seven other depositors the test Full is P's quota alone.
-- Assumes nothing.
use Rattle.std.proofs.Common.{◌≡◌, ℕ, ◌+◌, ◌/◌, ◌<◌, ◌≤◌, Bool, true, false, cond, not, ◌||◌, ltb, leb, List, [], ◌∷◌, length, take, drop, sym, refl, ap, ◌∙◌, ap₂, le_refl, arith, take-take, le-ltb, eq-eqb, ne_eqb, le-leb, leb-false, Option, Some, None}
use mathlib.Core.Bool.{false≢true}
use lib.ListN.{length-map}
use borrow.Author.Tests.{lt-leb}
use Rattle.octets.specs.Bytes.{part, same_bytes}
use Rattle.courier_core.specs.declared.ContactId.{ContactId}
use Rattle.courier_core.specs.declared.Refusal.TheVariants as refusal
use Rattle.table.specs.Lists.{All, more, any, position, is_at}
use Rattle.table.specs.Rows.{rows, held}
use Rattle.table.specs.Codec.{table_of}
use Rattle.table.proofs.ListLaws.{all_each, all_map}
use Rattle.table.proofs.FindLaws.{position_any}
use Rattle.courier.specs.declared.Header.{Header}
use Rattle.courier.specs.declared.Custody.TheVariants as custody
use Rattle.courier.specs.Courier.{envelope_valid}
use Rattle.rows.specs.declared.Carried.{Carried}
use Rattle.rows.specs.declared.Reachable.{Reachable}
use Rattle.rows.specs.Rows.{reachable_of}
use Rattle.model.specs.State.{State, nothing}
use Rattle.model.specs.Calls
use Rattle.model.specs.Calls.{Result, result, only, refused, done, step_of, custody_reply}
use Rattle.model.specs.Contacts.{minute_of, is_verified}
use Rattle.model.specs.Window.{window_rows, lookup}
use Rattle.model.specs.Cells.{cell_count, cells_used}
use Rattle.model.specs.Custody.{quota, deposited, carried_total, duplicate, full, custody_of, carried_named, accepts, last_slot, answer_custody, envelope_tests, receive_envelope}
use Rattle.model.specs.Step.{tests, perform, step}
use Rattle.model.proofs.Laws.{carried_total_lem}
use Rattle.model.proofs.KeepRows.{valid_length}
use Rattle.history.specs.Share.{others_with_rows, Reaches, Owed}
use Rattle.history.proofs.LimitLaws.{Limits, quota_32, spread}
use Rattle.history.proofs.CellLaws.{cells_left}
use Rattle.history.specs.Limits.{max_carried, max_cells}

-- ---- the window

-- the tag of a window row has no more than 16 bytes
tags_short : (window : List ℕ) → All (λ (r : Reachable). take 16 r.tag ≡ r.tag) (window_rows window)
unfolding window_rows table_of reachable_of part
tags_short window =
    let bs : List (List ℕ) = rows 30 (held (length window) 30 (length window / 30)) window in
    all_map reachable_of bs (all_each (λ b. take-take 16 16 (drop 14 b) (le_refl 16)) bs)

same_tests : (tag : List ℕ) (rs : List Reachable) → length tag ≡ 16 → All (λ (r : Reachable). take 16 r.tag ≡ r.tag) rs
    → any (λ (r : Reachable). same_bytes (take (length tag) r.tag) tag) rs ≡ any (λ (r : Reachable). same_bytes r.tag tag) rs
unfolding any
same_tests tag [] e a = refl
same_tests tag (r ∷ rs) e (more q a) =
    ap₂ (λ (x y : Bool). x || y) (ap (λ (n : ℕ). same_bytes (take n r.tag) tag) e ∙ ap (λ (t : List ℕ). same_bytes t tag) q) (same_tests tag rs e a)

not_found : (window tag : List ℕ) → length tag ≡ 16 → any (λ (r : Reachable). same_bytes r.tag tag) (window_rows window) ≡ false → lookup (window_rows window) tag ≡ None
unfolding lookup
not_found window tag e h = go (position (λ (r : Reachable). same_bytes (take (length tag) r.tag) tag) (window_rows window)) refl
  where
    go : (f : Option ℕ) → position (λ (r : Reachable). same_bytes (take (length tag) r.tag) tag) (window_rows window) ≡ f → f ≡ None
    go (Some i) q = absurd (false≢true (sym (sym (ap is_at q) ∙ position_any (λ (r : Reachable). same_bytes (take (length tag) r.tag) tag) 0 (window_rows window)
        ∙ same_tests tag (window_rows window) e (tags_short window) ∙ h)))
    go None q = refl

-- ---- the test Full

or_last : (a b : Bool) → ((a || b) || true) ≡ true
or_last true b = refl
or_last false true = refl
or_last false false = refl

module _ (s : State) (g : Limits s.contacts s.carried) (peer : ContactId) (few : others_with_rows s peer ≤ 7) where
  abbrev quota_now : ℕ
  quota_now = quota (is_verified s.contacts peer)

  -- P below its quota: fewer than 256 rows
  room : deposited s.carried peer < quota_now → length s.carried < max_carried
  room h =
      omega (arith, spread peer s.contacts s.carried g.depositors_known g.quota, quota_32 (is_verified s.contacts peer), h, few)

  full_is : (len : ℕ) → len ≤ 2064 → (b : Bool) → leb quota_now (deposited s.carried peer) ≡ b → full s peer len ≡ b
  unfolding full
  full_is len small true e = rw e (or_last (leb 256 (length s.carried)) (ltb 1048576 (carried_total (length s.carried_cells) s.carried + (37 + len))))
  full_is len small false e =
      let r : length s.carried < 256 = room (leb-false quota_now (deposited s.carried peer) e) in
      let total : ℕ = carried_total (length s.carried_cells) s.carried in
      let a : leb 256 (length s.carried) ≡ false = lt-leb 256 (length s.carried) r in
      let b : ltb 1048576 (total + (37 + len)) ≡ false = le-ltb 1048576 (total + (37 + len)) (omega (arith, carried_total_lem (length s.carried_cells) s.carried, r, small)) in
      rw (a, b, e)

  module _ (replies actions : ℕ) (window : List ℕ) (head : Header) (ct : List ℕ) (r : Reaches s replies actions window peer head (length ct))
      (tag16 : length head.tag ≡ 16) where
    ours_not : lookup (window_rows window) head.tag ≡ None
    ours_not = not_found window head.tag tag16 r.not_ours

    -- the tests before Full do not apply
    code_is : (on valid dup much b : Bool) → on ≡ true → valid ≡ true → dup ≡ false → much ≡ b
        → cond (not on) custody.Off (cond (not valid) custody.Invalid (cond dup custody.Duplicate (cond much custody.Full custody.Accepted))) ≡ cond b custody.Full custody.Accepted
    code_is on valid dup much b e f h i = rw (e, f, h, i)

    custody_is : (b : Bool) → leb quota_now (deposited s.carried peer) ≡ b → custody_of s peer head (length ct) ≡ cond b custody.Full custody.Accepted
    unfolding custody_of
    custody_is b e =
        code_is s.courier.enabled (envelope_valid (length ct) head.copies head.expiry_min (minute_of s)) (duplicate s head.tag) (full s peer (length ct)) b
        r.not_off r.not_invalid r.not_duplicate
        (full_is (length ct) (valid_length (length ct) head.copies head.expiry_min (minute_of s) r.not_invalid) b e)

    abbrev answer : Result
    answer = step s (Calls.envelope replies actions window peer head ct)

    when_full : quota_now ≤ deposited s.carried peer → answer ≡ result done (custody_reply head.tag custody.Full ∷ []) [] nothing
    unfolding step tests perform step_of envelope_tests receive_envelope accepts answer_custody
    when_full h = rw (r.not1, r.not12, r.not2, ours_not, custody_is true (le-leb quota_now (deposited s.carried peer) h))

    module _ (cells : cell_count (length s.carried_cells) ≡ max_cells) (h : deposited s.carried peer < quota_now) where
      cell_left : cells_used (length s.carried_cells) (carried_named s) ≡ false
      cell_left = cells_left (length s.carried_cells) (carried_named s) (omega (arith, length-map s.carried (λ (x : Carried). x.cell), room h, cells))

      below_quota : (b : Bool) → last_slot s ≡ b → answer ≡ cond b (only (refused refusal.NoSlot)) (answer_custody s peer head ct custody.Accepted)
      unfolding step tests perform step_of envelope_tests receive_envelope accepts
      below_quota b e = rw (r.not1, r.not12, r.not2, ours_not, custody_is false (lt-leb quota_now (deposited s.carried peer) h), cell_left, e)

    pub owed_at : cell_count (length s.carried_cells) ≡ max_cells → Owed s peer head quota_now answer
    unfolding answer_custody
    owed_at cells = record {
      full = when_full;
      no_slot = λ h e. below_quota cells h true (eq-eqb s.next_slot 18446744073709551615 e);
      accepted = λ h n.
          let q = below_quota cells h false (ne_eqb s.next_slot 18446744073709551615 n) in
          (ap (λ (o : Result). o.answer) q, ap (λ (o : Result). o.replies) q, ap (λ (o : Result). o.actions) q);
    }
