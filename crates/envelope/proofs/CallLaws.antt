-- Laws of the envelope call: what holding an envelope leaves, each choice as a result of the model's step, and what it leaves in the areas.
-- Assumes nothing.
use Rattle.std.proofs.Common.{◌≡◌, ℕ, ◌+◌, ◌*◌, ◌/◌, ◌^◌, ◌<◌, ◌≤◌, min, cond, List, [], ◌∷◌, ◌++◌, length, get_or, sym, refl, ap, ◌∙◌, subst, ap₂, arith, Option, Some, None, Result, Ok, Err}
use Rattle.octets.specs.Bytes.{part, splice}
use Rattle.courier_core.specs.declared.ContactId.{ContactId}
use Rattle.courier_core.specs.declared.Refusal.{Refusal}
use Rattle.courier.specs.declared.Header.{Header}
use Rattle.courier.specs.declared.Custody.{Custody}
use Rattle.courier.specs.declared.Custody.TheVariants as custody
use Rattle.table.specs.Rows.{held, join, written}
use Rattle.table.specs.Codec.{table_of, with_table, TableNow}
use Rattle.table.proofs.RowLaws.{held_inside}
use Rattle.table.proofs.TableLaws.{length_table, get_d_table, with_one}
use Rattle.table.proofs.FindLaws.{position_first}
use Rattle.rows.specs.declared.Device.{Device}
use Rattle.rows.specs.declared.Carried.{Carried}
use Rattle.rows.specs.declared.Reachable.{Reachable}
use Rattle.rows.specs.declared.Reply.{Reply}
use Rattle.rows.specs.declared.Action.{Action}
use Rattle.rows.specs.Rows.{reachable_codec, reachable_of, carried_codec, reply_codec, reply_bytes, action_codec, action_bytes}
use Rattle.rows.specs.Limits.{reply_area, carried_area}
use Rattle.model.specs.Basics.{match_found}
use Rattle.model.specs.State.{State, Change, nothing}
use Rattle.model.specs.Calls.{Call, Answer, Result as Outcome, result, ours, done, envelope, put_courier, custody_reply, done_with}
use Rattle.model.specs.Contacts.{lifetime_end}
use Rattle.model.specs.Window.{no_reachable, window_rows, lookup}
use Rattle.model.specs.Custody.{is_accepted, custody_of, carried_cell, new_carried, carry, envelope_tests, ours_at, answer_custody, receive_envelope}
use Rattle.model.specs.Step.{tests, perform, step}
use Rattle.model.specs.Areas.{Areas, Written, view, store, store_device, store_session, answer_areas}
use Rattle.model.proofs.CallLaws.{result_by, tested_call, quiet_call, refused_call, answering_call}
use Rattle.model.specs.Lent.{answers_lent}
use Rattle.envelope.specs.declared.Choice.{Choice}
use Rattle.envelope.specs.declared.Choice.TheVariants as choice
use Rattle.envelope.specs.declared.Answer.{Answer as Said}
use Rattle.envelope.specs.declared.Answer.TheVariants as answer
use Rattle.custody.specs.Lent.{Lends}
use Rattle.envelope.specs.Answers.{envelope_choice, new_row, device_after, Room, Carries, ours_of, envelope_says, envelope_in}
use Rattle.envelope.proofs.ChoiceLaws.{ours_is, code_is, alone, Listed, taken_room, taken_listed}

-- ---- what is written

pub new_row_lem : (d : Device) (depositor : ContactId) (head : Header) (len cell end expiry copies : ℕ) → end ≡ lifetime_end d.now_s d.courier
    → expiry ≡ min head.expiry_min end → copies ≡ min head.copies d.courier.copies
    → ◌≡◌ {A = Carried} (record { slot = d.next_slot; depositor = depositor; tag = head.tag; c = head.c; expiry_min = expiry; copies = copies; len = len; cell = cell })
    (new_row d depositor head len cell)
unfolding new_row
new_row_lem d depositor head len cell end expiry copies p q r = λ j. record {
  slot = d.next_slot;
  depositor = depositor;
  tag = head.tag;
  c = head.c;
  expiry_min = (q ∙ ap (min head.expiry_min) p) j;
  copies = r j;
  len = len;
  cell = cell;
}

pub carries : {d r : Device} {depositor : ContactId} {head : Header} {ct : List ℕ} {cell n : ℕ} {row : Carried} {a x c y : List ℕ}
    → row ≡ new_row d depositor head (length ct) cell → TableNow carried_codec a (table_of carried_codec d.carried a ++ (row ∷ [])) n x
    → y ≡ splice c (cell * 2064) ct → r ≡ device_after d n → Carries d depositor head ct cell r a x c y
carries {d} {n = n} {a = a} {x = x} e N s p =
    let T = subst (λ (k : Carried). TableNow carried_codec a (table_of carried_codec d.carried a ++ (k ∷ [])) n x) e N in
    record { device = p ∙ ap (device_after d) T.count; rows = T.area; cells = s }

-- ---- each choice as a result

module _ (s : State) (window : List ℕ) (peer : ContactId) (head : Header) (ct : List ℕ) where
  abbrev chosen : Choice → Outcome
  chosen (choice.Ours i) = ours_at (get_or (window_rows window) i no_reachable)
  chosen (choice.Code code) = result done (custody_reply head.tag code ∷ []) [] nothing
  chosen (choice.Take cell) = result done (custody_reply head.tag custody.Accepted ∷ []) (put_courier s.next_slot ∷ []) (carry s peer head ct)

  abbrev result_of : Result Choice Refusal → Outcome
  result_of k = result_by chosen k

  -- what the window and the code leave
  performed : (f : Option ℕ) (code : Custody) → result_of (match_found f (λ i. Ok (choice.Ours i)) (cond (is_accepted code) (Ok (choice.Take (carried_cell s))) (Ok (choice.Code code))))
      ≡ match_found f (λ i. ours_at (get_or (window_rows window) i no_reachable)) (answer_custody s peer head ct code)
  unfolding answer_custody
  performed (Some i) code = refl
  performed None custody.Accepted = refl
  performed None custody.Full = refl
  performed None custody.Duplicate = refl
  performed None custody.Off = refl
  performed None custody.Invalid = refl

  step_is : (replies actions : ℕ) → step s (envelope replies actions window peer head ct) ≡ result_of (envelope_choice s replies actions window peer head (length ct))
  unfolding step tests perform receive_envelope envelope_choice
  step_is replies actions =
      tested_call chosen (envelope_tests s replies actions window peer head (length ct)) _
      (performed (lookup (window_rows window) head.tag) (custody_of s peer head (length ct)))

-- ---- the four ways

module _ (d : Device) (peer : ContactId) (head : Header) (ct window contacts own carried tombstones cells replies actions : List ℕ) (ch : Result Choice Refusal)
    (q : (a : Areas) → Lends a d contacts own carried tombstones (length cells)
    → ch ≡ envelope_choice (view a) (length replies) (length actions) window peer head (length ct)) where
  abbrev nowhere : Areas
  nowhere = alone d contacts own carried tombstones cells

  lends : (a : Areas) → Lends (envelope_in d contacts own carried tombstones cells a) d contacts own carried tombstones (length cells)
  lends a = record { device = refl; contacts = refl; own = refl; carried = refl; tombstones = refl; size = refl }

  here : (k : Result Choice Refusal) → ch ≡ k → k ≡ envelope_choice (view nowhere) (length replies) (length actions) window peer head (length ct)
  here k e = sym e ∙ q nowhere (lends nowhere)

  -- what the writes rely on
  module _ (cell : ℕ) (e : ch ≡ Ok (choice.Take cell)) where
    pub room_to_take : d.next_slot < 2 ^ 64 → length carried ≡ carried_area → Room d (length ct) cell (length carried) (length cells)
    room_to_take = taken_room d contacts own carried tombstones cells window (length replies) (length actions) peer head (length ct) cell (here (Ok (choice.Take cell)) e)

    pub room_to_list : Listed (length replies) (length actions) (carried_cell (view nowhere)) cell
    room_to_list = taken_listed d contacts own carried tombstones cells window (length replies) (length actions) peer head (length ct) cell (here (Ok (choice.Take cell)) e)

  pub room_to_say : (code : Custody) → ch ≡ Ok (choice.Code code) → reply_area ≤ length replies
  room_to_say code e = code_is (view nowhere) (length replies) (length actions) window peer head (length ct) code (here (Ok (choice.Code code)) e)

  ours_inside : (i : ℕ) → ch ≡ Ok (choice.Ours i) → i < held (length window) 30 (length window / 30)
  unfolding lookup window_rows
  ours_inside i e =
      let f : Some i ≡ lookup (window_rows window) head.tag = ours_is (view nowhere) (length replies) (length actions) window peer head (length ct) i (here (Ok (choice.Ours i)) e) in
      omega (arith, (position_first _ (window_rows window) no_reachable i (sym f)).inside, length_table reachable_codec (length window / 30) window)

  pub ours_row : (i : ℕ) → ch ≡ Ok (choice.Ours i) → i * 30 + 30 ≤ length window
  ours_row i e = omega (arith, ours_inside i e, held_inside (length window) 30 (length window / 30))

  -- a reply, and actions
  answered : (v : Answer) (p : Reply) (acts : List Action) (c : Change) (rep act : List ℕ) → rep ≡ splice replies 0 (reply_bytes p)
      → act ≡ with_table action_codec actions acts → answers_lent rep act ≡ answer_areas (result v (p ∷ []) acts c) (answers_lent replies actions)
  unfolding answer_areas splice
  answered v p acts c rep act e f = ap₂ answers_lent (with_one reply_codec replies rep (reply_bytes p) p refl e) f

  module _ (a : Areas) where
    abbrev B : Areas
    B = envelope_in d contacts own carried tombstones cells a

    abbrev C : Call
    C = envelope (length replies) (length actions) window peer head ct

    abbrev Says : Result Said Refusal → Device → (x y rep act : List ℕ) → Type 0
    Says v r x y rep act =
        Written envelope_says (step (view B) C) v B (envelope_in r contacts own x tombstones y a) (answers_lent replies actions) (answers_lent rep act)

    is : (k : Result Choice Refusal) → ch ≡ k → step (view B) C ≡ result_of (view B) window peer head ct k
    is k e = step_is (view B) window peer head ct (length replies) (length actions) ∙ ap (result_of (view B) window peer head ct) (sym (q B (lends a)) ∙ e)

    pub says_refused : (why : Refusal) → ch ≡ Err why → Says (Err why) d carried cells replies actions
    unfolding envelope_says
    says_refused why e = refused_call why (is (Err why) e) refl refl

    pub says_ours : (i : ℕ) (v : Said) → ch ≡ Ok (choice.Ours i) → v ≡ ours_of (reachable_of (part window (i * 30) 30)) → Says (Ok v) d carried cells replies actions
    unfolding envelope_says ours_at window_rows store store_device store_session
    says_ours i v e f =
        let row : Reachable = get_or (window_rows window) i no_reachable in
        quiet_call (done_with (ours row.contact row.generation row.idx)) nothing (is (Ok (choice.Ours i)) e)
        (ap Ok (f ∙ ap ours_of (sym (get_d_table reachable_codec (length window / 30) window i no_reachable (ours_inside i e))))) refl

    pub says_code : (code : Custody) (rep : List ℕ) → ch ≡ Ok (choice.Code code) → rep ≡ splice replies 0 (reply_bytes (custody_reply head.tag code))
        → Says (Ok (answer.Done 1 0)) d carried cells rep actions
    unfolding envelope_says store store_device store_session with_table written join
    says_code code rep e f = answering_call (result_of (view B) window peer head ct (Ok (choice.Code code))) (is (Ok (choice.Code code)) e) refl refl
        (answered done (custody_reply head.tag code) [] nothing rep actions f refl)

    pub says_taken : (cell : ℕ) (r : Device) (x y rep act : List ℕ) → ch ≡ Ok (choice.Take cell) → cell ≡ carried_cell (view nowhere)
        → Carries d peer head ct cell r carried x cells y → rep ≡ splice replies 0 (reply_bytes (custody_reply head.tag custody.Accepted))
        → act ≡ splice actions 0 (action_bytes (put_courier d.next_slot)) → Says (Ok (answer.Done 1 1)) r x y rep act
    unfolding envelope_says view store store_device store_session carry new_carried new_row device_after
    says_taken cell r x y rep act e m K₀ f g =
        let K = subst (λ (k : ℕ). Carries d peer head ct k r carried x cells y) m K₀ in
        let P : Action = put_courier d.next_slot in
        answering_call (result_of (view B) window peer head ct (Ok (choice.Take cell))) (is (Ok (choice.Take cell)) e) refl
        (λ j. envelope_in (K.device j) contacts own (K.rows j) tombstones (K.cells j) a)
        (answered done (custody_reply head.tag custody.Accepted) (P ∷ []) (carry (view B) peer head ct) rep act f (with_one action_codec actions act (action_bytes P) P refl g))
