-- Laws of what becomes of an envelope: each test that the code makes is a test of the model, and what a cell that is taken says of the areas.
-- Assumes nothing.
use Rattle.std.proofs.Common.{◌≡◌, ℕ, ◌+◌, ◌*◌, ◌/◌, ◌^◌, ◌<◌, ◌≤◌, Bool, true, false, cond, not, ◌&&◌, ◌||◌, eqb, ltb, leb, List, [], ◌∷◌, map, length, sym, refl, ap, ◌∙◌, ap₂, arith, ltb-false, eq-eqb, ne_eqb, leb-false, Option, Some, None, Result, Ok, Err}
use mathlib.Core.Bool.{false≢true}
use Rattle.std.specs.Option.{ok_or}
use Rattle.courier_core.specs.Core.{first_of}
use Rattle.courier_core.specs.declared.ContactId.{ContactId}
use Rattle.courier_core.specs.declared.Refusal.{Refusal}
use Rattle.courier_core.specs.declared.Refusal.TheVariants as refusal
use Rattle.courier.specs.declared.Header.{Header}
use Rattle.courier.specs.declared.Custody.{Custody}
use Rattle.courier.specs.declared.Custody.TheVariants as custody
use Rattle.courier.specs.Courier.{envelope_valid}
use Rattle.table.specs.Lists.{All, none, more, is_at, unwrap_or}
use Rattle.table.specs.Codec.{table_of}
use Rattle.table.proofs.TableLaws.{length_table}
use Rattle.state.specs.Sizes.{cell_size}
use Rattle.rows.specs.declared.Device.{Device}
use Rattle.rows.specs.declared.Carried.{Carried}
use Rattle.rows.specs.Rows.{contact_codec, carried_codec}
use Rattle.rows.specs.Limits.{max_cells, reply_area, carried_area, action_area}
use Rattle.model.specs.Basics.{match_found}
use Rattle.model.specs.State.{State}
use Rattle.model.specs.Calls.{short_replies, short_actions}
use Rattle.model.specs.Contacts.{minute_of, known}
use Rattle.model.specs.Window.{window_rows, wrong_window, strangers, lookup}
use Rattle.model.specs.Cells.{free_cell, cells_used, new_cell}
use Rattle.model.specs.Custody.{is_accepted, duplicate, full, custody_of, accepts, carried_named, carried_cell, last_slot, envelope_tests}
use Rattle.model.specs.Areas.{Areas, view, no_areas}
use Rattle.model.proofs.CellLaws.{free_inside}
use Rattle.model.proofs.KeepRows.{and_false, or_false, next_small, accepted, valid_length}
use Rattle.envelope.specs.declared.Choice.{Choice}
use Rattle.envelope.specs.declared.Choice.TheVariants as choice
use Rattle.custody.specs.Lent.{Lends}
use Rattle.envelope.specs.Answers.{placed, custody_choice, envelope_choice, Room}

-- ---- the cell of an accepted envelope

abbrev ours : ℕ → Result Choice Refusal
ours i = Ok (choice.Ours i)

abbrev pub placed_by : (used last : Bool) → ℕ → Result Choice Refusal
placed_by used last cell = first_of ((used, refusal.NoCell) ∷ (last, refusal.NoSlot) ∷ []) Err (Ok (choice.Take cell))

module _ (size : ℕ) (named : List ℕ) (next : ℕ) where
  place_by : (f : Option ℕ) (last : Bool) → f ≡ free_cell size named → eqb next 18446744073709551615 ≡ last → placed_by (not (is_at f)) last (unwrap_or 0 f) ≡ placed size named next
  unfolding placed cells_used new_cell
  place_by f last e t = λ j. placed_by (not (is_at (e j))) (sym t j) (unwrap_or 0 (e j))

  module _ (f : Option ℕ) (e : f ≡ free_cell size named) where
    pub place_none : (why : Refusal) → ok_or f refusal.NoCell ≡ Err why → Err why ≡ placed size named next
    place_none why q = go f e q
      where
        go : (g : Option ℕ) → g ≡ free_cell size named → ok_or g refusal.NoCell ≡ Err why → Err why ≡ placed size named next
        go None d r =
            let z : why ≡ refusal.NoCell = cc in
            let y : Err refusal.NoCell ≡ placed size named next = place_by None _ d refl in
            ap Err z ∙ y
        go (Some k) d r = let z : ◌≡◌ {A = ℕ} 0 1 = cc in absurd (omega arith)

    module _ (i : ℕ) (q : ok_or f refusal.NoCell ≡ Ok i) where
      found : Some i ≡ free_cell size named
      found = sym (go f q) ∙ e
        where
          go : (g : Option ℕ) → ok_or g refusal.NoCell ≡ Ok i → g ≡ Some i
          go None r = let z : ◌≡◌ {A = ℕ} 0 1 = cc in absurd (omega arith)
          go (Some k) r = cc

      pub place_last : next ≡ 18446744073709551615 → Err refusal.NoSlot ≡ placed size named next
      place_last t = place_by (Some i) true found (eq-eqb next 18446744073709551615 t)

      pub place_at : (next ≡ 18446744073709551615 → ⊥) → Ok (choice.Take i) ≡ placed size named next
      place_at t = place_by (Some i) false found (ne_eqb next 18446744073709551615 t)

-- ---- the choice by what each test says

abbrev pub told : (short wrong strange : Bool) → Option ℕ → Result Choice Refusal → Result Choice Refusal
told short wrong strange f k =
    first_of ((short, refusal.ShortArea) ∷ (wrong, refusal.WindowRows) ∷ (strange, refusal.UnknownContact) ∷ []) Err (match_found f ours k)

-- numbers 4 and 6 hold only of an envelope that is not in the window and would be accepted
by_tests : (short wrong strange : Bool) (f : Option ℕ) (will used last : Bool) (cell : ℕ) (k : Result Choice Refusal)
    → first_of ((short, refusal.ShortArea) ∷ (wrong, refusal.WindowRows) ∷ (strange, refusal.UnknownContact) ∷ ((not (is_at f) && will) && used, refusal.NoCell)
    ∷ ((not (is_at f) && will) && last, refusal.NoSlot) ∷ []) Err (match_found f ours (cond will (Ok (choice.Take cell)) k))
    ≡ told short wrong strange f (cond will (placed_by used last cell) k)
by_tests true wrong strange f will used last cell k = refl
by_tests false true strange f will used last cell k = refl
by_tests false false true f will used last cell k = refl
by_tests false false false (Some i) will used last cell k = refl
by_tests false false false None false used last cell k = refl
by_tests false false false None true true last cell k = refl
by_tests false false false None true false true cell k = refl
by_tests false false false None true false false cell k = refl

-- ---- what is no refusal: no test holds, and it is what they leave

abbrev refuses : Result Choice Refusal → Bool
refuses (Err why) = true
refuses (Ok k) = false

abbrev Fails : Bool × Refusal → Type 0
Fails t = t.0 ≡ false

passes : (ts : List (Bool × Refusal)) (k x : Result Choice Refusal) → refuses x ≡ false → x ≡ first_of ts Err k → All Fails ts × (x ≡ k)
passes [] k x n e = (none, e)
passes (t ∷ ts) k x n e = go t.0 refl e (passes ts k x n)
  where
    go : (b : Bool) → t.0 ≡ b → x ≡ cond b (Err t.1) (first_of ts Err k)
        → (x ≡ first_of ts Err k → All Fails ts × (x ≡ k)) → All Fails (t ∷ ts) × (x ≡ k)
    go true q f rest = absurd (false≢true (sym n ∙ ap refuses f))
    go false q f rest = let r = rest f in (more q r.0, r.1)

-- tests 1, 4 and 5 of five
of_five : {a b c d e : Bool × Refusal} → All Fails (a ∷ b ∷ c ∷ d ∷ e ∷ []) → (a.0 ≡ false) × ((d.0 ≡ false) × (e.0 ≡ false))
of_five (more p (more q (more r (more s (more t none))))) = (p, (s, t))

-- which of the ways is left
left_ours : (f : Option ℕ) (will : Bool) (cell i : ℕ) (code : Custody) → Ok (choice.Ours i) ≡ match_found f ours (cond will (Ok (choice.Take cell)) (Ok (choice.Code code))) → Some i ≡ f
left_ours (Some k) will cell i code e = cc
left_ours None true cell i code e = let z : ◌≡◌ {A = ℕ} 0 1 = cc in absurd (omega arith)
left_ours None false cell i code e = let z : ◌≡◌ {A = ℕ} 0 1 = cc in absurd (omega arith)

left_taken : (f : Option ℕ) (will : Bool) (cell m : ℕ) (code : Custody) → Ok (choice.Take m) ≡ match_found f ours (cond will (Ok (choice.Take cell)) (Ok (choice.Code code)))
    → (f ≡ None) × ((will ≡ true) × (m ≡ cell))
left_taken (Some k) will cell m code e = let z : ◌≡◌ {A = ℕ} 0 1 = cc in absurd (omega arith)
left_taken None true cell m code e = (refl, (refl, cc))
left_taken None false cell m code e = let z : ◌≡◌ {A = ℕ} 0 1 = cc in absurd (omega arith)

-- what a cell that is taken says of the tests
record Took (short will used last : Bool) (cell m : ℕ) : Type 0 where
  long : short ≡ false
  accepts : will ≡ true
  free : used ≡ false
  slot : last ≡ false
  same : m ≡ cell

module _ (s : State) (replies actions : ℕ) (window : List ℕ) (peer : ContactId) (head : Header) (len : ℕ) where
  abbrev short : Bool
  short = short_replies replies || short_actions s actions

  abbrev strange : Bool
  strange = not (known s.contacts peer) || strangers s.contacts (window_rows window)

  abbrev place : Option ℕ
  place = lookup (window_rows window) head.tag

  abbrev code : Custody
  code = custody_of s peer head len

  abbrev used : Bool
  used = cells_used (length s.carried_cells) (carried_named s)

  choice_is : envelope_choice s replies actions window peer head len ≡ told short (wrong_window window) strange place (custody_choice s peer head len)
  unfolding envelope_choice envelope_tests accepts custody_choice placed
  choice_is = by_tests short (wrong_window window) strange place (is_accepted code) used (last_slot s) (carried_cell s) (Ok (choice.Code code))

  module _ (x : Result Choice Refusal) (n : refuses x ≡ false) (e : x ≡ envelope_choice s replies actions window peer head len) where
    past : All Fails (envelope_tests s replies actions window peer head len) × (x ≡ match_found place ours (cond (is_accepted code) (Ok (choice.Take (carried_cell s))) (Ok (choice.Code code))))
    unfolding envelope_choice
    past = passes (envelope_tests s replies actions window peer head len) _ x n e

    all_fail : (short ≡ false) × (((accepts s (window_rows window) peer head len && used) ≡ false) × ((accepts s (window_rows window) peer head len && last_slot s) ≡ false))
    unfolding envelope_tests
    all_fail = of_five past.0

  pub code_is : (c : Custody) → Ok (choice.Code c) ≡ envelope_choice s replies actions window peer head len → reply_area ≤ replies
  code_is c e = ltb-false replies 61440 (or_false (short_replies replies) (short_actions s actions) (all_fail (Ok (choice.Code c)) refl e).0).0

  pub ours_is : (i : ℕ) → Ok (choice.Ours i) ≡ envelope_choice s replies actions window peer head len → Some i ≡ place
  ours_is i e = left_ours place (is_accepted code) (carried_cell s) i code (past (Ok (choice.Ours i)) refl e).1

  module _ (m : ℕ) (e : Ok (choice.Take m) ≡ envelope_choice s replies actions window peer head len) where
    took : (place ≡ None) × ((is_accepted code ≡ true) × (m ≡ carried_cell s))
    took = left_taken place (is_accepted code) (carried_cell s) m code (past (Ok (choice.Take m)) refl e).1

    accepting : accepts s (window_rows window) peer head len ≡ true
    unfolding accepts
    accepting = ap₂ (λ (f : Option ℕ) (b : Bool). not (is_at f) && b) took.0 took.1.0

    took_is : Took short (is_accepted code) used (last_slot s) (carried_cell s) m
    took_is = record {
      long = (all_fail (Ok (choice.Take m)) refl e).0;
      accepts = took.1.0;
      free = and_false _ used accepting (all_fail (Ok (choice.Take m)) refl e).1.0;
      slot = and_false _ (last_slot s) accepting (all_fail (Ok (choice.Take m)) refl e).1.1;
      same = took.1.1;
    }

-- ---- areas whose parts are those that the call is lent

module _ {a : Areas} {d : Device} {contacts own carried tombstones : List ℕ} {size : ℕ} (L : Lends a d contacts own carried tombstones size)
    (peer : ContactId) (head : Header) (len : ℕ) where
  module _ (replies actions : ℕ) (window : List ℕ) where
    -- the choice, by what the tests of the parts say
    pub tell : (short wrong strange : Bool) (f : Option ℕ) (k : Result Choice Refusal)
        → (short_replies replies || ltb actions (13 * (512 + length tombstones / 44))) ≡ short → wrong_window window ≡ wrong
        → (not (known (table_of contact_codec d.contacts contacts) peer) || strangers (table_of contact_codec d.contacts contacts) (window_rows window)) ≡ strange
        → lookup (window_rows window) head.tag ≡ f → custody_choice (view a) peer head len ≡ k
        → told short wrong strange f k ≡ envelope_choice (view a) replies actions window peer head len
    unfolding view
    tell _ _ _ _ _ es ew et ef ek =
        let ps : List _ = table_of contact_codec d.contacts contacts in
        let p : (view a).contacts ≡ ps = ap₂ (λ (x : Device) (y : List ℕ). table_of contact_codec x.contacts y) L.device L.contacts in
        sym (choice_is (view a) replies actions window peer head len
        ∙ (λ j. told ((ap (λ (t : List ℕ). short_replies replies || ltb actions (13 * (512 + length t / 44))) L.tombstones ∙ es) j) (ew j)
        ((ap (λ (x : List _). not (known x peer) || strangers x (window_rows window)) p ∙ et) j) (ef j) (ek j)))

  -- an envelope that is not in the window, by its code
  module _ (code : Custody) (e : code ≡ custody_of (view a) peer head len) where
    by_code : (b : Bool) → is_accepted code ≡ b
        → cond b (placed size (map (λ (r : Carried). r.cell) (table_of carried_codec d.carried carried)) d.next_slot) (Ok (choice.Code code)) ≡ custody_choice (view a) peer head len
    unfolding custody_choice view
    by_code b t = λ j. cond ((sym t ∙ ap is_accepted e) j)
        (placed (L.size j) (map (λ (r : Carried). r.cell) (table_of carried_codec (sym L.device j).carried (sym L.carried j))) (sym L.device j).next_slot)
        (Ok (choice.Code (e j)))

    pub taken_in : is_accepted code ≡ true
        → placed size (map (λ (r : Carried). r.cell) (table_of carried_codec d.carried carried)) d.next_slot ≡ custody_choice (view a) peer head len
    taken_in t = by_code true t

    pub not_taken : is_accepted code ≡ false → Ok (choice.Code code) ≡ custody_choice (view a) peer head len
    not_taken t = by_code false t

-- ---- what a cell that is taken says

new_inside : (size : ℕ) (named : List ℕ) → cells_used size named ≡ false → (new_cell size named < max_cells) × (new_cell size named * cell_size + cell_size ≤ size)
unfolding cells_used new_cell
new_inside size named e = go (free_cell size named) refl e
  where
    go : (f : Option ℕ) → free_cell size named ≡ f → not (is_at f) ≡ false → (unwrap_or 0 f < 256) × (unwrap_or 0 f * 2064 + 2064 ≤ size)
    go (Some k) q t = free_inside size named k q
    go None q t = let z : ◌≡◌ {A = ℕ} 0 1 = cc in absurd (omega arith)

is_accepted_lem : (code : Custody) → is_accepted code ≡ true → code ≡ custody.Accepted
is_accepted_lem custody.Accepted e = refl
is_accepted_lem custody.Full e = let z : ◌≡◌ {A = ℕ} 0 1 = cc in absurd (omega arith)
is_accepted_lem custody.Duplicate e = let z : ◌≡◌ {A = ℕ} 0 1 = cc in absurd (omega arith)
is_accepted_lem custody.Off e = let z : ◌≡◌ {A = ℕ} 0 1 = cc in absurd (omega arith)
is_accepted_lem custody.Invalid e = let z : ◌≡◌ {A = ℕ} 0 1 = cc in absurd (omega arith)

-- what the call is lent, in areas that have nothing else
abbrev pub alone : Device → (contacts own carried tombstones cells : List ℕ) → Areas
alone d contacts own carried tombstones cells =
    record no_areas { device = d; contacts = contacts; own = own; carried = carried; tombstones = tombstones; carried_cells = cells }

-- the answer areas are long enough, and the cell is the model's
pub record Listed (replies actions cell m : ℕ) : Type 0 where
  pub reply : reply_area ≤ replies
  pub action : action_area 0 ≤ actions
  pub same : m ≡ cell

module _ (d : Device) (contacts own carried tombstones cells window : List ℕ) (replies actions : ℕ) (peer : ContactId) (head : Header) (len : ℕ) where
  abbrev S : State
  S = view (alone d contacts own carried tombstones cells)

  module _ (cell : ℕ) (e : Ok (choice.Take cell) ≡ envelope_choice S replies actions window peer head len) where
    pub taken_room : d.next_slot < 2 ^ 64 → length carried ≡ carried_area → Room d len cell (length carried) (length cells)
    unfolding custody_of full view
    taken_room n l =
        let t = took_is S replies actions window peer head len cell e in
        let q = accepted d.courier.enabled (envelope_valid len head.copies head.expiry_min (minute_of S)) (duplicate S head.tag) (full S peer len)
        (is_accepted_lem (custody_of S peer head len) t.accepts) in
        let few : leb 256 (length S.carried) ≡ false = (or_false _ _ (or_false _ _ q.1).0).0 in
        let f = new_inside (length cells) (carried_named S) t.free in
        record {
          row = omega (arith, leb-false 256 (length S.carried) few, length_table carried_codec d.carried carried);
          slot = omega (arith, next_small d.next_slot n t.slot);
          one = omega (arith, f.0, t.same);
          whole = omega (arith, f.1, t.same);
          fits = valid_length len head.copies head.expiry_min (minute_of S) q.0;
        }

    pub taken_listed : Listed replies actions (carried_cell S) cell
    unfolding view
    taken_listed =
        let t = took_is S replies actions window peer head len cell e in
        let r = or_false (short_replies replies) (short_actions S actions) t.long in
        record {
          reply = ltb-false replies 61440 r.0;
          action = omega (arith, ltb-false actions (13 * (512 + length tombstones / 44)) r.1);
          same = t.same;
        }
