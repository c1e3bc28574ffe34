-- A carried row is read back: its ciphertext has a length that a courier carries, and, where the lifetime is above 0, its expiry is above 0.
-- Every call keeps both.
-- Assumes nothing.
use Rattle.std.proofs.Common.{◌≡◌, ℕ, ◌<◌, min, Bool, true, false, cond, not, List, [], ◌∷◌, length, get_or, sym, refl, ap, ◌∙◌, subst, arith, Option, Some, None, Result, Ok, Err}
use Rattle.std.proofs.Math.Nat.{le-min}
use mathlib.Core.Bool.{false≢true}
use Rattle.courier_core.specs.declared.ContactId.{ContactId}
use Rattle.courier_core.specs.declared.Refusal.{Refusal}
use Rattle.table.specs.Lists.{All}
use Rattle.table.specs.Lists as lists
use Rattle.table.proofs.ListLaws.{all_append}
use Rattle.courier.specs.declared.Header.{Header}
use Rattle.courier.specs.declared.Custody.{Custody}
use Rattle.courier.specs.declared.Custody.TheVariants as custody
use Rattle.courier.specs.Courier.{carried_length, envelope_valid}
use Rattle.courier.proofs.Laws.{valid_parts}
use Rattle.rows.specs.declared.Carried.{Carried}
use Rattle.model.specs.Basics.{match_found}
use Rattle.model.specs.State.{State}
use Rattle.model.specs.Calls
use Rattle.model.specs.Calls.{Call, Result as Outcome, step_of, is_refused}
use Rattle.model.specs.Contacts.{minute_of, lifetime_end, end_of}
use Rattle.model.specs.Window.{no_reachable, window_rows, lookup}
use Rattle.model.specs.Custody.{custody_of, new_carried, ours_at, answer_custody, envelope_tests, receive_envelope}
use Rattle.model.specs.Step.{Post, Lent, tests, perform, step, state_for, answer_to, after}
use Rattle.history.specs.Life.{role}
use Rattle.history.proofs.SortedLaws.{became_all}
use Rattle.history.proofs.RowLaws.{Thinned, stays_later, Gift, nothing, one, rows}
use Rattle.history.proofs.KeptLaws.{Kept, effect_at}
use Rattle.load_tests.specs.Tests.{tested_as}
use Rattle.load.proofs.CallLaws.{step_tested}
use Rattle.load.proofs.CallLaws as calls

abbrev pub Lengths : List Carried → Type 0
Lengths rs = All (λ (r : Carried). carried_length r.len ≡ true) rs

abbrev pub Expiries : List Carried → Type 0
Expiries rs = All (λ (r : Carried). 0 < r.expiry_min) rs

-- a call that is not refused is what it performs
pub performed : (ts : List (Bool × Refusal)) (o : Outcome) → is_refused (step_of ts o).answer ≡ false → step_of ts o ≡ o
performed ts o e = go (tested_as ts) refl
  where
    go : (r : Result (Unit {0}) Refusal) → tested_as ts ≡ r → step_of ts o ≡ o
    go (Err why) f = absurd (false≢true (sym e ∙ ap (λ (x : Outcome). is_refused x.answer) (step_tested o ts ∙ ap (calls.after o) f)))
    go (Ok u) f = step_tested o ts ∙ ap (calls.after o) f

valid_first : (on valid : Bool) (rest : Custody) → cond (not on) custody.Off (cond (not valid) custody.Invalid rest) ≡ custody.Accepted → valid ≡ true
valid_first true true rest e = refl
valid_first true false rest e = absurd (cc)
valid_first false valid rest e = absurd (cc)

module _ (s : State) (replies actions : ℕ) (window : List ℕ) (peer : ContactId) (head : Header) (ct : List ℕ) where
  -- an envelope that gives a row was accepted
  accepted : (f : Option ℕ) (code : Custody)
      → match_found f (λ (i : ℕ). ours_at (get_or (window_rows window) i no_reachable)) (answer_custody s peer head ct code) ≡ answer_custody s peer head ct custody.Accepted
      → code ≡ custody.Accepted
  unfolding ours_at answer_custody
  accepted (Some i) code e = absurd (omega (arith, ap (λ (o : Outcome). length o.actions) e))
  accepted None custody.Accepted e = refl
  accepted None custody.Full e = absurd (omega (arith, ap (λ (o : Outcome). length o.actions) e))
  accepted None custody.Duplicate e = absurd (omega (arith, ap (λ (o : Outcome). length o.actions) e))
  accepted None custody.Off e = absurd (omega (arith, ap (λ (o : Outcome). length o.actions) e))
  accepted None custody.Invalid e = absurd (omega (arith, ap (λ (o : Outcome). length o.actions) e))

  -- it was valid: its length is carried, and its expiry after the minute
  given : step s (Calls.envelope replies actions window peer head ct) ≡ answer_custody s peer head ct custody.Accepted
      → (carried_length (length ct) ≡ true) × (0 < head.expiry_min)
  unfolding step tests perform receive_envelope custody_of answer_custody
  given e =
      let o : Outcome = receive_envelope s (window_rows window) peer head ct in
      let q : o ≡ answer_custody s peer head ct custody.Accepted =
      sym (performed (envelope_tests s replies actions window peer head (length ct)) o (ap (λ (x : Outcome). is_refused x.answer) e)) ∙ e in
      let c = accepted (lookup (window_rows window) head.tag) (custody_of s peer head (length ct)) q in
      let v =
      valid_parts (length ct) head.copies head.expiry_min (minute_of s)
      (valid_first s.courier.enabled (envelope_valid (length ct) head.copies head.expiry_min (minute_of s)) _ c) in
      (v.0, omega (arith, v.2))

-- what holds of a row's length and expiry, and of those of a row that an accepted envelope gives
module _ (P : (len expiry : ℕ) → Type 0) where
  abbrev Rows : List Carried → Type 0
  Rows rs = All (λ (r : Carried). P r.len r.expiry_min) rs

  abbrev Gives : State → Type 0
  Gives s = (head : Header) (ct : List ℕ) → carried_length (length ct) ≡ true → 0 < head.expiry_min → P (length ct) (min head.expiry_min (end_of s))

  module _ (s : State) (o : Outcome) where
    gift_rows : {c : Call} {n : ℕ} {cells : List ℕ} (gift : List Carried) → Gives s → o ≡ step s c → Gift s o c gift n cells → Rows gift
    unfolding new_carried
    gift_rows [] f q (nothing le) = lists.none
    gift_rows (x ∷ xs) f q (one replies actions window peer head ct pl e) =
        let v = given s replies actions window peer head ct (sym q ∙ e) in lists.more (f head ct v.0 v.1) lists.none

    -- a row keeps its length and its expiry
    kept_rows : (c : Call) {kept : List Carried} → Rows s.carried → Thinned s o c kept → Rows kept
    kept_rows c a b =
        became_all (λ x y p h. let l = stays_later s o (role c) x y p in subst (λ (n : ℕ). P y.len n) (sym l.expiry) (subst (λ (n : ℕ). P n x.expiry_min) (sym l.len) h)) b a

  rows_after : (p : Post) (l : Lent) → Kept p.state → Gives (state_for p l) → Rows p.state.carried → Rows (after p l).state.carried
  unfolding after answer_to state_for
  rows_after p l k f a =
      let s : State = state_for p l in
      let r = rows s (answer_to p l) k.limits.tags_differ (effect_at p l).held in
      subst Rows (sym r.after)
      (all_append r.kept r.gift (kept_rows s (answer_to p l) l.call a r.became) (gift_rows s (answer_to p l) r.gift f refl r.given))

pub lengths_after : (p : Post) (l : Lent) → Kept p.state → Lengths p.state.carried → Lengths (after p l).state.carried
lengths_after p l k = rows_after (λ len expiry. carried_length len ≡ true) p l k (λ head ct c e. c)

pub expiries_after : (p : Post) (l : Lent) → Kept p.state → 0 < p.state.courier.lifetime_min → Expiries p.state.carried → Expiries (after p l).state.carried
unfolding state_for lifetime_end
expiries_after p l k t = rows_after (λ len expiry. 0 < expiry) p l k (λ head ct c e. le-min (omega (arith, e)) (le-min (omega (arith, t)) (omega arith)))
