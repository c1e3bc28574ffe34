-- The life of a carried row over a list of calls, from the call that gives it to the one by which it leaves.
-- Assumes nothing.
use Rattle.std.proofs.Common.{◌≡◌, ℕ, ◌<◌, ◌≤◌, Bool, true, false, cond, not, ◌⊎◌, List, [], ◌∷◌, length, sym, refl, ap, ◌∙◌, subst, inl, inr, arith, leb-false}
use mathlib.Core.Bool.{false≢true}
use borrow.Author.Tests.{not-true}
use Rattle.courier_core.specs.declared.Refusal.TheVariants as refusal
use Rattle.table.specs.Lists.{All}
use Rattle.table.proofs.ListLaws.{filter_holds}
use Rattle.courier.specs.declared.Custody.TheVariants as custody
use Rattle.rows.specs.declared.Carried.{Carried}
use Rattle.model.specs.State.{State, apply}
use Rattle.model.specs.Calls
use Rattle.model.specs.Calls.{Call, Result, only, refused, step_of, short_actions, is_refused}
use Rattle.model.specs.Contacts.{minute_of}
use Rattle.model.specs.Cells.{ciphertext}
use Rattle.model.specs.Custody.{carried_cell, carried_named, new_carried, carry, answer_custody}
use Rattle.model.specs.Exchange.{lowered}
use Rattle.model.specs.Maintenance.{carried_expired, maintenance_tests, maintain_couriers}
use Rattle.model.specs.Step.{Post, Lent, tests, perform, step, state_for, answer_to, after, run}
use Rattle.history.specs.Order.{◌∈◌, here, HeldOrder}
use Rattle.history.specs.Life.{role, handed, Later, Leaves, Holds, Lives, ends, goes_on}
use Rattle.history.specs.History.{Deposit, Given, Fate, held, left, Life, Origin}
use Rattle.history.proofs.SortedLaws.{all_in, all_unmap, none_in, in_one, in_left, in_right, in_append, became_back, became_gone}
use Rattle.history.proofs.Effects.{Placed}
use Rattle.history.proofs.RowLaws.{Stays, stays_later, later_lowered, later_refl, later_trans, Gift, nothing, one, Rows, rows}
use Rattle.history.proofs.CellLaws.{cell_free, length_after, ciphertext_new, ciphertext_kept}
use Rattle.history.proofs.KeptLaws.{Kept, kept_for, kept_after, effect_at}
use Rattle.history.proofs.DepositLaws.{code_0}

-- ---- the row that a call gives

module _ (s : State) (o : Result) where
  gift_next : {c : Call} {gift : List Carried} {n : ℕ} {cells : List ℕ} → Gift s o c gift n cells → s.next_slot ≤ n
  gift_next (nothing le) = le
  gift_next (one replies actions window peer head ct h e) = omega arith

  gift_slot : {c : Call} {gift : List Carried} {n : ℕ} {cells : List ℕ} (q : Carried) → Gift s o c gift n cells → q ∈ gift → q.slot ≡ s.next_slot
  unfolding new_carried
  gift_slot q (nothing le) m = absurd (none_in m)
  gift_slot q (one replies actions window peer head ct h e) m = ap (λ (r : Carried). r.slot) (in_one m)

  -- the ciphertexts that rows name stay where they are
  gift_bytes : {c : Call} {gift : List Carried} {n : ℕ} {cells : List ℕ} (r : Carried) → HeldOrder s.carried s.tombstones s.next_slot s.carried_cells
      → r ∈ s.carried → Gift s o c gift n cells → ciphertext cells r.cell r.len ≡ ciphertext s.carried_cells r.cell r.len
  gift_bytes r g m (nothing le) = refl
  gift_bytes r g m (one replies actions window peer head ct h e) =
      let free = cell_free (length s.carried_cells) (carried_named s) (carried_cell s) h.cell in
      let at = all_in g.in_cells m in
      ciphertext_kept s.carried_cells (carried_cell s) ct free.0 h.small r.cell r.len at.0 at.1
      (all_in (all_unmap (λ (x : Carried). x.cell) s.carried free.1) m)

  gift_size : {c : Call} {gift : List Carried} {n : ℕ} {cells : List ℕ} → Gift s o c gift n cells → length cells ≡ length s.carried_cells
  gift_size (nothing le) = refl
  gift_size (one replies actions window peer head ct h e) =
      length_after s.carried_cells (carried_cell s) ct (cell_free (length s.carried_cells) (carried_named s) (carried_cell s) h.cell).0 h.small

-- ---- a call

abbrev Free : ℕ → Post → Type 0
Free slot p = (q : Carried) → q ∈ p.state.carried → q.slot ≡ slot → ⊥

module _ (p : Post) (l : Lent) (k : Kept p.state) where
  rows_at : Rows (state_for p l) (answer_to p l) l.call (after p l).state.carried (after p l).state.next_slot (after p l).state.carried_cells
  unfolding after
  rows_at = rows (state_for p l) (answer_to p l) (kept_for p l k).limits.tags_differ (effect_at p l).held

  slots_kept : p.state.next_slot ≤ (after p l).state.next_slot
  unfolding state_for
  slots_kept = gift_next (state_for p l) (answer_to p l) rows_at.given

  pub size_kept : length (after p l).state.carried_cells ≡ length p.state.carried_cells
  unfolding state_for
  size_kept = gift_size (state_for p l) (answer_to p l) rows_at.given

  bytes_kept : (r : Carried) → r ∈ p.state.carried → ciphertext (after p l).state.carried_cells r.cell r.len ≡ ciphertext p.state.carried_cells r.cell r.len
  unfolding state_for
  bytes_kept r m = gift_bytes (state_for p l) (answer_to p l) r k.held m rows_at.given

  -- a row leaves, and no row has its slot; or it stays
  onward : (r : Carried) (ct : List ℕ) → Holds p r ct
      → (Leaves (state_for p l) (answer_to p l) r l.call × Free r.slot (after p l)) ⊎ Holds (after p l) (lowered (handed p l r) r) ct
  unfolding state_for lowered
  onward r ct h = go (became_gone k.held.carried_rise R.became h.row)
    where
      R : Rows (state_for p l) (answer_to p l) l.call (after p l).state.carried (after p l).state.next_slot (after p l).state.carried_cells
      R = rows_at

      go : (Leaves (state_for p l) (answer_to p l) r l.call × All (λ (y : Carried). (z : Carried) × Stays (state_for p l) (answer_to p l) (role l.call) z y
          × ((r.slot < z.slot) ⊎ (z.slot < r.slot))) R.kept) ⊎ ((y : Carried) × (y ∈ R.kept) × Stays (state_for p l) (answer_to p l) (role l.call) r y)
          → (Leaves (state_for p l) (answer_to p l) r l.call × Free r.slot (after p l)) ⊎ Holds (after p l) (lowered (handed p l r) r) ct
      go (inl t) = inl (t.0, λ q m e. by q e (in_append R.kept R.gift (subst (λ (xs : List Carried). q ∈ xs) R.after m)))
        where
          apart : (q z : Carried) → q.slot ≡ r.slot → q.slot ≡ z.slot → (r.slot < z.slot) ⊎ (z.slot < r.slot) → ⊥
          apart q z e f (inl i) = omega (arith, e, f, i)
          apart q z e f (inr i) = omega (arith, e, f, i)

          by : (q : Carried) → q.slot ≡ r.slot → (q ∈ R.kept) ⊎ (q ∈ R.gift) → ⊥
          by q e (inl m) =
              let z = all_in t.1 m in
              apart q z.0 e (stays_later (state_for p l) (answer_to p l) (role l.call) z.0 q z.1).slot z.2
          by q e (inr m) = omega (arith, e, gift_slot (state_for p l) (answer_to p l) q R.given m, all_in k.held.carried_below h.row)
      go (inr t) = inr (record {
        row = subst (λ (xs : List Carried). lowered (handed p l r) r ∈ xs) (sym R.after) (in_left R.kept R.gift (subst (λ (x : Carried). x ∈ R.kept) t.2 t.1));
        bytes = bytes_kept r h.row ∙ h.bytes;
      })

  -- a row that is there was there, or it has been given
  backward : (e : Carried) → e ∈ (after p l).state.carried → ((r : Carried) × (r ∈ p.state.carried) × (e ≡ lowered (handed p l r) r)) ⊎ (e ∈ rows_at.gift)
  unfolding state_for
  backward e m = go (in_append rows_at.kept rows_at.gift (subst (λ (xs : List Carried). e ∈ xs) rows_at.after m))
    where
      go : (e ∈ rows_at.kept) ⊎ (e ∈ rows_at.gift) → ((r : Carried) × (r ∈ p.state.carried) × (e ≡ lowered (handed p l r) r)) ⊎ (e ∈ rows_at.gift)
      go (inl m) = inl (became_back rows_at.became m)
      go (inr m) = inr m

  -- a slot that no row has, of those that have been given
  free_after : (slot : ℕ) → slot < p.state.next_slot → Free slot p → Free slot (after p l)
  unfolding state_for lowered
  free_after slot lt f q m e = go (backward q m)
    where
      go : ((r : Carried) × (r ∈ p.state.carried) × (q ≡ lowered (handed p l r) r)) ⊎ (q ∈ rows_at.gift) → ⊥
      go (inl t) = f t.0 t.1 (ap (λ (x : Carried). x.slot) (sym t.2) ∙ e)
      go (inr m) = omega (arith, e, lt, gift_slot (state_for p l) (answer_to p l) q rows_at.given m)

free_run : (p : Post) (ls : List Lent) (slot : ℕ) → Kept p.state → slot < p.state.next_slot → Free slot p → Free slot (run p ls)
unfolding run
free_run p [] slot k lt f = f
free_run p (l ∷ ls) slot k lt f = free_run (after p l) ls slot (kept_after p l k) (omega (arith, lt, slots_kept p l k)) (free_after p l k slot lt f)

pub size_run : (p : Post) (ls : List Lent) → Kept p.state → length (run p ls).state.carried_cells ≡ length p.state.carried_cells
unfolding run
size_run p [] k = refl
size_run p (l ∷ ls) k = size_run (after p l) ls (kept_after p l k) ∙ size_kept p l k

-- ---- what becomes of a row

fate_from : (p : Post) (ls : List Lent) (r : Carried) (ct : List ℕ) → Kept p.state → Holds p r ct → Fate p r ct ls
unfolding run lowered
fate_from p [] r ct k h = held r (ends h)
fate_from p (l ∷ ls) r ct k h = go (onward p l k r ct h) (λ n. fate_from (after p l) ls (lowered (handed p l r) r) ct (kept_after p l k) n)
  where
    longer : Fate (after p l) (lowered (handed p l r) r) ct ls → Fate p r ct (l ∷ ls)
    longer (held e v) = held e (goes_on h v)
    longer (left before x rest e q v w n) = left (l ∷ before) x rest e (ap (λ (xs : List Lent). l ∷ xs) q) (goes_on h v) w n

    go : (Leaves (state_for p l) (answer_to p l) r l.call × Free r.slot (after p l)) ⊎ Holds (after p l) (lowered (handed p l r) r) ct
        → (Holds (after p l) (lowered (handed p l r) r) ct → Fate (after p l) (lowered (handed p l r) r) ct ls) → Fate p r ct (l ∷ ls)
    go (inl t) f = left [] l ls r refl (ends h) t.0
        (λ before rest q. free_run (after p l) before r.slot (kept_after p l k) (omega (arith, slots_kept p l k, all_in k.held.carried_below h.row)) t.1)
    go (inr n) f = longer (f n)

-- ---- the envelope of a call

module _ (p : Post) (l : Lent) (d : Deposit p l) where
  abbrev new : Carried
  new = new_carried (state_for p l) d.peer d.head (length d.ct)

  facts : Placed (state_for p l) d.peer d.head (length d.ct) × (answer_to p l ≡ answer_custody (state_for p l) d.peer d.head d.ct custody.Accepted)
  unfolding answer_to state_for
  facts = rw d.call (code_0 (state_for p l) d.replies d.actions d.window d.peer d.head d.ct (rw d.call at d.code0))

  holds_new : Holds (after p l) new d.ct
  unfolding after apply carry answer_custody new_carried
  holds_new =
      let q = facts in
      let s : State = state_for p l in
      let c : ℕ = carried_cell s in
      let free = cell_free (length s.carried_cells) (carried_named s) c q.0.cell in
      record {
        row = subst (λ (o : Result). new ∈ (apply s o.change).carried) (sym q.1) (in_right s.carried (new ∷ []) here);
        bytes = subst (λ (o : Result). ciphertext (apply s o.change).carried_cells c (length d.ct) ≡ d.ct) (sym q.1)
            (ciphertext_new s.carried_cells c d.ct free.0 q.0.small);
      }

  pub given_row : Given p l d new
  unfolding new_carried answer_custody
  given_row = record { put = ap (λ (o : Result). o.actions) facts.1; depositor = refl; tag = refl; commitment = refl; ciphertext = holds_new; copies = refl; expiry = refl }

  pub life_of : (rest : List Lent) → Kept p.state → Life p l d rest
  life_of rest k = record { row = new; given = given_row; fate = fate_from (after p l) rest new d.ct (kept_after p l k) holds_new }

-- ---- where a row comes from

lives_holds : {ct : List ℕ} {p : Post} {r e : Carried} {ls : List Lent} → Lives ct p r ls e → Holds p r ct
lives_holds (ends h) = h
lives_holds (goes_on h v) = h

pub lives_later : {ct : List ℕ} {p : Post} {r e : Carried} {ls : List Lent} → Lives ct p r ls e → Later r e
lives_later (ends {e = e} h) = later_refl e
lives_later (goes_on {p = p} {l = l} {r = r} {e = e} h v) = later_trans r (lowered (handed p l r) r) e (later_lowered (handed p l r) r) (lives_later v)

-- a row that a call gives is that of its envelope
from_gift : (p : Post) (l : Lent) {c : Call} {gift : List Carried} {n : ℕ} {cells : List ℕ} (e : Carried) → l.call ≡ c → Gift (state_for p l) (answer_to p l) c gift n cells
    → e ∈ gift → (d : Deposit p l) × (e ≡ new_carried (state_for p l) d.peer d.head (length d.ct))
unfolding answer_custody
from_gift p l e q (nothing le) m = absurd (none_in m)
from_gift p l e q (one replies actions window peer head ct h i) m = (
  record { replies = replies; actions = actions; window = window; peer = peer; head = head; ct = ct; call = q; code0 = ap (λ (o : Result). o.replies) i },
  in_one m,
)

-- a life that began before a call, or with it
begun_before : (p : Post) (l : Lent) (ls : List Lent) (r x e : Carried) (ct : List ℕ) → Kept p.state → r ∈ p.state.carried → x ≡ lowered (handed p l r) r
    → Lives ct (after p l) x ls e → Lives ct p r (l ∷ ls) e
unfolding lowered
begun_before p l ls r x e ct k m q v =
    let w : Lives ct (after p l) (lowered (handed p l r) r) ls e = subst (λ (y : Carried). Lives ct (after p l) y ls e) q v in
    goes_on (record { row = m; bytes = sym (bytes_kept p l k r m) ∙ (lives_holds w).bytes }) w

begun_with : (p : Post) (l : Lent) (ls : List Lent) (x e : Carried) (ct : List ℕ) (d : Deposit p l)
    → x ≡ new_carried (state_for p l) d.peer d.head (length d.ct) → Lives ct (after p l) x ls e
    → Lives d.ct (after p l) (new_carried (state_for p l) d.peer d.head (length d.ct)) ls e
begun_with p l ls x e ct d q v =
    let new : Carried = new_carried (state_for p l) d.peer d.head (length d.ct) in
    let w : Lives ct (after p l) new ls e = subst (λ (y : Carried). Lives ct (after p l) y ls e) q v in
    subst (λ (b : List ℕ). Lives b (after p l) new ls e) (sym (lives_holds w).bytes ∙ (holds_new p l d).bytes) w

origin_from : (p : Post) (ls : List Lent) (e : Carried) → Kept p.state → e ∈ (run p ls).state.carried
    → ((r : Carried) × (ct : List ℕ) × Lives ct p r ls e) ⊎ Origin p ls e
unfolding run
origin_from p [] e k m = inl (e, ciphertext p.state.carried_cells e.cell e.len, ends (record { row = m; bytes = refl }))
origin_from p (l ∷ ls) e k m = go (origin_from (after p l) ls e (kept_after p l k) m)
  where
    go : ((r : Carried) × (ct : List ℕ) × Lives ct (after p l) r ls e) ⊎ Origin (after p l) ls e → ((r : Carried) × (ct : List ℕ) × Lives ct p r (l ∷ ls) e) ⊎ Origin p (l ∷ ls) e
    go (inr o) = inr (record {
      before = l ∷ o.before;
      l = o.l;
      rest = o.rest;
      split = ap (λ (xs : List Lent). l ∷ xs) o.split;
      deposit = o.deposit;
      row = o.row;
      given = o.given;
      lives = o.lives;
    })
    go (inl t) = by (backward p l k t.0 (lives_holds t.2).row)
      where
        by : ((r : Carried) × (r ∈ p.state.carried) × (t.0 ≡ lowered (handed p l r) r)) ⊎ (t.0 ∈ (rows_at p l k).gift)
            → ((r : Carried) × (ct : List ℕ) × Lives ct p r (l ∷ ls) e) ⊎ Origin p (l ∷ ls) e
        by (inl w) = inl (w.0, t.1, begun_before p l ls w.0 t.0 e t.1 k w.1 w.2 t.2)
        by (inr w) =
            let z = from_gift p l t.0 refl (rows_at p l k).given w in
            inr (record {
              before = [];
              l = l;
              rest = ls;
              split = refl;
              deposit = z.0;
              row = new_carried (state_for p l) z.0.peer z.0.head (length z.0.ct);
              given = given_row p l z.0;
              lives = begun_with p l ls t.0 e t.1 z.0 z.1 t.2;
            })

-- every row has its envelope, where there was none at the start
pub origin_of : (p : Post) (ls : List Lent) (e : Carried) → Kept p.state → p.state.carried ≡ [] → e ∈ (run p ls).state.carried → Origin p ls e
origin_of p ls e k n m = go (origin_from p ls e k m)
  where
    go : ((r : Carried) × (ct : List ℕ) × Lives ct p r ls e) ⊎ Origin p ls e → Origin p ls e
    go (inl t) = absurd (none_in (subst (λ (xs : List Carried). t.0 ∈ xs) n (lives_holds t.2).row))
    go (inr o) = o

-- ---- maintenance

swept_rows : (s : State) (actions : ℕ) (r : Carried) → is_refused (step s (Calls.maintenance actions)).answer ≡ false
    → r ∈ (apply s (step s (Calls.maintenance actions)).change).carried → minute_of s < r.expiry_min
unfolding step tests perform step_of maintenance_tests maintain_couriers apply
swept_rows s actions r h m = go (short_actions s actions) h m
  where
    go : (b : Bool) → is_refused (cond b (only (refused refusal.ShortArea)) (maintain_couriers s)).answer ≡ false
        → r ∈ (apply s (cond b (only (refused refusal.ShortArea)) (maintain_couriers s)).change).carried → minute_of s < r.expiry_min
    go true h m = absurd (false≢true (sym h))
    go false h m =
        let stays : Carried → Bool = λ x. not (carried_expired (minute_of s) x) in
        leb-false r.expiry_min (minute_of s) (not-true (carried_expired (minute_of s) r) (all_in (filter_holds stays s.carried) m))

pub swept_at : (p : Post) (l : Lent) (actions : ℕ) (r : Carried) → l.call ≡ Calls.maintenance actions → is_refused (answer_to p l).answer ≡ false
    → r ∈ (after p l).state.carried → minute_of (state_for p l) < r.expiry_min
unfolding after answer_to
swept_at p l actions r e h m =
    swept_rows (state_for p l) actions r (ap (λ (c : Call). is_refused (step (state_for p l) c).answer) (sym e) ∙ h)
    (subst (λ (c : Call). r ∈ (apply (state_for p l) (step (state_for p l) c).change).carried) e m)
