-- What a call makes of the carried rows: some leave, the others lose the copies that are handed over, and at most one is given.
-- Assumes nothing.
use Rattle.std.proofs.Common.{◌≡◌, ℕ, ◌+◌, ◌-◌, ◌*◌, ◌≤◌, true, false, not, List, [], ◌∷◌, ◌++◌, length, get_or, take, drop, sym, refl, ap, ◌∙◌, append-nil, arith, leb-true, Some}
use borrow.Author.Tests.{not-false}
use Rattle.std.proofs.lemmas.Bool.{false_from_ne_true}
use Rattle.octets.specs.Bytes.{splice, same_bytes}
use Rattle.octets.proofs.Compare.{same_eq}
use Rattle.courier_core.specs.declared.ContactId.{ContactId}
use Rattle.table.specs.Lists.{position, remove_at, replace_at}
use Rattle.table.proofs.ListLaws.{all_each, all_imp}
use Rattle.table.proofs.FindLaws.{First, position_first, any_none}
use Rattle.courier.specs.declared.Header.{Header}
use Rattle.courier.specs.declared.Custody.TheVariants as custody
use Rattle.courier.specs.Tags.{commitment_of, tombstone_matches}
use Rattle.state.specs.Sizes.{cell_size}
use Rattle.rows.specs.declared.Carried.{Carried}
use Rattle.rows.specs.declared.Tombstone.{Tombstone}
use Rattle.model.specs.State.{State}
use Rattle.model.specs.Calls
use Rattle.model.specs.Calls.{Call, Result, is_refused}
use Rattle.model.specs.Contacts.{minute_of}
use Rattle.model.specs.Custody.{carried_of_tag, carried_cell, new_carried, answer_custody}
use Rattle.model.specs.Exchange.{no_carried, lowered}
use Rattle.model.specs.Maintenance.{carried_expired}
use Rattle.history.specs.Order.{Sorted}
use Rattle.history.specs.Life.{Role, code_for, other, role, offered_copies, handed_by, Leaves, expires, ended, Later}
use Rattle.history.proofs.SortedLaws.{Became, became_same, became_replaced, became_removed, became_filter, sorted_after}
use Rattle.history.proofs.Effects
use Rattle.history.proofs.Effects.{Unhanded, Placed, HeldStep}

-- ---- one row

pub lowered_none : (r : Carried) → lowered 0 r ≡ r
unfolding lowered
lowered_none r = let e : r.copies - 0 ≡ r.copies = omega arith in λ i. record {
  slot = r.slot;
  depositor = r.depositor;
  tag = r.tag;
  c = r.c;
  expiry_min = r.expiry_min;
  copies = e i;
  len = r.len;
  cell = r.cell;
}

pub later_lowered : (n : ℕ) (r : Carried) → Later r (lowered n r)
unfolding lowered
later_lowered n r = record { slot = refl; depositor = refl; tag = refl; c = refl; expiry = refl; len = refl; cell = refl; copies = omega arith }

pub later_refl : (r : Carried) → Later r r
later_refl r = record { slot = refl; depositor = refl; tag = refl; c = refl; expiry = refl; len = refl; cell = refl; copies = omega arith }

pub later_trans : (x y z : Carried) → Later x y → Later y z → Later x z
later_trans x y z a b = record {
  slot = b.slot ∙ a.slot;
  depositor = b.depositor ∙ a.depositor;
  tag = b.tag ∙ a.tag;
  c = b.c ∙ a.c;
  expiry = b.expiry ∙ a.expiry;
  len = b.len ∙ a.len;
  cell = b.cell ∙ a.cell;
  copies = omega (arith, a.copies, b.copies);
}

pub differs : (a b : List ℕ) → (a ≡ b → ⊥) → same_bytes a b ≡ false
differs a b h = false_from_ne_true (same_bytes a b) (λ e. h (same_eq a b e))

abbrev pub TagsDiffer : List Carried → Type 0
TagsDiffer rs = Sorted (λ (a b : Carried). a.tag ≡ b.tag → ⊥) rs

module _ (s : State) (o : Result) where
  -- the row as the call leaves it
  abbrev pub Stays : Role → Carried → Carried → Type 0
  Stays ρ r e = e ≡ lowered (handed_by s o ρ r) r

  -- the rows that a call leaves of those that there were
  abbrev pub Thinned : Call → List Carried → Type 0
  Thinned c kept = Became (λ (r : Carried). Leaves s o r c) (Stays (role c)) s.carried kept

  pub stays_later : (ρ : Role) (r e : Carried) → Stays ρ r e → Later r e
  stays_later ρ r e h = rw h (later_lowered (handed_by s o ρ r) r)

  stays_as : (ρ : Role) (r : Carried) → handed_by s o ρ r ≡ 0 → Stays ρ r r
  stays_as ρ r h = sym (ap (λ (n : ℕ). lowered n r) h ∙ lowered_none r)

  -- the row that a call gives, the next slot and the cells after it
  pub data Gift : Call → List Carried → ℕ → List ℕ → Type 0 where
    nothing : {c : Call} {n : ℕ} → s.next_slot ≤ n → Gift c [] n s.carried_cells
    one : (replies actions : ℕ) (window : List ℕ) (peer : ContactId) (head : Header) (ct : List ℕ) → Placed s peer head (length ct)
        → o ≡ answer_custody s peer head ct custody.Accepted
        → Gift (Calls.envelope replies actions window peer head ct) (new_carried s peer head (length ct) ∷ []) (s.next_slot + 1)
        (splice s.carried_cells (carried_cell s * cell_size) ct)

  pub record Rows (c : Call) (carried : List Carried) (n : ℕ) (cells : List ℕ) : Type 0 where
    pub kept : List Carried
    pub gift : List Carried
    pub became : Thinned c kept
    pub after : carried ≡ kept ++ gift
    pub given : Gift c gift n cells

  -- no row is given
  plain : {c : Call} (kept : List Carried) (n : ℕ) → s.next_slot ≤ n → Thinned c kept
      → Rows c kept n s.carried_cells
  plain kept n le b = record { kept = kept; gift = []; became = b; after = sym (append-nil kept); given = nothing le }

  unchanged : {c : Call} → Unhanded s o (role c) → Thinned c s.carried
  unchanged {c = c} u = became_same s.carried (all_imp (λ r e. stays_as (role c) r e) s.carried u)

  module _ (tag : List ℕ) (i : ℕ) (p : position (carried_of_tag tag) s.carried ≡ Some i) where
    first : First (carried_of_tag tag) s.carried no_carried i
    first = position_first (carried_of_tag tag) s.carried no_carried i p

    the_tag : (get_or s.carried i no_carried).tag ≡ tag
    the_tag = same_eq (get_or s.carried i no_carried).tag tag first.holds

    handed_on_lem : (c : Call) → role c ≡ code_for tag custody.Accepted → is_refused o.answer ≡ false → TagsDiffer s.carried
        → Became (λ (r : Carried). Leaves s o r c) (Stays (code_for tag custody.Accepted)) s.carried
        (replace_at i (lowered (offered_copies s.session.exchange.offered tag) (get_or s.carried i no_carried)) s.carried)
    handed_on_lem c e n d =
        became_replaced s.carried i no_carried (lowered (offered_copies s.session.exchange.offered tag) (get_or s.carried i no_carried)) first.inside
        (rw (n, first.holds))
        (all_imp (λ r q. let f : carried_of_tag tag r ≡ false = q in stays_as (code_for tag custody.Accepted) r (rw (n, f))) (take i s.carried) (any_none (carried_of_tag tag) (take i s.carried) first.before))
        (all_imp (λ r q. let f : carried_of_tag tag r ≡ false = differs r.tag tag (λ z. q (the_tag ∙ sym z)) in stays_as (code_for tag custody.Accepted) r (rw (n, f))) (drop (i + 1) s.carried)
        (sorted_after s.carried i no_carried first.inside d))

    turned_out : (actions : ℕ) (peer : ContactId) (secret : List ℕ) → tombstone_matches (get_or s.carried i no_carried).c secret ≡ true → is_refused o.answer ≡ false
        → Became (λ (r : Carried). Leaves s o r (Calls.tomb actions peer tag secret)) (Stays other) s.carried (remove_at i s.carried)
    unfolding tombstone_matches
    turned_out actions peer secret m n =
        became_removed s.carried i no_carried first.inside
        (ended actions peer tag secret n (sym the_tag) (same_eq (commitment_of secret) (get_or s.carried i no_carried).c m))
        (λ r. stays_as other r refl)

  pub rows : {c : Call} {carried : List Carried} {tombstones : List Tombstone} {n : ℕ} {cells : List ℕ} → TagsDiffer s.carried
      → HeldStep s o c carried tombstones n cells → Rows c carried n cells
  rows d (Effects.same {c = c} u) = plain s.carried s.next_slot (omega arith) (unchanged {c = c} u)
  rows d (Effects.gave replies actions window peer head ct h e) = record {
    kept = s.carried;
    gift = new_carried s peer head (length ct) ∷ [];
    became = became_same s.carried (all_each (λ r. stays_as other r refl) s.carried);
    after = refl;
    given = one replies actions window peer head ct h e;
  }
  rows d (Effects.handed_on actions peer tag i p n) =
      plain _ s.next_slot (omega arith) (handed_on_lem tag i p (Calls.custody_answer actions peer tag custody.Accepted) refl n d)
  rows d (Effects.stored {c = c} u t e) = plain s.carried (s.next_slot + 1) (omega arith) (unchanged {c = c} u)
  rows d (Effects.turns actions peer tag secret i p m n) = plain _ s.next_slot (omega arith) (turned_out tag i p actions peer secret m n)
  rows d (Effects.sweeps actions n) =
      plain _ s.next_slot (omega arith)
      (became_filter (λ (r : Carried). not (carried_expired (minute_of s) r)) s.carried (λ r. stays_as other r refl)
      (λ r e. expires actions n (leb-true r.expiry_min (minute_of s) (not-false (carried_expired (minute_of s) r) e))))
