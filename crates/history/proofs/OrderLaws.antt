-- Every call keeps the order of the tables, and the cells that their rows name apart.
-- Assumes nothing.
use Rattle.std.proofs.Common.{◌≡◌, ℕ, ◌+◌, ◌*◌, ◌<◌, ◌≤◌, Bool, true, false, cond, not, ◌&&◌, ◌||◌, eqb, ltb, leb, List, [], ◌∷◌, ◌++◌, length, get_or, sym, refl, ap, ◌∙◌, subst, inl, inr, append-nil, arith, ltb-false, ltb-true, eq-eqb, eqb-true}
use mathlib.Core.Bool.{false≢true}
use borrow.Author.Tests.{eqb-false}
use Rattle.octets.specs.Bytes.{splice}
use Rattle.courier_core.specs.declared.ContactId.{ContactId}
use Rattle.table.specs.Lists.{All, filter, remove_at}
use Rattle.table.proofs.ListLaws.{all_each, all_imp, all_get, all_push, all_insert_at, all_remove_at, all_filter}
use Rattle.table.proofs.FindLaws.{position_first, any_none}
use Rattle.rows.specs.declared.Contact.{Contact}
use Rattle.rows.specs.declared.Own.{Own}
use Rattle.rows.specs.declared.Carried.{Carried}
use Rattle.rows.specs.declared.Tombstone.{Tombstone}
use Rattle.model.specs.State.{State}
use Rattle.model.specs.Calls.{Call, Result}
use Rattle.model.specs.Contacts.{minute_of, end_of, known, added_before, put_contact}
use Rattle.model.specs.Custody.{carried_of_tag, carried_cell, carried_named, new_carried}
use Rattle.model.specs.Exchange.{no_carried, no_own, own_lowered}
use Rattle.model.specs.Tombs.{least_expiry, remaining, insert_by_slot, turned}
use Rattle.model.specs.Own.{is_message, own_named, stands_after, insert_own}
use Rattle.model.specs.Maintenance.{carried_expired, tombstone_expired, own_expired, is_renewed, renewed, renew_expired, maintain_own}
use Rattle.model.proofs.KeepRows.{or_false}
use Rattle.history.specs.Order.{Sorted, InCell, OwnBefore, HeldOrder, OwnOrder}
use Rattle.history.specs.Life.{Role, role, Later}
use Rattle.history.proofs.SortedLaws.{Became, Cut, became_same, became_cut, became_filter, became_map, became_then, became_replaced, became_removed, became_all, became_sorted, all_both, all_unmap, sorted_push, sorted_insert, sorted_insert_at, sorted_others}
use Rattle.history.proofs.Effects
use Rattle.history.proofs.Effects.{HeldStep, OwnStep, ContactStep, Made}
use Rattle.history.proofs.EffectLaws.{and_true}
use Rattle.history.proofs.RowLaws.{TagsDiffer, Stays, Thinned, stays_later, Gift, nothing, one, Rows, rows}
use Rattle.history.proofs.ContactLaws.{known_put, added_put, added_tells}
use Rattle.history.proofs.CellLaws.{cell_free, length_after}

-- ---- carried rows

record CarriedOrder (carried : List Carried) (next : ℕ) (cells : List ℕ) : Type 0 where
  rise : Sorted (λ (a b : Carried). a.slot < b.slot) carried
  below : All (λ (r : Carried). r.slot < next) carried
  differ : Sorted (λ (a b : Carried). a.cell ≡ b.cell → ⊥) carried
  in_cells : All (λ (r : Carried). InCell (length cells) r.cell r.len) carried

module _ (s : State) (o : Result) (g : CarriedOrder s.carried s.next_slot s.carried_cells) where
  -- rows that stay, with fewer copies perhaps
  carried_stay : (c : Call) {kept : List Carried} (n : ℕ) → s.next_slot ≤ n → Thinned s o c kept
      → CarriedOrder kept n s.carried_cells
  carried_stay c n le b =
      let later : (x y : Carried) → Stays s o (role c) x y → Later x y = stays_later s o (role c) in
      record {
        rise = became_sorted (λ x y z w p q h. omega (arith, (later x y p).slot, (later z w q).slot, h)) b g.rise;
        below = became_all (λ x y p h. omega (arith, (later x y p).slot, h)) b g.below;
        differ = became_sorted (λ x y z w p q h e. h (sym (later x y p).cell ∙ e ∙ (later z w q).cell)) b g.differ;
        in_cells = became_all (λ x y p h. (omega (arith, (later x y p).cell, h.0), omega (arith, (later x y p).len, h.1))) b g.in_cells;
      }

  -- a row that is given has the next slot, and a cell that no row names
  carried_given : {c : Call} {kept : List Carried} {n : ℕ} {cells : List ℕ} (gift : List Carried)
      → Thinned s o c kept → Gift s o c gift n cells → CarriedOrder (kept ++ gift) n cells
  unfolding new_carried
  carried_given {c = c} {kept = kept} [] b (nothing {n = n} le) =
      subst (λ (l : List Carried). CarriedOrder l n s.carried_cells) (sym (append-nil kept)) (carried_stay c n le b)
  carried_given {c = c} {kept = kept} (x ∷ xs) b (one replies actions window peer head ct h e) =
      let k : CarriedOrder kept s.next_slot s.carried_cells = carried_stay c s.next_slot (omega arith) b in
      let new : Carried = new_carried s peer head (length ct) in
      let free = cell_free (length s.carried_cells) (carried_named s) (carried_cell s) h.cell in
      let apart : All (λ (r : Carried). r.cell ≡ carried_cell s → ⊥) kept =
      became_all (λ x y p q z. q (sym (stays_later s o (role c) x y p).cell ∙ z)) b (all_unmap (λ (r : Carried). r.cell) s.carried free.1) in
      let size : length (splice s.carried_cells (carried_cell s * 2064) ct) ≡ length s.carried_cells = length_after s.carried_cells (carried_cell s) ct free.0 h.small in
      record {
        rise = sorted_push kept new k.rise k.below;
        below = all_push kept new (all_imp (λ r q. omega (arith, q)) kept k.below) (omega arith);
        differ = sorted_push kept new k.differ apart;
        in_cells = all_push kept new (all_imp (λ r q. rw size q) kept k.in_cells) (rw size (free.0, h.small));
      }

-- ---- held rows

module _ (s : State) (o : Result) (g : HeldOrder s.carried s.tombstones s.next_slot s.carried_cells) (d : TagsDiffer s.carried) where
  of_carried_lem : CarriedOrder s.carried s.next_slot s.carried_cells
  of_carried_lem = record { rise = g.carried_rise; below = g.carried_below; differ = g.cells_differ; in_cells = g.in_cells }

  abbrev Apart : List Carried → List Tombstone → Type 0
  Apart rs ts = All (λ (r : Carried). All (λ (t : Tombstone). r.slot ≡ t.slot → ⊥) ts) rs

  record TombstoneOrder (carried : List Carried) (tombstones : List Tombstone) (next : ℕ) : Type 0 where
    rise : Sorted (λ (a b : Tombstone). a.slot < b.slot) tombstones
    below : All (λ (t : Tombstone). t.slot < next) tombstones
    apart : Apart carried tombstones

  fewer_rise : {xs ys : List Tombstone} → Cut xs ys → Sorted (λ (a b : Tombstone). a.slot < b.slot) xs → Sorted (λ (a b : Tombstone). a.slot < b.slot) ys
  fewer_rise b q = became_sorted (λ x y z w e f h. let p : y ≡ x = e in let r : w ≡ z = f in rw (p, r) h) b q

  fewer_all : {P : Tombstone → Type 0} {xs ys : List Tombstone} → Cut xs ys → All P xs → All P ys
  fewer_all {P = P} b a = became_all (λ x y e h. subst P (sym e) h) b a

  -- a tombstone that is stored has the next slot
  remaining_fewer : Cut s.tombstones (remaining s.tombstones)
  unfolding remaining
  remaining_fewer = go (leb 1024 (length s.tombstones))
    where
      go : (b : Bool) → Cut s.tombstones (cond b (remove_at (least_expiry s.tombstones) s.tombstones) s.tombstones)
      go true = became_cut (least_expiry s.tombstones) s.tombstones
      go false = became_same s.tombstones (all_each (λ t. refl) s.tombstones)

  stored_order : (t : Tombstone) → t.slot ≡ s.next_slot → TombstoneOrder s.carried (remaining s.tombstones ++ (t ∷ [])) (s.next_slot + 1)
  stored_order t e =
      let ts : List Tombstone = remaining s.tombstones in
      let below : All (λ (x : Tombstone). x.slot < s.next_slot) ts = fewer_all remaining_fewer g.tombstones_below in
      record {
        rise = sorted_push ts t (fewer_rise remaining_fewer g.tombstones_rise) (all_imp (λ x h. omega (arith, h, e)) ts below);
        below = all_push ts t (all_imp (λ x h. omega (arith, h)) ts below) (omega (arith, e));
        apart = all_imp (λ r q. all_push ts t (fewer_all remaining_fewer q.1) (λ z. omega (arith, q.0, z, e))) s.carried
            (all_both s.carried g.carried_below g.apart);
      }

  -- a row that turns retains its slot
  turned_order : (tag secret : List ℕ) (i : ℕ) → i < length s.carried
      → TombstoneOrder (remove_at i s.carried) (insert_by_slot (turned (get_or s.carried i no_carried) tag secret) (remaining s.tombstones)) s.next_slot
  unfolding insert_by_slot turned
  turned_order tag secret i h =
      let r : Carried = get_or s.carried i no_carried in
      let ts : List Tombstone = remaining s.tombstones in
      let new : Tombstone = turned r tag secret in
      let apart : All (λ (t : Tombstone). r.slot ≡ t.slot → ⊥) ts = fewer_all remaining_fewer (all_get i s.carried no_carried g.apart h) in
      let after : Tombstone → Bool = λ t. ltb r.slot t.slot in
      record {
        rise = sorted_insert after new ts (λ a b c p q. omega (arith, p, q))
            (all_imp (λ t q e. lower t q (ltb-false r.slot t.slot e)) ts apart)
            (all_each (λ t e. ltb-true r.slot t.slot e) ts) (fewer_rise remaining_fewer g.tombstones_rise);
        below = all_insert_at _ new ts (fewer_all remaining_fewer g.tombstones_below) (all_get i s.carried no_carried g.carried_below h);
        apart = all_imp (λ x q. all_insert_at _ new ts (fewer_all remaining_fewer q.1) q.0) (remove_at i s.carried)
            (all_both (remove_at i s.carried)
            (sorted_others (λ (x : Carried). x.slot ≡ r.slot → ⊥) s.carried i no_carried h g.carried_rise (λ y p z. omega (arith, p, z)) (λ y p z. omega (arith, p, z)))
            (all_remove_at i s.carried g.apart));
      }
    where
      lower : (t : Tombstone) → ((get_or s.carried i no_carried).slot ≡ t.slot → ⊥) → t.slot ≤ (get_or s.carried i no_carried).slot
          → t.slot < (get_or s.carried i no_carried).slot
      lower t q l = by (ltb t.slot (get_or s.carried i no_carried).slot) refl
        where
          by : (b : Bool) → ltb t.slot (get_or s.carried i no_carried).slot ≡ b → t.slot < (get_or s.carried i no_carried).slot
          by true e = ltb-true t.slot (get_or s.carried i no_carried).slot e
          by false e = absurd (q (omega (arith, l, ltb-false t.slot (get_or s.carried i no_carried).slot e)))

  -- the tombstones stay, and of the rows only copies change
  kept_order : (c : Call) (carried : List Carried) (n : ℕ) → s.next_slot ≤ n → Thinned s o c carried
      → TombstoneOrder carried s.tombstones n
  kept_order c carried n le b = record {
    rise = g.tombstones_rise;
    below = all_imp (λ t h. omega (arith, h, le)) s.tombstones g.tombstones_below;
    apart = became_all (λ x y p q. all_imp (λ t h e. h (sym (stays_later s o (role c) x y p).slot ∙ e)) s.tombstones q) b g.apart;
  }

  given_order : {c : Call} {n : ℕ} {cells : List ℕ} (kept gift : List Carried) → Thinned s o c kept
      → Gift s o c gift n cells → TombstoneOrder (kept ++ gift) s.tombstones n
  unfolding new_carried
  given_order {c = c} kept [] b (nothing {n = n} le) =
      subst (λ (l : List Carried). TombstoneOrder l s.tombstones n) (sym (append-nil kept)) (kept_order c kept n le b)
  given_order {c = c} kept (x ∷ xs) b (one replies actions window peer head ct h e) =
      let k : TombstoneOrder kept s.tombstones s.next_slot = kept_order c kept s.next_slot (omega arith) b in
      record {
        rise = k.rise;
        below = all_imp (λ t h. omega (arith, h)) s.tombstones k.below;
        apart = all_push kept (new_carried s peer head (length ct)) k.apart (all_imp (λ t h z. omega (arith, h, z)) s.tombstones k.below);
      }

  -- the tombstones stay, and a row may be given
  as_given : {c : Call} {carried : List Carried} {n : ℕ} {cells : List ℕ} → Rows s o c carried n cells → TombstoneOrder carried s.tombstones n
  as_given {n = n} r =
      subst (λ (l : List Carried). TombstoneOrder l s.tombstones n) (sym r.after) (given_order r.kept r.gift r.became r.given)

  tombstones_kept : {c : Call} {carried : List Carried} {tombstones : List Tombstone} {n : ℕ} {cells : List ℕ} → HeldStep s o c carried tombstones n cells
      → TombstoneOrder carried tombstones n
  tombstones_kept (Effects.same {c = c} u) = as_given (rows s o d (Effects.same {c = c} u))
  tombstones_kept (Effects.gave replies actions window peer head ct h e) = as_given (rows s o d (Effects.gave replies actions window peer head ct h e))
  tombstones_kept (Effects.handed_on actions peer tag i p n) = as_given (rows s o d (Effects.handed_on actions peer tag i p n))
  tombstones_kept (Effects.stored u t e) = stored_order t e
  tombstones_kept (Effects.turns actions peer tag secret i p m n) = turned_order tag secret i (position_first (carried_of_tag tag) s.carried no_carried i p).inside
  tombstones_kept (Effects.sweeps actions n) =
      let live : Tombstone → Bool = λ t. not (tombstone_expired (minute_of s) t) in
      let stays : Carried → Bool = λ r. not (carried_expired (minute_of s) r) in
      let b : Cut s.tombstones (filter live s.tombstones) = became_filter live s.tombstones (λ t. refl) (λ t e. tt) in
      record {
        rise = fewer_rise b g.tombstones_rise;
        below = fewer_all b g.tombstones_below;
        apart = all_imp (λ r q. fewer_all b q) (filter stays s.carried) (all_filter stays s.carried g.apart);
      }

  pub held_kept : {c : Call} {carried : List Carried} {tombstones : List Tombstone} {n : ℕ} {cells : List ℕ} → HeldStep s o c carried tombstones n cells
      → HeldOrder carried tombstones n cells
  held_kept {n = n} {cells = cells} h =
      let r = rows s o d h in
      let a = subst (λ (l : List Carried). CarriedOrder l n cells) (sym r.after) (carried_given s o of_carried_lem r.gift r.became r.given) in
      let t = tombstones_kept h in
      record {
        carried_rise = a.rise;
        carried_below = a.below;
        tombstones_rise = t.rise;
        tombstones_below = t.below;
        apart = t.apart;
        cells_differ = a.differ;
        in_cells = a.in_cells;
      }

-- ---- own rows

pub record SameOwn (x y : Own) : Type 0 where
  contact : y.contact ≡ x.contact
  msgno : y.msgno ≡ x.msgno
  cell : y.cell ≡ x.cell
  len : y.len ≡ x.len

same_own : (x : Own) → SameOwn x x
same_own x = record { contact = refl; msgno = refl; cell = refl; len = refl }

same_then : (x y z : Own) → SameOwn x y → SameOwn y z → SameOwn x z
same_then x y z p q = record { contact = q.contact ∙ p.contact; msgno = q.msgno ∙ p.msgno; cell = q.cell ∙ p.cell; len = q.len ∙ p.len }

lowered_own : (n : ℕ) (x : Own) → SameOwn x (own_lowered n x)
unfolding own_lowered
lowered_own n x = record { contact = refl; msgno = refl; cell = refl; len = refl }

renewed_own : (minute copies end : ℕ) (x : Own) → SameOwn x (renew_expired minute copies end x)
unfolding renew_expired renewed
renewed_own minute copies end x = go (own_expired minute x)
  where
    go : (b : Bool) → SameOwn x (cond b (renewed copies end x) x)
    go true = record { contact = refl; msgno = refl; cell = refl; len = refl }
    go false = same_own x

same_id : (a b : ContactId) → a.0 ≡ b.0 → a ≡ b
same_id a b e = λ i. record { 0 = e i }

module _ (ps : List Contact) where
  added : (a b : Own) → a.contact.0 ≡ b.contact.0 → added_before ps a.contact ≡ added_before ps b.contact
  added a b e = ap (added_before ps) (same_id a.contact b.contact e)

  before_then : (a b c : Own) → OwnBefore ps a b → OwnBefore ps b c → OwnBefore ps a c
  before_then a b c (inl p) (inl q) = inl (omega (arith, p, q))
  before_then a b c (inl p) (inr q) = inl (omega (arith, p, added b c q.0))
  before_then a b c (inr p) (inl q) = inl (omega (arith, added a b p.0, q))
  before_then a b c (inr p) (inr q) = inr (p.0 ∙ q.0, omega (arith, p.1, q.1))

  module _ (new : Own) (known-new : known ps new.contact ≡ true) where
    stands_after_lem : (o : Own) → stands_after ps new.contact new.msgno o ≡ true → OwnBefore ps new o
    unfolding stands_after
    stands_after_lem o e = go (ltb (added_before ps new.contact) (added_before ps o.contact)) refl e
      where
        go : (b : Bool) → ltb (added_before ps new.contact) (added_before ps o.contact) ≡ b
            → (b || (eqb o.contact.0 new.contact.0 && ltb new.msgno o.msgno)) ≡ true → OwnBefore ps new o
        go true l e = inl (ltb-true (added_before ps new.contact) (added_before ps o.contact) l)
        go false l e =
            let q = and_true (eqb o.contact.0 new.contact.0) (ltb new.msgno o.msgno) e in
            inr (sym (eqb-true o.contact.0 new.contact.0 q.0), ltb-true new.msgno o.msgno q.1)

    stands_before : (o : Own) → known ps o.contact ≡ true → is_message new.contact new.msgno o ≡ false
        → stands_after ps new.contact new.msgno o ≡ false → OwnBefore ps o new
    unfolding stands_after
    stands_before o k m e = go (ltb (added_before ps o.contact) (added_before ps new.contact)) refl
      where
        split : (ltb (added_before ps new.contact) (added_before ps o.contact) ≡ false) × ((eqb o.contact.0 new.contact.0 && ltb new.msgno o.msgno) ≡ false)
        split = or_false _ _ e

        number : (a b c : Bool) → a ≡ true → (a && b) ≡ false → (a && c) ≡ false → (b ≡ false) × (c ≡ false)
        number true b c i p q = (p, q)
        number false b c i p q = absurd (false≢true i)

        less : (b : Bool) → ltb o.msgno new.msgno ≡ b → (ltb new.msgno o.msgno ≡ false) × (eqb o.msgno new.msgno ≡ false) → o.msgno < new.msgno
        less true l q = ltb-true o.msgno new.msgno l
        less false l q = absurd (eqb-false o.msgno new.msgno q.1 (omega (arith, ltb-false o.msgno new.msgno l, ltb-false new.msgno o.msgno q.0)))

        go : (b : Bool) → ltb (added_before ps o.contact) (added_before ps new.contact) ≡ b → OwnBefore ps o new
        go true l = inl (ltb-true (added_before ps o.contact) (added_before ps new.contact) l)
        go false l =
            let q : added_before ps o.contact ≡ added_before ps new.contact =
            omega (arith, ltb-false (added_before ps o.contact) (added_before ps new.contact) l, ltb-false (added_before ps new.contact) (added_before ps o.contact) split.0) in
            let c : o.contact.0 ≡ new.contact.0 = added_tells ps o.contact new.contact k known-new q in
            inr (
              c,
              less (ltb o.msgno new.msgno) refl
                  (number (eqb o.contact.0 new.contact.0) (ltb new.msgno o.msgno) (eqb o.msgno new.msgno) (eq-eqb o.contact.0 new.contact.0 c) split.1 m),
            )

module _ (s : State) (g : OwnOrder s.contacts s.own s.own_cells) where
  -- own rows of which some go and the others stay for their message
  own_stay : {own : List Own} → Became (λ (x : Own). Unit {0}) SameOwn s.own own → OwnOrder s.contacts own s.own_cells
  own_stay b = record {
    stand = became_sorted (λ x y z w p q h. moved x y z w p q h) b g.stand;
    for_known = became_all (λ x y p h. rw p.contact h) b g.for_known;
    cells_differ = became_sorted (λ x y z w p q h e. h (sym p.cell ∙ e ∙ q.cell)) b g.cells_differ;
    in_cells = became_all (λ x y p h. (omega (arith, p.cell, h.0), omega (arith, p.len, h.1))) b g.in_cells;
  }
    where
      moved : (x y z w : Own) → SameOwn x y → SameOwn z w → OwnBefore s.contacts x z → OwnBefore s.contacts y w
      moved x y z w p q (inl h) = inl (omega (arith, ap (added_before s.contacts) p.contact, ap (added_before s.contacts) q.contact, h))
      moved x y z w p q (inr h) = inr (ap (λ (c : ContactId). c.0) p.contact ∙ h.0 ∙ sym (ap (λ (c : ContactId). c.0) q.contact), omega (arith, p.msgno, q.msgno, h.1))

  own_made : (new : Own) (ct : List ℕ) → Made s new → length ct ≡ new.len
      → OwnOrder s.contacts (insert_own s.contacts new s.own) (splice s.own_cells (new.cell * 2064) ct)
  unfolding insert_own
  own_made new ct m e =
      let after : Own → Bool = stands_after s.contacts new.contact new.msgno in
      let free = cell_free (length s.own_cells) (own_named s) new.cell m.cell in
      let apart : All (λ (o : Own). o.cell ≡ new.cell → ⊥) s.own = all_unmap (λ (o : Own). o.cell) s.own free.1 in
      let size : length (splice s.own_cells (new.cell * 2064) ct) ≡ length s.own_cells = length_after s.own_cells new.cell ct free.0 (omega (arith, e, m.small)) in
      record {
        stand = sorted_insert after new s.own (before_then s.contacts)
            (all_imp (λ o q f. stands_before s.contacts new m.contact_known o q.0 q.1 f) s.own
            (all_both s.own g.for_known (any_none (is_message new.contact new.msgno) s.own m.number_new)))
            (all_each (λ o f. stands_after_lem s.contacts new m.contact_known o f) s.own) g.stand;
        for_known = all_insert_at _ new s.own g.for_known m.contact_known;
        cells_differ = sorted_insert_at _ new s.own apart (all_imp (λ o q z. q (sym z)) s.own apart) g.cells_differ;
        in_cells = all_insert_at _ new s.own (all_imp (λ o q. rw size q) s.own g.in_cells) (rw size (free.0, m.small));
      }

  pub own_kept : {own : List Own} {cells : List ℕ} → OwnStep s own cells → OwnOrder s.contacts own cells
  unfolding maintain_own
  own_kept Effects.same = g
  own_kept (Effects.lowers i n h) =
      own_stay (became_replaced s.own i no_own (own_lowered n (get_or s.own i no_own)) h (lowered_own n (get_or s.own i no_own)) (all_each same_own _) (all_each same_own _))
  own_kept (Effects.removes i h) = own_stay (became_removed s.own i no_own h tt same_own)
  own_kept (Effects.makes new ct m e) = own_made new ct m e
  own_kept Effects.maintains =
      let stays : Own → Bool = λ o. not (own_expired (minute_of s) o && is_renewed o) in
      own_stay (became_then same_then (λ x. tt) (became_filter stays s.own same_own (λ x e. tt))
      (became_map (renew_expired (minute_of s) s.courier.copies (end_of s)) (filter stays s.own) (renewed_own (minute_of s) s.courier.copies (end_of s))))

-- a contact call leaves the order of own rows
pub contacts_kept : (s : State) {ρ : Role} {contacts : List Contact} {own : List Own} {cells : List ℕ} → OwnOrder s.contacts own cells → ContactStep s ρ contacts
    → OwnOrder contacts own cells
contacts_kept s g (Effects.same t) = g
contacts_kept s g (Effects.shut id v k l) = g
contacts_kept s {own = own} g (Effects.puts id v e) = record {
  stand = became_sorted {G = λ (x : Own). Unit {0}} (λ x y z w p q h. moved x y z w p q h) (became_same own (all_imp (λ o k. (refl, k)) own g.for_known)) g.stand;
  for_known = all_imp (λ o k. known_put id v o.contact s.contacts k) own g.for_known;
  cells_differ = g.cells_differ;
  in_cells = g.in_cells;
}
  where
    moved : (x y z w : Own) → (y ≡ x) × (known s.contacts x.contact ≡ true) → (w ≡ z) × (known s.contacts z.contact ≡ true)
        → OwnBefore s.contacts x z → OwnBefore (put_contact s.contacts id v) y w
    moved x y z w p q (inl h) =
        let a : added_before (put_contact s.contacts id v) y.contact ≡ added_before s.contacts x.contact =
        ap (λ (o : Own). added_before (put_contact s.contacts id v) o.contact) p.0 ∙ added_put id v x.contact s.contacts p.1 in
        let b : added_before (put_contact s.contacts id v) w.contact ≡ added_before s.contacts z.contact =
        ap (λ (o : Own). added_before (put_contact s.contacts id v) o.contact) q.0 ∙ added_put id v z.contact s.contacts q.1 in
        inl (omega (arith, a, b, h))
    moved x y z w p q (inr h) =
        inr (ap (λ (o : Own). o.contact.0) p.0 ∙ h.0 ∙ sym (ap (λ (o : Own). o.contact.0) q.0), omega (arith, ap (λ (o : Own). o.msgno) p.0, ap (λ (o : Own). o.msgno) q.0, h.1))
