-- Every call keeps the limits: tags differ, at most 256 rows, and no contact has more than its quota.
-- Assumes nothing.
use Rattle.std.proofs.Common.{◌≡◌, ℕ, suc, ◌+◌, ◌*◌, ◌<◌, ◌≤◌, Bool, true, false, cond, not, ◌&&◌, eqb, ltb, List, [], ◌∷◌, ◌++◌, length, sym, refl, ap, ◌∙◌, subst, append-nil, arith, length-append, ltb-false, ltb-true, lt-ltb, ne_eqb, eqb-true}
use Rattle.std.proofs.lemmas.Bool.{cond_both}
use mathlib.Core.Bool.{false≢true}
use borrow.Author.Tests.{eqb-false}
use Rattle.octets.specs.Bytes.{same_bytes}
use Rattle.octets.proofs.Compare.{same_refl}
use Rattle.courier_core.specs.declared.ContactId.{ContactId}
use Rattle.table.specs.Lists.{All, none, more, any, filter, count_by}
use Rattle.table.proofs.ListLaws.{all_each, all_imp, all_push, count_append}
use Rattle.table.proofs.FindLaws.{any_none}
use Rattle.rows.specs.declared.Contact.{Contact}
use Rattle.rows.specs.declared.Carried.{Carried}
use Rattle.rows.specs.declared.Tombstone.{Tombstone}
use Rattle.model.specs.Basics.{same_contact}
use Rattle.model.specs.State.{State}
use Rattle.model.specs.Calls.{Call, Result}
use Rattle.model.specs.Contacts.{is_contact, known, is_verified}
use Rattle.model.specs.Custody.{carried_of_tag, quota, deposited, new_carried}
use Rattle.history.specs.Life.{Role, role, Later}
use Rattle.history.proofs.SortedLaws.{became_filter, became_all, became_sorted, became_length, became_count, sorted_push}
use Rattle.history.proofs.Effects
use Rattle.history.proofs.Effects.{HeldStep, ContactStep}
use Rattle.history.proofs.EffectLaws.{and_true}
use Rattle.history.proofs.RowLaws.{TagsDiffer, Stays, Thinned, stays_later, Gift, nothing, one, rows}
use Rattle.history.proofs.ContactLaws.{Apart, known_put, apart_put}
use Rattle.history.proofs.CellLaws.{length_split}
use Rattle.history.specs.Limits.{max_carried}

pub record Limits (contacts : List Contact) (carried : List Carried) : Type 0 where
  pub tags_differ : TagsDiffer carried
  pub few : length carried ≤ max_carried
  pub quota : (id : ContactId) → deposited carried id ≤ 32
  pub depositors_known : All (λ (r : Carried). known contacts r.depositor ≡ true) carried
  pub contacts_apart : Apart contacts

pub unlike : (a b : List ℕ) → same_bytes a b ≡ false → a ≡ b → ⊥
unlike a b e q = false≢true (sym e ∙ ap (λ (x : List ℕ). same_bytes x b) q ∙ same_refl b)

pub quota_32 : (v : Bool) → quota v ≤ 32
quota_32 true = omega arith
quota_32 false = omega arith

abbrev from : ContactId → Carried → Bool
from id r = same_contact r.depositor id

-- ---- a call

pub known_kept : (s : State) {ρ : Role} {contacts : List Contact} (id : ContactId) → ContactStep s ρ contacts → known s.contacts id ≡ true → known contacts id ≡ true
known_kept s id (Effects.same t) h = h
known_kept s id (Effects.puts who v e) h = known_put who v id s.contacts h
known_kept s id (Effects.shut who v k l) h = h

apart_kept : (s : State) {ρ : Role} {contacts : List Contact} → ContactStep s ρ contacts → Apart s.contacts → Apart contacts
apart_kept s (Effects.same t) h = h
apart_kept s (Effects.puts who v e) h = apart_put who v s.contacts h
apart_kept s (Effects.shut who v k l) h = h

module _ (s : State) (o : Result) where
  -- rows that stay are of the same contacts
  stay_count : (c : Call) {kept : List Carried} (id : ContactId) → Thinned s o c kept
      → deposited kept id ≤ deposited s.carried id
  unfolding deposited
  stay_count c id b = became_count (from id) (λ x y p. ap (λ (w : ContactId). eqb w.0 id.0) (stays_later s o (role c) x y p).depositor) b

  -- a contact below its quota gets no further than that
  given_count : {c : Call} {kept : List Carried} {n : ℕ} {cells : List ℕ} (gift : List Carried) (id : ContactId) (m : ℕ)
      → quota (is_verified s.contacts id) ≤ m → deposited s.carried id ≤ m
      → Thinned s o c kept → Gift s o c gift n cells → deposited (kept ++ gift) id ≤ m
  unfolding deposited new_carried count_by
  given_count {c = c} {kept = kept} [] id m q h b (nothing le) = rw (append-nil kept) (omega (arith, stay_count c id b, h))
  given_count {c = c} {kept = kept} (x ∷ xs) id m q h b (one replies actions window peer head ct pl e) =
      rw (count_append (from id) kept (new_carried s peer head (length ct) ∷ [])) (go (eqb peer.0 id.0) refl)
    where
      go : (t : Bool) → eqb peer.0 id.0 ≡ t → count_by (from id) kept + cond t 1 0 ≤ m
      go true i =
          let z : peer ≡ id = λ j. record { 0 = eqb-true peer.0 id.0 i j } in
          let l : deposited s.carried id < quota (is_verified s.contacts id) = subst (λ (w : ContactId). deposited s.carried w < quota (is_verified s.contacts w)) z pl.below in
          omega (arith, stay_count c id b, l, q)
      go false i = omega (arith, stay_count c id b, h)

  pub deposited_kept : {c : Call} {carried : List Carried} {tombstones : List Tombstone} {n : ℕ} {cells : List ℕ} (id : ContactId) (m : ℕ) → TagsDiffer s.carried
      → quota (is_verified s.contacts id) ≤ m → deposited s.carried id ≤ m → HeldStep s o c carried tombstones n cells → deposited carried id ≤ m
  deposited_kept id m d q h st =
      let r = rows s o d st in
      subst (λ (l : List Carried). deposited l id ≤ m) (sym r.after) (given_count r.gift id m q h r.became r.given)

  module _ (g : Limits s.contacts s.carried) where
    -- what holds of rows whose tags differ and whose depositors are known
    abbrev Fair : List Carried → Type 0
    Fair rs = TagsDiffer rs × (length rs ≤ max_carried) × All (λ (r : Carried). known s.contacts r.depositor ≡ true) rs

    stay_fair : (c : Call) {kept : List Carried} → Thinned s o c kept → Fair kept
    stay_fair c b =
        let later : (x y : Carried) → Stays s o (role c) x y → Later x y = stays_later s o (role c) in (
          became_sorted (λ x y z w p q h e. h (sym (later x y p).tag ∙ e ∙ (later z w q).tag)) b g.tags_differ,
          omega (arith, became_length b, g.few),
          became_all (λ x y p h. ap (known s.contacts) (later x y p).depositor ∙ h) b g.depositors_known,
        )

    given_fair : {c : Call} {kept : List Carried} {n : ℕ} {cells : List ℕ} (gift : List Carried)
        → Thinned s o c kept → Gift s o c gift n cells → Fair (kept ++ gift)
    unfolding new_carried
    given_fair {c = c} {kept = kept} [] b (nothing le) = subst Fair (sym (append-nil kept)) (stay_fair c b)
    given_fair {c = c} {kept = kept} (x ∷ xs) b (one replies actions window peer head ct pl e) =
        let new : Carried = new_carried s peer head (length ct) in
        let f : Fair kept = stay_fair c b in (
          sorted_push kept new f.0
              (became_all (λ x y p h z. unlike x.tag head.tag h (sym (stays_later s o (role c) x y p).tag ∙ z)) b
              (any_none (carried_of_tag head.tag) s.carried pl.new)),
          omega (arith, length-append kept (new ∷ []), became_length b, pl.room),
          all_push kept new f.2 pl.peer_known,
        )

    pub limits_kept : {c : Call} {ρ : Role} {contacts : List Contact} {carried : List Carried} {tombstones : List Tombstone} {n : ℕ} {cells : List ℕ}
        → HeldStep s o c carried tombstones n cells → ContactStep s ρ contacts → Limits contacts carried
    limits_kept {carried = carried} st k =
        let r = rows s o g.tags_differ st in
        let l : Fair carried = subst Fair (sym r.after) (given_fair r.gift r.became r.given) in
        record {
          tags_differ = l.0;
          few = l.1;
          quota = λ id. deposited_kept id 32 g.tags_differ (quota_32 (is_verified s.contacts id)) (g.quota id) st;
          depositors_known = all_imp (λ x h. known_kept s x.depositor k h) carried l.2;
          contacts_apart = apart_kept s k g.contacts_apart;
        }

-- ---- how many rows there can be

fewer_count : (p : Carried → Bool) (id : ContactId) (xs : List Carried) → deposited (filter p xs) id ≤ deposited xs id
unfolding deposited
fewer_count p id xs = became_count {G = λ (x : Carried). Unit {0}} {S = λ (x y : Carried). y ≡ x} (from id) (λ x y e. ap (from id) e) (became_filter p xs (λ x. refl) (λ x e. tt))

count_none : (id : ContactId) (xs : List Carried) → deposited (filter (λ (r : Carried). not (from id r)) xs) id ≡ 0
unfolding deposited count_by filter
count_none id [] = refl
count_none id (x ∷ xs) = go (from id x) refl (count_none id xs)
  where
    go : (b : Bool) → from id x ≡ b → count_by (from id) (filter (λ (r : Carried). not (from id r)) xs) ≡ 0
        → count_by (from id) (cond (not b) (x ∷ filter (λ (r : Carried). not (from id r)) xs) (filter (λ (r : Carried). not (from id r)) xs)) ≡ 0
    go true e h = h
    go false e h = ap (λ (b : Bool). cond b (suc (count_by (from id) (filter (λ (r : Carried). not (from id r)) xs))) (count_by (from id) (filter (λ (r : Carried). not (from id r)) xs))) e ∙ h

pub count_imp : {A : Type 0} (p q : A → Bool) (xs : List A) → All (λ (x : A). p x ≡ true → q x ≡ true) xs → count_by p xs ≤ count_by q xs
unfolding count_by
count_imp p q [] a = omega arith
count_imp p q (x ∷ xs) (more f a) =
    let h = count_imp p q xs a in
    cond_both (p x) _ _ (λ (n : ℕ). n ≤ count_by q (x ∷ xs)) (λ e. rw (f e) (omega arith)) (λ e. omega (arith, count_append q (x ∷ []) xs))

-- a depositor who is not the first contact is one of the others
others_known : (q : Contact) (ps : List Contact) (xs : List Carried) → All (λ (r : Carried). known (q ∷ ps) r.depositor ≡ true) xs
    → All (λ (r : Carried). known ps r.depositor ≡ true) (filter (λ (r : Carried). not (from q.id r)) xs)
unfolding known any filter
others_known q ps [] a = none
others_known q ps (x ∷ xs) (more h a) = go (eqb x.depositor.0 q.id.0) refl (others_known q ps xs a)
  where
    go : (b : Bool) → eqb x.depositor.0 q.id.0 ≡ b → All (λ (r : Carried). any (is_contact r.depositor) ps ≡ true) (filter (λ (r : Carried). not (from q.id r)) xs)
        → All (λ (r : Carried). any (is_contact r.depositor) ps ≡ true) (cond (not b) (x ∷ filter (λ (r : Carried). not (from q.id r)) xs) (filter (λ (r : Carried). not (from q.id r)) xs))
    go true e f = f
    go false e f =
        let z : eqb q.id.0 x.depositor.0 ≡ false = ne_eqb q.id.0 x.depositor.0 (λ i. eqb-false x.depositor.0 q.id.0 e (sym i)) in
        more (rw z at h) f

none_left : (xs : List Carried) → All (λ (r : Carried). known [] r.depositor ≡ true) xs → length xs ≡ 0
unfolding known any
none_left [] a = refl
none_left (x ∷ xs) (more h a) = absurd (false≢true h)

-- has a contact other than p carried rows
abbrev pub other_with_rows : List Carried → ContactId → Contact → Bool
other_with_rows xs p q = not (same_contact q.id p) && ltb 0 (deposited xs q.id)

-- the rows that are not from a contact
abbrev without : Contact → List Carried → List Carried
without q xs = filter (λ (r : Carried). not (from q.id r)) xs

rows_split : (q : Contact) (xs : List Carried) → length xs ≡ deposited xs q.id + length (without q xs)
unfolding deposited
rows_split q xs = length_split (from q.id) xs

fewer_others : (p : ContactId) (q : Contact) (ps : List Contact) (xs : List Carried) → count_by (other_with_rows (without q xs) p) ps ≤ count_by (other_with_rows xs p) ps
fewer_others p q ps xs = count_imp (other_with_rows (without q xs) p) (other_with_rows xs p) ps (all_each had ps)
  where
    had : (c : Contact) → other_with_rows (without q xs) p c ≡ true → other_with_rows xs p c ≡ true
    had c e =
        let z = and_true (not (same_contact c.id p)) (ltb 0 (deposited (without q xs) c.id)) e in
        let l = ltb-true 0 (deposited (without q xs) c.id) z.1 in
        let m : ltb 0 (deposited xs c.id) ≡ true = lt-ltb 0 (deposited xs c.id) (omega (arith, l, fewer_count (λ (r : Carried). not (from q.id r)) c.id xs)) in
        rw (z.0, m)

spread_next : (p : ContactId) (q : Contact) (ps : List Contact) (xs : List Carried) → deposited xs q.id ≤ 32
    → (a b : Bool) → eqb q.id.0 p.0 ≡ a → ltb 0 (deposited xs q.id) ≡ b
    → length (without q xs) ≤ deposited (without q xs) p + 32 * count_by (other_with_rows (without q xs) p) ps
    → length xs ≤ deposited xs p + 32 * cond (not a && b) (suc (count_by (other_with_rows xs p) ps)) (count_by (other_with_rows xs p) ps)
spread_next p q ps xs h true b ea eb le =
    let z : q.id ≡ p = λ j. record { 0 = eqb-true q.id.0 p.0 ea j } in
    let n : deposited (without q xs) p ≡ 0 = subst (λ (w : ContactId). deposited (without q xs) w ≡ 0) z (count_none q.id xs) in
    let m : deposited xs q.id ≡ deposited xs p = ap (deposited xs) z in
    omega (arith, rows_split q xs, fewer_others p q ps xs, n, m, le)
spread_next p q ps xs h false true ea eb le =
    omega (arith, rows_split q xs, fewer_others p q ps xs, fewer_count (λ (r : Carried). not (from q.id r)) p xs, h, le)
spread_next p q ps xs h false false ea eb le =
    omega (arith, rows_split q xs, fewer_others p q ps xs, fewer_count (λ (r : Carried). not (from q.id r)) p xs, ltb-false 0 (deposited xs q.id) eb, le)

-- no more than p's rows, and 32 for each other contact that has rows
pub spread : (p : ContactId) (ps : List Contact) (xs : List Carried) → All (λ (r : Carried). known ps r.depositor ≡ true) xs
    → ((id : ContactId) → deposited xs id ≤ 32) → length xs ≤ deposited xs p + 32 * count_by (other_with_rows xs p) ps
unfolding count_by
spread p [] xs a h = omega (arith, none_left xs a)
spread p (q ∷ ps) xs a h =
    spread_next p q ps xs (h q.id) (eqb q.id.0 p.0) (ltb 0 (deposited xs q.id)) refl refl
    (spread p ps (without q xs) (others_known q ps xs a) (λ id. omega (arith, fewer_count (λ (r : Carried). not (from q.id r)) id xs, h id)))
