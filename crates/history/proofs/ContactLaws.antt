-- Laws of contacts: what a contact call does to who is known, when it was added, and whether it is verified.
-- Assumes nothing.
use Rattle.std.proofs.Common.{◌≡◌, ℕ, suc, ◌+◌, ◌≤◌, Bool, true, false, cond, not, ◌&&◌, ◌||◌, eqb, leb, List, [], ◌∷◌, ◌++◌, length, get_or, take, drop, sym, refl, ap, ◌∙◌, subst, arith, eqb-true, le-leb, Option, Some, None}
use mathlib.Core.Bool.{or-true, or_self_left, false≢true}
use borrow.Author.Tests.{eqb-false}
use Rattle.courier_core.specs.Core.{verification_byte}
use Rattle.courier_core.specs.declared.ContactId.{ContactId}
use Rattle.courier_core.specs.declared.Verification.{Verification}
use Rattle.courier_core.specs.declared.Verification.TheVariants as verification
use Rattle.table.specs.Lists.{All, none, more, any, position, position_from, is_at, unwrap_or, replace_at}
use Rattle.table.proofs.FindLaws.{position_any}
use Rattle.rows.specs.declared.Contact.{Contact}
use Rattle.model.specs.Basics.{match_found}
use Rattle.model.specs.Contacts.{no_contact, is_contact, known, contact_place, is_verified, added_before, put_contact}
use Rattle.history.specs.Order.{Sorted, empty, next}
use Rattle.history.specs.Share.{says1}

abbrev contact_of : ContactId → Verification → Contact
contact_of id v = record { id = id; verification = verification_byte v }

-- ---- the place of a contact, one contact at a time

abbrev pub shift : Option ℕ → Option ℕ
shift (Some i) = Some (suc i)
shift None = None

pub position_shift : {A : Type 0} (p : A → Bool) (i : ℕ) (xs : List A) → position_from (suc i) p xs ≡ shift (position_from i p xs)
unfolding position_from
position_shift p i [] = refl
position_shift p i (x ∷ xs) = go (p x) (position_shift p (suc i) xs)
  where
    go : (b : Bool) → position_from (suc (suc i)) p xs ≡ shift (position_from (suc i) p xs)
        → cond b (Some (suc i)) (position_from (suc (suc i)) p xs) ≡ shift (cond b (Some i) (position_from (suc i) p xs))
    go true h = refl
    go false h = h

-- what is made of the place, where the first is the one or a later one may be
pub found_next : {B : Type 0} (b : Bool) (f : Option ℕ) (make : ℕ → B) (n : B)
    → match_found (cond b (Some 0) (shift f)) make n ≡ cond b (make 0) (match_found f (λ i. make (suc i)) n)
found_next true f make n = refl
found_next false (Some i) make n = refl
found_next false None make n = refl

-- a row put in its place, or behind the last
pub replaced_next : {A : Type 0} (p q : A) (qs : List A) (b : Bool) (f : Option ℕ)
    → match_found (cond b (Some 0) (shift f)) (λ i. replace_at i p (q ∷ qs)) ((q ∷ qs) ++ (p ∷ []))
    ≡ cond b (p ∷ qs) (q ∷ match_found f (λ i. replace_at i p qs) (qs ++ (p ∷ [])))
unfolding replace_at
replaced_next p q qs true f = refl
replaced_next p q qs false (Some i) = let e : suc i + 1 ≡ suc (i + 1) = omega arith in ap (λ (n : ℕ). q ∷ (take i qs ++ (p ∷ drop n (q ∷ qs)))) e
replaced_next p q qs false None = refl

module _ (id : ContactId) (q : Contact) (qs : List Contact) where
  place_next : contact_place (q ∷ qs) id ≡ cond (is_contact id q) (Some 0) (shift (contact_place qs id))
  unfolding contact_place position_from
  place_next = ap (λ (f : Option ℕ). cond (is_contact id q) (Some 0) f) (position_shift (is_contact id) 0 qs)

  verified_next : is_verified (q ∷ qs) id ≡ cond (is_contact id q) (eqb q.verification 1) (is_verified qs id)
  unfolding is_verified
  verified_next =
      rw place_next (found_next (is_contact id q) (contact_place qs id) (λ (i : ℕ). eqb (get_or (q ∷ qs) i no_contact).verification 1) false)

  added_next : added_before (q ∷ qs) id ≡ cond (is_contact id q) 0 (suc (added_before qs id))
  unfolding added_before
  added_next = rw place_next (go (is_contact id q) (contact_place qs id))
    where
      go : (b : Bool) (f : Option ℕ) → unwrap_or (suc (length qs)) (cond b (Some 0) (shift f)) ≡ cond b 0 (suc (unwrap_or (length qs) f))
      go true f = refl
      go false (Some i) = refl
      go false None = refl

  put_next : (v : Verification) → put_contact (q ∷ qs) id v ≡ cond (is_contact id q) (contact_of id v ∷ qs) (q ∷ put_contact qs id v)
  unfolding put_contact
  put_next v = rw place_next (replaced_next (contact_of id v) q qs (is_contact id q) (contact_place qs id))

-- ---- after a contact call

byte_says : (v : Verification) → eqb (verification_byte v) 1 ≡ says1 v
byte_says verification.Unverified = refl
byte_says verification.Verified = refl
byte_says verification.Compromised = refl

module _ (id : ContactId) (v : Verification) (p : ContactId) where
  known_put_is : (ps : List Contact) → known (put_contact ps id v) p ≡ (eqb id.0 p.0 || known ps p)
  unfolding known any put_contact contact_place position_from
  known_put_is [] = refl
  known_put_is (q ∷ qs) = rw (put_next id q qs v) (go (eqb q.id.0 id.0) refl (known_put_is qs))
    where
      by : (a b c : Bool) → (a || (b || c)) ≡ (b || (a || c))
      by true true c = refl
      by true false c = refl
      by false b c = refl

      go : (b : Bool) → eqb q.id.0 id.0 ≡ b → any (is_contact p) (put_contact qs id v) ≡ (eqb id.0 p.0 || any (is_contact p) qs)
          → any (is_contact p) (cond b (contact_of id v ∷ qs) (q ∷ put_contact qs id v)) ≡ (eqb id.0 p.0 || (eqb q.id.0 p.0 || any (is_contact p) qs))
      go true e f =
          let z : q.id.0 ≡ id.0 = eqb-true q.id.0 id.0 e in
          sym (or_self_left (eqb id.0 p.0) (any (is_contact p) qs)) ∙ ap (λ (n : ℕ). eqb id.0 p.0 || (eqb n p.0 || any (is_contact p) qs)) (sym z)
      go false e f = ap (λ (b : Bool). eqb q.id.0 p.0 || b) f ∙ by (eqb q.id.0 p.0) (eqb id.0 p.0) (any (is_contact p) qs)

  pub known_put : (ps : List Contact) → known ps p ≡ true → known (put_contact ps id v) p ≡ true
  known_put ps h = known_put_is ps ∙ ap (λ (b : Bool). eqb id.0 p.0 || b) h ∙ or-true (eqb id.0 p.0)

  pub added_put : (ps : List Contact) → known ps p ≡ true → added_before (put_contact ps id v) p ≡ added_before ps p
  unfolding known any
  added_put [] h = absurd (false≢true h)
  added_put (q ∷ qs) h = rw (put_next id q qs v) (go (is_contact id q) refl (λ k. added_put qs k))
    where
      go : (b : Bool) → is_contact id q ≡ b → (any (is_contact p) qs ≡ true → added_before (put_contact qs id v) p ≡ added_before qs p) → added_before (cond b (contact_of id v ∷ qs) (q ∷ put_contact qs id v)) p ≡ added_before (q ∷ qs) p
      go true e f = let z : q.id.0 ≡ id.0 = eqb-true q.id.0 id.0 e in
          added_next p (contact_of id v) qs ∙ ap (λ (n : ℕ). cond (eqb n p.0) 0 (suc (added_before qs p))) (sym z) ∙ sym (added_next p q qs)
      go false e f = added_next p q (put_contact qs id v) ∙ by (is_contact p q) h ∙ sym (added_next p q qs)
        where
          by : (b : Bool) → (b || any (is_contact p) qs) ≡ true → cond b 0 (suc (added_before (put_contact qs id v) p)) ≡ cond b 0 (suc (added_before qs p))
          by true h = refl
          by false h = ap (λ (n : ℕ). suc n) (f h)

  first_put : is_verified (put_contact [] id v) p ≡ cond (eqb id.0 p.0) (says1 v) (is_verified [] p)
  unfolding put_contact contact_place position_from
  first_put = verified_next p (contact_of id v) [] ∙ ap (λ (b : Bool). cond (eqb id.0 p.0) b (is_verified [] p)) (byte_says v)

  pub verified_put : (ps : List Contact) → is_verified (put_contact ps id v) p ≡ cond (eqb id.0 p.0) (says1 v) (is_verified ps p)
  verified_put [] = first_put
  verified_put (q ∷ qs) = rw (put_next id q qs v) (go (eqb q.id.0 id.0) refl (verified_put qs))
    where
      go : (b : Bool) → eqb q.id.0 id.0 ≡ b
          → is_verified (put_contact qs id v) p ≡ cond (eqb id.0 p.0) (says1 v) (is_verified qs p)
          → is_verified (cond b (contact_of id v ∷ qs) (q ∷ put_contact qs id v)) p ≡ cond (eqb id.0 p.0) (says1 v) (is_verified (q ∷ qs) p)
      go true e f =
          let z : q.id.0 ≡ id.0 = eqb-true q.id.0 id.0 e in
          verified_next p (contact_of id v) qs
          ∙ ap (λ (b : Bool). cond (eqb id.0 p.0) b (is_verified qs p)) (byte_says v)
          ∙ by (eqb id.0 p.0) (rw (← z))
          ∙ ap (λ (b : Bool). cond (eqb id.0 p.0) (says1 v) b) (sym (verified_next p q qs))
        where
          by : (b : Bool) → eqb q.id.0 p.0 ≡ b → cond b (says1 v) (is_verified qs p) ≡ cond b (says1 v) (cond (eqb q.id.0 p.0) (eqb q.verification 1) (is_verified qs p))
          by true h = refl
          by false h = rw h
      go false e f =
          verified_next p q (put_contact qs id v)
          ∙ ap (λ (b : Bool). cond (is_contact p q) (eqb q.verification 1) b) f
          ∙ by (eqb q.id.0 p.0) (eqb id.0 p.0) refl refl
          ∙ ap (λ (b : Bool). cond (eqb id.0 p.0) (says1 v) b) (sym (verified_next p q qs))
        where
          by : (a b : Bool) → eqb q.id.0 p.0 ≡ a → eqb id.0 p.0 ≡ b
              → cond a (eqb q.verification 1) (cond b (says1 v) (is_verified qs p)) ≡ cond b (says1 v) (cond a (eqb q.verification 1) (is_verified qs p))
          by true true x y = absurd (eqb-false q.id.0 id.0 e (eqb-true q.id.0 p.0 x ∙ sym (eqb-true id.0 p.0 y)))
          by true false x y = refl
          by false true x y = refl
          by false false x y = refl

-- ---- no two contacts have one number

abbrev pub Apart : List Contact → Type 0
Apart ps = Sorted (λ (a b : Contact). a.id.0 ≡ b.id.0 → ⊥) ps

all_put : (id : ContactId) (v : Verification) (n : ℕ) (ps : List Contact) → (n ≡ id.0 → ⊥) → All (λ (b : Contact). n ≡ b.id.0 → ⊥) ps
    → All (λ (b : Contact). n ≡ b.id.0 → ⊥) (put_contact ps id v)
unfolding put_contact contact_place position_from
all_put id v n [] h a = more h none
all_put id v n (q ∷ qs) h (more k a) = rw (put_next id q qs v) (go (is_contact id q) (all_put id v n qs h a))
  where
    go : (b : Bool) → All (λ (b : Contact). n ≡ b.id.0 → ⊥) (put_contact qs id v) → All (λ (b : Contact). n ≡ b.id.0 → ⊥) (cond b (contact_of id v ∷ qs) (q ∷ put_contact qs id v))
    go true f = more h a
    go false f = more k f

pub apart_put : (id : ContactId) (v : Verification) (ps : List Contact) → Apart ps → Apart (put_contact ps id v)
unfolding put_contact contact_place position_from
apart_put id v [] s = next none empty
apart_put id v (q ∷ qs) (next a s) = rw (put_next id q qs v) (go (is_contact id q) refl (apart_put id v qs s))
  where
    go : (b : Bool) → is_contact id q ≡ b → Apart (put_contact qs id v) → Apart (cond b (contact_of id v ∷ qs) (q ∷ put_contact qs id v))
    go true e f = next (subst (λ (n : ℕ). All (λ (b : Contact). n ≡ b.id.0 → ⊥) qs) (eqb-true q.id.0 id.0 e) a) s
    go false e f = next (all_put id v q.id.0 qs (eqb-false q.id.0 id.0 e) a) f

-- ---- a contact is told by when it was added

pub added_tells : (ps : List Contact) (a b : ContactId) → known ps a ≡ true → known ps b ≡ true → added_before ps a ≡ added_before ps b → a.0 ≡ b.0
unfolding known any
added_tells [] a b h k e = absurd (false≢true h)
added_tells (q ∷ qs) a b h k e = go (is_contact a q) (is_contact b q) refl refl (sym (added_next a q qs) ∙ e ∙ added_next b q qs) h k (λ h k e. added_tells qs a b h k e)
  where
    go : (x y : Bool) → is_contact a q ≡ x → is_contact b q ≡ y → cond x 0 (suc (added_before qs a)) ≡ cond y 0 (suc (added_before qs b))
        → (x || any (is_contact a) qs) ≡ true → (y || any (is_contact b) qs) ≡ true
        → (any (is_contact a) qs ≡ true → any (is_contact b) qs ≡ true → added_before qs a ≡ added_before qs b → a.0 ≡ b.0) → a.0 ≡ b.0
    go true true i j e h k f = sym (eqb-true q.id.0 a.0 i) ∙ eqb-true q.id.0 b.0 j
    go true false i j e h k f = absurd (omega arith)
    go false true i j e h k f = absurd (omega arith)
    go false false i j e h k f = f h k (omega arith)

-- ---- a contact that found no place

-- there are 256 contacts, and it is none of them
abbrev pub ShutOut : List Contact → ContactId → Type 0
ShutOut ps id = (known ps id ≡ false) × (256 ≤ length ps)

length_put : (id : ContactId) (v : Verification) (ps : List Contact) → length ps ≤ length (put_contact ps id v)
unfolding put_contact contact_place position_from
length_put id v [] = omega arith
length_put id v (q ∷ qs) = rw (put_next id q qs v) (go (is_contact id q) (length_put id v qs))
  where
    go : (b : Bool) → length qs ≤ length (put_contact qs id v) → suc (length qs) ≤ length (cond b (contact_of id v ∷ qs) (q ∷ put_contact qs id v))
    go true h = omega arith
    go false h = omega arith

pub shut_put : (who : ContactId) (v : Verification) (id : ContactId) (ps : List Contact) → (not (known ps who) && leb 256 (length ps)) ≡ false → ShutOut ps id
    → ShutOut (put_contact ps who v) id
shut_put who v id ps t h = go (eqb who.0 id.0) refl
  where
    go : (b : Bool) → eqb who.0 id.0 ≡ b → ShutOut (put_contact ps who v) id
    go true e =
        let z : who ≡ id = λ i. record { 0 = eqb-true who.0 id.0 e i } in
        let k : known ps who ≡ false = ap (known ps) z ∙ h.0 in
        absurd (false≢true (sym t ∙ (rw (k, le-leb 256 (length ps) h.1))))
    go false e = (known_put_is who v id ps ∙ (rw (e, h.0)), omega (arith, h.1, length_put who v ps))

pub shut_unverified : (ps : List Contact) (id : ContactId) → known ps id ≡ false → is_verified ps id ≡ false
unfolding known is_verified contact_place
shut_unverified ps id h = go (position (is_contact id) ps) refl
  where
    go : (f : Option ℕ) → position (is_contact id) ps ≡ f → match_found f (λ i. eqb (get_or ps i no_contact).verification 1) false ≡ false
    go (Some i) e = absurd (false≢true (sym h ∙ sym (position_any (is_contact id) 0 ps) ∙ ap is_at e))
    go None e = refl
