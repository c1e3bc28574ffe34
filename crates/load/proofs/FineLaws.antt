-- Conditions of number 8 that do not hold of a saved file: length, place of `HN`, mark, blob and kind, slot past the next or twice, carried
-- tag twice, unknown depositor, over 32 of one.
-- Assumes nothing.
use Rattle.std.proofs.Common.{◌≡◌, ℕ, ◌+◌, ◌<◌, ◌≤◌, Bool, true, false, not, ◌&&◌, eqb, leb, List, [], ◌∷◌, ◌++◌, map, length, take, drop, sym, refl, ap, ◌∙◌, subst, ap₂, append-nil, arith, length-append, drop-drop, le-ltb, eq-eqb, Some}
use Rattle.std.proofs.lemmas.Bool.{cond_both, false_from_ne_true}
use mathlib.Core.Bool.{false≢true}
use borrow.Author.Tests.{lt-leb}
use Rattle.octets.specs.Bytes.{part, num, be, same_bytes}
use Rattle.octets.proofs.Compare.{same_eq}
use Rattle.octets.proofs.Numbers.{length_be, num_be}
use Rattle.octets.proofs.Parts.{length_part, part_part}
use Rattle.table.specs.Lists.{All, count_by}
use Rattle.table.specs.Lists as lists
use Rattle.table.specs.Rows.{join, has_key}
use Rattle.table.proofs.ListLaws.{all_imp, count_append, count_map}
use Rattle.table.proofs.FindLaws.{key_run}
use Rattle.courier.specs.Courier.{header_of}
use Rattle.state.specs.Held.{Held, held_row, held_decode, held_read, carried_of}
use Rattle.state.specs.Held as held
use Rattle.state.specs.declared.Carried.{Carried as HeldCarried}
use Rattle.rows.specs.declared.Contact.{Contact}
use Rattle.model.specs.Contacts.{known}
use Rattle.model.specs.Basics.{merge}
use Rattle.model.specs.Saved.{Slotted, held_mark, saved_record, saved_file}
use Rattle.history.specs.Order.{Sorted, next}
use Rattle.history.proofs.EffectLaws.{and_true}
use Rattle.history.proofs.LimitLaws.{count_imp}
use Rattle.model.proofs.Laws.{all_merge}
use Rattle.load_tests.specs.Records.{records, slot_in, depositor_in, tag_in, is_carried, is_tombstone, counted}
use Rattle.load_tests.specs.Tests.{slot_past, slot_twice, tag_twice, unknown_depositor, many_of_one, kind_tests, fails, cut_short}
use Rattle.load_tests.proofs.BlobLaws.{Decoded, decoded, kind_tested}
use Rattle.load.proofs.OrderLaws.{rest_of, head_of, sorted_with}
use Rattle.load.proofs.SavedLaws.{carried_kind, of_carried, of_tombstone, Back, Short, records_saved, length_saved, slot_saved, blob_saved, mark_saved, sorted_map}

-- ---- at most one

pub count_none : {A : Type 0} (p : A → Bool) (xs : List A) → All (λ (x : A). p x ≡ false) xs → count_by p xs ≡ 0
unfolding count_by
count_none p [] a = refl
count_none p (x ∷ xs) (lists.more e a) = rw (e, count_none p xs a)

pub at_most_one : {A : Type 0} (p : A → Bool) (xs : List A) → Sorted (λ (a b : A). p a ≡ true → p b ≡ true → ⊥) xs → count_by p xs ≤ 1
unfolding count_by
at_most_one p [] s = omega arith
at_most_one p (x ∷ xs) (next a s) =
    cond_both (p x) _ _ (λ (n : ℕ). n ≤ 1) (λ e. omega (arith, count_none p xs (all_imp (λ y f. false_from_ne_true (p y) (f e)) xs a)))
    (λ e. at_most_one p xs s)

-- two lists whose elements differ, and differ from each other's, merged
pub sorted_merge : {R : Slotted → Slotted → Type 0} (key : Slotted → ℕ) → ((a b : Slotted) → R a b → R b a) → (xs ys : List Slotted) → Sorted R xs → Sorted R ys
    → All (λ (x : Slotted). All (R x) ys) xs → Sorted R (merge key xs ys)
unfolding merge
sorted_merge key turn [] ys s t c = t
sorted_merge key turn (x ∷ xs) [] s t c = s
sorted_merge {R} key turn (x ∷ xs) (y ∷ ys) (next a s) (next b t) (lists.more (lists.more r d) c) =
    cond_both (leb (key x) (key y)) _ _ (Sorted R)
    (λ e. next (all_merge key xs (y ∷ ys) a (lists.more r d)) (sorted_merge key turn xs (y ∷ ys) s (next b t) c))
    (λ e. next (all_merge key (x ∷ xs) ys (lists.more (turn x y r) (all_imp (λ z k. turn z y (head_of k)) xs c)) b)
    (sorted_merge key turn (x ∷ xs) ys (next a s) t (lists.more d (all_imp (λ z k. rest_of k) xs c))))

-- ---- mark, blob and kind of a saved record

module _ (h : Slotted) (B : Back h) where
  pub kind_saved : fails kind_tests (saved_record h) ≡ false
  unfolding has_key same_bytes
  kind_saved = go h.held (mark_saved h) (ap held_read (sym (ap held_decode (blob_saved h) ∙ B.read)))
    where
      go : (x : Held) → part (saved_record h) 0 2 ≡ held_mark x → held_read (Some x) ≡ held_read (held_decode (drop 12 (saved_record h))) → fails kind_tests (saved_record h) ≡ false
      go (held.carried r ct) e d = sym (kind_tested (saved_record h) _ d) ∙ ap (λ (l : List ℕ). not (same_bytes l (72 ∷ 67 ∷ []))) e
      go (held.tombstone t) e d = sym (kind_tested (saved_record h) _ d) ∙ ap (λ (l : List ℕ). not (same_bytes l (72 ∷ 84 ∷ []))) e

  pub past_saved : (limit : ℕ) → h.slot < limit → slot_past limit (saved_record h) ≡ false
  unfolding slot_past
  past_saved limit k = lt-leb limit (num (slot_in (saved_record h))) (omega (arith, k, ap num (slot_saved h) ∙ num_be 8 h.slot B.slot))

  pub same_slot : (k : Slotted) → Back k → counted false 2 (slot_in (saved_record h)) (saved_record k) ≡ true → be 8 k.slot ≡ slot_in (saved_record h)
  unfolding counted has_key
  same_slot k K e =
      let l : length (slot_in (saved_record h)) ≡ 8 = ap length (slot_saved h) ∙ length_be 8 h.slot in
      sym (slot_saved k) ∙ same_eq (part (saved_record k) 2 8) (slot_in (saved_record h))
      (ap (λ (n : ℕ). same_bytes (part (saved_record k) 2 n) (slot_in (saved_record h))) (sym l) ∙ e)

-- what holds between rows, and shows that a test holds of no two of their records
sorted_records : {R : Slotted → Slotted → Type 0} (p : List ℕ → Bool)
    → ((x y : Slotted) → Back x → Back y → R x y → p (saved_record x) ≡ true → p (saved_record y) ≡ true → ⊥)
    → (hs : List Slotted) → All Back hs → Sorted R hs → Sorted (λ (c d : List ℕ). p c ≡ true → p d ≡ true → ⊥) (map saved_record hs)
sorted_records p f hs b t = sorted_map saved_record (λ x y k. k) hs (sorted_with f hs b t)

-- each slot is there once
pub once_saved : (hs : List Slotted) → All Back hs → Sorted (λ (a b : Slotted). a.slot ≡ b.slot → ⊥) hs → (h : Slotted) → Back h
    → slot_twice (map saved_record hs) (saved_record h) ≡ false
unfolding slot_twice
once_saved hs a s h B = le-ltb 1 (count_by is (map saved_record hs)) (at_most_one is (map saved_record hs) (sorted_records is apart hs a s))
  where
    is : List ℕ → Bool
    is = counted false 2 (slot_in (saved_record h))

    apart : (x y : Slotted) → Back x → Back y → (x.slot ≡ y.slot → ⊥) → counted false 2 (slot_in (saved_record h)) (saved_record x) ≡ true
        → counted false 2 (slot_in (saved_record h)) (saved_record y) ≡ true → ⊥
    apart x y X Y ne p q =
        ne (sym (num_be 8 x.slot X.slot) ∙ ap num (same_slot h B x X p ∙ sym (same_slot h B y Y q)) ∙ num_be 8 y.slot Y.slot)

-- ---- the file

-- it starts with its mark and a next slot, and is whole records
pub record Begins (file : List ℕ) : Type 0 where
  pub long : 10 ≤ length file
  pub mark : true ≡ has_key 0 (72 ∷ 78 ∷ []) file
  pub whole : false ≡ cut_short file

length_file : (slot : ℕ) (hs : List Slotted) → length (saved_file slot hs) ≡ 10 + length (join (map saved_record hs))
unfolding saved_file
length_file slot hs = omega (arith, length-append ((72 ∷ 78 ∷ []) ++ be 8 slot) (join (map saved_record hs)), length_be 8 slot)

mark_file : (slot : ℕ) (hs : List Slotted) → true ≡ has_key 0 (72 ∷ 78 ∷ []) (saved_file slot hs)
unfolding has_key saved_file same_bytes part
mark_file slot hs = refl

pub begins_saved : (slot : ℕ) (hs : List Slotted) → All Short hs → Begins (saved_file slot hs)
unfolding cut_short
begins_saved slot hs a =
    let file : List ℕ = saved_file slot hs in
    record {
      long = omega (arith, length_file slot hs);
      mark = mark_file slot hs;
      whole = sym (le-ltb (10 + length (join (records file))) (length file)
          (omega (arith, length_file slot hs, ap (λ (r : List (List ℕ)). length (join r)) (records_saved slot hs a))));
    }

-- ---- marks

-- a mark that a saved record has, and the one it has not
pub marked_saved : (h : Slotted) → is_carried (saved_record h) ≡ of_carried h
unfolding is_carried has_key same_bytes
marked_saved h = ap (λ (l : List ℕ). same_bytes l (72 ∷ 67 ∷ [])) (mark_saved h) ∙ go h.held
  where
    go : (x : Held) → same_bytes (held_mark x) (72 ∷ 67 ∷ []) ≡ carried_kind x
    go (held.carried r ct) = refl
    go (held.tombstone t) = refl

pub marked_tomb : (h : Slotted) → is_tombstone (saved_record h) ≡ of_tombstone h
unfolding is_tombstone has_key same_bytes
marked_tomb h = ap (λ (l : List ℕ). same_bytes l (72 ∷ 84 ∷ [])) (mark_saved h) ∙ go h.held
  where
    go : (x : Held) → same_bytes (held_mark x) (72 ∷ 84 ∷ []) ≡ not (carried_kind x)
    go (held.carried r ct) = refl
    go (held.tombstone t) = refl

-- ---- the depositor and the tag of a carried record

-- as they are read of its blob
module _ (b : List ℕ) where
  pub tag_read : (carried_of (drop 12 b)).header.tag ≡ tag_in b
  unfolding carried_of header_of part
  tag_read = part_part (drop 12 b) 9 37 0 16 (omega arith) ∙ ap (λ (l : List ℕ). take 16 l) (drop-drop 9 12 b)

  pub depositor_read : (carried_of (drop 12 b)).depositor.0 ≡ num (depositor_in b)
  unfolding carried_of part
  depositor_read = ap (λ (l : List ℕ). num (take 8 l)) (drop-drop 1 12 b)

abbrev pub depositor_of : Held → ℕ
depositor_of (held.carried r ct) = r.depositor.0
depositor_of (held.tombstone t) = 0

abbrev pub tag_of : Held → List ℕ
tag_of (held.carried r ct) = r.header.tag
tag_of (held.tombstone t) = t.tag

and_no : (x y : Bool) → (x ≡ true → y ≡ false) → (x && y) ≡ false
and_no true y f = f refl
and_no false y f = refl

module _ (h : Slotted) (B : Back h) where
  abbrev b : List ℕ
  b = saved_record h

  is_carried_lem : is_carried b ≡ true → of_carried h ≡ true
  is_carried_lem m = sym (marked_saved h) ∙ m

  -- what is read of its blob is the row
  seen : of_carried h ≡ true → (num (depositor_in b) ≡ depositor_of h.held) × ((tag_in b ≡ tag_of h.held) × (58 ≤ length b))
  seen c = go h.held refl c
    where
      go : (x : Held) → h.held ≡ x → carried_kind x ≡ true → (num (depositor_in b) ≡ depositor_of x) × ((tag_in b ≡ tag_of x) × (58 ≤ length b))
      go (held.carried r ct) e c =
          let D : Decoded (held_row h.held) (Some (held.carried r ct)) =
          subst (Decoded (held_row h.held)) (B.read ∙ ap (λ (x : Held). Some x) e) (decoded (held_row h.held)) in
          let q : carried_of (drop 12 b) ≡ r = ap carried_of (blob_saved h) ∙ sym D.0 in (
            sym (depositor_read b) ∙ ap (λ (k : HeldCarried). k.depositor.0) q,
            (sym (tag_read b) ∙ ap (λ (k : HeldCarried). k.header.tag) q, omega (arith, D.1.1.0, length_saved h)),
          )
      go (held.tombstone t) e c = absurd (false≢true c)

  pub known_saved : (cs : List Contact) → (of_carried h ≡ true → known cs (record { 0 = depositor_of h.held }) ≡ true) → unknown_depositor cs b ≡ false
  unfolding unknown_depositor
  known_saved cs k = and_no (is_carried b) _ (λ m. ap (λ (i : ℕ). not (known cs (record { 0 = i }))) (seen (is_carried_lem m)).0 ∙ ap not (k (is_carried_lem m)))

  -- a carried record with bytes of this one at their place: they are its own there
  shares : (k : Slotted) → Back k → (o n : ℕ) → o + n ≤ 58 → of_carried h ≡ true → counted true o (part b o n) (saved_record k) ≡ true
      → (of_carried k ≡ true) × (part (saved_record k) o n ≡ part b o n)
  unfolding counted
  shares k K o n le c e =
      let q = and_true (is_carried (saved_record k)) (has_key o (part b o n) (saved_record k)) e in
      let l : length (part b o n) ≡ n = length_part b o n (omega (arith, (seen c).1.1)) in
      (sym (marked_saved k) ∙ q.0, same_eq (part (saved_record k) o n) (part b o n) (sym (key_run o n (part b o n) (saved_record k) l) ∙ q.1))

-- of two rows that are both carried: their tags differ
abbrev pub TagsApart : Slotted → Slotted → Type 0
TagsApart x y = of_carried x ≡ true → of_carried y ≡ true → tag_of x.held ≡ tag_of y.held → ⊥

-- each carried tag is there once
pub tag_once_saved : (hs : List Slotted) → All Back hs → Sorted TagsApart hs → (h : Slotted) → Back h → tag_twice (map saved_record hs) (saved_record h) ≡ false
unfolding tag_twice
tag_once_saved hs a s h B =
    and_no (is_carried (saved_record h)) _
    (λ m. le-ltb 1 (count_by is (map saved_record hs)) (at_most_one is (map saved_record hs) (sorted_records is (apart (is_carried_lem h B m)) hs a s)))
  where
    is : List ℕ → Bool
    is = counted true 21 (tag_in (saved_record h))

    apart : of_carried h ≡ true → (x y : Slotted) → Back x → Back y → TagsApart x y → counted true 21 (tag_in (saved_record h)) (saved_record x) ≡ true
        → counted true 21 (tag_in (saved_record h)) (saved_record y) ≡ true → ⊥
    apart c x y X Y ne p q =
        let u = shares h B x X 21 16 (omega arith) c p in
        let v = shares h B y Y 21 16 (omega arith) c q in
        ne u.0 v.0 (sym (seen x X u.0).1.0 ∙ u.1 ∙ sym v.1 ∙ (seen y Y v.0).1.0)

-- ---- counts

pub count_merge : (p : Slotted → Bool) (key : Slotted → ℕ) (xs ys : List Slotted) → count_by p (merge key xs ys) ≡ count_by p xs + count_by p ys
unfolding merge
count_merge p key [] ys = count_append p [] ys
count_merge p key (x ∷ xs) [] = omega (arith, ap (count_by p) (append-nil (x ∷ xs)), count_append p (x ∷ xs) [])
count_merge p key (x ∷ xs) (y ∷ ys) =
    cond_both (leb (key x) (key y)) _ _ (λ (l : List Slotted). count_by p l ≡ count_by p (x ∷ xs) + count_by p (y ∷ ys))
    (λ e. omega (arith, count_merge p key xs (y ∷ ys), count_append p (x ∷ []) (merge key xs (y ∷ ys)), count_append p (x ∷ []) xs))
    (λ e. omega (arith, count_merge p key (x ∷ xs) ys, count_append p (y ∷ []) (merge key (x ∷ xs) ys), count_append p (y ∷ []) ys))

pub count_all : {A : Type 0} (p : A → Bool) (xs : List A) → All (λ (x : A). p x ≡ true) xs → count_by p xs ≡ length xs
unfolding count_by
count_all p [] a = refl
count_all p (x ∷ xs) (lists.more e a) = rw (e, count_all p xs a)

-- a carried row of the depositor
abbrev pub of_depositor : ℕ → Slotted → Bool
of_depositor id k = of_carried k && eqb (depositor_of k.held) id

-- no more than 32 are of one depositor
pub few_of_one_saved : (hs : List Slotted) → All Back hs → (h : Slotted) → Back h → count_by (of_depositor (depositor_of h.held)) hs ≤ 32
    → many_of_one (map saved_record hs) (saved_record h) ≡ false
unfolding many_of_one
few_of_one_saved hs a h B n =
    and_no (is_carried (saved_record h)) _
    (λ m. le-ltb 32 (count_by is (map saved_record hs)) (omega (
      arith,
      n,
      count_map saved_record (λ (k : Slotted). is (saved_record k)) is (λ k. refl) hs,
      count_imp (λ (k : Slotted). is (saved_record k)) (of_depositor (depositor_of h.held)) hs (all_imp (one (is_carried_lem h B m)) hs a),
    )))
  where
    is : List ℕ → Bool
    is = counted true 13 (depositor_in (saved_record h))

    one : of_carried h ≡ true → (k : Slotted) → Back k → counted true 13 (depositor_in (saved_record h)) (saved_record k) ≡ true
        → (of_carried k && eqb (depositor_of k.held) (depositor_of h.held)) ≡ true
    one c k K p =
        let u = shares h B k K 13 8 (omega arith) c p in
        let e : depositor_of k.held ≡ depositor_of h.held = sym (seen k K u.0).0 ∙ ap num u.1 ∙ (seen h B c).0 in
        ap₂ (λ (x y : Bool). x && y) u.0 (eq-eqb (depositor_of k.held) (depositor_of h.held) e)
