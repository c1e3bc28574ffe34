-- What a file that number 8 does not refuse gives: rows that fit their fields, of known depositors, tags that differ, no more than 32 of one.
-- Assumes nothing.
use Rattle.std.proofs.Common.{◌≡◌, ℕ, suc, ◌+◌, ◌^◌, ◌<◌, ◌≤◌, Bool, true, false, cond, ◌&&◌, eqb, ltb, leb, ◌⊎◌, List, [], ◌∷◌, length, get_or, take, drop, sym, refl, ap, ◌∙◌, subst, ap₂, inl, inr, zero-add, arith, length-drop, take-append-drop, ltb-false, eqb-true, Option, Some, None, Ok}
use Rattle.std.proofs.lemmas.Bool.{cond_both}
use mathlib.Core.Bool.{false≢true}
use borrow.Author.Tests.{not-false}
use Rattle.octets.specs.Bytes.{Bytes, part, num, be, same_bytes}
use Rattle.octets.proofs.Compare.{same_refl}
use Rattle.octets.proofs.Parts.{length_part}
use Rattle.octets.proofs.Numbers.{bytes_drop, bytes_part, num_part_lt, be_num_part}
use Rattle.courier_core.specs.declared.ContactId.{ContactId}
use Rattle.table.specs.Lists.{All, count_by, position, unwrap_or, insert_at}
use Rattle.table.specs.Lists as lists
use Rattle.table.proofs.ListLaws.{all_imp, count_append}
use Rattle.table.proofs.FindLaws.{key_run}
use Rattle.courier.specs.Courier.{carried_length, header_of}
use Rattle.courier.proofs.Laws.{both, carried_fits}
use Rattle.state.specs.Held.{Held, reads_back, held_decode, held_read, carried_of, carried_in, tombstone_of, tombstone_in}
use Rattle.state.specs.Held as held
use Rattle.state.proofs.HeldLaws.{reads_back_parts, passes}
use Rattle.state.specs.declared.Carried.{Carried as HeldCarried}
use Rattle.state.specs.declared.Tombstone.{Tombstone as HeldTombstone}
use Rattle.rows.specs.declared.Contact.{Contact}
use Rattle.rows.specs.declared.Carried.{Carried}
use Rattle.rows.specs.declared.Tombstone.{Tombstone}
use Rattle.rows.specs.Proper.{ProperCarried, ProperTombstone}
use Rattle.rows.specs.Limits.{max_carried, max_cells}
use Rattle.model.specs.Basics.{match_some, same_contact}
use Rattle.model.specs.Contacts.{known}
use Rattle.model.specs.Custody.{deposited}
use Rattle.model.proofs.KeepRows.{and_false}
use Rattle.history.specs.Order.{Sorted, empty}
use Rattle.history.proofs.SortedLaws.{all_both, head_all}
use Rattle.history.proofs.RowLaws.{TagsDiffer}
use Rattle.history.proofs.LimitLaws.{count_imp}
use Rattle.load_tests.specs.Records.{records, depositor_in, tag_in, is_carried, is_tombstone, counted}
use Rattle.load_tests.specs.Tests.{kind_tests, fails, unknown_depositor, tag_twice, many_of_one, next_in, carried_count, tombstone_count, load_tests, tested_as}
use Rattle.load_tests.proofs.BlobLaws.{Decoded, decoded, kind_long}
use Rattle.load.specs.Load.{insert_by, carried_slot, tombstone_slot, carried_row, tombstone_row, Rows, load_held, load_record, load_records, no_rows, loaded}
use Rattle.load.specs.Reload.{ReadBack}
use Rattle.load.proofs.LoadLaws.{some_kind, marked_carried, marked_tombstone, carried_alone, tombstone_alone}
use Rattle.load.proofs.OrderLaws.{slot_of, Passed, fine_passed, Whole, records_whole, head_of, rest_of, rest_away, counted_apart, sorted_with, length_by, all_by, differ_by}
use Rattle.load.proofs.FineLaws.{tag_read, depositor_read}

-- ---- a carried blob that is taken reads back: its ciphertext has a length that a courier carries, and its expiry is above 0

abbrev ReadIn : Option Held → Type 0
ReadIn None = Unit {0}
ReadIn (Some (held.carried r ct)) = reads_back (length ct) r.header.expiry_min ≡ true
ReadIn (Some (held.tombstone t)) = Unit {0}

read_in : (b : List ℕ) → ReadIn (held_decode b)
unfolding held_decode carried_in tombstone_in
read_in b =
    cond_both (eqb (get_or b 0 0) 0) _ _ ReadIn
    (λ k. cond_both (leb 46 (length b) && passes b) _ _ ReadIn (λ e.
    ap (λ (n : ℕ). reads_back n (carried_of b).header.expiry_min) (length-drop 46 b) ∙ (both (leb 46 (length b)) (passes b) e).1) (λ e. tt))
    (λ k. cond_both (eqb (get_or b 0 0) 1) _ _ ReadIn (λ t. cond_both (eqb (length b) 37) _ _ ReadIn (λ e. tt) (λ e. tt)) (λ t. tt))

-- ---- a record and its row

abbrev Taken : List ℕ → Type 0
Taken b = Whole b × (fails kind_tests b ≡ false)

module _ (b : List ℕ) where
  abbrev blob : List ℕ
  blob = drop 12 b

  module _ (w : Taken b) where
    long : 49 ≤ length b
    long = kind_long b w.1

    blob_bytes : Bytes blob
    blob_bytes = bytes_drop 12 b w.0.0

    slot_fits : slot_of b < 2 ^ 64
    slot_fits = num_part_lt b 2 8 (omega (arith, long)) w.0.0

    proper_carried : (len cell : ℕ) → len < 2 ^ 16 → cell < 2 ^ 16 → 46 ≤ length blob → ProperCarried (carried_row (slot_of b) len cell (carried_of blob))
    unfolding carried_of header_of
    proper_carried len cell hl hc h =
        let y : List ℕ = part blob 9 37 in
        let ly : length y ≡ 37 = length_part blob 9 37 (omega arith) in
        let by : Bytes y = bytes_part blob 9 37 blob_bytes in
        record {
          slot = slot_fits;
          depositor = num_part_lt blob 1 8 (omega arith) blob_bytes;
          tag = record { size = length_part y 0 16 (omega (arith, ly)); bytes = bytes_part y 0 16 by };
          c = record { size = length_part y 16 16 (omega (arith, ly)); bytes = bytes_part y 16 16 by };
          expiry_min = num_part_lt y 32 4 (omega (arith, ly)) by;
          copies = num_part_lt y 36 1 (omega (arith, ly)) by;
          len = hl;
          cell = hc;
        }

    proper_tombstone : length blob ≡ 37 → ProperTombstone (tombstone_row (slot_of b) (tombstone_of blob))
    unfolding tombstone_of
    proper_tombstone h = record {
      slot = slot_fits;
      tag = record { size = length_part blob 1 16 (omega arith); bytes = bytes_part blob 1 16 blob_bytes };
      s = record { size = length_part blob 17 16 (omega arith); bytes = bytes_part blob 17 16 blob_bytes };
      expiry_min = num_part_lt blob 33 4 (omega arith) blob_bytes;
    }

  -- a carried record with the bytes of another, or with a number of theirs
  module _ (c : List ℕ) (w : Taken b) (m : is_carried c ≡ true) (o n : ℕ) (h : o + n ≤ 49) where
    pub same_bytes_lem : part b o n ≡ part c o n → counted true o (part b o n) c ≡ true
    unfolding counted
    same_bytes_lem e =
        let l : length (part b o n) ≡ n = length_part b o n (omega (arith, long w)) in
        ap₂ (λ (x y : Bool). x && y) m (key_run o n (part b o n) c l ∙ ap (same_bytes (part c o n)) e ∙ same_refl (part c o n))

    pub same_number : Taken c → num (part b o n) ≡ num (part c o n) → counted true o (part b o n) c ≡ true
    same_number v e =
        same_bytes_lem (sym (be_num_part b o n (omega (arith, long w)) w.0.0) ∙ ap (be n) e
        ∙ be_num_part c o n (omega (arith, kind_long c v.1)) v.0.0)

-- ---- what the tests leave of the tags and depositors of a file

abbrev TagsApart : List ℕ → List ℕ → Type 0
TagsApart a b = is_carried a ≡ true → is_carried b ≡ true → tag_in a ≡ tag_in b → ⊥

tags_apart : (rs : List (List ℕ)) → All Taken rs → All (λ (b : List ℕ). tag_twice rs b ≡ false) rs → Sorted TagsApart rs
unfolding tag_twice
tags_apart rs w t =
    sorted_with (λ a b u v e p q z. false≢true (sym (e p) ∙ same_bytes_lem a b u q 21 16 (omega arith) z)) rs w
    (counted_apart (λ (b : List ℕ). counted true 21 (tag_in b)) (λ (b : List ℕ). is_carried b ≡ true) rs
    (all_imp (λ b u q. same_bytes_lem b b u q 21 16 (omega arith) refl) rs w)
    (all_imp (λ b e q. ltb-false 1 (count_by (counted true 21 (tag_in b)) rs) (and_false (is_carried b) _ q e)) rs t))

-- a carried record of the depositor
abbrev from_one : ContactId → List ℕ → Bool
from_one id b = is_carried b && eqb (num (depositor_in b)) id.0

-- some number bounds a count if it does where one is counted
bounded : {A : Type 0} (p : A → Bool) (n : ℕ) (xs ys : List A) → All (λ (y : A). p y ≡ true → count_by p xs ≤ n) ys → (count_by p ys ≡ 0) ⊎ (count_by p xs ≤ n)
unfolding count_by
bounded p n xs [] a = inl refl
bounded p n xs (y ∷ ys) (lists.more f a) =
    cond_both (p y) _ _ (λ (m : ℕ). (m ≡ 0) ⊎ (count_by p xs ≤ n)) (λ e. inr (f e)) (λ e. bounded p n xs ys a)

few_of_one : (rs : List (List ℕ)) → All Taken rs → All (λ (b : List ℕ). many_of_one rs b ≡ false) rs → (id : ContactId) → count_by (from_one id) rs ≤ 32
unfolding many_of_one
few_of_one rs w t id =
    done (bounded (from_one id) 32 rs rs (all_imp (λ b k f.
    let g = both (is_carried b) (eqb (num (depositor_in b)) id.0) f in
    one b k.0 (and_false (is_carried b) _ g.0 k.1) (eqb-true (num (depositor_in b)) id.0 g.1)) rs (all_both rs w t)))
  where
    done : (count_by (from_one id) rs ≡ 0) ⊎ (count_by (from_one id) rs ≤ 32) → count_by (from_one id) rs ≤ 32
    done (inl e) = omega (arith, e)
    done (inr h) = h

    one : (b : List ℕ) → Taken b → (ltb 32 (count_by (counted true 13 (depositor_in b)) rs)) ≡ false → num (depositor_in b) ≡ id.0 → count_by (from_one id) rs ≤ 32
    one b v e q =
        omega (
          arith,
          ltb-false 32 (count_by (counted true 13 (depositor_in b)) rs) e,
          count_imp (from_one id) (counted true 13 (depositor_in b)) rs (all_imp (λ c u f.
              let g = both (is_carried c) (eqb (num (depositor_in c)) id.0) f in
              same_number b c v g.0 13 8 (omega arith) u (q ∙ sym (eqb-true (num (depositor_in c)) id.0 g.1))) rs w),
        )

-- ---- the rows so far

pub record Fair (cs : List Contact) (r : Carried) : Type 0 where
  pub proper : ProperCarried r
  pub back : ReadBack r
  pub depositor : known cs r.depositor ≡ true

abbrev Known : List Contact → List ℕ → Type 0
Known cs b = is_carried b ≡ true → known cs (record { 0 = num (depositor_in b) }) ≡ true

pub record Loaded (cs : List Contact) (carried_all tombstones_all : ℕ) (l : Rows) (rs : List (List ℕ)) : Type 0 where
  pub fair : All (Fair cs) l.carried
  pub proper : All ProperTombstone l.tombstones
  pub carried_count : length l.carried + count_by is_carried rs ≡ carried_all
  pub tombstone_count : length l.tombstones + count_by is_tombstone rs ≡ tombstones_all
  pub tags : TagsDiffer l.carried
  pub tags_new : All (λ (b : List ℕ). is_carried b ≡ true → All (λ (r : Carried). r.tag ≡ tag_in b → ⊥) l.carried) rs
  pub tags_left : Sorted TagsApart rs
  pub quota : (id : ContactId) → deposited l.carried id + count_by (from_one id) rs ≤ 32
  pub taken : All Taken rs
  pub depositors : All (Known cs) rs

module _ {A : Type 0} (p : A → Bool) where
  count_one : (x : A) (xs : List A) (t : Bool) → p x ≡ t → count_by p (x ∷ xs) ≡ cond t (suc (count_by p xs)) (count_by p xs)
  unfolding count_by
  count_one x xs t e = ap (λ (u : Bool). cond u (suc (count_by p xs)) (count_by p xs)) e

  count_insert : (key : A → ℕ) (x : A) (xs : List A) → count_by p (insert_by key x xs) ≡ count_by p (x ∷ xs)
  unfolding insert_by insert_at
  count_insert key x xs =
      let i : ℕ = unwrap_or (length xs) (position (λ (r : A). ltb (key x) (key r)) xs) in
      omega (
        arith,
        count_append p (take i xs) (x ∷ drop i xs),
        count_append p (x ∷ []) (drop i xs),
        count_append p (x ∷ []) xs,
        count_append p (take i xs) (drop i xs),
        ap (count_by p) (take-append-drop i xs),
      )

module _ (cs : List Contact) (nc nt : ℕ) (few : nc ≤ max_cells) (l : Rows) (b : List ℕ) (rs : List (List ℕ)) (L : Loaded cs nc nt l (b ∷ rs)) where
  module _ (ct : List ℕ) (m : is_carried b ≡ true) (v : reads_back (length ct) (carried_of (drop 12 b)).header.expiry_min ≡ true) (h : 46 ≤ length (drop 12 b)) where
    abbrev new : Carried
    new = carried_row (slot_of b) (length ct) (length l.carried) (carried_of (drop 12 b))

    one_more : count_by is_carried (b ∷ rs) ≡ suc (count_by is_carried rs)
    one_more = count_one is_carried b rs true m

    parts : (carried_length (length ct) ≡ true) × (0 < (carried_of (drop 12 b)).header.expiry_min)
    parts = reads_back_parts (length ct) (carried_of (drop 12 b)).header.expiry_min v

    fair_new : Fair cs new
    fair_new = record {
      proper = proper_carried b (head_of L.taken) (length ct) (length l.carried) (omega (arith, (carried_fits (length ct) parts.0).1)) (omega (arith, L.carried_count, few)) h;
      back = record { len = parts.0; expiry = parts.1 };
      depositor = ap (λ (i : ℕ). known cs (record { 0 = i })) (depositor_read b) ∙ head_of L.depositors m;
    }

    -- of the one depositor there is one more row, and one record less
    quota_next : (id : ContactId) → deposited (insert_by carried_slot new l.carried) id + count_by (from_one id) rs ≤ 32
    unfolding deposited
    quota_next id = go (eqb (num (depositor_in b)) id.0) refl
      where
        from : Carried → Bool
        from r = same_contact r.depositor id

        go : (t : Bool) → eqb (num (depositor_in b)) id.0 ≡ t → count_by from (insert_by carried_slot new l.carried) + count_by (from_one id) rs ≤ 32
        go t e =
            let x : from new ≡ t = ap (λ (i : ℕ). eqb i id.0) (depositor_read b) ∙ e in
            let y : from_one id b ≡ t = ap₂ (λ (u w : Bool). u && w) m e in
            by t (count_insert from carried_slot new l.carried ∙ count_one from new l.carried t x) (count_one (from_one id) b rs t y)
          where
            by : (u : Bool) → count_by from (insert_by carried_slot new l.carried) ≡ cond u (suc (count_by from l.carried)) (count_by from l.carried)
                → count_by (from_one id) (b ∷ rs) ≡ cond u (suc (count_by (from_one id) rs)) (count_by (from_one id) rs)
                → count_by from (insert_by carried_slot new l.carried) + count_by (from_one id) rs ≤ 32
            by true p q = omega (arith, p, q, L.quota id)
            by false p q = omega (arith, p, q, L.quota id)

    carried_next : Loaded cs nc nt (load_held l (slot_of b) (held.carried (carried_of (drop 12 b)) ct)) rs
    unfolding load_held
    carried_next = record {
      fair = all_by carried_slot new l.carried fair_new L.fair;
      proper = L.proper;
      carried_count = omega (arith, L.carried_count, one_more, length_by carried_slot new l.carried);
      tombstone_count = omega (arith, L.tombstone_count, count_one is_tombstone b rs false (carried_alone b m));
      tags = differ_by carried_slot (λ (x y : Carried). x.tag ≡ y.tag → ⊥) new l.carried
          (all_imp (λ r f e. f (e ∙ tag_read b)) l.carried (head_of L.tags_new m))
          (all_imp (λ r f e. f (sym e ∙ tag_read b)) l.carried (head_of L.tags_new m)) L.tags;
      tags_new = all_imp (λ d k q. all_by carried_slot new l.carried (λ e. k.0 m q (sym (tag_read b) ∙ e)) (k.1 q)) rs
          (all_both rs (head_all L.tags_left) (rest_of L.tags_new));
      tags_left = rest_away L.tags_left;
      quota = quota_next;
      taken = rest_of L.taken;
      depositors = rest_of L.depositors;
    }

  tombstone_next : is_tombstone b ≡ true → length (drop 12 b) ≡ 37 → Loaded cs nc nt (load_held l (slot_of b) (held.tombstone (tombstone_of (drop 12 b)))) rs
  unfolding load_held
  tombstone_next m h =
      let new : Tombstone = tombstone_row (slot_of b) (tombstone_of (drop 12 b)) in
      let other : is_carried b ≡ false = tombstone_alone b m in
      record {
        fair = L.fair;
        proper = all_by tombstone_slot new l.tombstones (proper_tombstone b (head_of L.taken) h) L.proper;
        carried_count = omega (arith, L.carried_count, count_one is_carried b rs false other);
        tombstone_count = omega (arith, L.tombstone_count, count_one is_tombstone b rs true m, length_by tombstone_slot new l.tombstones);
        tags = L.tags;
        tags_new = rest_of L.tags_new;
        tags_left = rest_away L.tags_left;
        quota = λ id. omega (arith, L.quota id, count_one (from_one id) b rs false (ap (λ (x : Bool). x && eqb (num (depositor_in b)) id.0) other));
        taken = rest_of L.taken;
        depositors = rest_of L.depositors;
      }

  loaded_next : Loaded cs nc nt (load_record l b) rs
  unfolding load_record
  loaded_next = go (held_decode (drop 12 b)) refl (decoded (drop 12 b)) (read_in (drop 12 b))
    where
      kinds : fails kind_tests b ≡ false
      kinds = (head_of L.taken).1

      go : (d : Option Held) → held_decode (drop 12 b) ≡ d → Decoded (drop 12 b) (held_decode (drop 12 b)) → ReadIn (held_decode (drop 12 b))
          → Loaded cs nc nt (match_some d (λ (h : Held). load_held l (slot_of b) h) l) rs
      go None e D n = absurd (some_kind b kinds (ap held_read (sym e)))
      go (Some (held.carried r ct)) e D n =
          let v : Decoded (drop 12 b) (Some (held.carried r ct)) = subst (Decoded (drop 12 b)) e D in
          let m : reads_back (length ct) (carried_of (drop 12 b)).header.expiry_min ≡ true =
          subst (λ (x : HeldCarried). reads_back (length ct) x.header.expiry_min ≡ true) v.0 (subst ReadIn e n) in
          subst (λ (x : HeldCarried). Loaded cs nc nt (load_held l (slot_of b) (held.carried x ct)) rs) (sym v.0)
          (carried_next ct (marked_carried b kinds (ap held_read (sym e))) m v.1.1.0)
      go (Some (held.tombstone t)) e D n =
          let v : Decoded (drop 12 b) (Some (held.tombstone t)) = subst (Decoded (drop 12 b)) e D in
          subst (λ (x : HeldTombstone). Loaded cs nc nt (load_held l (slot_of b) (held.tombstone x)) rs) (sym v.0)
          (tombstone_next (marked_tombstone b kinds (ap held_read (sym e))) v.1)

loaded_all : (cs : List Contact) (nc nt : ℕ) → nc ≤ max_cells → (l : Rows) (rs : List (List ℕ)) → Loaded cs nc nt l rs → Loaded cs nc nt (load_records l rs) []
unfolding load_records
loaded_all cs nc nt few l [] L = L
loaded_all cs nc nt few l (b ∷ rs) L = loaded_all cs nc nt few (load_record l b) rs (loaded_next cs nc nt few l b rs L)

-- ---- a file that is fine

pub loaded_fine : (cs : List Contact) (cells : List ℕ) (room : ℕ) (file : List ℕ) → Bytes file → carried_count file ≤ max_carried → Ok tt ≡ tested_as (load_tests cs (length cells) room file)
    → Loaded cs (carried_count file) (tombstone_count file) (loaded cells file) []
unfolding loaded deposited count_by unknown_depositor
loaded_fine cs cells room file w few e =
    let rs : List (List ℕ) = records file in
    let p : All (Passed (next_in file) cs rs) rs = fine_passed cs cells room file e in
    let v : All Taken rs = all_imp (λ b k. (k.0, k.1.kinds)) rs (all_both rs (records_whole file w) p) in
    loaded_all cs (carried_count file) (tombstone_count file) few (no_rows cells) rs (record {
      fair = lists.none;
      proper = lists.none;
      carried_count = zero-add (carried_count file);
      tombstone_count = zero-add (tombstone_count file);
      tags = empty;
      tags_new = all_imp (λ b u q. lists.none) rs v;
      tags_left = tags_apart rs v (all_imp (λ b k. k.tag_once) rs p);
      quota = λ id. omega (arith, few_of_one rs v (all_imp (λ b k. k.few) rs p) id);
      taken = v;
      depositors = all_imp (λ b k q. not-false (known cs (record { 0 = num (depositor_in b) })) (and_false (is_carried b) _ q k.depositor)) rs p;
    })
