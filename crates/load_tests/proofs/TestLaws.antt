-- Laws of the tests of a load: of a record, of the records one by one, and of a file.
-- Assumes nothing.
use Rattle.std.proofs.Common.{◌≡◌, ℕ, ◌/◌, ◌<◌, ◌≤◌, min, Bool, true, false, cond, not, ◌&&◌, ◌||◌, ltb, leb, List, [], ◌∷◌, map, length, sym, refl, ap, ◌∙◌, ap₂, ltb-false, le-ltb, lt-ltb, le-leb, Result, Ok, Err}
use Rattle.std.proofs.lemmas.Bool.{or_parts}
use mathlib.Core.Bool.{or-false, or-true}
use borrow.Author.Tests.{lt-leb}
use Rattle.octets.specs.Bytes.{part, num}
use Rattle.courier_core.specs.declared.ContactId.{ContactId}
use Rattle.courier_core.specs.declared.Refusal.{Refusal}
use Rattle.courier_core.specs.declared.Refusal.TheVariants as refusal
use Rattle.table.specs.Lists.{All, more, any, count_by}
use Rattle.table.specs.Rows.{has_key}
use Rattle.table.proofs.ListLaws.{all_imp, any_append}
use Rattle.table.proofs.FindLaws.{any_none}
use Rattle.rows.specs.declared.Contact.{Contact}
use Rattle.model.specs.Contacts.{known}
use Rattle.model.specs.Cells.{cell_count}
use Rattle.load_tests.specs.Records.{records, depositor_in, tag_in, is_carried, is_tombstone, counted}
use Rattle.load_tests.specs.Tests.{slot_past, slot_twice, unknown_depositor, tag_twice, many_of_one, kind_tests, row_tests, record_tests, fails, carried_fails, short_next, next_not_first, cut_short, many_carried, carried_count, tombstone_count, wrongs, holds, of_records, next_in, load_tests, tested_as}

pub none_any : {A : Type 0} (p : A → Bool) (xs : List A) → All (λ (x : A). p x ≡ false) xs → any p xs ≡ false
unfolding any
none_any p [] a = refl
none_any p (x ∷ xs) (more e a) = ap₂ ◌||◌ e (none_any p xs a)

-- ---- of a record

module _ (b : List ℕ) (cs : List Contact) (rs : List (List ℕ)) where
  abbrev of_tag : ℕ
  of_tag = count_by (counted true 21 (part b 21 16)) rs

  abbrev of_one : ℕ
  of_one = count_by (counted true 13 (part b 13 8)) rs

  abbrev of_slot : ℕ
  of_slot = count_by (counted false 2 (part b 2 8)) rs

  abbrev contact_of : ℕ → ContactId
  contact_of i = record { 0 = i }

  -- the three tests of a carried record
  module _ {k : Bool} {id : ℕ} (e : k ≡ known cs (contact_of id)) (q : id ≡ num (part b 13 8)) where
    known_read : (x : Bool) → k ≡ x → known cs (contact_of (num (part b 13 8))) ≡ x
    known_read x t = ap (λ (i : ℕ). known cs (contact_of i)) (sym q) ∙ sym e ∙ t

    pub carried_unknown : k ≡ false → true ≡ carried_fails cs rs b
    unfolding carried_fails
    carried_unknown t = sym (ap (λ (x : Bool). not x || (ltb 1 of_tag || ltb 32 of_one)) (known_read false t))

    module _ (t : k ≡ true) {m : ℕ} (em : m ≡ of_tag) where
      carried_tags : (x : Bool) → ltb 1 m ≡ x → carried_fails cs rs b ≡ (x || ltb 32 of_one)
      unfolding carried_fails
      carried_tags x f =
          ap (λ (y : Bool). not y || (ltb 1 of_tag || ltb 32 of_one)) (known_read true t)
          ∙ ap (λ (y : Bool). y || ltb 32 of_one) (ap (ltb 1) (sym em) ∙ f)

      pub carried_twice : 1 < m → true ≡ carried_fails cs rs b
      carried_twice f = sym (carried_tags true (lt-ltb 1 m f))

      pub carried_many : {j : ℕ} → m ≤ 1 → j ≡ of_one → ltb 32 j ≡ carried_fails cs rs b
      carried_many f ej = ap (ltb 32) ej ∙ sym (carried_tags false (le-ltb 1 m f))

  -- the tests of any record
  module _ (next : ℕ) where
    abbrev Fails : Bool
    Fails = fails (row_tests next cs rs) b

    abbrev for_carried : Bool → Bool
    for_carried c =
        (c && not (known cs (contact_of (num (depositor_in b)))))
        || ((c && ltb 1 (count_by (counted true 21 (tag_in b)) rs)) || ((c && ltb 32 (count_by (counted true 13 (depositor_in b)) rs)) || false))

    row_read : Fails ≡ (leb next (num (part b 2 8)) || (ltb 1 of_slot || for_carried (is_carried b)))
    unfolding fails any slot_past slot_twice unknown_depositor tag_twice many_of_one
    row_read = refl

    module _ {slot : ℕ} (e : slot ≡ num (part b 2 8)) where
      past_read : (x : Bool) → leb next slot ≡ x → leb next (num (part b 2 8)) ≡ x
      past_read x t = ap (leb next) (sym e) ∙ t

      pub row_past : next ≤ slot → true ≡ Fails
      row_past t = sym (row_read ∙ ap (λ (x : Bool). x || (ltb 1 of_slot || for_carried (is_carried b))) (past_read true (le-leb next slot t)))

      module _ (t : slot < next) {m : Bool} (em : m ≡ ltb 1 of_slot) where
        row_slots : (x : Bool) → m ≡ x → Fails ≡ (x || for_carried (is_carried b))
        row_slots x f =
            row_read ∙ ap (λ (y : Bool). y || (ltb 1 of_slot || for_carried (is_carried b))) (past_read false (lt-leb next slot t))
            ∙ ap (λ (y : Bool). y || for_carried (is_carried b)) (sym em ∙ f)

        pub row_twice : m ≡ true → true ≡ Fails
        row_twice f = sym (row_slots true f)

        module _ (f : m ≡ false) {c : Bool} (ec : c ≡ has_key 0 (72 ∷ 67 ∷ []) b) where
          row_kind : (x : Bool) → c ≡ x → Fails ≡ for_carried x
          unfolding is_carried
          row_kind x g = row_slots false f ∙ ap for_carried (sym ec ∙ g)

          pub row_other : c ≡ false → false ≡ Fails
          row_other g = sym (row_kind false g)

          pub row_carried : c ≡ true → {r : Bool} → r ≡ carried_fails cs rs b → r ≡ Fails
          unfolding carried_fails
          row_carried g er =
              er ∙ ap (λ (x : Bool). not (known cs (contact_of (num (depositor_in b)))) || (ltb 1 (count_by (counted true 21 (tag_in b)) rs) || x))
              (sym (or-false (ltb 32 (count_by (counted true 13 (depositor_in b)) rs)))) ∙ sym (row_kind true g)

-- ---- the records, one by one: no one of those that are left
module _ (p : List ℕ → Bool) {rs ts : List (List ℕ)} {b : List ℕ} (none : any p rs ≡ false) (e : rs ≡ b ∷ ts) where
  pub none_here : p b ≡ false
  unfolding any
  none_here = (or_parts (p b) (any p ts) (sym (ap (any p) e) ∙ none)).0

  pub none_next : any p ts ≡ false
  unfolding any
  none_next = (or_parts (p b) (any p ts) (sym (ap (any p) e) ∙ none)).1

-- a record that fails the tests of its kind, or those of its row
module _ (next : ℕ) (cs : List Contact) (rs : List (List ℕ)) (b : List ℕ) where
  both_tests : (x y : Bool) → fails kind_tests b ≡ x → fails (row_tests next cs rs) b ≡ y → fails (record_tests next cs rs) b ≡ (x || y)
  unfolding fails
  both_tests x y e f = any_append (λ (t : List ℕ → Bool). t b) kind_tests (row_tests next cs rs) ∙ ap₂ (λ (u v : Bool). u || v) e f

  pub fails_kind : true ≡ fails kind_tests b → true ≡ fails (record_tests next cs rs) b
  fails_kind e = sym (both_tests true (fails (row_tests next cs rs) b) (sym e) refl)

  pub fails_row : {r : Bool} → false ≡ fails kind_tests b → r ≡ fails (row_tests next cs rs) b → r ≡ fails (record_tests next cs rs) b
  fails_row {r} e f = sym (both_tests false r (sym e) (sym f))

-- ---- of a file

-- a test of all records by each test, or by all tests of each record
of_records_lem : (rs : List (List ℕ)) (ts : List (List ℕ → Bool)) → holds (map (λ (t : List ℕ → Bool). any t rs) ts) ≡ any (fails ts) rs
unfolding any fails
of_records_lem [] [] = refl
of_records_lem [] (t ∷ ts) = of_records_lem [] ts
of_records_lem (r ∷ rs) ts = split ts ∙ ap (λ (x : Bool). any (λ (t : List ℕ → Bool). t r) ts || x) (of_records_lem rs ts)
  where
    swap : (x y z w : Bool) → ((x || y) || (z || w)) ≡ ((x || z) || (y || w))
    swap true y z w = refl
    swap false true true w = refl
    swap false true false w = refl
    swap false false z w = refl

    split : (us : List (List ℕ → Bool)) → any (λ (x : Bool). x) (map (λ (t : List ℕ → Bool). t r || any t rs) us)
        ≡ (any (λ (t : List ℕ → Bool). t r) us || any (λ (x : Bool). x) (map (λ (t : List ℕ → Bool). any t rs) us))
    split [] = refl
    split (u ∷ us) = ap (λ (x : Bool). (u r || any u rs) || x) (split us) ∙ swap (u r) (any u rs) (any (λ (t : List ℕ → Bool). t r) us) (any (λ (x : Bool). x) (map (λ (t : List ℕ → Bool). any t rs) us))

-- the tests of kinds, of all records, and then those of rows
module _ (next : ℕ) (cs : List Contact) (all rs : List (List ℕ)) where
  in_turn : (x : Bool) → any (fails kind_tests) rs ≡ x → any (fails (record_tests next cs all)) rs ≡ (x || any (fails (row_tests next cs all)) rs)
  in_turn x e =
      sym (of_records_lem rs (record_tests next cs all))
      ∙ any_append (λ (b : Bool). b) (map (λ (t : List ℕ → Bool). any t rs) kind_tests) (map (λ (t : List ℕ → Bool). any t rs) (row_tests next cs all))
      ∙ ap₂ (λ (u v : Bool). u || v) (of_records_lem rs kind_tests ∙ e) (of_records_lem rs (row_tests next cs all))

  pub kinds_wrong : true ≡ any (fails kind_tests) rs → true ≡ any (fails (record_tests next cs all)) rs
  kinds_wrong e = sym (in_turn true (sym e))

  pub rows_wrong : {r : Bool} → any (fails kind_tests) rs ≡ false → r ≡ any (fails (row_tests next cs all)) rs → r ≡ any (fails (record_tests next cs all)) rs
  rows_wrong e f = f ∙ sym (in_turn false e)

module _ (cs : List Contact) (file : List ℕ) where
  abbrev wrong : Bool
  wrong = any (fails (record_tests (next_in file) cs (records file))) (records file)

  abbrev from_records : Bool
  from_records = wrong || (many_carried file || false)

  abbrev from_mark : Bool
  from_mark = next_not_first file || (cut_short file || from_records)

  file_read : holds (wrongs cs file) ≡ (short_next file || from_mark)
  unfolding wrongs any
  file_read =
      ap (λ (x : Bool). short_next file || (next_not_first file || (cut_short file || x)))
      (any_append (λ (x : Bool). x) (of_records file (record_tests (next_in file) cs (records file))) (many_carried file ∷ [])
      ∙ ap (λ (x : Bool). x || (many_carried file || false)) (of_records_lem (records file) (record_tests (next_in file) cs (records file))))

  pub by_next : {next : ℕ} {r : Bool} → next ≡ next_in file → r ≡ any (fails (record_tests next cs (records file))) (records file) → r ≡ wrong
  by_next e q = q ∙ ap (λ (n : ℕ). any (fails (record_tests n cs (records file))) (records file)) e

  -- each test in turn
  module _ (r : Bool) where
    abbrev Is : Type 0
    Is = r ≡ holds (wrongs cs file)

    pub file_short : r ≡ true → length file < 10 → Is
    unfolding short_next
    file_short e h = e ∙ sym (file_read ∙ ap (λ (x : Bool). x || from_mark) (lt-ltb (length file) 10 h))

    module _ (h : 10 ≤ length file) where
      long : (x : Bool) → next_not_first file ≡ x → holds (wrongs cs file) ≡ (x || (cut_short file || (wrong || (many_carried file || false))))
      unfolding short_next
      long x e = file_read ∙ ap₂ (λ (y z : Bool). y || (z || (cut_short file || (wrong || (many_carried file || false))))) (le-ltb (length file) 10 h) e

      not_first : {m : Bool} → m ≡ has_key 0 (72 ∷ 78 ∷ []) file → (x : Bool) → m ≡ x → next_not_first file ≡ not x
      unfolding next_not_first has_key
      not_first q x f = ap not (sym q ∙ f)

      pub file_mark : r ≡ true → {m : Bool} → m ≡ has_key 0 (72 ∷ 78 ∷ []) file → m ≡ false → Is
      file_mark e q f = e ∙ sym (long true (not_first q false f))

      module _ {m : Bool} (q : m ≡ has_key 0 (72 ∷ 78 ∷ []) file) (f : m ≡ true) where
        marked : (x y : Bool) → cut_short file ≡ x → wrong ≡ y → holds (wrongs cs file) ≡ (x || (y || (many_carried file || false)))
        marked x y e g = long false (not_first q true f) ∙ ap₂ (λ (z w : Bool). z || (w || (many_carried file || false))) e g

        pub file_cut : r ≡ true → true ≡ cut_short file → Is
        file_cut e g = e ∙ sym (marked true wrong (sym g) refl)

        pub file_wrong : r ≡ true → false ≡ cut_short file → true ≡ wrong → Is
        file_wrong e g k = e ∙ sym (marked false true (sym g) (sym k))

        -- where over 256 are carried, and where not
        module _ (g : false ≡ cut_short file) {n : ℕ} (en : n ≡ count_by (has_key 0 (72 ∷ 67 ∷ [])) (records file)) where
          counted_all : (x : Bool) → ltb 256 n ≡ x → holds (wrongs cs file) ≡ (wrong || (x || false))
          unfolding many_carried is_carried
          counted_all x t = marked false wrong (sym g) refl ∙ ap (λ (y : Bool). wrong || (y || false)) (ap (ltb 256) (sym en) ∙ t)

          pub file_over : r ≡ true → 256 < n → Is
          file_over e k = e ∙ sym (counted_all true (lt-ltb 256 n k) ∙ or-true wrong)

          pub file_records : n ≤ 256 → r ≡ wrong → Is
          file_records k e = e ∙ sym (counted_all false (le-ltb 256 n k) ∙ or-false wrong)

        pub file_many : false ≡ cut_short file → false ≡ wrong → {n : ℕ} → n ≡ count_by (has_key 0 (72 ∷ 67 ∷ [])) (records file) → r ≡ ltb 256 n → Is
        unfolding many_carried is_carried
        file_many g k en e = e ∙ ap (ltb 256) en ∙ sym (or-false (ltb 256 (carried_count file))) ∙ sym (marked false false (sym g) (sym k))

  -- a file that is not refused by number 8 is whole
  pub fine_long : holds (wrongs cs file) ≡ false → 10 ≤ length file
  unfolding short_next
  fine_long e = ltb-false (length file) 10 (or_parts (ltb (length file) 10) from_mark (sym file_read ∙ e)).0

  fine_cut : holds (wrongs cs file) ≡ false → (cut_short file || from_records) ≡ false
  fine_cut e = (or_parts (next_not_first file) (cut_short file || from_records) (or_parts (short_next file) from_mark (sym file_read ∙ e)).1).1

  pub fine_records : holds (wrongs cs file) ≡ false → wrong ≡ false
  fine_records e = (or_parts wrong (many_carried file || false) (or_parts (cut_short file) from_records (fine_cut e)).1).0

  -- then 4 and 5
  module _ (cells room : ℕ) where
    abbrev Says : Result (Unit {0}) Refusal → Type 0
    Says r = r ≡ tested_as (load_tests cs cells room file)

    abbrev fours : Bool → Bool → Bool → Result (Unit {0}) Refusal
    fours x y z = cond x (Err refusal.SavedFile) (cond y (Err refusal.NoCell) (cond z (Err refusal.NoTombstoneRow) (Ok tt)))

    abbrev rest : Bool → Result (Unit {0}) Refusal
    rest x = fours x (ltb (cell_count cells) (carried_count file)) (ltb room (tombstone_count file))

    module _ {w : Bool} (e : w ≡ holds (wrongs cs file)) where
      pub tested_wrong : w ≡ true → Says (Err refusal.SavedFile)
      unfolding load_tests tested_as
      tested_wrong t = ap rest (sym t ∙ e)

      module _ (t : w ≡ false) {c n : ℕ} (ec : c ≡ min 256 (cells / 2064)) (en : n ≡ count_by (has_key 0 (72 ∷ 67 ∷ [])) (records file)) where
        cells_read : (x : Bool) → ltb c n ≡ x → fours false x (ltb room (tombstone_count file)) ≡ tested_as (load_tests cs cells room file)
        unfolding load_tests tested_as cell_count is_carried
        cells_read x f = ap₂ (λ (y z : Bool). fours y z (ltb room (tombstone_count file))) (sym t ∙ e) (sym f ∙ ap₂ ltb ec en)

        pub tested_cells : c < n → Says (Err refusal.NoCell)
        tested_cells f = cells_read true (lt-ltb c n f)

        module _ (f : n ≤ c) {m : ℕ} (em : m ≡ count_by (has_key 0 (72 ∷ 84 ∷ [])) (records file)) where
          rooms_read : (x : Bool) → ltb room m ≡ x → fours false false x ≡ tested_as (load_tests cs cells room file)
          unfolding is_tombstone
          rooms_read x g = ap (fours false false) (sym g ∙ ap (ltb room) em) ∙ cells_read false (le-ltb c n f)

          pub tested_rooms : room < m → Says (Err refusal.NoTombstoneRow)
          tested_rooms g = rooms_read true (lt-ltb room m g)

          pub tested_fine : m ≤ room → Says (Ok tt)
          tested_fine g = rooms_read false (le-ltb room m g)

    -- where nothing is refused, no test holds
    module _ (e : Says (Ok tt)) where
      none_of : (x y z : Bool) → Ok tt ≡ fours x y z → (x ≡ false) × ((y ≡ false) × (z ≡ false))
      none_of true y z f = absurd (cc)
      none_of false true z f = absurd (cc)
      none_of false false true f = absurd (cc)
      none_of false false false f = (refl, (refl, refl))

      pub fine_none : (holds (wrongs cs file) ≡ false) × ((ltb (cell_count cells) (carried_count file) ≡ false) × (ltb room (tombstone_count file) ≡ false))
      unfolding load_tests tested_as
      fine_none = none_of (holds (wrongs cs file)) (ltb (cell_count cells) (carried_count file)) (ltb room (tombstone_count file)) e

  -- and every record has the mark of its blob
  pub fine_kinds : holds (wrongs cs file) ≡ false → any (fails kind_tests) (records file) ≡ false
  fine_kinds e =
      none_any (fails kind_tests) (records file)
      (all_imp (λ r f. (or_parts _ _ (sym (both_tests (next_in file) cs (records file) r _ _ refl refl) ∙ f)).0) (records file)
      (any_none (fails (record_tests (next_in file) cs (records file))) (records file) (fine_records e)))
