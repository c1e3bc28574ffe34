-- After a load the tables are in order, whatever the order in the file.
-- Assumes nothing.
use Rattle.std.proofs.Common.{◌≡◌, ℕ, zero, suc, ◌+◌, ◌-◌, ◌*◌, ◌/◌, ◌<◌, ◌≤◌, min, Bool, true, false, cond, ◌||◌, ltb, leb, List, [], ◌∷◌, length, drop, sym, refl, ap, ◌∙◌, subst, ap₂, zero-add, arith, length-drop, ltb-false, ltb-true, leb-false, Option, Some, None, Ok}
use Rattle.std.proofs.lemmas.Bool.{cond_both, or_parts}
use Rattle.std.proofs.Math.Arith.{lt_of_le-ne}
use Rattle.octets.specs.Bytes.{Bytes, part, num, be, same_bytes}
use Rattle.octets.proofs.Parts.{length_part, length_splice}
use Rattle.octets.proofs.Compare.{same_refl}
use Rattle.octets.proofs.Numbers.{be_num_part, bytes_take, bytes_drop}
use Rattle.table.specs.Lists.{All, any, count_by, position, unwrap_or}
use Rattle.table.specs.Lists as lists
use Rattle.table.specs.Rows.{has_key}
use Rattle.table.proofs.ListLaws.{all_imp, length_insert_at, count_append}
use Rattle.table.proofs.FindLaws.{any_none, position_le}
use Rattle.state.specs.Held.{Held, held_decode, held_read}
use Rattle.state.specs.Held as held
use Rattle.rows.specs.declared.Contact.{Contact}
use Rattle.rows.specs.declared.Carried.{Carried}
use Rattle.rows.specs.declared.Tombstone.{Tombstone}
use Rattle.model.specs.Basics.{match_some}
use Rattle.model.specs.State.{State, apply}
use Rattle.model.specs.Calls.{Result, done}
use Rattle.model.specs.Cells.{cell_count}
use Rattle.model.proofs.FetchLaws.{count_zero}
use Rattle.history.specs.Order.{Sorted, empty, next, HeldOrder}
use Rattle.history.proofs.SortedLaws.{all_both, head_all, sorted_insert, sorted_insert_at}
use Rattle.load_tests.specs.Records.{record_size, records_in, records_at, records, slot_in, is_carried, counted}
use Rattle.load_tests.specs.Tests.{strange_mark, refused_blob, other_kind, slot_past, slot_twice, unknown_depositor, tag_twice, many_of_one, kind_tests, record_tests, fails, next_in, carried_count, load_tests, tested_as}
use Rattle.load_tests.proofs.BlobLaws.{Decoded, decoded}
use Rattle.load_tests.proofs.TestLaws.{fine_records, fine_none}
use Rattle.load_tests.proofs.RecordLaws.{records_long, turn_count}
use Rattle.load.specs.Load.{insert_by, carried_slot, tombstone_slot, carried_row, tombstone_row, Rows, load_held, load_record, load_records, no_rows, loaded, load_held_rows, load_step}
pub use Rattle.load.proofs.InsertLaws.{insert_proper as all_by}
use Rattle.load.proofs.CallLaws.{load_cases, not_done}
use Rattle.load.proofs.LoadLaws.{some_kind, marked_carried, marked_tombstone, tombstone_alone}

abbrev pub slot_of : List ℕ → ℕ
slot_of b = num (slot_in b)

-- ---- what the tests leave of the slots of a file

-- a record that passed
pub record Passed (limit : ℕ) (cs : List Contact) (rs : List (List ℕ)) (b : List ℕ) : Type 0 where
  pub kinds : fails kind_tests b ≡ false
  pub below : slot_of b < limit
  pub once : count_by (counted false 2 (slot_in b)) rs ≤ 1
  pub depositor : unknown_depositor cs b ≡ false
  pub tag_once : tag_twice rs b ≡ false
  pub few : many_of_one rs b ≡ false

pub passed : (limit : ℕ) (cs : List Contact) (rs : List (List ℕ)) (b : List ℕ) → fails (record_tests limit cs rs) b ≡ false → Passed limit cs rs b
unfolding fails any slot_past slot_twice
passed limit cs rs b e =
    let f1 = or_parts (strange_mark b) _ e in
    let f2 = or_parts (refused_blob b) _ f1.1 in
    let f3 = or_parts (other_kind b) _ f2.1 in
    let f4 = or_parts (leb limit (slot_of b)) _ f3.1 in
    let f5 = or_parts (ltb 1 (count_by (counted false 2 (slot_in b)) rs)) _ f4.1 in
    let f6 = or_parts (unknown_depositor cs b) _ f5.1 in
    let f7 = or_parts (tag_twice rs b) _ f6.1 in
    record {
      kinds = λ j. f1.0 j || (f2.0 j || (f3.0 j || false));
      below = leb-false limit (slot_of b) f4.0;
      once = ltb-false 1 (count_by (counted false 2 (slot_in b)) rs) f5.0;
      depositor = f6.0;
      tag_once = f7.0;
      few = (or_parts (many_of_one rs b) _ f7.1).0;
    }

-- records are bytes, and hold their slot
abbrev pub Whole : List ℕ → Type 0
Whole b = Bytes b × (12 ≤ length b)

has_own : (b : List ℕ) → Whole b → counted false 2 (slot_in b) b ≡ true
unfolding counted has_key
has_own b w = ap (λ (k : ℕ). same_bytes (part b 2 k) (part b 2 8)) (length_part b 2 8 (omega (arith, w.1))) ∙ same_refl (part b 2 8)

differ : (b c : List ℕ) → Whole b → Whole c → counted false 2 (slot_in b) c ≡ false → slot_of b ≡ slot_of c → ⊥
unfolding counted has_key
differ b c w v e q =
    let s : part b 2 8 ≡ part c 2 8 =
    sym (be_num_part b 2 8 (omega (arith, w.1)) w.0) ∙ ap (be 8) q ∙ be_num_part c 2 8 (omega (arith, v.1)) v.0 in
    let t : true ≡ false =
    sym (same_refl (part c 2 8)) ∙ ap₂ (λ (k : ℕ) (l : List ℕ). same_bytes (part c 2 k) l) (sym (length_part b 2 8 (omega (arith, w.1)))) (sym s) ∙ e in
    cc

-- the first, and the others
module _ {A : Type 0} {x : A} {xs : List A} where
  pub head_of : {P : A → Type 0} → All P (x ∷ xs) → P x
  head_of (lists.more p a) = p

  pub rest_of : {P : A → Type 0} → All P (x ∷ xs) → All P xs
  rest_of (lists.more p a) = a

  pub rest_away : {R : A → A → Type 0} → Sorted R (x ∷ xs) → Sorted R xs
  rest_away (next a s) = s

-- each of some records is like itself, and at most one of all is like it: of two that follow each other the second is not like the first
under : {A X : Type 0} {P : A → Type 0} (ds : List A) → (X → All P ds) → All (λ (d : A). X → P d) ds
under [] f = lists.none
under (d ∷ ds) f = lists.more (λ q. head_of (f q)) (under ds (λ q. rest_of (f q)))

pub counted_apart : (like : List ℕ → List ℕ → Bool) (Q : List ℕ → Type 0) (rs : List (List ℕ)) → All (λ (b : List ℕ). Q b → like b b ≡ true) rs
    → All (λ (b : List ℕ). Q b → count_by (like b) rs ≤ 1) rs → Sorted (λ (a b : List ℕ). Q a → like a b ≡ false) rs
unfolding count_by
counted_apart like Q [] w c = empty
counted_apart like Q (b ∷ rs) (lists.more v w) (lists.more h c) =
    next (under rs (λ q. count_zero (like b) rs (omega (arith, own q, h q))))
    (counted_apart like Q rs w (all_imp (λ d k q. omega (arith, k q, count_append (like d) (b ∷ []) rs)) rs c))
  where
    own : Q b → count_by (like b) (b ∷ rs) ≡ suc (count_by (like b) rs)
    own q = ap (λ (x : Bool). cond x (suc (count_by (like b) rs)) (count_by (like b) rs)) (v q)

pub sorted_with : {A : Type 0} {W : A → Type 0} {R S : A → A → Type 0} → ((x y : A) → W x → W y → R x y → S x y) → (xs : List A) → All W xs → Sorted R xs → Sorted S xs
sorted_with f [] w s = empty
sorted_with f (x ∷ xs) (lists.more v w) (next a s) = next (all_imp (λ y q. f x y v q.0 q.1) xs (all_both xs w a)) (sorted_with f xs w s)

pub slots_differ : (rs : List (List ℕ)) → All Whole rs → All (λ (b : List ℕ). count_by (counted false 2 (slot_in b)) rs ≤ 1) rs
    → Sorted (λ (a b : List ℕ). slot_of a ≡ slot_of b → ⊥) rs
slots_differ rs w c =
    sorted_with (λ a b v x e. differ a b v x (e tt)) rs w
    (counted_apart (λ (b : List ℕ). counted false 2 (slot_in b)) (λ (b : List ℕ). Unit {0}) rs (all_imp (λ b v q. has_own b v) rs w) (all_imp (λ b k q. k) rs c))

-- ---- the order so far

-- what is loaded stands in order, and the slots of the records left are none of its
pub record Ordered (limit size total : ℕ) (l : Rows) (rs : List (List ℕ)) : Type 0 where
  pub carried_rise : Sorted (λ (a b : Carried). a.slot < b.slot) l.carried
  pub carried_below : All (λ (r : Carried). r.slot < limit) l.carried
  pub tombstones_rise : Sorted (λ (a b : Tombstone). a.slot < b.slot) l.tombstones
  pub tombstones_below : All (λ (t : Tombstone). t.slot < limit) l.tombstones
  pub apart : All (λ (r : Carried). All (λ (t : Tombstone). r.slot ≡ t.slot → ⊥) l.tombstones) l.carried
  pub cells_differ : Sorted (λ (a b : Carried). a.cell ≡ b.cell → ⊥) l.carried
  pub in_cells : All (λ (r : Carried). (r.cell < length l.carried) × (r.len ≤ 2064)) l.carried
  pub sized : length l.cells ≡ size
  pub count : length l.carried + count_by is_carried rs ≡ total
  pub fresh_carried : All (λ (b : List ℕ). All (λ (r : Carried). r.slot ≡ slot_of b → ⊥) l.carried) rs
  pub fresh_tombstones : All (λ (b : List ℕ). All (λ (t : Tombstone). t.slot ≡ slot_of b → ⊥) l.tombstones) rs
  pub slots : Sorted (λ (a b : List ℕ). slot_of a ≡ slot_of b → ⊥) rs
  pub kinds : All (λ (b : List ℕ). fails kind_tests b ≡ false) rs
  pub below : All (λ (b : List ℕ). slot_of b < limit) rs

module _ {A : Type 0} (key : A → ℕ) where
  pub length_by : (t : A) (ts : List A) → length (insert_by key t ts) ≡ length ts + 1
  unfolding insert_by
  length_by t ts = length_insert_at ts (unwrap_or (length ts) (position (λ (r : A). ltb (key t) (key r)) ts)) t (position_le (λ (r : A). ltb (key t) (key r)) ts)

  -- slots rise on, if no row has the new one's
  rise_by : (t : A) (ts : List A) → All (λ (r : A). key r ≡ key t → ⊥) ts → Sorted (λ (a b : A). key a < key b) ts → Sorted (λ (a b : A). key a < key b) (insert_by key t ts)
  unfolding insert_by
  rise_by t ts n s =
      sorted_insert (λ (r : A). ltb (key t) (key r)) t ts (λ a b c p q. omega (arith, p, q))
      (all_imp (λ r ne e. lt_of_le-ne (ltb-false (key t) (key r) e) ne) ts n)
      (all_imp (λ r ne e. ltb-true (key t) (key r) e) ts n) s

  pub differ_by : (R : A → A → Type 0) (t : A) (ts : List A) → All (λ (r : A). R r t) ts → All (R t) ts → Sorted R ts → Sorted R (insert_by key t ts)
  unfolding insert_by
  differ_by R t ts a b s = sorted_insert_at _ t ts a b s

module _ (limit size total : ℕ) (room : total * 2064 ≤ size) (l : Rows) (b : List ℕ) (rs : List (List ℕ)) (O : Ordered limit size total l (b ∷ rs)) where
  ordered_carried : (r : _) (ct : List ℕ) → is_carried b ≡ true → length ct ≤ 2064 → Ordered limit size total (load_held l (slot_of b) (held.carried r ct)) rs
  unfolding load_held
  ordered_carried r ct m h =
      let n : Carried = carried_row (slot_of b) (length ct) (length l.carried) r in
      let k = turn_count {rs = rs} {r = b} refl is_carried true m in
      let c = length_by carried_slot n l.carried in
      record {
        carried_rise = rise_by carried_slot n l.carried (head_of O.fresh_carried) O.carried_rise;
        carried_below = all_by carried_slot n l.carried (head_of O.below) O.carried_below;
        tombstones_rise = O.tombstones_rise;
        tombstones_below = O.tombstones_below;
        apart = all_by carried_slot n l.carried (all_imp (λ t f e. f (sym e)) l.tombstones (head_of O.fresh_tombstones)) O.apart;
        cells_differ = differ_by carried_slot (λ (x y : Carried). x.cell ≡ y.cell → ⊥) n l.carried
            (all_imp (λ x p e. omega (arith, p.0, e)) l.carried O.in_cells) (all_imp (λ x p e. omega (arith, p.0, e)) l.carried O.in_cells) O.cells_differ;
        in_cells = all_by carried_slot n l.carried (omega (arith, c), h) (all_imp (λ x p. (omega (arith, p.0, c), p.1)) l.carried O.in_cells);
        sized = length_splice l.cells (length l.carried * 2064) ct (omega (arith, O.count, k, O.sized)) ∙ O.sized;
        count = omega (arith, O.count, k, c);
        fresh_carried = all_imp (λ d k. all_by carried_slot n l.carried k.0 k.1) rs (all_both rs (head_all O.slots) (rest_of O.fresh_carried));
        fresh_tombstones = rest_of O.fresh_tombstones;
        slots = rest_away O.slots;
        kinds = rest_of O.kinds;
        below = rest_of O.below;
      }

  ordered_tombstone : (t : _) → is_carried b ≡ false → Ordered limit size total (load_held l (slot_of b) (held.tombstone t)) rs
  unfolding load_held
  ordered_tombstone t m =
      let n : Tombstone = tombstone_row (slot_of b) t in
      let k = turn_count {rs = rs} {r = b} refl is_carried false m in
      record {
        carried_rise = O.carried_rise;
        carried_below = O.carried_below;
        tombstones_rise = rise_by tombstone_slot n l.tombstones (head_of O.fresh_tombstones) O.tombstones_rise;
        tombstones_below = all_by tombstone_slot n l.tombstones (head_of O.below) O.tombstones_below;
        apart = all_imp (λ r k. all_by tombstone_slot n l.tombstones k.0 k.1) l.carried (all_both l.carried (head_of O.fresh_carried) O.apart);
        cells_differ = O.cells_differ;
        in_cells = O.in_cells;
        sized = O.sized;
        count = omega (arith, O.count, k);
        fresh_carried = rest_of O.fresh_carried;
        fresh_tombstones = all_imp (λ d k. all_by tombstone_slot n l.tombstones k.0 k.1) rs (all_both rs (head_all O.slots) (rest_of O.fresh_tombstones));
        slots = rest_away O.slots;
        kinds = rest_of O.kinds;
        below = rest_of O.below;
      }

  pub ordered_next : Ordered limit size total (load_record l b) rs
  unfolding load_record
  ordered_next = go (held_decode (drop 12 b)) refl (decoded (drop 12 b))
    where
      go : (d : Option Held) → held_decode (drop 12 b) ≡ d → Decoded (drop 12 b) (held_decode (drop 12 b))
          → Ordered limit size total (match_some d (λ (h : Held). load_held l (slot_of b) h) l) rs
      go None e D = absurd (some_kind b (head_of O.kinds) (ap held_read (sym e)))
      go (Some (held.carried r ct)) e D =
          let v : Decoded (drop 12 b) (Some (held.carried r ct)) = subst (Decoded (drop 12 b)) e D in
          ordered_carried r ct (marked_carried b (head_of O.kinds) (ap held_read (sym e)))
          (omega (arith, ap length v.1.0, length-drop 46 (drop 12 b), v.1.1.1))
      go (Some (held.tombstone t)) e D =
          ordered_tombstone t (tombstone_alone b (marked_tombstone b (head_of O.kinds) (ap held_read (sym e))))

pub ordered_all : (limit size total : ℕ) → total * 2064 ≤ size → (l : Rows) (rs : List (List ℕ)) → Ordered limit size total l rs → Ordered limit size total (load_records l rs) []
unfolding load_records
ordered_all limit size total h l [] O = O
ordered_all limit size total h l (b ∷ rs) O = ordered_all limit size total h (load_record l b) rs (ordered_next limit size total h l b rs O)

-- ---- a file that is fine

whole_in : (n : ℕ) (b : List ℕ) → Bytes b → All Bytes (records_in n b)
unfolding records_in
whole_in zero b w = lists.none
whole_in (suc n) b w =
    cond_both (leb (record_size b) (length b)) _ _ (All Bytes)
    (λ e. lists.more (bytes_take (record_size b) b w) (whole_in n (drop (record_size b) b) (bytes_drop (record_size b) b w))) (λ e. lists.none)

pub records_whole : (file : List ℕ) → Bytes file → All Whole (records file)
unfolding records_at
records_whole file w = all_both _ (whole_in (length file - 10) (drop 10 file) (bytes_drop 10 file w)) (records_long file)

module _ (cs : List Contact) (cells : List ℕ) (room : ℕ) (file : List ℕ) (e : Ok tt ≡ tested_as (load_tests cs (length cells) room file)) where
  pub fine_cells : carried_count file ≤ cell_count (length cells)
  fine_cells = ltb-false (cell_count (length cells)) (carried_count file) (fine_none cs file (length cells) room e).1.0

  pub fine_passed : All (Passed (next_in file) cs (records file)) (records file)
  fine_passed =
      all_imp (passed (next_in file) cs (records file)) (records file)
      (any_none (fails (record_tests (next_in file) cs (records file))) (records file) (fine_records cs file (fine_none cs file (length cells) room e).0))

  -- what is loaded from a file that is fine is in order
  pub loaded_ordered : Bytes file → Ordered (next_in file) (length cells) (carried_count file) (loaded cells file) []
  unfolding loaded cell_count
  loaded_ordered w =
      let rs : List (List ℕ) = records file in
      let v : All Whole rs = records_whole file w in
      let p : All (Passed (next_in file) cs rs) rs = fine_passed in
      let c : carried_count file ≤ min 256 (length cells / 2064) = fine_cells in
      ordered_all (next_in file) (length cells) (carried_count file) (omega arith) (no_rows cells) rs (record {
        carried_rise = empty;
        carried_below = lists.none;
        tombstones_rise = empty;
        tombstones_below = lists.none;
        apart = lists.none;
        cells_differ = empty;
        in_cells = lists.none;
        sized = refl;
        count = zero-add (carried_count file);
        fresh_carried = all_imp (λ d k. lists.none) rs v;
        fresh_tombstones = all_imp (λ d k. lists.none) rs v;
        slots = slots_differ rs v (all_imp (λ d k. k.once) rs p);
        kinds = all_imp (λ d k. k.kinds) rs p;
        below = all_imp (λ d k. k.below) rs p;
      })

  pub loaded_order : Bytes file → HeldOrder (loaded cells file).carried (loaded cells file).tombstones (next_in file) (loaded cells file).cells
  unfolding count_by
  loaded_order w =
      let O = loaded_ordered w in
      let size : cell_count (length (loaded cells file).cells) ≡ cell_count (length cells) = ap cell_count O.sized in
      record {
        carried_rise = O.carried_rise;
        carried_below = O.carried_below;
        tombstones_rise = O.tombstones_rise;
        tombstones_below = O.tombstones_below;
        apart = O.apart;
        cells_differ = O.cells_differ;
        in_cells = all_imp (λ r k. (omega (arith, k.0, O.count, fine_cells, size), k.1)) (loaded cells file).carried O.in_cells;
      }

-- After a load that is not refused the tables of the state are in order, whatever they were.
pub load_order : (s : State) (file : List ℕ) → Bytes file → (load_step s file).answer ≡ done
    → let t : State = apply s (load_step s file).change in HeldOrder t.carried t.tombstones t.next_slot t.carried_cells
unfolding load_held_rows apply
load_order s file w =
    load_cases s file Done (λ why e. absurd (not_done why e)) (λ f e. loaded_order s.contacts s.carried_cells s.tombstone_rows file f w)
  where
    Done : Result → Type 0
    Done o = o.answer ≡ done → HeldOrder (apply s o.change).carried (apply s o.change).tombstones (apply s o.change).next_slot (apply s o.change).carried_cells
