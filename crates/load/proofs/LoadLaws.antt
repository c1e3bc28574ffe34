-- Laws of the records, loaded one by one.
-- Assumes nothing.
use Rattle.std.proofs.Common.{mul-le-mul_right, ◌≡◌, ℕ, ◌+◌, ◌-◌, ◌*◌, ◌<◌, ◌≤◌, Bool, true, false, cond, List, [], ◌∷◌, length, drop, sym, refl, ap, ◌∙◌, subst, ap₂, zero-add, arith, length-drop, drop-drop, Option, Some, None}
use borrow.Author.Tests.{not-false}
use Rattle.octets.specs.Bytes.{part, splice, num, same_bytes}
use Rattle.octets.proofs.Compare.{same_eq}
use Rattle.table.specs.Lists.{count_by}
use Rattle.table.specs.Rows.{has_key}
use Rattle.table.specs.Codec.{Codec, with_table, TableNow}
use Rattle.table.proofs.ListLaws.{count_append}
use Rattle.table.proofs.RowLaws.{next_row, written_none, held_all}
use Rattle.table.proofs.TableLaws.{table_then, table_none}
use Rattle.state.specs.declared.Carried.{Carried as HeldCarried}
use Rattle.state.specs.declared.Tombstone.{Tombstone as HeldTombstone}
use Rattle.state.specs.declared.Held.TheVariants as read
use Rattle.state.specs.Held.{Held, held_decode, held_read}
use Rattle.state.specs.Held as held
use Rattle.rows.specs.declared.Carried.{Carried}
use Rattle.rows.specs.declared.Tombstone.{Tombstone}
use Rattle.rows.specs.Rows.{carried_codec, tombstone_codec}
use Rattle.rows.specs.Proper.{ProperTombstone}
use Rattle.rows.proofs.Laws.{carried_laws, tombstone_laws}
use Rattle.model.specs.Basics.{match_some}
use Rattle.history.specs.Order.{empty}
use Rattle.load_tests.specs.Records.{records, is_carried, is_tombstone}
use Rattle.load_tests.specs.Tests.{kind_tests, fails}
use Rattle.load_tests.proofs.BlobLaws.{Decoded, decoded, kind_tested}
use Rattle.load_tests.proofs.RecordLaws.{turn_count}
use Rattle.load_tests.proofs.TestLaws.{none_here, none_next}
use Rattle.load.specs.declared.Counts.{Counts}
use Rattle.load.specs.Load.{insert_by, carried_slot, tombstone_slot, carried_row, tombstone_row, Rows, load_held, load_record, load_records, no_rows, loaded}
use Rattle.load.specs.Laying.{SlotsAscend, Inserted, Carries, Laid, Room, Loads, Fine, Loading}
use Rattle.load.proofs.InsertLaws.{insert_proper, carried_starts, tombstone_starts}
use Rattle.load.proofs.PlaceLaws.{ascend_table, by_slot_lem}

-- ---- what a record's kind says

as_carried : (b : List ℕ) (d : Option Held) → Decoded b d → {r : HeldCarried} → Some (read.Carried r) ≡ held_read d
    → (d ≡ Some (held.carried r (drop 46 b))) × ((46 ≤ length b) × (length b ≤ 2110))
as_carried b None D e = absurd (cc)
as_carried b (Some (held.carried q ct)) D e = (cc, D.1.1)
as_carried b (Some (held.tombstone t)) D e = absurd (cc)

as_tombstone : (d : Option Held) {r : HeldTombstone} → Some (read.Tombstone r) ≡ held_read d → d ≡ Some (held.tombstone r)
as_tombstone None e = cc
as_tombstone (Some (held.carried r ct)) e = cc
as_tombstone (Some (held.tombstone t)) e = cc

module _ (b : List ℕ) where
  -- no record has both marks
  pub carried_alone : is_carried b ≡ true → is_tombstone b ≡ false
  unfolding is_carried is_tombstone has_key same_bytes
  carried_alone e = ap (λ (l : List ℕ). same_bytes l (72 ∷ 84 ∷ [])) (same_eq (part b 0 2) (72 ∷ 67 ∷ []) e)

  pub tombstone_alone : is_tombstone b ≡ true → is_carried b ≡ false
  unfolding is_carried is_tombstone has_key same_bytes
  tombstone_alone e = ap (λ (l : List ℕ). same_bytes l (72 ∷ 67 ∷ [])) (same_eq (part b 0 2) (72 ∷ 84 ∷ []) e)

  module _ (f : fails kind_tests b ≡ false) where
    pub marked_carried : {r : HeldCarried} → Some (read.Carried r) ≡ held_read (held_decode (drop 12 b)) → is_carried b ≡ true
    unfolding is_carried
    marked_carried e = not-false (has_key 0 (72 ∷ 67 ∷ []) b) (kind_tested b _ e ∙ f)

    pub marked_tombstone : {r : HeldTombstone} → Some (read.Tombstone r) ≡ held_read (held_decode (drop 12 b)) → is_tombstone b ≡ true
    unfolding is_tombstone
    marked_tombstone e = not-false (has_key 0 (72 ∷ 84 ∷ []) b) (kind_tested b _ e ∙ f)

    pub some_kind : None ≡ held_read (held_decode (drop 12 b)) → ⊥
    some_kind e = let q : true ≡ false = kind_tested b None e ∙ f in cc

  pub one : (p : List ℕ → Bool) (x : Bool) → p b ≡ x → count_by p (b ∷ []) ≡ cond x 1 0
  unfolding count_by
  one p x e = ap (λ (t : Bool). cond t 1 0) e

-- no row at the front of an area
none_laid : {A : Type 0} (c : Codec A) (a : List ℕ) → 0 < c.width → TableNow c a [] 0 a
unfolding with_table
none_laid c a w = record { count = refl; area = sym (written_none a); table = table_none c a; fits = sym (held_all (length a) c.width 0 w (omega arith)) }

-- ---- a record more

module _ (b : List ℕ) (h : Counts) (x y z : List ℕ) (R : Room b h x y z) where
  module _ {row : HeldCarried} (q : Some (read.Carried row) ≡ held_read (held_decode (drop 12 b))) where
    is_carried_lem : is_carried b ≡ true
    is_carried_lem = marked_carried b R.kind q

    abbrev seen : (held_decode (drop 12 b) ≡ Some (held.carried row (drop 46 (drop 12 b)))) × ((46 ≤ length (drop 12 b)) × (length (drop 12 b) ≤ 2110))
    seen = as_carried (drop 12 b) (held_decode (drop 12 b)) (decoded (drop 12 b)) q

    pub carried_room : ((58 ≤ length b) × (length b ≤ 2122)) × ((h.carried < 65536) × (((h.carried * 57 + 57 ≤ length x) × (h.carried * 2064 + 2064 ≤ length z)) × SlotsAscend 57 h.carried x))
    carried_room =
        let s = seen in
        ((omega (arith, s.1.0, length-drop 12 b), omega (arith, s.1.1, length-drop 12 b)), (R.few, (R.carried is_carried_lem, R.carried_rise)))

    module _ (p : ℕ) (x' z' : List ℕ) (C : Carries b row h.carried x z p x' z') where
      carried_laid : (a t : List ℕ) (l : Rows) → Laid a t l h x y z → Laid a t (load_record l b) (record { carried = p; tombstones = h.tombstones }) x' y z'
      unfolding load_record load_held
      carried_laid a t l L =
          let ct : List ℕ = drop 46 (drop 12 b) in
          let s = seen in
          let ec : drop 58 b ≡ ct = sym (drop-drop 46 12 b) in
          let el : length b - 58 ≡ length ct = omega (arith, ap length ec, length-drop 58 b) in
          let ep : h.carried ≡ length l.carried = L.carried.count in
          let N : Carried = carried_row (num (part b 2 8)) (length b - 58) h.carried row in
          let en : N ≡ carried_row (num (part b 2 8)) (length ct) (length l.carried) row =
          ap₂ (λ (n k : ℕ). carried_row (num (part b 2 8)) n k row) el ep in
          let T : TableNow carried_codec a (insert_by carried_slot N l.carried) p x' =
          table_then carried_laws (insert_by carried_slot N) (λ k. insert_proper carried_slot N l.carried C.table.proper k) C.table.bytes
          (omega (arith, C.table.more)) L.carried C.table.table in
          let M : Laid a t (load_held l (num (part b 2 8)) (held.carried row ct)) (record { carried = p; tombstones = h.tombstones }) x' y z' = record {
            carried = subst (λ (u : Carried). TableNow carried_codec a (insert_by carried_slot u l.carried) p x') en T;
            tombstones = L.tombstones;
            cells = C.cells ∙ (λ j. splice (L.cells j) (ep j * 2064) (ec j));
          } in
          subst (λ (d : Option Held). Laid a t (match_some d (λ (k : Held). load_held l (num (part b 2 8)) k) l) (record { carried = p; tombstones = h.tombstones }) x' y z') (sym s.0) M

      pub loads_carried : length x' ≡ length x → length z' ≡ length z → Loads b h x y z (record { carried = p; tombstones = h.tombstones }) x' y z'
      loads_carried sx sz = record {
        laid = carried_laid;
        carried_size = sx;
        tombstone_size = refl;
        cell_size = sz;
        carried = C.table.more ∙ ap (λ (k : ℕ). h.carried + k) (sym (one b is_carried true is_carried_lem));
        tombstones = omega (arith, one b is_tombstone false (carried_alone b is_carried_lem));
      }

  module _ {row : HeldTombstone} (q : Some (read.Tombstone row) ≡ held_read (held_decode (drop 12 b))) where
    is_tombstone_lem : is_tombstone b ≡ true
    is_tombstone_lem = marked_tombstone b R.kind q

    pub tombstone_room : (h.tombstones * 44 + 44 ≤ length y) × SlotsAscend 44 h.tombstones y
    tombstone_room = (R.tombstone is_tombstone_lem, R.tombstones_rise)

    module _ (m : ℕ) (y' : List ℕ) (new : Tombstone) (slot : ℕ) (es : slot ≡ num (part b 2 8)) (et : new ≡ tombstone_row slot row)
        (I : Inserted tombstone_codec ProperTombstone tombstone_slot new h.tombstones y m y') where
      tombstone_laid : (a t : List ℕ) (l : Rows) → Laid a t l h x y z → Laid a t (load_record l b) (record { carried = h.carried; tombstones = m }) x y' z
      unfolding load_record load_held
      tombstone_laid a t l L =
          let ed : held_decode (drop 12 b) ≡ Some (held.tombstone row) = as_tombstone (held_decode (drop 12 b)) q in
          let en : new ≡ tombstone_row (num (part b 2 8)) row = et ∙ ap (λ (k : ℕ). tombstone_row k row) es in
          let T : TableNow tombstone_codec t (insert_by tombstone_slot new l.tombstones) m y' =
          table_then tombstone_laws (insert_by tombstone_slot new) (λ k. insert_proper tombstone_slot new l.tombstones I.proper k) I.bytes
          (omega (arith, I.more)) L.tombstones I.table in
          let M : Laid a t (load_held l (num (part b 2 8)) (held.tombstone row)) (record { carried = h.carried; tombstones = m }) x y' z = record {
            carried = L.carried;
            tombstones = subst (λ (u : Tombstone). TableNow tombstone_codec t (insert_by tombstone_slot u l.tombstones) m y') en T;
            cells = L.cells;
          } in
          subst (λ (d : Option Held). Laid a t (match_some d (λ (k : Held). load_held l (num (part b 2 8)) k) l) (record { carried = h.carried; tombstones = m }) x y' z) (sym ed) M

      pub loads_tombstone : length y' ≡ length y → Loads b h x y z (record { carried = h.carried; tombstones = m }) x y' z
      loads_tombstone sy = record {
        laid = tombstone_laid;
        carried_size = refl;
        tombstone_size = sy;
        cell_size = refl;
        carried = omega (arith, one b is_carried false (tombstone_alone b is_tombstone_lem));
        tombstones = I.more ∙ ap (λ (k : ℕ). h.tombstones + k) (sym (one b is_tombstone true is_tombstone_lem));
      }

-- ---- all of them

module _ {file a t c : List ℕ} (F : Fine file a t c) where
  pub loading_start : {rs : List (List ℕ)} → rs ≡ records file → Loading file a t c rs (record { carried = 0; tombstones = 0 }) a t c
  unfolding loaded
  loading_start e = rw e (record {
    rows = no_rows c;
    laid = record { carried = none_laid carried_codec a (omega arith); tombstones = none_laid tombstone_codec t (omega arith); cells = refl };
    by_slot = record { carried = empty; tombstones = empty };
    left = refl;
    kinds = F.kinds;
    carried = zero-add (count_by is_carried (records file));
    tombstones = zero-add (count_by is_tombstone (records file));
    carried_size = refl;
    tombstone_size = refl;
    cell_size = refl;
  })

  module _ {rs rest : List (List ℕ)} {b : List ℕ} {h : Counts} {x y z : List ℕ} (S : Loading file a t c rs h x y z) (e : rs ≡ b ∷ rest) where
    count_split : (p : List ℕ → Bool) → count_by p rs ≡ count_by p (b ∷ []) + count_by p rest
    count_split p = ap (count_by p) e ∙ count_append p (b ∷ []) rest

    pub record_room : Room b h x y z
    record_room = record {
      kind = none_here (fails kind_tests) S.kinds e;
      few = omega (arith, S.carried, F.few);
      carried = λ m.
          let o : h.carried + 1 ≤ count_by is_carried (records file) = omega (arith, S.carried, turn_count e is_carried true m) in
          (omega (arith, mul-le-mul_right 57 o, next_row h.carried 57, F.carried, S.carried_size), omega (arith, mul-le-mul_right 2064 o, next_row h.carried 2064, F.cells, S.cell_size));
      tombstone = λ m.
          let o : h.tombstones + 1 ≤ count_by is_tombstone (records file) = omega (arith, S.tombstones, turn_count e is_tombstone true m) in
          omega (arith, mul-le-mul_right 44 o, next_row h.tombstones 44, F.tombstones, S.tombstone_size);
      carried_rise = ascend_table carried_slot carried_starts (omega arith) S.laid.carried S.by_slot.carried;
      tombstones_rise = ascend_table tombstone_slot tombstone_starts (omega arith) S.laid.tombstones S.by_slot.tombstones;
    }

    pub loading_next : {h' : Counts} {x' y' z' : List ℕ} → Loads b h x y z h' x' y' z' → Loading file a t c rest h' x' y' z'
    unfolding load_records
    loading_next D = record {
      rows = load_record S.rows b;
      laid = D.laid a t S.rows S.laid;
      by_slot = by_slot_lem S.rows b S.by_slot;
      left = ap (load_records S.rows) (sym e) ∙ S.left;
      kinds = none_next (fails kind_tests) S.kinds e;
      carried = omega (arith, D.carried, count_split is_carried, S.carried);
      tombstones = omega (arith, D.tombstones, count_split is_tombstone, S.tombstones);
      carried_size = D.carried_size ∙ S.carried_size;
      tombstone_size = D.tombstone_size ∙ S.tombstone_size;
      cell_size = D.cell_size ∙ S.cell_size;
    }

pub loading_end : {file a t c : List ℕ} {rs : List (List ℕ)} {h : Counts} {x y z : List ℕ} → Loading file a t c rs h x y z → rs ≡ [] → Laid a t (loaded c file) h x y z
unfolding load_records
loading_end {a = a} {t} {h = h} {x} {y} {z} S e =
    subst (λ (l : Rows). Laid a t l h x y z) (ap (load_records S.rows) (sym e) ∙ S.left) S.laid
