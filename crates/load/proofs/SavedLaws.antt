-- What a post saves and then loads: the file read back record by record, and the same held rows.
-- Assumes nothing.
use Rattle.std.proofs.Common.{◌≡◌, ℕ, suc, ◌+◌, ◌-◌, ◌*◌, ◌^◌, ◌<◌, ◌≤◌, Bool, true, false, not, ltb, leb, List, [], ◌∷◌, ◌++◌, map, length, take, drop, sym, refl, ap, ◌∙◌, subst, ap₂, append_assoc, append-nil, arith, length-append, drop_of_length-le, length-take, take_all, take_at, drop_at, le-ltb, Option, Some, None}
use Rattle.std.proofs.lemmas.Bool.{cond_both}
use mathlib.Core.List.{map-append}
use lib.ListN.{length-map}
use Rattle.octets.specs.Bytes.{part, splice, num, be}
use Rattle.octets.proofs.Parts.{part_left, part_hit, part_whole, length_part}
use Rattle.octets.proofs.Numbers.{length_be, num_be}
use Rattle.table.specs.Lists.{All, filter, insert_at, position_from, position, unwrap_or}
use Rattle.table.specs.Lists as lists
use Rattle.table.specs.Rows.{join}
use Rattle.table.proofs.ListLaws.{all_append, all_each, all_imp, all_push, all_map, filter_all}
use Rattle.history.specs.Order.{Sorted, empty, next, InCell}
use Rattle.history.proofs.SortedLaws.{all_both, all_unmap}
use Rattle.history.proofs.CellLaws.{in_area, inside, length_after, ciphertext_new, ciphertext_kept}
use Rattle.state.specs.declared.Carried.{Carried as HeldCarried}
use Rattle.state.specs.declared.Tombstone.{Tombstone as HeldTombstone}
use Rattle.state.specs.Held.{Held, held_row, held_decode}
use Rattle.state.specs.Held as held
use Rattle.rows.specs.declared.Carried.{Carried}
use Rattle.rows.specs.declared.Tombstone.{Tombstone}
use Rattle.model.specs.Basics.{match_some, merge}
use Rattle.model.specs.Cells.{ciphertext, cell_count}
use Rattle.model.specs.Saved.{Slotted, carried_held, tombstone_held, held_mark, saved_record, saved_file, saved_rows, save_held, held_rows}
use Rattle.model.proofs.Laws.{all_merge}
use Rattle.load_tests.specs.Records.{record_size, records_in, records_at, records, slot_in}
use Rattle.model.specs.Calls.{Result, done}
use Rattle.load.proofs.CallLaws.{load_cases, not_done}
use Rattle.load_tests.specs.Tests.{next_in}
use Rattle.load_tests.proofs.RecordLaws.{size_least, records_none, records_next}
use Rattle.courier.specs.Courier.{carried_length}
use Rattle.state.proofs.RowLaws.{ProperTombstone as ProperHeldTombstone}
use Rattle.state.proofs.HeldLaws.{ProperCarried as ProperHeld, length_row, carried_back, tombstone_back}
use Rattle.rows.specs.Proper.{ProperCarried, ProperTombstone}
use Rattle.model.specs.State.{State, apply}
use Rattle.load.specs.Reload.{ReadBack, Savable}
use Rattle.load.specs.Load.{insert_by, carried_slot, tombstone_slot, carried_row, tombstone_row, Rows, load_held, load_record, load_records, no_rows, loaded, load_held_rows, load_step}

-- ---- the records of a saved file are those of its rows

-- a row that is read back: its slot and length fit their bytes, and `decode` takes its blob
pub record Back (h : Slotted) : Type 0 where
  pub slot : h.slot < 2 ^ 64
  pub short : length (held_row h.held) < 65536
  pub read : held_decode (held_row h.held) ≡ Some h.held

length_mark : (h : Held) → length (held_mark h) ≡ 2
length_mark (held.carried r ct) = refl
length_mark (held.tombstone t) = refl

-- the length of its blob fits two bytes
abbrev pub Short : Slotted → Type 0
Short h = length (held_row h.held) < 65536

module _ (h : Slotted) where
  abbrev row : List ℕ
  row = held_row h.held

  abbrev head : List ℕ
  head = held_mark h.held ++ be 8 h.slot

  length_head : length head ≡ 10
  length_head = omega (arith, length-append (held_mark h.held) (be 8 h.slot), length_mark h.held, length_be 8 h.slot)

  length_front : length (head ++ be 2 (length row)) ≡ 12
  length_front = omega (arith, length-append head (be 2 (length row)), length_head, length_be 2 (length row))

  pub length_saved : length (saved_record h) ≡ 12 + length row
  unfolding saved_record
  length_saved = omega (arith, length-append (head ++ be 2 (length row)) row, length_front)

  size_saved : Short h → (x : List ℕ) → record_size (saved_record h ++ x) ≡ length (saved_record h)
  unfolding record_size saved_record
  size_saved s x =
      let e : part (head ++ be 2 (length row) ++ row ++ x) 10 2 ≡ be 2 (length row) =
      part_left (head ++ be 2 (length row) ++ row) x 10 2 (omega (arith, length_saved))
      ∙ part_left (head ++ be 2 (length row)) row 10 2 (omega (arith, length_front)) ∙ part_hit head (be 2 (length row)) 10 2 length_head (length_be 2 (length row)) in
      ap (λ (k : List ℕ). 12 + num k) e ∙ ap (λ (k : ℕ). 12 + k) (num_be 2 (length row) (omega (arith, s))) ∙ sym length_saved

  -- what stands in it
  pub mark_saved : part (saved_record h) 0 2 ≡ held_mark h.held
  unfolding saved_record
  mark_saved =
      part_left (head ++ be 2 (length row)) row 0 2 (omega (arith, length_front)) ∙ part_left head (be 2 (length row)) 0 2 (omega (arith, length_head))
      ∙ part_left (held_mark h.held) (be 8 h.slot) 0 2 (omega (arith, length_mark h.held)) ∙ part_whole (held_mark h.held) 2 (length_mark h.held)

  pub slot_saved : slot_in (saved_record h) ≡ be 8 h.slot
  unfolding saved_record
  slot_saved =
      part_left (head ++ be 2 (length row)) row 2 8 (omega (arith, length_front)) ∙ part_left head (be 2 (length row)) 2 8 (omega (arith, length_head))
      ∙ part_hit (held_mark h.held) (be 8 h.slot) 2 8 (length_mark h.held) (length_be 8 h.slot)

  pub blob_saved : drop 12 (saved_record h) ≡ row
  unfolding saved_record
  blob_saved = drop_at (head ++ be 2 (length row)) row 12 length_front

  -- one record is one row
  pub record_loaded : Back h → (l : Rows) → load_record l (saved_record h) ≡ load_held l h.slot h.held
  unfolding load_record
  record_loaded B l =
      ap₂ (λ (d : Option Held) (n : ℕ). match_some d (λ (k : Held). load_held l n k) l) (ap held_decode blob_saved ∙ B.read) (ap num slot_saved ∙ num_be 8 h.slot B.slot)

abbrev bytes_of : List Slotted → List ℕ
bytes_of hs = join (map saved_record hs)

records_in_lem : (hs : List Slotted) → All Short hs → records_in (length (bytes_of hs)) (bytes_of hs) ≡ map saved_record hs
unfolding join
records_in_lem [] a = records_none 0 [] (omega (arith, size_least []))
records_in_lem (h ∷ hs) (lists.more B a) =
    let b : List ℕ = saved_record h in
    let x : List ℕ = bytes_of hs in
    records_next (b ++ x) (length b) (sym (size_saved h B x)) (omega (arith, length-append b x))
    ∙ ap₂ (λ (p q : List ℕ). p ∷ records_in (length q) q) (take_at b x (length b) refl) (drop_at b x (length b) refl)
    ∙ ap (λ (r : List (List ℕ)). b ∷ r) (records_in_lem hs a)

pub records_saved : (slot : ℕ) (hs : List Slotted) → All Short hs → records (saved_file slot hs) ≡ map saved_record hs
unfolding records_at saved_file
records_saved slot hs a =
    let head : List ℕ = (72 ∷ 78 ∷ []) ++ be 8 slot in
    let lh : length head ≡ 10 = omega (arith, length_be 8 slot) in
    let n : length (head ++ bytes_of hs) - 10 ≡ length (bytes_of hs) = omega (arith, length-append head (bytes_of hs)) in
    ap₂ records_in n (drop_at head (bytes_of hs) 10 lh) ∙ records_in_lem hs a

-- ---- loading the rows of a saved file

unfoldable pub load_rows : Rows → List Slotted → Rows
load_rows l [] = l
load_rows l (h ∷ hs) = load_rows (load_held l h.slot h.held) hs

rows_loaded : (l : Rows) (hs : List Slotted) → All Back hs → load_records l (map saved_record hs) ≡ load_rows l hs
unfolding load_records load_rows
rows_loaded l [] a = refl
rows_loaded l (h ∷ hs) (lists.more B a) = ap (λ (k : Rows). load_records k (map saved_record hs)) (record_loaded h B l) ∙ rows_loaded (load_held l h.slot h.held) hs a

pub loaded_saved : (cells : List ℕ) (slot : ℕ) (hs : List Slotted) → All Back hs → loaded cells (saved_file slot hs) ≡ load_rows (no_rows cells) hs
unfolding loaded
loaded_saved cells slot hs a = ap (load_records (no_rows cells)) (records_saved slot hs (all_imp (λ h B. B.short) hs a)) ∙ rows_loaded (no_rows cells) hs a

-- ---- rows that come by slot are put in at the end

not_found : {A : Type 0} (p : A → Bool) (i : ℕ) (xs : List A) → All (λ (x : A). p x ≡ false) xs → position_from i p xs ≡ None
unfolding position_from
not_found p i [] a = refl
not_found p i (x ∷ xs) (lists.more e a) = rw (e, not_found p (suc i) xs a)

insert_last : {A : Type 0} (key : A → ℕ) (t : A) (ts : List A) → All (λ (r : A). key r < key t) ts → insert_by key t ts ≡ ts ++ (t ∷ [])
unfolding insert_by insert_at
insert_last key t ts a =
    let e : position (λ (r : _). ltb (key t) (key r)) ts ≡ None =
    not_found (λ (r : _). ltb (key t) (key r)) 0 ts (all_imp (λ r k. le-ltb (key t) (key r) (omega (arith, k))) ts a) in
    ap (λ (f : Option ℕ). take (unwrap_or (length ts) f) ts ++ (t ∷ drop (unwrap_or (length ts) f) ts)) e
    ∙ ap₂ (λ (x y : List _). x ++ (t ∷ y)) (take_all (length ts) ts (omega arith)) (drop_of_length-le ts {i = length ts} (omega arith))

map_same : {A B : Type 0} (f g : A → B) (xs : List A) → All (λ (x : A). f x ≡ g x) xs → map f xs ≡ map g xs
map_same f g [] a = refl
map_same f g (x ∷ xs) (lists.more e a) = rw (e, map_same f g xs a)

-- ---- the rows so far, as they were saved

-- the fields of a row that are saved
abbrev pub as_held : Carried → HeldCarried
as_held r = record { depositor = r.depositor; header = record { tag = r.tag; c = r.c; expiry_min = r.expiry_min; copies = r.copies } }

pub record Kept (size : ℕ) (l : Rows) (cs ts : List Slotted) : Type 0 where
  pub carried : map (carried_held l.cells) l.carried ≡ cs
  pub tombstones : map tombstone_held l.tombstones ≡ ts
  pub in_cells : All (λ (r : Carried). (r.cell < length l.carried) × (r.len ≤ 2064)) l.carried
  pub sized : length l.cells ≡ size

module _ (size : ℕ) (l : Rows) (cs ts : List Slotted) (K : Kept size l cs ts) (slot : ℕ) where
  abbrev at : ℕ
  at = length l.carried * 2064

  module _ (r : HeldCarried) (ct : List ℕ) (short : length ct ≤ 2064) (room : length l.carried < cell_count size) (low : All (λ (h : Slotted). h.slot < slot) cs) where
    abbrev cells : List ℕ
    cells = splice l.cells at ct

    here : length l.carried < cell_count (length l.cells)
    here = omega (arith, room, ap cell_count K.sized)

    same_size : length cells ≡ length l.cells
    same_size = length_after l.cells (length l.carried) ct here short

    -- the ciphertexts before it stay, and its own is there
    before : (c : Carried) → (c.cell < length l.carried) × (c.len ≤ 2064) → carried_held cells c ≡ carried_held l.cells c
    unfolding carried_held
    before c h =
        ap (λ (x : List ℕ). record {
          slot = c.slot;
          held = held.carried (as_held c) x;
        }) (ciphertext_kept l.cells (length l.carried) ct here short c.cell c.len (omega (arith, here, h.0)) h.1 (λ e. omega (arith, e, h.0)))

    abbrev new : Carried
    new = carried_row slot (length ct) (length l.carried) r

    own : carried_held cells new ≡ record { slot = slot; held = held.carried r ct }
    unfolding carried_held
    own = ap (λ (x : List ℕ). record { slot = slot; held = held.carried r x }) (ciphertext_new l.cells (length l.carried) ct here short)

    pub kept_carried : Kept size (load_held l slot (held.carried r ct)) (cs ++ (record { slot = slot; held = held.carried r ct } ∷ [])) ts
    unfolding load_held carried_held
    kept_carried =
        let rises : All (λ (c : Carried). c.slot < slot) l.carried = all_unmap (carried_held l.cells) l.carried (subst (All (λ (h : Slotted). h.slot < slot)) (sym K.carried) low) in
        let e : insert_by carried_slot new l.carried ≡ l.carried ++ (new ∷ []) = insert_last carried_slot new l.carried rises in
        let n : length (insert_by carried_slot new l.carried) ≡ length l.carried + 1 = ap length e ∙ length-append l.carried (new ∷ []) in
        record {
          carried = ap (map (carried_held cells)) e ∙ map-append (carried_held cells) l.carried (new ∷ [])
              ∙ ap₂ (λ (x : List Slotted) (y : Slotted). x ++ (y ∷ [])) (map_same (carried_held cells) (carried_held l.cells) l.carried (all_imp before l.carried K.in_cells) ∙ K.carried) own;
          tombstones = K.tombstones;
          in_cells = subst (All (λ (c : Carried). (c.cell < length (insert_by carried_slot new l.carried)) × (c.len ≤ 2064))) (sym e)
              (all_push l.carried new (all_imp (λ c h. (omega (arith, h.0, n), h.1)) l.carried K.in_cells) (omega (arith, n), short));
          sized = same_size ∙ K.sized;
        }

  module _ (t : HeldTombstone) (low : All (λ (h : Slotted). h.slot < slot) ts) where
    pub kept_tombstone : Kept size (load_held l slot (held.tombstone t)) cs (ts ++ (record { slot = slot; held = held.tombstone t } ∷ []))
    unfolding load_held tombstone_held
    kept_tombstone =
        let new : Tombstone = tombstone_row slot t in
        let rises : All (λ (c : Tombstone). c.slot < slot) l.tombstones = all_unmap tombstone_held l.tombstones (subst (All (λ (h : Slotted). h.slot < slot)) (sym K.tombstones) low) in
        record {
          carried = K.carried;
          tombstones = ap (map tombstone_held) (insert_last tombstone_slot new l.tombstones rises) ∙ map-append tombstone_held l.tombstones (new ∷ [])
              ∙ ap (λ (x : List Slotted). x ++ (record { slot = slot; held = held.tombstone t } ∷ [])) K.tombstones;
          in_cells = K.in_cells;
          sized = K.sized;
        }

-- ---- the rows of each kind

abbrev pub carried_kind : Held → Bool
carried_kind (held.carried r ct) = true
carried_kind (held.tombstone t) = false

abbrev pub of_carried : Slotted → Bool
of_carried h = carried_kind h.held

abbrev pub of_tombstone : Slotted → Bool
of_tombstone h = not (carried_kind h.held)

-- a ciphertext fits its cell
abbrev Fits : Held → Type 0
Fits (held.carried r ct) = length ct ≤ 2064
Fits (held.tombstone t) = Unit {0}

abbrev Before : Slotted → Slotted → Type 0
Before a b = a.slot < b.slot

before_one : (xs ys : List Slotted) (y : Slotted) → Sorted Before (xs ++ (y ∷ ys)) → All (λ (x : Slotted). x.slot < y.slot) xs
before_one [] ys y s = lists.none
before_one (x ∷ xs) ys y (next a s) = lists.more (middle xs ys a) (before_one xs ys y s)
  where
    middle : (us vs : List Slotted) → All (Before x) (us ++ (y ∷ vs)) → x.slot < y.slot
    middle [] vs (lists.more p q) = p
    middle (u ∷ us) vs (lists.more p q) = middle us vs q

abbrev Loads : ℕ → List Slotted → Type 0
Loads size hs = (l : Rows) (cs ts : List Slotted) → Kept size l cs ts → length cs + length (filter of_carried hs) ≤ cell_count size
    → Sorted Before (cs ++ filter of_carried hs) → Sorted Before (ts ++ filter of_tombstone hs) → Kept size (load_rows l hs) (cs ++ filter of_carried hs) (ts ++ filter of_tombstone hs)

loads_kept : (size : ℕ) (hs : List Slotted) → All (λ (h : Slotted). Fits h.held) hs → Loads size hs
unfolding load_rows filter
loads_kept size [] f = λ l cs ts K room sc st.
    subst (λ (x : List Slotted). Kept size l x (ts ++ [])) (sym (append-nil cs)) (subst (Kept size l cs) (sym (append-nil ts)) K)
loads_kept size (h ∷ hs) (lists.more f fs) = go h.slot h.held f (loads_kept size hs fs)
  where
    go : (s : ℕ) (x : Held) → Fits x → Loads size hs → Loads size (record { slot = s; held = x } ∷ hs)
    go s (held.carried r ct) fit rec l cs ts K rm a b =
        let n : Slotted = record { slot = s; held = held.carried r ct } in
        let e : (cs ++ (n ∷ [])) ++ filter of_carried hs ≡ cs ++ (n ∷ filter of_carried hs) = append_assoc cs (n ∷ []) (filter of_carried hs) in
        let count : length l.carried ≡ length cs = sym (length-map l.carried (carried_held l.cells)) ∙ ap length K.carried in
        subst (λ (x : List Slotted). Kept size (load_rows (load_held l s (held.carried r ct)) hs) x (ts ++ filter of_tombstone hs)) e
        (rec _ (cs ++ (n ∷ [])) ts (kept_carried size l cs ts K s r ct fit (omega (arith, rm, count)) (before_one cs (filter of_carried hs) n a))
        (omega (arith, rm, length-append cs (n ∷ []))) (subst (Sorted Before) (sym e) a) b)
    go s (held.tombstone t) fit rec l cs ts K rm a b =
        let n : Slotted = record { slot = s; held = held.tombstone t } in
        let e : (ts ++ (n ∷ [])) ++ filter of_tombstone hs ≡ ts ++ (n ∷ filter of_tombstone hs) = append_assoc ts (n ∷ []) (filter of_tombstone hs) in
        subst (λ (x : List Slotted). Kept size (load_rows (load_held l s (held.tombstone t)) hs) (cs ++ filter of_carried hs) x) e
        (rec _ cs (ts ++ (n ∷ [])) (kept_tombstone size l cs ts K s t (before_one ts (filter of_tombstone hs) n b)) rm a (subst (Sorted Before) (sym e) b))

-- the rows of one kind among merged ones
module _ (p : Slotted → Bool) (key : Slotted → ℕ) where
  filter_none : (xs : List Slotted) → All (λ (x : Slotted). p x ≡ false) xs → filter p xs ≡ []
  unfolding filter
  filter_none [] a = refl
  filter_none (x ∷ xs) (lists.more e a) = rw (e, filter_none xs a)

  merged_first : (xs ys : List Slotted) → All (λ (x : Slotted). p x ≡ true) xs → All (λ (x : Slotted). p x ≡ false) ys → filter p (merge key xs ys) ≡ xs
  unfolding merge filter
  merged_first [] ys a b = filter_none ys b
  merged_first (x ∷ xs) [] a b = filter_all p (x ∷ xs) a
  merged_first (x ∷ xs) (y ∷ ys) (lists.more e a) (lists.more f b) =
      cond_both (leb (key x) (key y)) _ _ (λ (l : List Slotted). filter p l ≡ x ∷ xs) (λ t. rw (e, merged_first xs (y ∷ ys) a (lists.more f b)))
      (λ t. rw f (merged_first (x ∷ xs) ys (lists.more e a) b))

  merged_second : (xs ys : List Slotted) → All (λ (x : Slotted). p x ≡ false) xs → All (λ (x : Slotted). p x ≡ true) ys → filter p (merge key xs ys) ≡ ys
  unfolding merge filter
  merged_second [] ys a b = filter_all p ys b
  merged_second (x ∷ xs) [] a b = filter_none (x ∷ xs) a
  merged_second (x ∷ xs) (y ∷ ys) (lists.more e a) (lists.more f b) =
      cond_both (leb (key x) (key y)) _ _ (λ (l : List Slotted). filter p l ≡ y ∷ ys) (λ t. rw e (merged_second xs (y ∷ ys) a (lists.more f b)))
      (λ t. rw (f, merged_second (x ∷ xs) ys (lists.more e a) b))

-- ---- the theorem

pub sorted_map : {A B : Type 0} {R : A → A → Type 0} {S : B → B → Type 0} (f : A → B) → ((x y : A) → R x y → S (f x) (f y)) → (xs : List A) → Sorted R xs → Sorted S (map f xs)
sorted_map f k [] s = empty
sorted_map f k (x ∷ xs) (next a s) = next (all_map f xs (all_imp (k x) xs a)) (sorted_map f k xs s)

abbrev pub carried_rows : State → List Slotted
carried_rows s = map (carried_held s.carried_cells) s.carried

abbrev pub tombstone_rows : State → List Slotted
tombstone_rows s = map tombstone_held s.tombstones

-- of every row of each kind
module _ (s : State) {P : Slotted → Type 0} where
  pub each_carried : ((r : Carried) → P (carried_held s.carried_cells r)) → All P (carried_rows s)
  each_carried f = all_map (carried_held s.carried_cells) s.carried (all_each f s.carried)

  pub each_tombstone : ((t : Tombstone) → P (tombstone_held t)) → All P (tombstone_rows s)
  each_tombstone f = all_map tombstone_held s.tombstones (all_each f s.tombstones)

abbrev slotted : Slotted → ℕ
slotted h = h.slot

-- with no more carried rows than cells every row is saved
same_saved : (s : State) → length s.carried ≤ cell_count (length s.carried_cells) → saved_rows s ≡ merge slotted (carried_rows s) (tombstone_rows s)
unfolding saved_rows
same_saved s fits =
    ap (λ (l : List Carried). merge slotted (map (carried_held s.carried_cells) l) (tombstone_rows s)) (take_all (cell_count (length s.carried_cells)) s.carried fits)

-- the rows of both kinds by slot, and the file and the records of them
abbrev pub rows_of : State → List Slotted
rows_of s = merge slotted (carried_rows s) (tombstone_rows s)

abbrev pub file_of : State → List ℕ
file_of s = saved_file s.next_slot (saved_rows s)

module _ (s : State) (fits : length s.carried ≤ cell_count (length s.carried_cells)) where
  pub same_file : file_of s ≡ saved_file s.next_slot (rows_of s)
  same_file = ap (saved_file s.next_slot) (same_saved s fits)

  pub same_records : All Short (rows_of s) → records (file_of s) ≡ map saved_record (rows_of s)
  same_records a = ap records same_file ∙ records_saved s.next_slot (rows_of s) a

pub proper_held : (r : Carried) → ProperCarried r → ProperHeld (as_held r)
proper_held r p = record { depositor = p.depositor; header = record { tag = p.tag.size; c = p.c.size; expiry = p.expiry_min; copies = p.copies } }

-- a row's blob is short
pub carried_short : (cells : List ℕ) (r : Carried) → ProperCarried r → Short (carried_held cells r)
unfolding carried_held
carried_short cells r p =
    let ct : List ℕ = ciphertext cells r.cell r.len in
    omega (arith, length_row (as_held r) (proper_held r p) ct, length-take 2064 ct)

proper_tomb : (t : Tombstone) → ProperTombstone t → ProperHeldTombstone (record { tag = t.tag; s = t.s; expiry_min = t.expiry_min })
proper_tomb t p = record { tag = p.tag.size; s = p.s.size; expiry = p.expiry_min }

pub tombstone_short : (t : Tombstone) → ProperTombstone t → Short (tombstone_held t)
unfolding tombstone_held held_row
tombstone_short t p =
    omega (
      arith,
      length-append ((1 ∷ []) ++ t.tag ++ t.s) (be 4 t.expiry_min),
      length-append ((1 ∷ []) ++ t.tag) t.s,
      length-append (1 ∷ []) t.tag,
      p.tag.size,
      p.s.size,
      length_be 4 t.expiry_min,
    )

tombstone_back_row : (t : Tombstone) → ProperTombstone t → Back (tombstone_held t)
unfolding tombstone_held
tombstone_back_row t p = record {
  slot = p.slot;
  short = tombstone_short t p;
  read = tombstone_back (record { tag = t.tag; s = t.s; expiry_min = t.expiry_min }) (proper_tomb t p);
}

module _ (s : State) (W : Savable s) where
  -- a ciphertext has its row's length
  length_text : (r : Carried) → InCell (length s.carried_cells) r.cell r.len → length (ciphertext s.carried_cells r.cell r.len) ≡ r.len
  length_text r h =
      ap length (inside s.carried_cells r.cell r.len h.0 h.1)
      ∙ length_part s.carried_cells (r.cell * 2064) r.len (omega (arith, in_area (length s.carried_cells) r.cell h.0, h.1))

  carried_back_row : (r : Carried) → ProperCarried r → InCell (length s.carried_cells) r.cell r.len → ReadBack r
      → Back (carried_held s.carried_cells r) × Fits (carried_held s.carried_cells r).held
  unfolding carried_held
  carried_back_row r p h b =
      let ct : List ℕ = ciphertext s.carried_cells r.cell r.len in
      let l : length ct ≡ r.len = length_text r h in (
        record {
          slot = p.slot;
          short = carried_short s.carried_cells r p;
          read = carried_back (as_held r) (proper_held r p) ct (ap carried_length l ∙ b.len) b.expiry;
        },
        omega (arith, l, h.1),
      )

  all_carried : All (λ (h : Slotted). Back h × Fits h.held) (carried_rows s)
  all_carried =
      all_map (carried_held s.carried_cells) s.carried
      (all_imp (λ r k. carried_back_row r k.0 k.1.0 k.1.1) s.carried (all_both s.carried W.carried (all_both s.carried W.order.in_cells W.back)))

  all_tombstones : All (λ (h : Slotted). Back h × Fits h.held) (tombstone_rows s)
  unfolding tombstone_held
  all_tombstones = all_map tombstone_held s.tombstones (all_imp (λ t p. (tombstone_back_row t p, tt)) s.tombstones W.tombstones)

  -- each held row is read back
  pub rows_read_back : All (λ (h : Slotted). held_decode (held_row h.held) ≡ Some h.held) (held_rows s)
  unfolding held_rows
  rows_read_back =
      all_imp (λ h b. b.0.read) (carried_rows s ++ tombstone_rows s) (all_append (carried_rows s) (tombstone_rows s) all_carried all_tombstones)

  pub all_rows_lem : All (λ (h : Slotted). Back h × Fits h.held) (rows_of s)
  all_rows_lem = all_merge slotted (carried_rows s) (tombstone_rows s) all_carried all_tombstones

  -- the rows of each kind, in their order
  carried_kept : filter of_carried (rows_of s) ≡ carried_rows s
  unfolding carried_held tombstone_held
  carried_kept =
      merged_first of_carried slotted (carried_rows s) (tombstone_rows s) (each_carried s (λ r. refl)) (each_tombstone s (λ t. refl))

  tombstones_kept : filter of_tombstone (rows_of s) ≡ tombstone_rows s
  unfolding carried_held tombstone_held
  tombstones_kept =
      merged_second of_tombstone slotted (carried_rows s) (tombstone_rows s) (each_carried s (λ r. refl)) (each_tombstone s (λ t. refl))

  carried_rise_lem : Sorted Before (carried_rows s)
  unfolding carried_held
  carried_rise_lem = sorted_map (carried_held s.carried_cells) (λ x y k. k) s.carried W.order.carried_rise

  tombstones_rise_lem : Sorted Before (tombstone_rows s)
  unfolding tombstone_held
  tombstones_rise_lem = sorted_map tombstone_held (λ x y k. k) s.tombstones W.order.tombstones_rise

  pub next_saved : next_in (file_of s) ≡ s.next_slot
  unfolding saved_file
  next_saved =
      ap num (part_left ((72 ∷ 78 ∷ []) ++ be 8 s.next_slot) (bytes_of (saved_rows s)) 2 8 (omega (arith, length_be 8 s.next_slot))
      ∙ part_hit (72 ∷ 78 ∷ []) (be 8 s.next_slot) 2 8 refl (length_be 8 s.next_slot)) ∙ num_be 8 s.next_slot W.next_slot

  -- what is loaded from it has the rows that were saved
  pub rows_saved : (cells : List ℕ) → length s.carried ≤ cell_count (length cells) → Kept (length cells) (loaded cells (file_of s)) (carried_rows s) (tombstone_rows s)
  rows_saved cells room =
      let hs : List Slotted = rows_of s in
      let e : loaded cells (file_of s) ≡ load_rows (no_rows cells) hs =
      ap (loaded cells) (same_file s W.fits) ∙ loaded_saved cells s.next_slot hs (all_imp (λ h p. p.0) hs all_rows_lem) in
      let n : length (filter of_carried hs) ≡ length s.carried = ap length carried_kept ∙ length-map s.carried (carried_held s.carried_cells) in
      let K : Kept (length cells) (load_rows (no_rows cells) hs) (filter of_carried hs) (filter of_tombstone hs) =
      loads_kept (length cells) hs (all_imp (λ h p. p.1) hs all_rows_lem) (no_rows cells) [] [] (record { carried = refl; tombstones = refl; in_cells = lists.none; sized = refl })
      (omega (arith, room, n))
      (subst (Sorted Before) (sym carried_kept) carried_rise_lem) (subst (Sorted Before) (sym tombstones_kept) tombstones_rise_lem) in
      subst (λ (l : Rows). Kept (length cells) l (carried_rows s) (tombstone_rows s)) (sym e)
      (subst (λ (x : List Slotted). Kept (length cells) (load_rows (no_rows cells) hs) x (tombstone_rows s)) carried_kept
      (subst (Kept (length cells) (load_rows (no_rows cells) hs) (filter of_carried hs)) tombstones_kept K))

-- What a post saves and another, or the same, then loads, if that is not refused: the same held rows, with their ciphertexts, and next slot.
pub saved_loaded : (s t : State) → Savable s → length s.carried ≤ cell_count (length t.carried_cells) → (load_step t (save_held s).bytes).answer ≡ done
    → let u : State = apply t (load_step t (save_held s).bytes).change in (held_rows u ≡ held_rows s) × (u.next_slot ≡ s.next_slot)
unfolding load_held_rows save_held apply held_rows
saved_loaded s t w room =
    load_cases t (file_of s) Same (λ why e. absurd (not_done why e))
    (λ f e. let K = rows_saved s w t.carried_cells room in (ap₂ (λ (x y : List Slotted). x ++ y) K.carried K.tombstones, next_saved s w))
  where
    Same : Result → Type 0
    Same o = o.answer ≡ done → (held_rows (apply t o.change) ≡ held_rows s) × ((apply t o.change).next_slot ≡ s.next_slot)
