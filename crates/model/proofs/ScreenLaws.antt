-- Laws of the screen page: a line's length, minutes left, and all pages of a post.
-- Assumes nothing.
use Rattle.std.proofs.Common.{◌≡◌, ℕ, zero, suc, ◌+◌, ◌-◌, ◌*◌, ◌<◌, ◌≤◌, min, Bool, true, false, cond, ltb, List, [], ◌∷◌, ◌++◌, map, length, take, drop, sym, refl, ap, ◌∙◌, ap₂, append-nil, arith, length-append, length-drop, drop_of_length-le, length-take, length-take-le, take-add, le-ltb, lt-ltb}
use mathlib.Core.List.{map-append, Perm}
use lib.ListN.{length-map}
use lib.Seq.{take-append_seam, drop-append_seam}
use Rattle.octets.proofs.Parts.{length_part}
use Rattle.courier_core.specs.declared.Refusal.TheVariants as refusal
use Rattle.table.specs.Lists.{All}
use Rattle.table.specs.Lists as lists
use Rattle.table.specs.Rows.{held as held_of, rows, join}
use Rattle.table.specs.Codec.{Codec, table_of}
use Rattle.table.proofs.ListLaws.{all_append, all_take, all_drop, all_imp, all_map}
use Rattle.table.proofs.RowLaws.{held_inside, wide_rows, join_append, length_join}
use Rattle.columns.specs.Columns.{blanks, column, hexes}
use Rattle.columns.proofs.ColumnLaws.{length_column, length_hexes}
use Rattle.rows.specs.Rows.{carried_codec, carried_of, tombstone_codec, tombstone_of}
use Rattle.model.specs.Basics.{trunc8}
use Rattle.model.specs.State.{State}
use Rattle.model.specs.Calls
use Rattle.model.specs.Calls.{Result, wrote, done_with}
use Rattle.model.specs.Contacts.{minute_of}
use Rattle.model.specs.Saved.{writes}
use Rattle.model.specs.Screen
use Rattle.model.specs.Screen.{HeldRow, carried_row, tombstone_row, slot_of, shown, page_rows, line_front, minutes_left, carried_end, screen_line, heading, page_bytes, page_tests, show_page}
use Rattle.model.specs.Step.{tests, perform, step}
use Rattle.model.specs.Pages.{held, tag_of, WholeTags, page_of, lines_before, ScreenPages}
use Rattle.model.specs.Areas.{Areas, view}
use Rattle.model.specs.Good.{Good}
use Rattle.model.proofs.Laws.{perm_merge, length_merge, all_merge}
use Rattle.model.proofs.CallLaws.{refused_here, not_here, no_test}

-- ---- minutes left

pub minutes_left_lem : (minute expiry : ℕ) → minute < expiry → minutes_left minute expiry ≡ column 10 (expiry - minute)
unfolding minutes_left
minutes_left_lem minute expiry h = rw (lt-ltb minute expiry h)

pub minutes_past : (minute expiry : ℕ) → expiry ≤ minute → minutes_left minute expiry ≡ blanks 6 ++ Screen.past
unfolding minutes_left
minutes_past minute expiry h = rw (le-ltb minute expiry h)

pub length_minutes : (minute expiry : ℕ) → length (minutes_left minute expiry) ≡ 10
unfolding minutes_left
length_minutes minute expiry = go (ltb minute expiry)
  where
    go : (b : Bool) → length (cond b (column 10 (expiry - minute)) (blanks 6 ++ Screen.past)) ≡ 10
    go true = length_column 10 (expiry - minute)
    go false = refl

-- ---- a line's length

pub length_prefix : (tag : List ℕ) → length tag ≡ 16 → length (hexes (trunc8 tag)) ≡ 16
length_prefix tag e = length_hexes (trunc8 tag) ∙ ap (λ (n : ℕ). 2 * n) (length-take-le 8 tag (omega (arith, e)))

pub length_front : (slot kind : ℕ) (tag : List ℕ) → length tag ≡ 16 → length (line_front slot kind tag) ≡ 40
unfolding line_front
length_front slot kind tag e = simp (length-append, length_column, length_prefix tag e)

pub length_carried_end : (copies depositor : ℕ) → length (carried_end copies depositor) ≡ 31
unfolding carried_end
length_carried_end copies depositor = simp (length-append, length_column)

pub length_line : (minute : ℕ) (r : HeldRow) → length (tag_of r) ≡ 16 → length (screen_line minute r) ≡ 81
unfolding screen_line
length_line minute (carried_row r) e = simp (length-append, length_front r.slot Screen.carried_kind r.tag e, length_minutes, length_carried_end)
length_line minute (tombstone_row t) e = simp (length-append, length_front t.slot Screen.tombstone_kind t.tag e, length_minutes)

-- ---- the rows that are shown

pub all_shown : (P : HeldRow → Type 0) (s : State) → All P (held s) → All P (shown s)
unfolding shown
all_shown P s h =
    let p : All P (map carried_row s.carried) × All P (map tombstone_row s.tombstones) = all_parts (map carried_row s.carried) (map tombstone_row s.tombstones) h in
    all_merge slot_of (map carried_row s.carried) (map tombstone_row s.tombstones) p.0 p.1
  where
    all_parts : (x y : List HeldRow) → All P (x ++ y) → All P x × All P y
    all_parts [] y h = (lists.none, h)
    all_parts (r ∷ x) y (lists.more p h) = let q = all_parts x y h in (lists.more p q.0, q.1)

pub length_shown : (s : State) → length (shown s) ≡ length (held s)
unfolding shown
length_shown s =
    length_merge slot_of (map carried_row s.carried) (map tombstone_row s.tombstones)
    ∙ sym (length-append (map carried_row s.carried) (map tombstone_row s.tombstones))

-- ---- all pages of a post

module _ (s : State) (whole : WholeTags s) where
  abbrev Line : HeldRow → List ℕ
  Line = screen_line (minute_of s)

  abbrev order : List HeldRow
  order = shown s

  -- how many rows a page has
  length_page : (n : ℕ) → length (page_rows s n) ≡ min 19 (length (held s) - 19 * n)
  unfolding page_rows
  length_page n = length-take 19 (drop (19 * n) order) ∙ ap (min 19) (length-drop (19 * n) order ∙ ap (λ (k : ℕ). k - 19 * n) (length_shown s))

  page_lines : (n : ℕ) → All (λ (l : List ℕ). length l ≡ 81) (map Line (page_rows s n))
  unfolding page_rows
  page_lines n =
      all_map Line (take 19 (drop (19 * n) order))
      (all_take 19 (drop (19 * n) order) (all_drop (19 * n) order (all_imp (λ r e. length_line (minute_of s) r e) order (all_shown (λ (r : HeldRow). length (tag_of r) ≡ 16) s whole))))

  page_size_lem : (n : ℕ) → length (page_bytes s n) ≡ 81 * (1 + min 19 (length (held s) - 19 * n))
  unfolding page_bytes heading
  page_size_lem n =
      omega (
        arith,
        length-append heading (join (map Line (page_rows s n))),
        length_join (map Line (page_rows s n)) (page_lines n),
        length-map (page_rows s n) Line,
        length_page n,
      )

  performed : (area n : ℕ) → 1620 ≤ area → step s (Calls.page area n) ≡ writes (page_bytes s n)
  unfolding step tests perform page_tests show_page
  performed area n h = not_here _ _ _ (le-ltb area 1620 h) (no_test _)

  at_page : (n : ℕ) → page_of s n ≡ writes (page_bytes s n)
  at_page n = performed 1620 n (omega arith)

  page_first : (n : ℕ) → take 81 (page_bytes s n) ≡ heading
  unfolding page_bytes heading
  page_first n = take-append_seam heading (join (map Line (page_rows s n)))

  page_past : (n : ℕ) → length (held s) ≤ 19 * n → page_bytes s n ≡ heading
  unfolding page_bytes page_rows join
  page_past n h =
      ap (λ (l : List HeldRow). heading ++ join (map Line (take 19 l))) (drop_of_length-le order {i = 19 * n} (omega (arith, length_shown s))) ∙ append-nil heading

  page_rest : (n : ℕ) → drop 81 (page_of s n).bytes ≡ join (map Line (take 19 (drop (19 * n) order)))
  unfolding page_bytes page_rows heading
  page_rest n = ap (λ (o : Result). drop 81 o.bytes) (at_page n) ∙ drop-append_seam heading (join (map Line (page_rows s n)))

  page_lines_before : (n : ℕ) → lines_before s n ≡ join (map Line (take (19 * n) order))
  unfolding lines_before join
  page_lines_before zero = refl
  page_lines_before (suc n) =
      let next : 19 * suc n ≡ 19 * n + 19 = omega arith in
      let t : take (19 * suc n) order ≡ take (19 * n) order ++ take 19 (drop (19 * n) order) = ap (λ (k : ℕ). take k order) next ∙ take-add (19 * n) 19 order in
      ap₂ ◌++◌ (page_lines_before n) (page_rest n)
      ∙ sym (ap (λ (l : List HeldRow). join (map Line l)) t ∙ ap join (map-append Line (take (19 * n) order) (take 19 (drop (19 * n) order)))
      ∙ join_append (map Line (take (19 * n) order)) (map Line (take 19 (drop (19 * n) order))))

  page_short : (area n : ℕ) → area < 1620 → step s (Calls.page area n) ≡ Calls.only (Calls.refused refusal.ShortArea)
  unfolding step tests perform page_tests
  page_short area n h = refused_here _ _ _ (lt-ltb area 1620 h)

  page_once : Perm (shown s) (held s)
  unfolding shown
  page_once = perm_merge slot_of (map carried_row s.carried) (map tombstone_row s.tombstones)

  pub screen_pages : ScreenPages s (shown s)
  screen_pages = record {
    short = page_short;
    enough = λ area n h. performed area n h ∙ sym (at_page n);
    counted = λ n. ap (λ (o : Result). o.answer) (at_page n) ∙ ap (λ (k : ℕ). done_with (wrote k)) (page_size_lem n);
    size = λ n. ap (λ (o : Result). length o.bytes) (at_page n) ∙ page_size_lem n;
    first = λ n. ap (λ (o : Result). take 81 o.bytes) (at_page n) ∙ page_first n;
    past = λ n h. ap (λ (o : Result). o.bytes) (at_page n) ∙ page_past n h;
    once = page_once;
    rows = page_rest;
    lines = page_lines_before;
    line = all_imp (λ r e. length_line (minute_of s) r e) (held s) whole;
  }

-- ---- whose tags are whole

-- of good rows
pub tags_good : (s : State) → Good s → WholeTags s
tags_good s g =
    all_append (map carried_row s.carried) (map tombstone_row s.tombstones)
    (all_map carried_row s.carried (all_imp (λ r p. p.tag.size) s.carried g.carried))
    (all_map tombstone_row s.tombstones (all_imp (λ t p. p.tag.size) s.tombstones g.tombstones))

-- of what is read off any areas
tags_read : {A : Type 0} (c : Codec A) (f : A → HeldRow) (count : ℕ) (a : List ℕ) → ((b : List ℕ) → length b ≡ c.width → length (tag_of (f (c.decode b))) ≡ 16)
    → All (λ (r : HeldRow). length (tag_of r) ≡ 16) (map f (table_of c count a))
unfolding table_of
tags_read c f count a h =
    let n : ℕ = held_of (length a) c.width count in
    all_map f (map c.decode (rows c.width n a))
    (all_map c.decode (rows c.width n a) (all_imp h (rows c.width n a) (wide_rows c.width n a (held_inside (length a) c.width count))))

pub tags_viewed : (a : Areas) → WholeTags (view a)
unfolding view carried_of tombstone_of
tags_viewed a =
    all_append (map carried_row (table_of carried_codec a.device.carried a.carried)) (map tombstone_row (table_of tombstone_codec a.device.tombstones a.tombstones))
    (tags_read carried_codec carried_row a.device.carried a.carried (λ b e. length_part b 16 16 (omega (arith, e))))
    (tags_read tombstone_codec tombstone_row a.device.tombstones a.tombstones (λ b e. length_part b 8 16 (omega (arith, e))))

-- On any areas, such that no call left too: the pages are the lines of all held rows.
pub pages_viewed : (a : Areas) → ScreenPages (view a) (shown (view a))
pages_viewed a = screen_pages (view a) (tags_viewed a)
