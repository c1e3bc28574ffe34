-- The theorems about saving and loading and about the screen page: of every list of calls and loads from empty holdings.
-- Assumes nothing.
use Rattle.std.proofs.Common.{◌≡◌, ℕ, zero, suc, ◌^◌, ◌<◌, ◌≤◌, Bool, true, false, not, eqb, List, [], ◌∷◌, map, length, sym, refl, ap, ◌∙◌, arith, eqb-true}
use Rattle.std.proofs.Math.Arith.{lt_of_le-ne}
use lib.ListN.{length-map}
use borrow.Author.Tests.{eqb-false, not-true}
use Rattle.table.specs.Lists.{All, filter}
use Rattle.table.specs.Lists as lists
use Rattle.table.proofs.ListLaws.{all_imp, all_map, all_filter, filter_holds}
use Rattle.rows.specs.declared.Carried.{Carried}
use Rattle.rows.specs.declared.Tombstone.{Tombstone}
use Rattle.model.specs.State.{State, apply, no_session, with_session}
use Rattle.model.specs.Contacts.{known}
use Rattle.model.specs.Cells.{cell_count}
use Rattle.model.specs.Calls
use Rattle.model.specs.Calls.{Result, is_refused}
use Rattle.model.specs.Saved.{saved_rows, save_tests, save_held}
use Rattle.model.specs.Screen.{HeldRow, carried_row, tombstone_row, slot_of, shown, page_rows, page_bytes, show_page}
use Rattle.model.proofs.ScreenLaws.{screen_pages, tags_good}
use Rattle.model.specs.Step.{Post, Lent, tests, perform, step, state_for, answer_to, after, run}
use Rattle.history.specs.Order.{Sorted, HeldOrder}
use Rattle.history.specs.History.{Empty}
use Rattle.history.proofs.SortedLaws.{all_both, became_filter, became_sorted, rises_merge}
use Rattle.history.proofs.CellLaws.{length_split}
use Rattle.history.proofs.LimitLaws.{known_kept}
use Rattle.history.proofs.KeptLaws.{effect_at}
use Rattle.history.proofs.LifeLaws.{size_run}
use Rattle.load.specs.Reload.{Savable, Reloaded}
use Rattle.load.proofs.OrderLaws.{sorted_with}
use Rattle.load.proofs.SavedLaws.{sorted_map, rows_read_back}
use Rattle.load.proofs.FineLaws.{at_most_one}
use Rattle.load.proofs.ReloadLaws.{reloaded}
use Rattle.load.proofs.RefusedLaws.{unread_refused}
use Rattle.reload.specs.Doings.{Doing, call, load, ProperDoing, after_load, after_doing, run_doings}
use Rattle.reload.specs.ScreenHistory.{ScreenHistory}
use Rattle.reload.specs.SavedHistory.{SavedHistory, ReadBackHistory}
use Rattle.reload.proofs.ReadBackLaws.{Expiries, performed}
use Rattle.reload.proofs.KeepLaws.{Keeps, Lasting, Grows, keeps_empty, lasting_empty, keeps_call, lasting_call, keeps_load, lasting_load}

-- ---- a list of calls and loads

grows_call : (p : Post) (l : Lent) → Keeps p → Grows p.state (after p l).state
unfolding after answer_to state_for apply run
grows_call p l k = record {
  contacts = λ id h. known_kept (state_for p l) id (effect_at p l).contacts h;
  cells = size_run p (l ∷ []) k.kept;
  rows = refl;
}

keeps_doing : (p : Post) (d : Doing) → ProperDoing d → Keeps p → Keeps (after_doing p d) × Grows p.state (after_doing p d).state
unfolding after_doing
keeps_doing p (call l) h k = (keeps_call p l h k, grows_call p l k)
keeps_doing p (load file) h k = keeps_load p file h k

keeps_run : (p : Post) (ds : List Doing) → All ProperDoing ds → Keeps p → Keeps (run_doings p ds) × Grows p.state (run_doings p ds).state
unfolding run_doings
keeps_run p [] a k = (k, record { contacts = λ id h. h; cells = refl; rows = refl })
keeps_run p (d ∷ ds) (lists.more h a) k =
    let q = keeps_doing p d h k in
    let r = keeps_run (after_doing p d) ds a q.0 in
    (r.0, record { contacts = λ id i. r.1.contacts id (q.1.contacts id i); cells = r.1.cells ∙ q.1.cells; rows = r.1.rows ∙ q.1.rows })

lasting_run : (p : Post) (ds : List Doing) → All ProperDoing ds → Keeps p → Lasting p → Lasting (run_doings p ds)
unfolding run_doings after_doing
lasting_run p [] a k t = t
lasting_run p (call l ∷ ds) (lists.more h a) k t = lasting_run (after p l) ds a (keeps_call p l h k) (lasting_call p l h k t)
lasting_run p (load file ∷ ds) (lists.more h a) k t = lasting_run (after_load p file) ds a (keeps_load p file h k).0 (lasting_load p file h k t)

-- ---- no more rows than cells

-- numbers below n that differ are at most n
few_below : (n : ℕ) (xs : List ℕ) → Sorted (λ (a b : ℕ). a ≡ b → ⊥) xs → All (λ (x : ℕ). x < n) xs → length xs ≤ n
few_below zero [] s a = omega arith
few_below zero (x ∷ xs) s (lists.more h a) = absurd (omega arith)
few_below (suc n) xs s a =
    let is : ℕ → Bool = λ x. eqb x n in
    let rest : List ℕ = filter (λ (x : ℕ). not (is x)) xs in
    let left : Sorted (λ (a b : ℕ). a ≡ b → ⊥) rest =
    became_sorted {G = λ (x : ℕ). Unit {0}} {S = λ (x y : ℕ). y ≡ x} (λ x y z u p q f e. f (sym p ∙ e ∙ q)) (became_filter (λ (x : ℕ). not (is x)) xs (λ x. refl) (λ x e. tt)) s in
    let below : All (λ (x : ℕ). x < n) rest =
    all_imp (λ x h. lt_of_le-ne (omega (arith, h.0)) (eqb-false x n (not-true (is x) h.1))) rest (all_both rest (all_filter (λ (x : ℕ). not (is x)) xs a) (filter_holds (λ (x : ℕ). not (is x)) xs)) in
    let once = at_most_one is xs (sorted_with {W = λ (x : ℕ). x < suc n} (λ x y u v f i j. f (eqb-true x n i ∙ sym (eqb-true y n j))) xs a s) in
    omega (arith, length_split is xs, few_below n rest left below, once)

-- a cell is named by at most one row, so there are no more rows than cells
cells_enough : (carried : List Carried) (tombstones : List Tombstone) (n : ℕ) (cells : List ℕ) → HeldOrder carried tombstones n cells → length carried ≤ cell_count (length cells)
cells_enough carried tombstones n cells o =
    omega (
      arith,
      length-map carried (λ (r : Carried). r.cell),
      few_below (cell_count (length cells)) (map (λ (r : Carried). r.cell) carried) (sorted_map (λ (r : Carried). r.cell) (λ a b f. f) carried o.cells_differ)
          (all_map (λ (r : Carried). r.cell) carried (all_imp (λ r h. h.0) carried o.in_cells)),
    )

-- ---- the theorem

module _ (p : Post) (k : Keeps p) where
  abbrev held : HeldOrder p.state.carried p.state.tombstones p.state.next_slot p.state.carried_cells
  held = k.kept.held

  fits : length p.state.carried ≤ cell_count (length p.state.carried_cells)
  fits = cells_enough p.state.carried p.state.tombstones p.state.next_slot p.state.carried_cells held

  savable : Expiries p.state.carried → Savable p.state
  savable e = record {
    carried = k.sound.good.carried;
    tombstones = k.sound.good.tombstones;
    next_slot = k.sound.good.next_slot;
    order = held;
    fits = fits;
    tags_differ = k.kept.limits.tags_differ;
    quota = k.kept.limits.quota;
    back = all_imp (λ r b. record { len = b.0; expiry = b.1 }) p.state.carried (all_both p.state.carried k.lengths e);
  }

  loads_at : (t : State) → cell_count (length p.state.carried_cells) ≤ cell_count (length t.carried_cells) → p.state.tombstone_rows ≤ t.tombstone_rows
      → All (λ (r : Carried). known t.contacts r.depositor ≡ true) p.state.carried → Expiries p.state.carried → Reloaded t p.state
  loads_at t c n d e =
      reloaded p.state t (savable e) (record { depositors = d; cells = omega (arith, fits, c); rows = omega (arith, k.sound.good.tombstones_fit, n) })

-- a save call that is not refused writes the file of the post's state
saved_by : (p : Post) (session area : ℕ) → let l : Lent = record { session = session; call = Calls.save area } in is_refused (answer_to p l).answer ≡ false
    → (answer_to p l).bytes ≡ (save_held p.state).bytes
unfolding answer_to state_for step tests perform save_held saved_rows
saved_by p session area e =
    let s : State = state_for p (record { session = session; call = Calls.save area }) in
    ap (λ (o : Result). o.bytes) (performed (save_tests s area) (save_held s) e)

-- where the rows' expiries are above 0, they are read back
read_back_at : (p : Post) (ds : List Doing) → Keeps (run_doings p ds) → Expiries (run_doings p ds).state.carried → ReadBackHistory p ds
read_back_at p ds k e = record {
  rows = rows_read_back (run_doings p ds).state (savable (run_doings p ds) k e);
  loads = λ t c n d. loads_at (run_doings p ds) k t c n d e;
  loads_itself = λ rest a.
      let g = (keeps_run (run_doings p ds) rest a k).1 in
      loads_at (run_doings p ds) k (run_doings (run_doings p ds) rest).state (omega (arith, ap cell_count g.cells)) (omega (arith, g.rows))
      (all_imp (λ r i. g.contacts r.depositor i) (run_doings p ds).state.carried k.kept.limits.depositors_known) e;
}

-- Of every list of calls and loads from empty holdings, refused ones among them, whatever the setting at the start.
pub saved_history : (p : Post) → Empty p → p.state.courier.copies < 2 ^ 8 → (ds : List Doing) → All ProperDoing ds → SavedHistory p ds
saved_history p start copies ds proper =
    let k₀ : Keeps p = keeps_empty p start copies in
    let k : Keeps (run_doings p ds) = (keeps_run p ds proper k₀).0 in
    record {
      held_order = k.kept.held;
      own_order = k.kept.own;
      tags_differ = k.kept.limits.tags_differ;
      few = k.kept.limits.few;
      quota = k.kept.limits.quota;
      saves = saved_by (run_doings p ds);
      above_0 = λ t. (lasting_run p ds proper k₀ (lasting_empty p start t)).expiries;
      read_back = read_back_at p ds k;
      refuses = λ t r m z. unread_refused (run_doings p ds).state k.sound.good.carried k.sound.good.tombstones (fits (run_doings p ds) k) r m z t;
    }

-- Of every list of calls and loads from empty holdings with a lifetime above 0, refused ones among them: what the post saves then, it or
-- another post that knows the depositors loads, and has the same held rows and next slot, whatever rows it holds.
pub read_back_history : (p : Post) → Empty p → p.state.courier.copies < 2 ^ 8 → 0 < p.state.courier.lifetime_min → (ds : List Doing) → All ProperDoing ds
    → ReadBackHistory p ds
read_back_history p start copies lifetime ds proper = let h = saved_history p start copies ds proper in h.read_back (h.above_0 lifetime)

-- ---- the screen page

-- the held rows of tables in order, by slot, rise
rows_rise : (s : State) → HeldOrder s.carried s.tombstones s.next_slot s.carried_cells → Sorted (λ (a b : HeldRow). slot_of a < slot_of b) (shown s)
unfolding shown
rows_rise s o =
    rises_merge slot_of (map carried_row s.carried) (map tombstone_row s.tombstones) (sorted_map carried_row (λ a b h. h) s.carried o.carried_rise)
    (sorted_map tombstone_row (λ a b h. h) s.tombstones o.tombstones_rise)
    (all_map carried_row s.carried (all_imp (λ r h. all_map tombstone_row s.tombstones h) s.carried o.apart))

page_asked : (p : Post) (session area number : ℕ) → answer_to p (record { session = session; call = Calls.page area number }) ≡ step p.state (Calls.page area number)
unfolding answer_to state_for step tests perform show_page page_bytes page_rows shown
page_asked p session area number = refl

-- Of every list of calls and loads from empty holdings, refused ones among them: each held row stands on one page, by rising slot.
pub screen_history : (p : Post) → Empty p → p.state.courier.copies < 2 ^ 8 → (ds : List Doing) → All ProperDoing ds → ScreenHistory p ds
screen_history p start copies ds proper =
    let k : Keeps (run_doings p ds) = (keeps_run p ds proper (keeps_empty p start copies)).0 in
    let s : State = (run_doings p ds).state in
    record {
      order = shown s;
      rises = rows_rise s k.kept.held;
      pages = screen_pages s (tags_good (with_session s no_session) k.sound.good);
      answers = page_asked (run_doings p ds);
    }
