-- What every call and every load keeps: order and limits of the tables, rows that fit their fields, lengths that a courier carries; and
-- expiries above 0, where the lifetime is.
-- Assumes nothing.
use Rattle.std.proofs.Common.{◌≡◌, ℕ, ◌/◌, ◌^◌, ◌<◌, ◌≤◌, min, true, List, [], length, sym, refl, subst, arith, ltb-false, Ok}
use Rattle.octets.specs.Bytes.{Bytes}
use Rattle.octets.proofs.Numbers.{num_part_lt}
use Rattle.courier_core.specs.declared.ContactId.{ContactId}
use Rattle.courier_core.specs.declared.Refusal.{Refusal}
use Rattle.table.specs.Lists as lists
use Rattle.table.proofs.ListLaws.{all_imp}
use Rattle.rows.specs.Limits.{max_carried}
use Rattle.model.specs.State.{State, no_session, with_session, nothing, apply}
use Rattle.model.proofs.KeepLaws.{Fits, good_apply, kept_people, kept_queue, kept_session, fits_nothing}
use Rattle.model.specs.Calls.{Result, refused, only}
use Rattle.model.specs.Contacts.{known}
use Rattle.model.specs.Cells.{cell_count}
use Rattle.model.specs.Good.{Good, ProperCall}
use Rattle.model.specs.Step.{Post, Lent, after}
use Rattle.history.specs.History.{Empty}
use Rattle.history.proofs.ContactLaws.{Apart}
use Rattle.history.proofs.LimitLaws.{Limits}
use Rattle.history.proofs.KeptLaws.{Kept, kept_after}
use Rattle.history.proofs.OfferSteps.{Sound, sound_after, lifetime_after}
use Rattle.history.proofs.HistoryLaws.{kept_empty, sound_empty}
use Rattle.load_tests.specs.Tests.{next_in, carried_count, tombstone_count, load_tests, tested_as}
use Rattle.load_tests.proofs.TestLaws.{fine_none}
use Rattle.load.specs.Load.{Rows, loaded, rows_now, load_held_rows, load_step}
use Rattle.load.proofs.CallLaws.{load_cases, fine_ten}
use Rattle.load.proofs.OrderLaws.{fine_cells, loaded_ordered, loaded_order}
use Rattle.reload.specs.Doings.{after_load}
use Rattle.reload.proofs.ReadBackLaws.{Lengths, Expiries, lengths_after, expiries_after}
use Rattle.reload.proofs.LoadedLaws.{Loaded, loaded_fine}

-- the order and the limits of the tables, rows that fit their fields, and lengths that a courier carries
pub record Keeps (p : Post) : Type 0 where
  pub kept : Kept p.state
  pub sound : Sound p
  pub lengths : Lengths p.state.carried

-- a lifetime and expiries above 0
pub record Lasting (p : Post) : Type 0 where
  pub lifetime : 0 < p.state.courier.lifetime_min
  pub expiries : Expiries p.state.carried

-- ---- at the start

pub keeps_empty : (p : Post) → Empty p → p.state.courier.copies < 2 ^ 8 → Keeps p
keeps_empty p e c = record { kept = kept_empty p e; sound = sound_empty p e c; lengths = subst Lengths (sym e.carried) lists.none }

pub lasting_empty : (p : Post) → Empty p → 0 < p.state.courier.lifetime_min → Lasting p
lasting_empty p e t = record { lifetime = t; expiries = subst Expiries (sym e.carried) lists.none }

-- ---- a call

pub keeps_call : (p : Post) (l : Lent) → ProperCall l.call → Keeps p → Keeps (after p l)
keeps_call p l h k = record { kept = kept_after p l k.kept; sound = sound_after p l k.sound h; lengths = lengths_after p l k.kept k.lengths }

pub lasting_call : (p : Post) (l : Lent) → ProperCall l.call → Keeps p → Lasting p → Lasting (after p l)
lasting_call p l h k t = record { lifetime = lifetime_after p l k.sound h t.lifetime; expiries = expiries_after p l k.kept t.lifetime t.expiries }

-- ---- a load

-- the contacts that were known are, and the cells and tombstone rows are as many
pub record Grows (s t : State) : Type 0 where
  pub contacts : (id : ContactId) → known s.contacts id ≡ true → known t.contacts id ≡ true
  pub cells : length t.carried_cells ≡ length s.carried_cells
  pub rows : t.tombstone_rows ≡ s.tombstone_rows

-- a file that is fine
module _ (s : State) (file : List ℕ) (w : Bytes file) (e : Ok tt ≡ tested_as (load_tests s.contacts (length s.carried_cells) s.tombstone_rows file)) where
  abbrev l : Rows
  l = loaded s.carried_cells file

  few : carried_count file ≤ max_carried
  unfolding cell_count
  few = let c : carried_count file ≤ min 256 (length s.carried_cells / 2064) = fine_cells s.contacts s.carried_cells s.tombstone_rows file e in omega arith

  rows_loaded : Loaded s.contacts (carried_count file) (tombstone_count file) l []
  rows_loaded = loaded_fine s.contacts s.carried_cells s.tombstone_rows file w few e

  carried_few_lem : length l.carried ≤ max_carried
  carried_few_lem = omega (arith, rows_loaded.carried_count, few)

  tombstones_fit_lem : length l.tombstones ≤ s.tombstone_rows
  tombstones_fit_lem =
      omega (
        arith,
        rows_loaded.tombstone_count,
        ltb-false s.tombstone_rows (tombstone_count file) (fine_none s.contacts file (length s.carried_cells) s.tombstone_rows e).1.1,
      )

  limits_loaded : Apart s.contacts → Limits s.contacts l.carried
  limits_loaded a = record {
    tags_differ = rows_loaded.tags;
    few = carried_few_lem;
    quota = λ id. omega (arith, rows_loaded.quota id);
    depositors_known = all_imp (λ r f. f.depositor) l.carried rows_loaded.fair;
    contacts_apart = a;
  }

  fits_loaded : Fits s (rows_now l (next_in file))
  fits_loaded =
      record {
        courier = tt;
        next_slot = num_part_lt file 2 8 (fine_ten s.contacts file (length s.carried_cells) s.tombstone_rows e) w;
        people = kept_people;
        queue = kept_queue;
        held = record { carried = (all_imp (λ r f. f.proper) l.carried rows_loaded.fair, carried_few_lem); tombstones = (rows_loaded.proper, tombstones_fit_lem) };
        session = kept_session;
        sessions = tt;
      }

-- a load keeps what the store needs
pub good_load : (s : State) (file : List ℕ) → Bytes file → Good s → Good (apply s (load_step s file).change)
unfolding load_held_rows
good_load s file w g =
    load_cases s file (λ (o : Result). Good (apply s o.change)) (λ why. good_apply s nothing g (fits_nothing s))
    (λ e. good_apply s (rows_now (loaded s.carried_cells file) (next_in file)) g (fits_loaded s file w e))

module _ (p : Post) (file : List ℕ) (w : Bytes file) (k : Keeps p) where
  abbrev s : State
  s = p.state

  abbrev KeptBy : Result → Type 0
  KeptBy o = Keeps (record { state = apply s o.change; sessions = p.sessions }) × Grows s (apply s o.change)

  refused_kept : (why : Refusal) → KeptBy (only (refused why))
  unfolding apply
  refused_kept why = (k, record { contacts = λ id h. h; cells = refl; rows = refl })

  fine_kept : Ok tt ≡ tested_as (load_tests s.contacts (length s.carried_cells) s.tombstone_rows file) → KeptBy (load_held_rows s file)
  unfolding load_held_rows apply
  fine_kept e = (
    record {
      kept = record {
        held = loaded_order s.contacts s.carried_cells s.tombstone_rows file e w;
        own = k.kept.own;
        limits = limits_loaded s file w e k.kept.limits.contacts_apart;
      };
      sound = record {
        good = good_apply (with_session s no_session) (rows_now (loaded s.carried_cells file) (next_in file)) k.sound.good (fits_loaded (with_session s no_session) file w e);
        sessions = k.sound.sessions;
      };
      lengths = all_imp (λ r f. f.back.len) (loaded s.carried_cells file).carried (rows_loaded s file w e).fair;
    },
    record { contacts = λ id h. h; cells = (loaded_ordered s.contacts s.carried_cells s.tombstone_rows file e w).sized; rows = refl },
  )

  pub keeps_load : Keeps (after_load p file) × Grows s (after_load p file).state
  unfolding after_load
  keeps_load = load_cases s file KeptBy refused_kept fine_kept

  pub lasting_load : Lasting p → Lasting (after_load p file)
  unfolding after_load load_held_rows apply
  lasting_load t =
      load_cases s file (λ (o : Result). Lasting (record { state = apply s o.change; sessions = p.sessions })) (λ why. t)
      (λ e. record { lifetime = t.lifetime; expiries = all_imp (λ r f. f.back.expiry) (loaded s.carried_cells file).carried (rows_loaded s file w e).fair })
