-- What maintenance leaves in each area, how far its lists are, and what the call answers and is lent.
-- Assumes nothing.
use Rattle.std.specs.Prelude.{◌≡◌, ℕ, ◌+◌, ◌*◌, ◌≤◌, Bool, not, ◌&&◌, List, ◌++◌, map, length, take, drop, nat_le}
use Rattle.octets.specs.Bytes.{splice, part, num}
use Rattle.table.specs.Lists.{filter}
use Rattle.table.specs.Rows.{join}
use Rattle.table.specs.Codec.{Codec, with_table}
use Rattle.table.specs.Tables.{rows_in}
use Rattle.rows.specs.declared.Device.{Device}
use Rattle.rows.specs.declared.Own.{Own}
use Rattle.rows.specs.declared.Carried.{Carried}
use Rattle.rows.specs.declared.Tombstone.{Tombstone}
use Rattle.rows.specs.declared.Action.{Action}
use Rattle.rows.specs.Rows.{carried_codec, tombstone_codec, action_bytes, action_width}
use Rattle.model.specs.Calls.{Result as Outcome, delete_courier, put_queued}
use Rattle.model.specs.Maintenance.{own_expired, is_renewed, expired_slots}
use Rattle.model.specs.Areas.{Areas}
use Rattle.by_slot.specs.declared.held.Held.{Held}
use Rattle.by_slot.specs.BySlot.{Reached}
use Rattle.model.specs.Lent.{device_in, own_in, carried_in, tombstones_in}
use Rattle.maintenance.specs.declared.Progress.{Progress}

-- does a row, whose expiry is at an offset, stay at the minute
abbrev pub live_row : ℕ → ℕ → List ℕ → Bool
live_row offset minute b = not (nat_le (num (part b offset 4)) minute)

-- does an own row stay: it has not expired, or only once
abbrev pub row_stays : ℕ → Own → Bool
row_stays minute o = not (own_expired minute o && is_renewed o)

-- ---- lists of actions

-- behind k rows of the action area, which was ac and is now x, stand these actions: m rows in all
pub record Listed (ac : List ℕ) (k : ℕ) (acts : List Action) (m : ℕ) (x : List ℕ) : Type 0 where
  pub count : m ≡ k + length acts
  pub area : x ≡ splice ac (k * action_width) (join (map action_bytes acts))

-- what a step of the deletions relies on: a row is left, and there is room for an action of each
pub record Moving (h : Held) (t : Progress) (actions : ℕ) : Type 0 where
  pub reached : Reached h t.next
  pub space : (t.listed + (h.carried.count + h.tombstones.count)) * action_width ≤ actions + (t.next.carried + t.next.tombstones) * action_width

-- deletions of the rows before p and q are listed behind k rows of ac, and those of the rows from p and q on are left
pub record Merging (minute : ℕ) (cs : List Carried) (ts : List Tombstone) (ac : List ℕ) (k : ℕ) (x : List ℕ) (p q m : ℕ) : Type 0 where
  pub slots : List ℕ
  pub listed : Listed ac k (map delete_courier slots) m x
  pub rest : slots ++ expired_slots minute (drop p cs) (drop q ts) ≡ expired_slots minute cs ts
  pub left : p ≤ length cs
  pub right : q ≤ length ts
  pub below : m ≤ k + (p + q)

-- one step of the deletions, from t to r; the action area was x and is now y
pub record Moved (minute : ℕ) (h : Held) (x y : List ℕ) (t r : Progress) : Type 0 where
  pub merging : (ac : List ℕ) (k : ℕ) → length ac ≡ length x
      → Merging minute (rows_in carried_codec h.carried) (rows_in tombstone_codec h.tombstones) ac k x t.next.carried t.next.tombstones t.listed
      → Merging minute (rows_in carried_codec h.carried) (rows_in tombstone_codec h.tombstones) ac k y r.next.carried r.next.tombstones r.listed
  pub further : r.next.carried + r.next.tombstones ≡ t.next.carried + t.next.tombstones + 1

-- the own put of a row
abbrev pub own_put : Own → Action
own_put o = put_queued o.contact o.msgno

-- actions of the rows before i that a test keeps are listed
pub record Putting {A : Type 0} (f : A → Action) (p : A → Bool) (ts : List A) (ac : List ℕ) (i k : ℕ) (x : List ℕ) : Type 0 where
  pub within : i ≤ length ts
  pub below : k ≤ i
  pub listed : Listed ac 0 (map f (filter p (take i ts))) k x

-- ---- tables

-- the area a is now x: the rows ts, m of them, at its front
pub record Rewritten {A : Type 0} (c : Codec A) (a : List ℕ) (ts : List A) (m : ℕ) (x : List ℕ) : Type 0 where
  pub count : m ≡ length ts
  pub area : x ≡ with_table c a ts

-- of the rows before i, those that a test keeps stand at the front, each changed
pub record Rewriting {A : Type 0} (c : Codec A) (f : A → A) (p : A → Bool) (ts : List A) (a : List ℕ) (i k : ℕ) (x : List ℕ) : Type 0 where
  pub within : i ≤ length ts
  pub below : k ≤ i
  pub rewritten : Rewritten c a (map f (filter p (take i ts))) k x
  pub size : length x ≡ length a

-- ---- the call

-- how many actions are listed, where it is not refused
abbrev pub maintained_of : Outcome → ℕ
maintained_of o = length o.actions

-- what the call is lent, set into areas that are anything otherwise; the action area alone is for an answer
abbrev pub lent_tables : Device → (own carried tombstones : List ℕ) → Areas → Areas
lent_tables d own carried tombstones a = device_in d (own_in own (carried_in carried (tombstones_in tombstones a)))
