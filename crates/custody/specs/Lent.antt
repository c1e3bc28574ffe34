-- What the tests of an envelope are lent, in areas that are anything otherwise.
-- Assumes nothing.
use Rattle.std.specs.Prelude.{◌≡◌, ℕ, List, length}
use Rattle.rows.specs.declared.Device.{Device}
use Rattle.model.specs.Areas.{Areas}
use Rattle.custody.specs.declared.Tables.{Tables}

-- areas whose parts are those that the call is lent, the cell area having so many bytes
pub record Lends (a : Areas) (d : Device) (ps os rs ts : List ℕ) (n : ℕ) : Type 0 where
  pub device : a.device ≡ d
  pub contacts : a.contacts ≡ ps
  pub own : a.own ≡ os
  pub carried : a.carried ≡ rs
  pub tombstones : a.tombstones ≡ ts
  pub size : n ≡ length a.carried_cells

abbrev pub Lent : Areas → Tables → Type 0
Lent a t = Lends a t.device t.contacts.now t.own.now t.carried.now t.tombstones.now t.size
