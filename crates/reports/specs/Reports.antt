-- What the reports are lent.
-- Assumes nothing.
use Rattle.std.specs.Prelude.{ℕ, List}
use Rattle.rows.specs.declared.Device.{Device}
use Rattle.model.specs.Areas.{Areas}
use Rattle.model.specs.Lent.{device_in, contacts_in, tombstones_in, bad_tags_in}

abbrev pub opened_lent : Device → (contacts tombstones : List ℕ) → Areas → Areas
opened_lent d contacts tombstones a = device_in d (contacts_in contacts (tombstones_in tombstones a))

abbrev pub failed_lent : Device → (contacts bad : List ℕ) → Areas → Areas
failed_lent d contacts bad a = device_in d (contacts_in contacts (bad_tags_in bad a))
