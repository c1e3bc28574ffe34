-- What the own envelope call answers and is lent, and the parts of what it does.
-- Assumes nothing.
use Rattle.std.specs.Prelude.{ℕ, List, length, Option, Some, None}
use Rattle.courier_core.specs.declared.ContactId.{ContactId}
use Rattle.table.specs.Lists.{position, unwrap_or}
use Rattle.rows.specs.declared.Device.{Device}
use Rattle.rows.specs.declared.Contact.{Contact}
use Rattle.rows.specs.declared.Own.{Own}
use Rattle.model.specs.Calls.{Detail, own_row, Result as Outcome, detail}
use Rattle.model.specs.Contacts.{lifetime_end}
use Rattle.model.specs.Own.{stands_after}
use Rattle.model.specs.Areas.{Areas}
use Rattle.model.specs.Lent.{device_in, contacts_in, own_in, own_cells_in}

-- the row that is made, where it is not refused: none where no envelope is
abbrev pub made_of : Detail → Option Own
made_of (own_row row) = Some row
made_of other = None

abbrev pub own_says : Outcome → Option Own
own_says o = made_of (detail o.answer)

-- what the call is lent, set into areas that are anything otherwise
abbrev pub lent_own : Device → (contacts own cells : List ℕ) → Areas → Areas
lent_own d contacts own cells a = device_in d (contacts_in contacts (own_in own (own_cells_in cells a)))

-- the new row, by the device's clock and setting
abbrev pub made_own : Device → ContactId → ℕ → (tag s : List ℕ) → (len cell : ℕ) → Own
made_own d id msgno tag secret len cell = record {
  contact = id;
  msgno = msgno;
  tag = tag;
  s = secret;
  expiry_min = lifetime_end d.now_s d.courier;
  copies = d.courier.copies;
  renewed = 0;
  len = len;
  cell = cell;
}

-- where a row of this contact and message number goes
unfoldable pub own_place : List Contact → ContactId → ℕ → List Own → ℕ
own_place ps id msgno own = unwrap_or (length own) (position (stands_after ps id msgno) own)
