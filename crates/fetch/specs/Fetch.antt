-- What fetch answers, and what it is lent.
-- Assumes nothing.
use Rattle.std.specs.Prelude.{◌≡◌, ℕ, List, Option, Some, None, Result, Ok, Err}
use Rattle.std.specs.Borrow.{Bor}
use Rattle.octets.specs.Bytes.{part, splice}
use Rattle.courier_core.specs.declared.Refusal.{Refusal}
use Rattle.rows.specs.declared.Device.{Device}
use Rattle.rows.specs.Rows.{reply_bytes}
use Rattle.model.specs.Calls.{Cells, of_own, of_carried, Detail, found, Result as Outcome, detail}
use Rattle.model.specs.Areas.{Areas}
use Rattle.model.specs.Cells.{ciphertext}
use Rattle.model.specs.Exchange.{Envelope, reply_for}
use Rattle.model.specs.Lent.{device_in, contacts_in, own_in, carried_in, own_cells_in, carried_cells_in}

-- an envelope is answered: its ciphertext, of the cell area, and its row in the reply area, which was lent and is now back
pub record Given (e : Envelope) (cells lent ct back : List ℕ) : Type 0 where
  pub bytes : ct ≡ ciphertext cells e.cell e.len
  pub row : back ≡ splice lent 0 (reply_bytes (reply_for e))

-- ---- the call

-- the answer, with the bytes of the slice that it has
abbrev pub fetched_said : Result (Option (Bor (List ℕ))) Refusal → Result (Option (List ℕ)) Refusal
fetched_said (Err why) = Err why
fetched_said (Ok (Some ct)) = Ok (Some ct.now)
fetched_said (Ok None) = Ok None

abbrev pub cells_of : List ℕ → List ℕ → Cells → List ℕ
cells_of own carried of_own = own
cells_of own carried of_carried = carried

-- the part of the cell area that is the ciphertext, by the position and length that the answer has; none where no envelope has the tag
abbrev pub fetched_of : List ℕ → List ℕ → Detail → Option (List ℕ)
fetched_of own carried (found cells position len) = Some (part (cells_of own carried cells) position len)
fetched_of own carried other = None

-- where it is not refused
abbrev pub fetch_says : List ℕ → List ℕ → Outcome → Option (List ℕ)
fetch_says own carried o = fetched_of own carried (detail o.answer)

-- what the call is lent, set into areas that are anything otherwise
abbrev pub fetch_in : Device → (contacts own carried own_cells carried_cells : List ℕ) → Areas → Areas
fetch_in d contacts own carried own_cells carried_cells a =
    device_in d (contacts_in contacts (own_in own (carried_in carried (own_cells_in own_cells (carried_cells_in carried_cells a)))))
