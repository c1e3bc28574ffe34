-- `own_envelope`: the own envelope call.
-- Assumes nothing.
use Rattle.std.specs.Prelude.{ℕ, ◌-◌, ◌*◌, Bool, cond, not, ◌&&◌, ◌||◌, List, [], ◌∷◌, map, length, ◌==◌, nat_le, nat_lt}
use Rattle.octets.specs.Bytes.{splice}
use Rattle.courier_core.specs.declared.ContactId.{ContactId}
use Rattle.courier_core.specs.declared.Refusal.{Refusal}
use Rattle.courier_core.specs.declared.Refusal.TheVariants as refusal
use Rattle.chain.specs.declared.Dir.{Dir}
use Rattle.chain.specs.Chain.{is_bucket}
use Rattle.courier.specs.Tags.{route_tag}
use Rattle.courier.specs.Courier.{courier_inner_max}
use Rattle.table.specs.Lists.{any, position, unwrap_or, insert_at}
use Rattle.state.specs.Sizes.{cell_size}
use Rattle.rows.specs.declared.Own.{Own}
use Rattle.rows.specs.declared.Contact.{Contact}
use Rattle.rows.specs.Limits.{max_own}
use Rattle.model.specs.Basics.{same_contact}
use Rattle.model.specs.State.{State, own_now, own_cells_now, ◌and◌}
use Rattle.model.specs.Calls.{Result, result, only, own_row, no_envelope, done_with}
use Rattle.model.specs.Contacts.{end_of, known, added_before}
use Rattle.model.specs.Cells.{cells_used, new_cell}

-- number 10: the message number is already there
abbrev pub is_message : ContactId → ℕ → Own → Bool
is_message id msgno o = same_contact o.contact id && o.msgno == msgno

-- number 11 is for a ciphertext that, less 16, is no inner length
unfoldable pub own_length : ℕ → Bool
own_length len = nat_le 16 len && is_bucket (len - 16)

-- inner length above COURIER_INNER_MAX, or MAX_OWN rows there: no envelope
unfoldable pub none_made : List Own → ℕ → Bool
none_made own len = nat_lt courier_inner_max (len - 16) || nat_le max_own (length own)

abbrev pub own_named : State → List ℕ
own_named s = map (λ (o : Own). o.cell) s.own

abbrev pub own_cell : State → ℕ
own_cell s = new_cell (length s.own_cells) (own_named s)

unfoldable pub own_tests : State → ContactId → ℕ → ℕ → List (Bool × Refusal)
own_tests s id msgno len =
    (not (known s.contacts id), refusal.UnknownContact)
    ∷ (any (is_message id msgno) s.own, refusal.MessageNumberTaken)
    ∷ (not (own_length len), refusal.OwnLength)
    ∷ (not (none_made s.own len) && cells_used (length s.own_cells) (own_named s), refusal.NoCell)
    ∷ []

unfoldable pub new_own : State → ContactId → ℕ → List ℕ → List ℕ → ℕ → Own
new_own s id msgno tag secret len = record {
  contact = id;
  msgno = msgno;
  tag = tag;
  s = secret;
  expiry_min = end_of s;
  copies = s.courier.copies;
  renewed = 0;
  len = len;
  cell = own_cell s;
}

-- does a row stand after one of this contact and message number
unfoldable pub stands_after : List Contact → ContactId → ℕ → Own → Bool
stands_after ps id msgno o =
    nat_lt (added_before ps id) (added_before ps o.contact) || (same_contact o.contact id && nat_lt msgno o.msgno)

-- own rows stand by contact as added and message number
unfoldable pub insert_own : List Contact → Own → List Own → List Own
insert_own ps new own = insert_at (unwrap_or (length own) (position (stands_after ps new.contact new.msgno) own)) new own

unfoldable pub make_own : State → Own → List ℕ → Result
make_own s new ct =
    result (done_with (own_row new)) [] []
    (own_now (insert_own s.contacts new s.own) and own_cells_now (splice s.own_cells (new.cell * cell_size) ct))

unfoldable pub own_envelope : State → ContactId → ℕ → List ℕ → Dir → ℕ → ℕ → List ℕ → List ℕ → Result
own_envelope s id msgno key dir generation idx secret ct =
    cond (none_made s.own (length ct)) (only (done_with no_envelope))
    (make_own s (new_own s id msgno (route_tag key dir generation idx) secret (length ct)) ct)
