-- Each way out is one row of the model's tests, or the row that is made. Assumes nothing.
use Rattle.std.proofs.Common.{◌≡◌, ℕ, Option, sym, ap, ◌∙◌, arith, rules}
use Rattle.std.specs.Option.{ok_or}
use Rattle.std.proofs.lemmas.Result.{err_from_is_err_and}
use Rattle.courier_core.specs.declared.Refusal.TheVariants as refusal
use Rattle.model.proofs.CellLaws.{free_inside}
use Rattle.own_envelope.proofs.OwnLaws.{room_made, row_left}
use Rattle.own_envelope.proofs.CallLaws.{says_stranger, says_taken, says_length, says_none, says_full, says_row}
use Rattle.own_envelope.proofs.own_envelope.Goals as goal

pub returns-then-not-known : goal.returns-then-not-known
returns-then-not-known c a = says_stranger _ _ _ _ _ _ _ _ _ _ _ _ a (sym c.if-not-known.ensures)

pub returns-then-has_message : goal.returns-then-has_message
returns-then-has_message c a =
    says_taken _ _ _ _ _ _ _ _ _ _ _ _ a (sym c.if-not-known.ensures)
    (sym c.if-has_message.ensures)

pub returns-then-not-own_length : goal.returns-then-not-own_length
returns-then-not-own_length c a =
    says_length _ _ _ _ _ _ _ _ _ _ _ _ a (sym c.if-not-known.ensures)
    (sym c.if-has_message.ensures) (sym c.if-not-own_length.ensures)

pub returns-then-none_made : goal.returns-then-none_made
returns-then-none_made c a =
    says_none _ _ _ _ _ _ _ _ _ _ _ _ a (sym c.if-not-known.ensures)
    (sym c.if-has_message.ensures) (sym c.if-not-own_length.ensures)
    (sym c.if-none_made.ensures)

pub new_own-row-requires : goal.new_own-row-requires
new_own-row-requires c = (
  omega (arith, (room_made _ _ (sym c.if-none_made.ensures)).0),
  omega (arith, (free_inside _ _ _ (sym c.free_own_cell.ensures ∙ c.in_ok-cell.ensures.ok_part)).0),
)

pub copy_in-requires : goal.copy_in-requires
copy_in-requires c =
    omega (
      arith,
      (room_made _ _ (sym c.if-none_made.ensures)).0,
      (free_inside _ _ _
          (sym c.free_own_cell.ensures ∙ c.in_ok-cell.ensures.ok_part)).1,
    )

pub insert_own-device-requires : goal.insert_own-device-requires
insert_own-device-requires c =
    row_left _ _ (search rules) (room_made _ _ (sym c.if-none_made.ensures)).1

pub returns-in_err-cell : goal.returns-in_err-cell
returns-in_err-cell c a =
    let p = err_from_is_err_and c.from_residual.result c.from_residual.ensures.1 in
    let v = c.in_err-cell.ensures.value ∙ ap (λ (f : Option ℕ). ok_or f refusal.NoCell) c.in_err-cell.ensures.ok_part in
    let e : c.in_err-cell.field-0.0 ≡ refusal.NoCell = cc in
    rw (p.1, p.2, e)
    (says_full _ _ _ _ _ _ _ _ _ _ _ _ a (sym c.if-not-known.ensures)
    (sym c.if-has_message.ensures) (sym c.if-not-own_length.ensures)
    (sym c.if-none_made.ensures) (sym c.in_err-cell.ensures.ok_part ∙ c.free_own_cell.ensures))

pub returns : goal.returns
returns c a =
    says_row _ _ _ _ _ _ _ _ _ _ _ _ a (sym c.if-not-known.ensures)
    (sym c.if-has_message.ensures) (sym c.if-not-own_length.ensures)
    (sym c.if-none_made.ensures) (sym c.in_ok-cell.ensures.ok_part ∙ c.free_own_cell.ensures)
    c.route_tag-tag.ensures c.new_own-row.ensures c.copy_in.ensures c.insert_own-device.ensures
