-- Laws of an envelope that is answered: its row of the reply area, and its ciphertext.
-- Assumes nothing.
use Rattle.std.proofs.Common.{◌≡◌, ℕ, List, ◌∙◌, subst, ap₂}
use Rattle.octets.specs.Bytes.{splice}
use Rattle.rows.specs.declared.Own.{Own}
use Rattle.rows.specs.declared.Carried.{Carried}
use Rattle.rows.specs.Rows.{reply_bytes}
use Rattle.courier.specs.declared.Header.{Header}
use Rattle.model.specs.Calls.{of_own, of_carried, reply_cell, envelope_row}
use Rattle.model.specs.Exchange.{own_envelope_of, carried_envelope_of}
use Rattle.model.specs.Cells.{ciphertext}
use Rattle.fetch.specs.Fetch.{Given}

module _ (cells lent ct back : List ℕ) (head : Header) where
  pub given_own : (k : ℕ) (o x : Own) → o ≡ x → k ≡ reply_cell of_own o.cell → head ≡ (own_envelope_of o).head
      → back ≡ splice lent 0 (reply_bytes (envelope_row k head)) → ct ≡ ciphertext cells o.cell o.len → Given (own_envelope_of x) cells lent ct back
  unfolding own_envelope_of
  given_own k o x e q h f g =
      subst (λ (y : Own). Given (own_envelope_of y) cells lent ct back) e
      (record { bytes = g; row = f ∙ ap₂ (λ (n : ℕ) (y : Header). splice lent 0 (reply_bytes (envelope_row n y))) q h })

  pub given_carried : (k : ℕ) (o x : Carried) → o ≡ x → k ≡ reply_cell of_carried o.cell → head ≡ (carried_envelope_of o).head
      → back ≡ splice lent 0 (reply_bytes (envelope_row k head)) → ct ≡ ciphertext cells o.cell o.len → Given (carried_envelope_of x) cells lent ct back
  unfolding carried_envelope_of
  given_carried k o x e q h f g =
      subst (λ (y : Carried). Given (carried_envelope_of y) cells lent ct back) e
      (record { bytes = g; row = f ∙ ap₂ (λ (n : ℕ) (y : Header). splice lent 0 (reply_bytes (envelope_row n y))) q h })
