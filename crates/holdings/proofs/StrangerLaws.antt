-- The window's rows asked whether their contacts are known.
-- Assumes nothing.
use Rattle.std.proofs.Common.{◌≡◌, ℕ, ◌+◌, ◌*◌, ◌/◌, ◌<◌, ◌≤◌, Bool, false, not, ◌||◌, List, length, drop, sym, ap, ◌∙◌, add-zero, arith}
use Rattle.octets.specs.Bytes.{part, num}
use Rattle.octets.proofs.Parts.{part_part}
use Rattle.table.specs.Rows.{held}
use Rattle.table.proofs.FindLaws.{any_next, any_end}
use Rattle.table.proofs.TableLaws.{length_table, table_next}
use Rattle.rows.specs.declared.Contact.{Contact}
use Rattle.rows.specs.declared.Reachable.{Reachable}
use Rattle.rows.specs.Rows.{reachable_codec, reachable_of}
use Rattle.model.specs.Contacts.{known}
use Rattle.model.specs.Window.{window_rows, strangers}

-- the rows from i on decide
module _ (ps : List Contact) (a : List ℕ) (i : ℕ)
    (left : strangers ps (window_rows a) ≡ strangers ps (drop i (window_rows a))) where
  abbrev stranger : Reachable → Bool
  stranger r = not (known ps r.contact)

  pub stranger_next : (v : ℕ) (b : Bool) → i < length a / 30 → v ≡ num (part a (i * 30) 8) → not (known ps (record { 0 = v })) ≡ b
      → strangers ps (window_rows a) ≡ (b || strangers ps (drop (i + 1) (window_rows a)))
  unfolding strangers window_rows reachable_of held
  stranger_next v b h e t =
      left ∙ any_next stranger (window_rows a) i _ b (table_next reachable_codec (length a / 30) a i (omega arith))
      (ap (λ (x : ℕ). not (known ps (record { 0 = x })))
      (ap num (part_part a (i * 30) 30 0 8 (omega arith) ∙ ap (λ (k : ℕ). part a k 8) (add-zero (i * 30))) ∙ sym e) ∙ t)

  pub stranger_end : length a / 30 ≤ i → false ≡ strangers ps (window_rows a)
  unfolding strangers window_rows held
  stranger_end h = sym (left ∙ any_end stranger (window_rows a) i (omega (arith, length_table reachable_codec (length a / 30) a)))
