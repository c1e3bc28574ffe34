-- `Tables::full`: the first limit that is met decides. Assumes nothing.
use Rattle.std.proofs.Common.{true, false, leb, sym, refl, ap, ◌∙◌, ap₂, le-leb}
use borrow.Author.Tests.{lt-leb}
use Rattle.model.specs.Custody.{quota}
use Rattle.table.proofs.TableLaws.{length_table}
use Rattle.rows.specs.Rows.{carried_codec}
use Rattle.holdings.proofs.RowLaws.{clash}
use Rattle.custody.proofs.Laws.{full_of}
use Rattle.custody.proofs.Tables.full.Goals as goal
use Rattle.custody.proofs.Tables.full.Goals.{then-len-ge-MAX_CARRIED, else-len-ge-MAX_CARRIED}

pub returns-then-too_many_bytes : goal.returns-then-too_many_bytes
returns-then-too_many_bytes c = λ s er ec es.
    let rows = length_table carried_codec _ _ ∙ sym c.len.ensures.is in
    elim c.if-len-ge-MAX_CARRIED.branch [
      | then-len-ge-MAX_CARRIED w ↦
          c.if-too_many_bytes.true ∙ sym (full_of _ _ s er ec es true _ _ (ap (leb 256) rows ∙ le-leb _ _ w.if-len-ge-MAX_CARRIED.true) refl refl)
      | else-len-ge-MAX_CARRIED w ↦
          c.if-too_many_bytes.true ∙ sym (full_of _ _ s er ec es false true _ (ap (leb 256) rows ∙ lt-leb _ _ w.if-len-ge-MAX_CARRIED.false)
          (sym w.too_many_bytes.ensures ∙ sym w.value-is ∙ c.if-too_many_bytes.true) refl)
    ]

pub returns-else-too_many_bytes : goal.returns-else-too_many_bytes
returns-else-too_many_bytes c = λ s er ec es.
    let rows = length_table carried_codec _ _ ∙ sym c.len.ensures.is in
    elim c.if-len-ge-MAX_CARRIED.branch [
      | then-len-ge-MAX_CARRIED w ↦ clash _ (w.value-is ∙ le-leb _ _ w.if-len-ge-MAX_CARRIED.true) c.if-too_many_bytes.false
      | else-len-ge-MAX_CARRIED w ↦
          sym (full_of _ _ s er ec es false false _ (ap (leb 256) rows ∙ lt-leb _ _ w.if-len-ge-MAX_CARRIED.false)
          (sym w.too_many_bytes.ensures ∙ sym w.value-is ∙ c.if-too_many_bytes.false)
          (sym (ap₂ leb (c.quota.ensures ∙ ap quota c.is_verified.ensures) c.deposited.ensures)))
    ]
