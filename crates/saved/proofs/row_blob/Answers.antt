-- Each way out is the model's test, or what its search finds.
use Rattle.std.proofs.Common.{sym, ◌∙◌, arith}
use Rattle.rows.specs.Rows.{carried_codec, tombstone_codec}
use Rattle.model.specs.Exchange.{no_carried}
use Rattle.model.specs.Tombs.{no_tombstone}
use Rattle.saved.proofs.BlobLaws.{carried_place, tombstone_place}
use Rattle.saved.proofs.RowBlobLaws.{row_inside, says_short, says_carried, says_tombstone, says_missing}
use Rattle.saved.proofs.row_blob.Goals as goal

pub returns-then-blob-lt-BLOB : goal.returns-then-blob-lt-BLOB
returns-then-blob-lt-BLOB c a = says_short _ _ _ _ _ _ a (omega arith)

pub overflow_mul-i : goal.overflow_mul-i
overflow_mul-i c =
    omega (arith, c.well_formed, row_inside carried_codec no_carried _ _ _ (sym c.in-Some.is ∙ carried_place _ _ _ c.slot_place.ensures))

pub read-row-requires : goal.read-row-requires
read-row-requires c = row_inside carried_codec no_carried _ _ _ (sym c.in-Some.is ∙ carried_place _ _ _ c.slot_place.ensures)

pub overflow_mul-i-in-Some-slot_place : goal.overflow_mul-i-in-Some-slot_place
overflow_mul-i-in-Some-slot_place c =
    omega (arith, c.well_formed, row_inside tombstone_codec no_tombstone _ _ _ (sym c.in-Some-slot_place.is ∙ tombstone_place _ _ _ c.slot_place-in-None.ensures))

pub read-row-requires-in-Some-slot_place : goal.read-row-requires-in-Some-slot_place
read-row-requires-in-Some-slot_place c =
    row_inside tombstone_codec no_tombstone _ _ _ (sym c.in-Some-slot_place.is ∙ tombstone_place _ _ _ c.slot_place-in-None.ensures)

pub returns-in-Some : goal.returns-in-Some
returns-in-Some c a =
    says_carried _ _ _ _ _ _ a c.if-blob-lt-BLOB.false _ _ _ (sym c.in-Some.is ∙ carried_place _ _ _ c.slot_place.ensures) c.read-row.ensures c.blob.ensures

pub returns-in-Some-slot_place : goal.returns-in-Some-slot_place
returns-in-Some-slot_place c a =
    says_tombstone _ _ _ _ _ _ a c.if-blob-lt-BLOB.false (sym c.in-None.is ∙ carried_place _ _ _ c.slot_place.ensures) _ _ _
    (sym c.in-Some-slot_place.is ∙ tombstone_place _ _ _ c.slot_place-in-None.ensures) c.read-row-in-Some-slot_place.ensures c.blob-in-Some-slot_place.ensures

pub returns-in-None-slot_place : goal.returns-in-None-slot_place
returns-in-None-slot_place c a =
    says_missing _ _ _ _ _ _ a c.if-blob-lt-BLOB.false (sym c.in-None.is ∙ carried_place _ _ _ c.slot_place.ensures)
    (sym c.in-None-slot_place.is ∙ tombstone_place _ _ _ c.slot_place-in-None.ensures)
