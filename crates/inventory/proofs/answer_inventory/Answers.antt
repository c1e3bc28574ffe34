-- Fetches, tombs and offers stand one behind the other.
use Rattle.std.proofs.Common.{refl, arith, lit<}
use Rattle.rows.specs.Rows.{tombstone_codec}
use Rattle.offers.proofs.EntryLaws.{rows_fit}
use Rattle.inventory.proofs.ReceiveLaws.{answered}
use Rattle.inventory.proofs.answer_inventory.Goals as goal

pub returns : goal.returns
returns c =
    let f = c.push_fetches-f.ensures in
    let t = c.push_tombs-t.ensures in
    let ts = rows_fit tombstone_codec c.fit-tombstones.result c.args.lookup.now.tombstones.count c.args.lookup.now.tombstones.area.now (lit< tt)
    c.fit-tombstones.ensures.fits c.fit-tombstones.ensures.same in
    answered _ c.args.lookup.now _ _ _ c.args.replies.now c.args.offers.now f.0 t.0 (rw ts at c.list_offers-searched.ensures) c.write_offers-sent.ensures
    (omega (arith, f.1, t.1, c.requires.few, c.requires.in_bounds.1)) refl refl
