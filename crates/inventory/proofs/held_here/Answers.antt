-- What fits is what a table of the count has.
use Rattle.std.proofs.Common.{lit<}
use Rattle.rows.specs.Rows.{own_codec, carried_codec}
use Rattle.offers.proofs.EntryLaws.{rows_fit}
use Rattle.inventory.proofs.held_here.Goals as goal

pub returns-clause-own : goal.returns-clause-own
returns-clause-own c = rows_fit own_codec c.fit.result c.args.device.own c.args.own.now (lit< tt) c.fit.ensures.fits c.fit.ensures.same

pub returns-clause-carried : goal.returns-clause-carried
returns-clause-carried c = rows_fit carried_codec c.fit-2.result c.args.device.carried c.args.carried.now (lit< tt) c.fit-2.ensures.fits c.fit-2.ensures.same
