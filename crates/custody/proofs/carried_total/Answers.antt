-- `custody::carried_total`: the sum over the places of the rows. There are 256 rows at most, so that it fits. Assumes nothing.
use Rattle.std.proofs.Common.{◌∙◌, arith, rules}
use Rattle.std.specs.List.{range_with_len}
use Rattle.std.proofs.lemmas.Iterator.{YieldsList-from_range, YieldsList-from_map}
use Rattle.std.proofs.lemmas.Iterator.Consumers.{sum_by_from_yields_List, fits_by_from_yields_list}
use Rattle.custody.proofs.Laws.{bytes_at, total_all, total_fits}
use Rattle.custody.proofs.carried_total.Goals as goal

pub sum-requires-clause-fits : goal.sum-requires-clause-fits
sum-requires-clause-fits c =
    fits_by_from_yields_list (bytes_at c.args.carried.area.now c.args.size) (range_with_len 0 c.len.result) c.map.result _
    (YieldsList-from_map _ (bytes_at c.args.carried.area.now c.args.size) (YieldsList-from_range 0 _ c.len.result c.map.ensures.source (omega arith))
    c.map.ensures.closure (λ x r q k. search rules)) (total_fits _ _ _ _ c.len.ensures.is c.requires)

pub returns : goal.returns
returns c =
    sum_by_from_yields_List (bytes_at c.args.carried.area.now c.args.size) (range_with_len 0 c.len.result) c.map.result _ c.sum.ensures.ran
    (YieldsList-from_map _ (bytes_at c.args.carried.area.now c.args.size) (YieldsList-from_range 0 _ c.len.result c.map.ensures.source (omega arith))
    c.map.ensures.closure (λ x r q k. search rules))
    ∙ total_all _ _ _ _ c.len.ensures.is
