-- `courier::route_tag` meets its contract: three runs, one after the other, are the input (`route_made`), and the label is short, so
-- the answer is the MAC (`route_sent`). Assumes nothing.
use Rattle.std.proofs.Common.{◌+◌, sym, ◌∙◌, arith, length-take}
use Rattle.courier.proofs.TagLaws.{index_fits, route_made, route_sent}
use Rattle.courier.proofs.route_tag.Goals as goal

pub slice_bounds-mac-end-3 : goal.slice_bounds-mac-end-3
slice_bounds-mac-end-3 c =
    omega (arith, length-take (2 + c.leb128-index.result.len) c.put_array.new.area, index_fits c.args.idx _ c.leb128-index.ensures)

pub returns : goal.returns
returns c =
    route_sent c.args.key c.args.dir c.args.generation c.args.idx _ _ _
    (route_made c.args.dir c.args.generation c.args.idx _ _ _ c.label.ensures c.leb128-index.ensures c.put_array.ensures.0) (sym c.unwrap.ensures ∙ c.mac.ensures)
