use Rattle.std.proofs.Common.{arith, ◌≡◌, ap, ◌∙◌, length}
use Rattle.shape_terms.specs.Adjacency.{near_steps}
use Rattle.shape_adj.specs.NearMasks.{near_total}
use Rattle.shape_terms.specs.Links.{side_test}
use Rattle.shape_terms.proofs.LinkTests.{length-links}
use Rattle.shape_topo.proofs.MaskNumbers.{side_symmetric, background_counted, dark_seeds, dark_small, dark_by}
use Rattle.shape_topo.proofs.number.background_number.Goals as goal

pub count_parts-requires-clause-symmetric : goal.count_parts-requires-clause-symmetric
count_parts-requires-clause-symmetric g c = rw c.side_rows.ensures (side_symmetric g.P.Point.DIM)

pub count_parts-requires-clause-within : goal.count_parts-requires-clause-within
count_parts-requires-clause-within g c =
    let dark = dark_by g.P.Point.DIM c.args.mask c.all_neighbours.result c.round_neighbours.result c.side_neighbours.result g.met.P.Point.two_or_three
    (omega arith) c.all_neighbours.ensures c.side_neighbours.ensures c.round_neighbours.ensures in
    let e : length c.side_rows.result.now ≡ near_total g.P.Point.DIM = ap length c.side_rows.ensures ∙ length-links side_test (near_steps g.P.Point.DIM) in
    let s = dark_small g.P.Point.DIM c.args.mask _ _ dark in
    rw e s

pub count_parts-requires-clause-seeds : goal.count_parts-requires-clause-seeds
count_parts-requires-clause-seeds g c =
    let dark = dark_by g.P.Point.DIM c.args.mask c.all_neighbours.result c.round_neighbours.result c.side_neighbours.result g.met.P.Point.two_or_three
    (omega arith) c.all_neighbours.ensures c.side_neighbours.ensures c.round_neighbours.ensures in
    dark_seeds g.P.Point.DIM c.args.mask _ _ dark

pub returns : goal.returns
returns g c =
    let dark = dark_by g.P.Point.DIM c.args.mask c.all_neighbours.result c.round_neighbours.result c.side_neighbours.result g.met.P.Point.two_or_three
    (omega arith) c.all_neighbours.ensures c.side_neighbours.ensures c.round_neighbours.ensures in
    background_counted g.P.Point.DIM c.args.mask _ _ c.count_parts.result dark (rw c.side_rows.ensures at c.count_parts.ensures.parts)
