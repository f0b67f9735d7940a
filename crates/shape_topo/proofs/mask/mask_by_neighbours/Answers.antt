use Rattle.shape_terms.proofs.FramedBoxes.{box_point_within}
use Rattle.shape_topo.proofs.mask.mask_by_neighbours.Goals as goal

pub mask_of-requires : goal.mask_of-requires
mask_of-requires g c =
    let s = c.args.sides.now in
    box_point_within g.P.Point.MAX_SIDE (g.P.Point.coords s.lengths) (g.P.Point.coords c.unraster.result) s.in_range g.met.P.Point.flat_side
    c.unraster.ensures.inside
