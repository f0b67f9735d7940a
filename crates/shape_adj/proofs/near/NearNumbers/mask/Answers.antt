use Rattle.std.proofs.Common.{◌/◌, ◌≤◌, arith}
use Rattle.shape_terms.specs.Points.{sides_of, raster_point}
use Rattle.shape_terms.specs.Pictures.{Picture}
use Rattle.shape_adj.proofs.MaskBits.{few_neighbours}
use Rattle.shape_adj.proofs.CubeRows.{inner_of, near_mask}
use Rattle.shape_adj.proofs.near.NearNumbers.mask.Goals as goal

pub without_centre-requires : goal.without_centre-requires
without_centre-requires g c =
    let few : g.P.Pairing.NEAR_COUNT ≤ 26 = few_neighbours g.P.Point.DIM g.P.Pairing.NEAR_COUNT g.met.P.Point.two_or_three g.met.P.Pairing.near_total in
    omega (arith, c.NEAR_COUNT.ensures)

pub returns : goal.returns
returns g c =
    let s = c.args.self.now.sides.lengths in
    let q = inner_of (g.P.Point.coords s) c.args.i g.P.Point.DIM g.P.Pairing.NEAR_COUNT c.NEAR_COUNT.result c.requires.point (g.met.P.Point.axes s)
    g.met.P.Point.two_or_three g.met.P.Pairing.near_total c.NEAR_COUNT.ensures c.requires.inner in
    let Y : Picture = record { sides = sides_of (g.P.Point.coords s); values = c.args.values.now } in
    near_mask Y (raster_point Y.sides c.args.i) (c.NEAR_COUNT.result / 2) c.cube.result c.without_centre.result
    q.centre c.cube.ensures c.without_centre.ensures.before c.without_centre.ensures.behind
