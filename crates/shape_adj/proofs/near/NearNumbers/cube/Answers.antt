use Rattle.std.proofs.Common.{◌≡◌, ◌*◌, ◌≤◌, true, length, arith, subst}
use Rattle.shape_terms.specs.Points.{sides_of, raster_point}
use Rattle.shape_terms.specs.Pictures.{Picture, at}
use Rattle.shape_adj.specs.NearMasks.{cube_point, cube_total}
use Rattle.shape_adj.proofs.MaskBits.{Marks, marks_row, few_neighbours}
use Rattle.shape_adj.proofs.CubeRows.{inner_of}
use Rattle.shape_adj.proofs.near.NearNumbers.cube.Goals as goal

pub row-requires-clause-row : goal.row-requires-clause-row
row-requires-clause-row g c = omega (arith, c.NEAR_COUNT.ensures)

pub loop-r-preserved : goal.loop-r-preserved
loop-r-preserved g c =
    let few : g.P.Pairing.NEAR_COUNT ≤ 26 = few_neighbours g.P.Point.DIM g.P.Pairing.NEAR_COUNT g.met.P.Point.two_or_three g.met.P.Pairing.near_total in
    let Y : Picture = record { sides = sides_of (g.P.Point.coords c.args.self.now.sides.lengths); values = c.args.values.now } in
    let p = raster_point Y.sides c.args.i in
    marks_row (λ j. at Y (cube_point p j) ≡ true) c.loop-r.r c.loop-r.cube c.row.result (omega (arith, c.NEAR_COUNT.ensures)) c.loop-r.invariant c.row.ensures

pub returns : goal.returns
returns g c =
    let s = c.args.self.now.sides.lengths in
    let q = inner_of (g.P.Point.coords s) c.args.i g.P.Point.DIM g.P.Pairing.NEAR_COUNT c.NEAR_COUNT.result c.requires.point (g.met.P.Point.axes s)
    g.met.P.Point.two_or_three g.met.P.Pairing.near_total c.NEAR_COUNT.ensures c.requires.inner in
    let Y : Picture = record { sides = sides_of (g.P.Point.coords s); values = c.args.values.now } in
    let p = raster_point Y.sides c.args.i in
    let total : 3 * c.loop-r.r ≡ cube_total (length p) =
    let t = q.centre.total in let u = q.centre.half in let v = q.centre.third in let w = q.all in omega arith in
    subst (λ n. Marks (λ j. at Y (cube_point p j) ≡ true) n c.loop-r.cube) total c.loop-r.invariant
