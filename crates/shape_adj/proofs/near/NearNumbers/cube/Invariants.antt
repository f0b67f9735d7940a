use Rattle.std.proofs.Common.{◌≡◌, ◌*◌, true}
use Rattle.shape_terms.specs.Points.{sides_of, raster_point}
use Rattle.shape_terms.specs.Pictures.{Picture, at}
use Rattle.shape_adj.specs.NearMasks.{cube_point}
use Rattle.shape_adj.proofs.MaskBits.{Marks}
use Rattle.shape_adj.proofs.near.NearNumbers.cube.Given as goal

abbrev pub invariant-loop-r : goal.invariant-loop-r
invariant-loop-r g l =
    let Y : Picture = record { sides = sides_of (g.P.Point.coords l.self.sides.lengths); values = l.values } in
    Marks (λ c. at Y (cube_point (raster_point Y.sides l.i) c) ≡ true) (3 * l.r) l.cube
