use Rattle.std.proofs.Common.{◌≡◌, ◌-◌, drop}
use Rattle.shape_terms.specs.Points.{sides_of, coordinate, raster_point}
use Rattle.measuring.proofs.text.axis_digit.Given as goal

abbrev pub invariant-loop-j : goal.invariant-loop-j
invariant-loop-j g l =
    let ns = sides_of (g.P.Point.coords l.sides.lengths) in
    coordinate (raster_point (drop l.j ns) l.left) (l.k - l.j) ≡ coordinate (raster_point ns l.fn.i) l.k
