use Rattle.shape_terms.specs.Points.{sides_of}
use Rattle.shape_thickness.specs.Painting.{IsKnown}
use Rattle.shape_thickness.proofs.depths.painted_of.Given as goal

abbrev pub invariant-loop-i : goal.invariant-loop-i
invariant-loop-i g l = IsKnown (sides_of (g.P.Point.coords l.sides.lengths)) l.painted l.canvas
