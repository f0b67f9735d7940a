use Rattle.shape_terms.specs.Points.{sides_of}
use Rattle.measuring.specs.Spaced.{spacing_told}
use Rattle.measuring.specs.Farthest.{HaveFarthest}
use Rattle.measuring.proofs.diameters.farthest_of_all.Given as goal

abbrev pub invariant-loop-object : goal.invariant-loop-object
invariant-loop-object g l = HaveFarthest (spacing_told l.spacing) (sides_of (g.P.Point.coords l.sides.lengths)) l.objects l.object-index l.all.items
