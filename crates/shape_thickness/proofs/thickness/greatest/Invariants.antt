use Rattle.shape_thickness.specs.Painting.{IsKnown}
use Rattle.shape_thickness.proofs.GreatestBalls.{ArePaintedFrom}
use Rattle.shape_thickness.proofs.thickness.greatest.Given as goal

abbrev pub invariant-loop-k : goal.invariant-loop-k
invariant-loop-k g l = record {
  painted : ArePaintedFrom l.grid.sides l.centres.items l.k l.canvas;
  known : IsKnown l.grid.sides l.depths l.canvas;
}
