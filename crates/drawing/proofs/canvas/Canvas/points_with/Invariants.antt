use Rattle.std.proofs.Common.{◌≡◌, take}
use Rattle.std.specs.Prelude.{filter}
use Rattle.shape_terms.specs.Points.{box_points}
use Rattle.drawing.specs.Seen.{flats}
use Rattle.drawing.specs.Canvas.{cell_at}
use Rattle.drawing.specs.Inks.{has_ink}
use Rattle.drawing.proofs.canvas.Canvas.points_with.Given as goal

abbrev pub invariant-loop-i : goal.invariant-loop-i
invariant-loop-i l = flats l.points.items ≡ filter (λ q. has_ink l.colour l.shade (cell_at l.self q)) (take l.i (box_points l.self.sides))
