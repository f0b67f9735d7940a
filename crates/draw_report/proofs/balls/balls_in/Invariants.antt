use Rattle.std.proofs.Common.{◌≡◌, take}
use Rattle.shape_terms.specs.Points.{sides_of}
use Rattle.drawing.specs.Seen.{flat}
use Rattle.draw_report.specs.Circles.{balls_in}
use Rattle.draw_report.specs.Seen.{all_marks, all_balls}
use Rattle.draw_report.proofs.balls.balls_in.Given as goal

abbrev pub invariant-loop-mark : goal.invariant-loop-mark
invariant-loop-mark l = all_balls l.found.items ≡ balls_in (sides_of (flat l.sides.lengths)) (all_marks (take l.mark-index l.marks))
