use Rattle.std.proofs.Common.{◌≡◌, take}
use Rattle.drawing.specs.Seen.{flats}
use Rattle.draw_report.proofs.edges.corners_of.Given as goal

abbrev pub invariant-loop-i : goal.invariant-loop-i
invariant-loop-i l = flats l.points.items ≡ take l.i l.path
