-- What the program's own marks, parts, balls and paths mean, as those of the definitions.
-- A point is the list of its coordinates.
use Rattle.std.specs.Prelude.{List, [], ◌∷◌, map}
use Rattle.std.specs.declared.vec.Vec.{Vec}
use Rattle.shape_space.specs.declared.point.P2.{P2}
use Rattle.shape_terms.specs.Points.{Point}
use Rattle.drawing.specs.Seen.{flat, flats}
use Rattle.draw_report.specs.Parts as Parts
use Rattle.draw_report.specs.Circles as Circles
use Rattle.draw_report.specs.declared.part.Mark as Program
use Rattle.draw_report.specs.declared.part.Mark.TheVariants as mark
use Rattle.draw_report.specs.declared.part.Part as ProgramPart
use Rattle.draw_report.specs.declared.part.Part.TheVariants as part
use Rattle.draw_report.specs.declared.balls.Ball as ProgramBall

abbrev pub mark_of : Program.Mark → Parts.Mark
mark_of (mark.Ball centre square) = Parts.Mark.Ball (flat centre) square
mark_of mark.Border = Parts.Mark.Border
mark_of (mark.Along first last) = Parts.Mark.Along (record { first = first; last = last })

abbrev pub all_marks : List Program.Mark → List Parts.Mark
all_marks ms = map mark_of ms

abbrev pub part_of : ProgramPart.Part → Parts.Part
part_of (part.Heading width height) = Parts.Part.Heading (width ∷ height ∷ [])
part_of (part.Gives m) = Parts.Part.Gives (mark_of m)
part_of part.Quiet = Parts.Part.Quiet
part_of part.End = Parts.Part.End

abbrev pub ball_of : ProgramBall.Ball → Circles.Ball
ball_of b = record { centre = flat b.centre; square = b.square }

abbrev pub all_balls : List ProgramBall.Ball → List Circles.Ball
all_balls bs = map ball_of bs

-- the points of each path
abbrev pub all_paths : {Z : Type 0} → List (Vec P2 Z) → List (List Point)
all_paths paths = map (λ v. flats v.items) paths
