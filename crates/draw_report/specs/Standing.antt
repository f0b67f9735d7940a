-- What the program keeps of the lines so far, of an analysis and of a further report.
-- Which texts these are lines of is told elsewhere.
use Rattle.std.specs.Prelude.{◌≡◌, Bool, true, false, List}
use Rattle.shape_terms.specs.Points.{Point, sides_of}
use Rattle.text_terms.specs.Courses.{reached}
use Rattle.report_terms.specs.Lines.{Line}
use Rattle.report_lines.specs.Said.{given_sides, said}
use Rattle.drawing.specs.Object.{pixels}
use Rattle.drawing.specs.Seen.{flat, all_pixels}
use Rattle.draw_report.specs.Contours.{contours_of}
use Rattle.draw_report.specs.Parts.{Standing, LineKind, marks_of, course}
use Rattle.draw_report.specs.Seen.{all_marks, all_paths}
use Rattle.draw_report.specs.declared.analysis.Analysis.{Analysis}
use Rattle.draw_report.specs.declared.gatherer.Gatherer.{Gatherer}

-- the analysis is that of these lines, the first of which gives its sides
pub record IsAnalysisOf (lines : List Line) (a : Analysis) : Type 0 where
  pub given : given_sides lines ≡ sides_of (flat a.sides.lengths)
  pub pixels : all_pixels a.pixels.items ≡ pixels (sides_of (flat a.sides.lengths)) lines
  pub contours : all_paths a.contours.items ≡ contours_of lines
  pub seen : a.seen ≡ said lines

-- where a report behind its heading stands
abbrev pub standing_of : Bool → Standing
standing_of true = Standing.Ended
standing_of false = Standing.Open

-- the marks of these lines were gathered, all of a report so far, about a picture with these sides
pub record StandsFor (K : LineKind) (sides : Point) (g : Gatherer) (lines : List K.Line) : Type 0 where
  pub standing : reached (course K sides) lines ≡ standing_of g.ended
  pub marks : all_marks g.marks.items ≡ marks_of K lines
