use Rattle.shape_terms.specs.Shelves.{names_of}
use Rattle.shape_desk.specs.declared.desk.Place.TheVariants.{Report}
use Rattle.shape_desk.specs.Line.{ahead_of}
use Rattle.shape_report.specs.LineOf.{line_of}
use Rattle.shape_check.proofs.FirstLine.{answer_claim}
use Rattle.shape_check.proofs.heading.find_heading.Goals as goal

pub returns-in-Line-clause-answer : goal.returns-in-Line-clause-answer
returns-in-Line-clause-answer g c =
    let old = ahead_of c.args.reader.now.ahead ((g.D.Desk.state c.args.desk.now).left Report) in
    let new = ahead_of c.next_line.new.reader.ahead ((g.D.Desk.state c.next_line.new.desk).left Report) in
    answer_claim g.P.Point.DIM (g.P.Point.coords c.args.sides.lengths) (names_of c.args.shelf.now) old new 0 0
    (line_of g.P.Point.coords c.next_line.new.place) c.given_by.result (rw c.in-Line.is at c.in_ok-next_line.ensures.answer) c.given_by.ensures.names
