use Rattle.shape_desk.specs.Files.{texts}
use Rattle.shape.proofs.Ended.{page_ended}
use Rattle.shape.proofs.program.run_asked.Goals as goal

pub returns-in-Some-clause-ended : goal.returns-in-Some-clause-ended
returns-in-Some-clause-ended g c =
    page_ended (texts c.args.words.now) (g.D.Desk.state c.args.desk.now) (g.D.Desk.state c.print.new.desk) c.print.result c.in-Some.page c.in-Some.ensures
    c.print.ensures.printed
