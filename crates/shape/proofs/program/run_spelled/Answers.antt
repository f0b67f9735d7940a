use Rattle.shape_desk.specs.Files.{texts}
use Rattle.shape.proofs.program.run_spelled.Goals as goal

pub returns-in_default-clause-ended : goal.returns-in_default-clause-ended
returns-in_default-clause-ended g c = c.lacking.ensures (texts c.args.words.now) (g.D.Desk.state c.args.desk.now) c.requires.form

pub returns-in-Err-clause-ended : goal.returns-in-Err-clause-ended
returns-in-Err-clause-ended g c = c.lacking-in-Err.ensures (texts c.args.words.now) (g.D.Desk.state c.args.desk.now) c.requires.form
