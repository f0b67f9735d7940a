use Rattle.shape_desk.specs.Files.{texts}
use Rattle.shape.proofs.program.run_command.Goals as goal

pub returns-then-is_no_form-clause-ended : goal.returns-then-is_no_form-clause-ended
returns-then-is_no_form-clause-ended g c = c.refusing.ensures (texts c.args.words.now) (g.D.Desk.state c.args.desk.now) c.requires.none c.requires.page
    (c.is_no_form.ensures.0 c.if-is_no_form.true)
