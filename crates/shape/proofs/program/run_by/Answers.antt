use Rattle.std.proofs.Common.{ap}
use Rattle.shape_desk.specs.Files.{texts}
use Rattle.shape.proofs.Ended.{run_ended}
use Rattle.shape.proofs.program.run_by.Goals as goal

pub returns-clause-ended : goal.returns-clause-ended
returns-clause-ended g c =
    let h = c.run-outcome.ensures in
    run_ended (texts c.args.words.now) c.requires.none c.requires.page (g.D.Desk.state c.args.desk.now) (g.D.Desk.state c.run-outcome.new.desk)
    c.of_command.result _ c.run-outcome.result c.requires.rules
    h.usage (λ u. ap g.D.Desk.state (h.untouched u)) h.ran h.kept c.of_command.ensures
