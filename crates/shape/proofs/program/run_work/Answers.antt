use Rattle.std.proofs.Common.{sym, subst}
use Rattle.shape.specs.Runs.{HasEnded}
use Rattle.shape.proofs.program.run_work.Goals as goal

pub returns-in-Some-clause-ended : goal.returns-in-Some-clause-ended
returns-in-Some-clause-ended g c = subst (λ w. HasEnded w (g.D.Desk.state c.args.desk.now) (g.D.Desk.state c.run_product.new.desk) c.run_product.result)
    (sym c.in-Some.ensures) c.run_product.ensures.ended
