use Rattle.shape_refute.proofs.SmallPoints.{all_small}
use Rattle.run_cases.proofs.verdicts.decided.Goals as goal

pub returns-clause-small : goal.returns-clause-small
returns-clause-small c = λ _. all_small c.args.points.now (c.are_inside.ensures c.if-not-are_inside.false)
