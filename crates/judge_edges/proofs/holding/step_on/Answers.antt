use Rattle.judge_edges.proofs.PathRuns.{step_is}
use Rattle.judge_edges.proofs.holding.step_on.Goals as goal

pub returns-clause-value : goal.returns-clause-value
returns-clause-value c = step_is c.args.path.now c.args.i _ _ _ c.corner_on-p.ensures.value c.corner_on.ensures.value c.difference.ensures.x
    c.difference.ensures.y
