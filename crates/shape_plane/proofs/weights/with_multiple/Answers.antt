use Rattle.shape_plane.proofs.Refuting.{few_steps}
use Rattle.shape_plane.proofs.weights.with_multiple.Goals as goal

pub returns-clause-steps : goal.returns-clause-steps
returns-clause-steps c = few_steps c.requires.multiple.combination.kind c.with_first.ensures.steps c.with_first.ensures.none c.with_second.ensures.steps
    c.with_second.ensures.gap
