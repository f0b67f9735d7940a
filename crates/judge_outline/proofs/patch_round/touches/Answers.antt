use Rattle.judge_outline.specs.Terms.{point_of}
use Rattle.judge_outline.proofs.Exposing.{box_within}
use Rattle.judge_outline.proofs.patch_round.touches.Goals as goal

pub touches_around-requires : goal.touches_around-requires
touches_around-requires c = box_within (point_of c.args.near.now.sides.lengths) (point_of c.args.p) c.args.near.now.sides.in_range c.requires.inside

pub touches_inside-requires-clause-inner : goal.touches_inside-requires-clause-inner
touches_inside-requires-clause-inner c = c.is_inner.ensures.exactly.0 c.if-is_inner.true
