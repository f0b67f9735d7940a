use Rattle.shape_plane.proofs.Tighter.{meets_lower, meets_upper}
use Rattle.shape_plane.proofs.bound.slope_inside.Goals as goal

pub returns-clause-meets_lower : goal.returns-clause-meets_lower
returns-clause-meets_lower c = meets_lower c.choose.result.num c.choose.result.den c.args.lower.x c.args.lower.z c.lower_end.result.den c.lower_end.ensures.den
    (rw (← c.lower_end.ensures.num) c.choose.ensures.above)

pub returns-clause-meets_upper : goal.returns-clause-meets_upper
returns-clause-meets_upper c = meets_upper c.choose.result.num c.choose.result.den c.args.upper.x c.args.upper.z c.upper_end.result.num c.upper_end.ensures.num
    (rw (← c.upper_end.ensures.den) c.choose.ensures.below)
