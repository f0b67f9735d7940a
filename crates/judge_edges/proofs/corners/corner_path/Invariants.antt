use Rattle.std.proofs.Common.{◌*◌, ◌-◌, map}
use Rattle.shape_terms.specs.Limits.{most_pixels}
use Rattle.shape_crack.specs.Terms.{point_of, crack_of}
use Rattle.judge_edges.proofs.CornerRounds.{Cornering}
use Rattle.judge_edges.proofs.corners.corner_path.Given as goal

abbrev pub invariant-loop-start : goal.invariant-loop-start
invariant-loop-start l = Cornering l.grid (crack_of l.start) (crack_of l.c) l.steps (map point_of l.corners.items)

abbrev pub decreases-loop-start : goal.decreases-loop-start
decreases-loop-start l = (4 * most_pixels) - l.steps
