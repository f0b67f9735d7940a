use Rattle.std.proofs.Common.{map}
use Rattle.judge_balls.specs.LineOf.{ball_of}
use Rattle.shape_balls.specs.Chosen.{IsChosen}
use Rattle.shape_balls.proofs.list.listed.Given as goal

abbrev pub invariant-loop-i : goal.invariant-loop-i
invariant-loop-i g l = IsChosen l.grid l.field l.kept l.i (map (ball_of g.P.Point.coords) l.balls.items)
