use Rattle.std.proofs.Common.{◌-◌, arith}
use Rattle.judge_outline.specs.Terms.{point_of}
use Rattle.judge_outline.proofs.LastTaken.{near_taken}
use Rattle.judge_outline.proofs.lately.touches_last.Goals as goal

pub returns-then-are_near : goal.returns-then-are_near
returns-then-are_near c = λ t.
    near_taken c.args.taken.now.points c.args.start (c.loop-i.i - 1) (point_of c.args.p) (point_of c.point.result) (omega arith) c.point.ensures.value
    (c.are_near.ensures.0 c.if-are_near.true)
