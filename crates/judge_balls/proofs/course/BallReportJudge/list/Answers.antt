use Rattle.std.proofs.Common.{arith}
use Rattle.judge_balls.specs.LineOf.{ball_of}
use Rattle.judge_balls.proofs.Coursing.{ball_refused, ball_accepted}
use Rattle.judge_balls.proofs.course.BallReportJudge.list.Goals as goal

pub returns-then-not-ball : goal.returns-then-not-ball
returns-then-not-ball g c = ball_refused c.args.self.now (ball_of g.P.Point.coords c.args.ball) c.in-Listing.left c.ball.result c.in-Listing.is (omega arith)
    c.ball.ensures.answer _ c.if-not-ball.true

pub returns-else-not-ball : goal.returns-else-not-ball
returns-else-not-ball g c = ball_accepted c.args.self.now (ball_of g.P.Point.coords c.args.ball) c.in-Listing.left c.ball.result c.in-Listing.is (omega arith)
    c.ball.ensures.answer c.ball.new.self c.ball.ensures.stands c.ball.ensures.room c.if-not-ball.false
