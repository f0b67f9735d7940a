use Rattle.std.proofs.Common.{arith}
use Rattle.judge_balls.proofs.Coursing.{end_refused, end_accepted}
use Rattle.judge_balls.proofs.course.BallReportJudge.end.Goals as goal

pub returns-then-not-done : goal.returns-then-not-done
returns-then-not-done g c = end_refused c.args.self.now c.in-Listing.left c.done.result c.in-Listing.is (omega arith) c.done.ensures.answer _ c.if-not-done.true

pub returns-else-not-done : goal.returns-else-not-done
returns-else-not-done g c = end_accepted c.args.self.now c.in-Listing.left c.done.result c.in-Listing.is (omega arith) c.done.ensures.answer c.if-not-done.false
