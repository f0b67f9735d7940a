use Rattle.judge_balls.proofs.Coursing.{heading_refused, heading_accepted}
use Rattle.judge_balls.proofs.course.BallReportJudge.begin.Goals as goal

pub returns-then-not-begins : goal.returns-then-not-begins
returns-then-not-begins g c = heading_refused c.args.self.now (g.P.Point.coords c.args.sides) c.args.number c.begins.result c.in-Opening.is c.begins.ensures _
    c.if-not-begins.true

pub returns-else-not-begins : goal.returns-else-not-begins
returns-else-not-begins g c = heading_accepted c.args.self.now (g.P.Point.coords c.args.sides) c.args.number c.begins.result c.in-Opening.is c.begins.ensures
    c.if-not-begins.false
