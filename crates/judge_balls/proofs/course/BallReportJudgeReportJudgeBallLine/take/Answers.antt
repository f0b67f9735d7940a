use Rattle.std.proofs.Common.{subst, sym}
use Rattle.std.specs.Bool.{OnTrue}
use Rattle.text_terms.specs.Courses.{reached}
use Rattle.text_terms.proofs.CourseLaws.{reached_push}
use Rattle.ball_terms.specs.Reports.{course}
use Rattle.judge_balls.specs.LineOf.{line_of}
use Rattle.judge_balls.specs.Course.{Fits}
use Rattle.judge_balls.proofs.course.BallReportJudgeReportJudgeBallLine.take.Goals as goal

pub returns-clause-answer : goal.returns-clause-answer
returns-clause-answer g c = λ X lines s. c.next.ensures.answer X (reached (course X) lines) s

pub returns-clause-stands : goal.returns-clause-stands
returns-clause-stands g c = λ X lines s.
    let j = c.next.new.self in
    subst (λ t. OnTrue c.next.result (Fits X j.state j.balls t)) (sym (reached_push (course X) lines (line_of g.P.Point.coords c.args.line.now)))
    (c.next.ensures.stands X (reached (course X) lines) s)

pub returns-clause-room : goal.returns-clause-room
returns-clause-room g c = c.next.ensures.room
