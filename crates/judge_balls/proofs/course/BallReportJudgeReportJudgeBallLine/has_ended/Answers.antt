use Rattle.std.proofs.Common.{refl}
use Rattle.text_terms.specs.Courses.{reached}
use Rattle.text_terms.proofs.CourseLaws.{ended_exactly}
use Rattle.ball_terms.specs.Lines.{Line}
use Rattle.ball_terms.specs.Reports.{HasEnded, course}
use Rattle.ball_terms.proofs.CourseLaws.{ends_by}
use Rattle.judge_balls.proofs.course.BallReportJudgeReportJudgeBallLine.has_ended.Goals as goal

pub returns : goal.returns
returns g c = λ X lines s.
    let e = ended_exactly (course X) Line.End HasEnded (ends_by X) (reached (course X) lines) lines refl in
    let r = c.is_closed.ensures X (reached (course X) lines) s in
    ((λ t. e.0 (r.0 t)), (λ w. r.1 (e.1 w)))
