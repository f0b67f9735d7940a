-- Where a judge of ball reports stands, and what it owes at a line.
-- The judge of the balls themselves stands in `Standing`; when a line is good, `Reports` says.
use Rattle.std.specs.Prelude.{◌≡◌, ◌↔◌, ℕ, ◌+◌, ◌<◌, Bool, List, [], length, IsTrue}
use Rattle.std.specs.Bool.{OnTrue}
use Rattle.shape_terms.specs.Pictures.{Picture}
use Rattle.text_terms.specs.Courses.{reached}
use Rattle.ball_terms.specs.Lines.{Line}
use Rattle.ball_terms.specs.Reports as Reports
use Rattle.ball_terms.specs.Reports.{step, Claim, course}
use Rattle.judge_balls.specs.declared.judge.BallJudge.{BallJudge}
use Rattle.judge_balls.specs.declared.course.State.{State}
use Rattle.judge_balls.specs.declared.course.State.TheVariants.{Opening, Listing, Ended}
use Rattle.judge_balls.specs.declared.course.BallReportJudge.{BallReportJudge}
use Rattle.judge_balls.specs.Standing as Standing

module _ {P : Type 0} {point : _} {eq : _} {order : _} {partial : _} where
  -- the state and the judge of balls are those of a report that stands here: so many balls are still to come, and the judge stands for those that came
  abbrev pub Fits : Picture → State → BallJudge P point eq order partial → Reports.Standing → Type 0
  Fits X Opening j Reports.Standing.Opening = Standing.StandsFor X [] j
  Fits X (Listing left) j (Reports.Standing.Listing number balls) = Standing.StandsFor X balls j × (left + length balls ≡ number)
  Fits X Ended j Reports.Standing.Ended = Unit {0}
  Fits X _ j _ = ⊥

  -- the judge stands for these lines, all of a report so far
  abbrev pub StandsFor : Picture → BallReportJudge P point eq order partial → List Line → Type 0
  StandsFor X j lines = Fits X j.state j.balls (reached (course X) lines)

  -- how many lines may still come
  abbrev pub room_at : State → BallJudge P point eq order partial → ℕ
  room_at Opening j = Standing.room_of j + 3
  room_at (Listing left) j = Standing.room_of j + 2
  room_at Ended j = 0

  -- the answer at a line is whether it is good where the report stands, and after a good one the judge is a line further
  pub record JudgesLine (l : Line) (old new : BallReportJudge P point eq order partial) (result : Bool) : Type 0 where
    pub answer : (X : Picture) (s : Reports.Standing) → Fits X old.state old.balls s → IsTrue result ↔ Claim X s l
    pub stands : (X : Picture) (s : Reports.Standing) → Fits X old.state old.balls s → OnTrue result (Fits X new.state new.balls (step s l))
    pub room : OnTrue result (room_at new.state new.balls < room_at old.state old.balls)
