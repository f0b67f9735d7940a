-- What a ball and a line of the program say, as a ball and a line of the definitions.
use Rattle.std.specs.Prelude.{ℤ, List}
use Rattle.ball_terms.specs.Balls as Terms
use Rattle.ball_terms.specs.Balls.{ball_by}
use Rattle.ball_terms.specs.Lines.{Line}
use Rattle.judge_balls.specs.declared.line.Ball.{Ball}
use Rattle.judge_balls.specs.declared.line.BallLine.{BallLine}
use Rattle.judge_balls.specs.declared.line.BallLine.TheVariants as Lines

abbrev pub ball_of : {P : Type 0} → (P → List ℤ) → Ball P → Terms.Ball
ball_of coords b = ball_by (coords b.centre) (coords b.near) b.s (coords b.own)

abbrev pub line_of : {P : Type 0} → (P → List ℤ) → BallLine P → Line
line_of coords (Lines.Balls sides number) = Line.Balls (coords sides) number
line_of coords (Lines.Ball b) = Line.Ball (ball_of coords b)
line_of coords Lines.End = Line.End
