use Rattle.std.proofs.Common.{refl, subst}
use Rattle.text_terms.specs.Tables.{IsSplitOf}
use Rattle.ball_terms.specs.Lines.{table, split}
use Rattle.judge_balls.specs.LineOf.{line_of}
use Rattle.judge_balls.proofs.line.BallLineTableLine.put_words.Goals as goal

pub put_ball-requires-clause-weight : goal.put_ball-requires-clause-weight
put_ball-requires-clause-weight g c = (subst (λ l. IsSplitOf (table g.P.Point.DIM) (split (line_of g.P.Point.coords l))) c.in-Ball.is c.requires.range).1.1.0

pub returns-in-Balls : goal.returns-in-Balls
returns-in-Balls g c = rw c.in-Balls.is c.put_balls.ensures

pub returns-in-Ball : goal.returns-in-Ball
returns-in-Ball g c = rw c.in-Ball.is c.put_ball.ensures

pub returns-in-End : goal.returns-in-End
returns-in-End g c = rw (c.in-End.is, c.put.ensures, c.requires.empty) refl
