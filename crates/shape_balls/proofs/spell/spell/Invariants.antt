use Rattle.std.proofs.Common.{◌≡◌, map, take}
use Rattle.text_terms.specs.Spellings.{text_of}
use Rattle.ball_terms.specs.Lines.{spelled}
use Rattle.judge_balls.specs.LineOf.{ball_of}
use Rattle.shape_balls.proofs.Spelling.{lines_to}
use Rattle.shape_balls.proofs.spell.spell.Given as goal

abbrev pub invariant-loop-ball : goal.invariant-loop-ball
invariant-loop-ball g l =
    l.report ≡ text_of (spelled g.P.Point.DIM)
    (lines_to (g.P.Point.coords l.fn.sides) l.number (map (ball_of g.P.Point.coords) (take l.ball-index l.balls.items)))
