-- When a line of a ball report is good after the lines before it.
-- The lines stand in `Lines`, the claim of a ball in `Balls`; what a whole report shows is told in `Shows`.
use Rattle.std.specs.Prelude.{◌≡◌, ℕ, ◌<◌, ◌≤◌, List, [], ◌∷◌, ◌++◌, length, map, pos}
use Rattle.shape_terms.specs.Points.{Point}
use Rattle.shape_terms.specs.Pictures.{Picture, object_points}
use Rattle.text_terms.specs.Courses.{Course, by_course}
use Rattle.text_terms.specs.Reports.{Report}
use Rattle.ball_terms.specs.Balls.{Ball, BallClaim, CoverObject}
use Rattle.ball_terms.specs.Lines.{Line, spelled}

-- where a report stands: no line came; so many balls were announced, and these have come; or the end came
pub data Standing : Type 0 where
  Opening : Standing
  Listing : (number : ℕ) → (balls : List Ball) → Standing
  Ended : Standing

-- where it stands after one more line
abbrev pub step : Standing → Line → Standing
step s (Line.Balls sides number) = Standing.Listing number []
step (Standing.Listing number balls) (Line.Ball b) = Standing.Listing number (balls ++ b ∷ [])
step s (Line.Ball b) = Standing.Opening
step s Line.End = Standing.Ended

-- the sides of the picture, and no more balls than object points
pub record HeadingClaim (X : Picture) (sides : Point) (number : ℕ) : Type 0 where
  pub sides_are : sides ≡ map pos X.sides
  pub few : number ≤ length (object_points X)

-- a ball is still to come, and this one is good after the earlier ones
pub record NextClaim (X : Picture) (number : ℕ) (balls : List Ball) (b : Ball) : Type 0 where
  pub wanted : length balls < number
  pub good : BallClaim X balls b

-- all balls have come, and each object point is in one
pub record EndClaim (X : Picture) (number : ℕ) (balls : List Ball) : Type 0 where
  pub all : length balls ≡ number
  pub cover : CoverObject X balls

-- the claim of a line where a report stands
abbrev pub Claim : Picture → Standing → Line → Type 0
Claim X Standing.Opening (Line.Balls sides number) = HeadingClaim X sides number
Claim X (Standing.Listing number balls) (Line.Ball b) = NextClaim X number balls b
Claim X (Standing.Listing number balls) Line.End = EndClaim X number balls
Claim X _ _ = ⊥

abbrev pub HasEnded : Standing → Type 0
HasEnded Standing.Ended = Unit {0}
HasEnded _ = ⊥

abbrev pub course : Picture → Course Line Standing
course X = record { start = Standing.Opening; next = step; Claim = Claim X }

-- the ball reports of a picture
abbrev pub ball_report : Picture → Report Line
ball_report X = by_course (spelled (length X.sides)) Line.End (course X)
