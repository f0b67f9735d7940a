-- What a ball report shows, in geometry alone: balls that make up the object, none of them needless.
-- How its lines are judged one after another stands in `Reports`.
use Rattle.std.specs.Prelude.{◌≡◌, ℕ, List, [], ◌∷◌, ◌++◌, length, map, pos, All}
use Rattle.shape_terms.specs.Points.{Point}
use Rattle.shape_terms.specs.Pictures.{Picture}
use Rattle.text_terms.specs.Spellings.{text_of}
use Rattle.ball_terms.specs.Balls.{Ball, AreBalls, AreUnion}
use Rattle.ball_terms.specs.Lines.{Line, spelled}

-- the lines that list these balls of a picture with these sides, which stand as a point
abbrev pub listing : Point → List Ball → List Line
listing sides balls = Line.Balls sides (length balls) ∷ map (λ b. Line.Ball b) balls ++ Line.End ∷ []

-- the text is that of the lines that list these balls
pub record ListsBalls (sides : List ℕ) (text : List ℕ) (balls : List Ball) : Type 0 where
  pub fields : All (spelled (length sides)).IsLine (listing (map pos sides) balls)
  pub text_is : text ≡ text_of (spelled (length sides)) (listing (map pos sides) balls)

-- the text lists balls whose claims are true one after another, with a least distance and an own point for each; the object is exactly their union, and without
-- any one of them it is not
pub record BallsShow (X : Picture) (text : List ℕ) : Type 0 where
  pub balls : List Ball
  pub lists : ListsBalls X.sides text balls
  pub are : AreBalls X balls
  pub union : AreUnion X balls
