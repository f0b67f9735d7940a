-- What a ball report is seen as once it was made.
-- What it shows of a picture is told in `ball_terms`.
use Rattle.std.specs.Prelude.{ℕ, List}
use Rattle.ball_terms.specs.Balls.{Ball}

-- its text, and the balls that it lists
pub record Listed : Type 0 where
  pub text : List ℕ
  pub balls : List Ball
