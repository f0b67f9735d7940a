-- The list of the kept balls so far, each with its centre as its own point.
-- Which balls are kept is told elsewhere.
use Rattle.std.specs.Prelude.{◌≡◌, ℕ, ◌<◌, ◌≤◌, Bool, true, List, length, slice_get, Some}
use Rattle.shape_terms.specs.Pictures.{Picture}
use Rattle.shape_terms.specs.Distances.{NearFact}
use Rattle.shape_window.specs.Marks.{is_marked}
use Rattle.ball_terms.specs.Balls.{Ball, ball_by, AreGood}
use Rattle.shape_balls.specs.Keeping.{fact_at}

-- the ball of a fact, whose own point is its centre
abbrev pub ball_at : NearFact → Ball
ball_at f = ball_by f.p f.q f.s f.p

-- the balls so far: those of the kept facts below i, by rising numbers
pub record IsChosen (X : Picture) (facts : List NearFact) (kept : List Bool) (i : ℕ) (balls : List Ball) : Type 0 where
  pub few : length balls ≤ i
  pub good : AreGood X balls
  pub from : (k : ℕ) (b : Ball) → slice_get balls k ≡ Some b → (j : ℕ) × (j < i) × (is_marked kept j ≡ true) × (b ≡ ball_at (fact_at facts j))
  pub all : (j : ℕ) → j < i → is_marked kept j ≡ true → (k : ℕ) × (b : Ball) × (slice_get balls k ≡ Some b) × (b ≡ ball_at (fact_at facts j))
