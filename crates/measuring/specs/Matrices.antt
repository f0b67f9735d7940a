-- What the program's covariance matrix tells, and when an axis of it is less than a number of thousandths and a half.
-- How an axis is found is not told here.
use Rattle.std.specs.Prelude.{◌≡◌, ℕ, ◌+◌}
use Rattle.measure_terms.specs.Ellipse.{square, IsMajorBelow, IsMinorBelow}
use Rattle.measure_terms.specs.Moments as Terms
use Rattle.measure_terms.specs.Ellipse as Ellipses
use Rattle.measuring.specs.declared.matrix.Matrix.{Matrix}
use Rattle.measuring.specs.declared.below.Axis.{Axis}
use Rattle.measuring.specs.declared.below.Axis.TheVariants.{Major, Minor}

-- the numbers are those of the moments
pub record TellsMatrix (m : Terms.Moments) (a : Matrix) : Type 0 where
  pub count : a.count ≡ m.count
  pub trace : a.trace ≡ Ellipses.trace m
  pub double_x : a.double_x ≡ Ellipses.double_x m
  pub double_y : a.double_y ≡ Ellipses.double_y m

-- the axis of a matrix in thousandths is less than r and a half
abbrev pub IsBelow : Axis → Matrix → ℕ → Type 0
IsBelow Major a r = IsMajorBelow a.count a.trace (square a.double_x + square a.double_y) r
IsBelow Minor a r = IsMinorBelow a.count a.trace (square a.double_x + square a.double_y) r
