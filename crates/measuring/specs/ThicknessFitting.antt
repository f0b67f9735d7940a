-- The bounds under which no sum overflows: no diameter is greater than 2 ^ 27 thousandths.
-- What is summed does not matter here.
use Rattle.std.specs.Prelude.{ℕ, ◌*◌, ◌≤◌, ◌^◌}
use Rattle.shape_terms.specs.Limits.{most_points}

pub record Fitting (count diameters squares : ℕ) : Type 0 where
  pub few : count ≤ most_points
  pub sum : diameters ≤ 2 ^ 27 * count
  pub square_sum : squares ≤ 2 ^ 54 * count
