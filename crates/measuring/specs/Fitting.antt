-- Why no count and no sum of an object overflows: each is bounded by the number of its points.
-- A further count is one more field here.
use Rattle.std.specs.Prelude.{ℕ, ◌≤◌, ◌*◌}
use Rattle.shape_terms.specs.Limits.{most_points, most_coordinate}
use Rattle.measuring.specs.declared.span.Span.{Span}

pub record Fitting (area : ℕ) (x y z : Span) (skeleton ends junctions exposed : ℕ) : Type 0 where
  pub points : area ≤ most_points
  pub along_x : x.sum ≤ most_coordinate * area
  pub along_y : y.sum ≤ most_coordinate * area
  pub along_z : z.sum ≤ most_coordinate * area
  pub few_left : skeleton ≤ area
  pub few_ends : ends ≤ area
  pub few_junctions : junctions ≤ area
  pub few_exposed : exposed ≤ 6 * area
