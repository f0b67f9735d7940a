-- A picture on which a ball is painted, from one raster number to another.
-- Nothing here knows of seeds.
use Rattle.std.specs.Prelude.{ℕ, Bool, false, ◌&&◌, nat_le, nat_lt, List, map, slice_index_or, if◌then◌else◌}
use Rattle.std.specs.List.{range_with_len}
use Rattle.shape_terms.specs.Points.{Point, box_count, raster_point}
use Rattle.shape_terms.specs.Pictures.{Picture}
use Rattle.shape_grid.specs.Balls.{covers}

-- the point with a raster number is one of those from `from` to below `to`, and the ball covers it
abbrev pub is_painted : List ℕ → Point → ℕ → ℕ → ℕ → ℕ → Bool
is_painted sides centre radius from to i = (nat_le from i && nat_lt i to) && covers centre radius (raster_point sides i)

-- the picture in which these points have the ball's value
abbrev pub painted : Picture → Point → ℕ → Bool → ℕ → ℕ → Picture
painted X centre radius value from to = record {
  sides = X.sides;
  values = map (λ i. if is_painted X.sides centre radius from to i then value else slice_index_or X.values i false) (range_with_len 0 (box_count X.sides));
}
