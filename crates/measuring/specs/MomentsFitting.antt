-- Why no number of an object overflows: each is bounded by the number of its points.
-- A further sum is one more field here.
use Rattle.std.specs.Prelude.{ℕ, ◌+◌, ◌≤◌, ◌*◌, ℤ, nat_abs}
use Rattle.shape_terms.specs.Limits.{most_points, most_coordinate}

-- the greatest product of two coordinates, with room to spare
abbrev pub most_product : ℕ
most_product = most_coordinate * most_coordinate

pub record Fitting (count x y z xx xy yy xz yz zz : ℕ) : Type 0 where
  pub points : count ≤ most_points
  pub along_x : x ≤ most_coordinate * count
  pub along_y : y ≤ most_coordinate * count
  pub along_z : z ≤ most_coordinate * count
  pub along_xx : xx ≤ most_product * count
  pub along_xy : xy ≤ most_product * count
  pub along_yy : yy ≤ most_product * count
  pub along_xz : xz ≤ most_product * count
  pub along_yz : yz ≤ most_product * count
  pub along_zz : zz ≤ most_product * count

-- ---- the covariance matrix

-- an entry of the matrix of n points is at most so many times n * n
abbrev pub most_entry : ℕ
most_entry = 12 * most_product + 1

-- no axis has so many thousandths
abbrev pub most_axis : ℕ
most_axis = 268435456

-- the sums and differences of two entries of the matrix of n points are no greater
pub record AreSmall (n : ℕ) (trace double_x double_y : ℤ) : Type 0 where
  pub points : n ≤ most_points
  pub small_trace : nat_abs trace ≤ 2 * most_entry * (n * n)
  pub small_x : nat_abs double_x ≤ 2 * most_entry * (n * n)
  pub small_y : nat_abs double_y ≤ 2 * most_entry * (n * n)
