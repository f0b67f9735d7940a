-- Inequalities in the first slope alone, with the two rows that each came from.
-- Which rows are taken together belongs elsewhere.
use Rattle.std.specs.Prelude.{◌≡◌, ◌⊎◌, ◌≤◌, ◌<◌, List, length, pos, ◌+ℤ◌, ◌*ℤ◌, ◌≤ℤ◌, unsigned_abs}
use Rattle.shape_terms.specs.Limits.{plane_gap, plane_row}
use Rattle.shape_plane.specs.declared.row.Row.{Row}
use Rattle.shape_plane.specs.declared.combination.Combination.{Combination}
use Rattle.shape_plane.specs.Rows.{row_at, IsGap}

-- two rows together, each as often as its weight says, and the second slope is gone. One row stands alone, or the second is that of a pair of points
pub record IsCombination (rows : List Row) (c : Combination) : Type 0 where
  pub first : c.first < length rows
  pub second : c.second < length rows
  pub first_low : pos 0 ≤ℤ c.first_weight
  pub first_high : unsigned_abs c.first_weight ≤ plane_gap
  pub second_low : pos 1 ≤ℤ c.second_weight
  pub second_high : unsigned_abs c.second_weight ≤ plane_gap
  pub x : c.bound.x ≡ c.first_weight *ℤ (row_at rows c.first).x +ℤ c.second_weight *ℤ (row_at rows c.second).x
  pub y : pos 0 ≡ c.first_weight *ℤ (row_at rows c.first).y +ℤ c.second_weight *ℤ (row_at rows c.second).y
  pub z : c.bound.z ≡ c.first_weight *ℤ (row_at rows c.first).z +ℤ c.second_weight *ℤ (row_at rows c.second).z
  pub x_small : unsigned_abs c.bound.x ≤ plane_row
  pub z_small : unsigned_abs c.bound.z ≤ plane_row
  pub kind : (c.first_weight ≡ pos 0) ⊎ IsGap (row_at rows c.second).cause

-- no slope meets the inequality
pub record IsNever (c : Combination) : Type 0 where
  pub flat : c.bound.x ≡ pos 0
  pub over : pos 0 ≤ℤ c.bound.z
