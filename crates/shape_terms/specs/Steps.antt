-- How two points stand to each other: before one another, and close by.
-- Every definition serves each number of axes; none may name a type of the program.
use Rattle.std.specs.Prelude.{◌≡◌, ℕ, ◌≤◌, ◌-ℤ◌, nat_abs}
use Rattle.std.specs.declared.cmp.Ordering.TheVariants.{Less}
use Rattle.shape_terms.specs.Points.{Point, coordinate, raster_cmp}

-- p stands before q in raster order
abbrev pub Before : Point → Point → Type 0
Before p q = raster_cmp p q ≡ Less

-- no coordinates of the two points are more than 1 apart
abbrev pub AreClose : Point → Point → Type 0
AreClose p q = (k : ℕ) → nat_abs (coordinate p k -ℤ coordinate q k) ≤ 1
