-- Bounds of a slope by inequalities x*p + z*q < 0, and fractions between two others.
-- How a bound is found belongs elsewhere.
use Rattle.std.specs.Prelude.{◌+◌, ◌≤◌, pos, ◌*ℤ◌, ◌≤ℤ◌, ◌<ℤ◌, unsigned_abs}
use Rattle.shape_terms.specs.Limits.{plane_row, plane_span}
use Rattle.shape_space.specs.declared.frac.Frac.{Frac}
use Rattle.shape_plane.specs.declared.bound.Bound.{Bound}

-- its coefficients are small
pub record IsBounded (b : Bound) : Type 0 where
  pub x_small : unsigned_abs b.x ≤ plane_row
  pub z_small : unsigned_abs b.z ≤ plane_span

-- a fraction strictly between two others, and in size no greater than the two together
pub record IsBetween (lo hi f : Frac) : Type 0 where
  pub den : pos 1 ≤ℤ f.den
  pub above : (lo.num *ℤ f.den) <ℤ (f.num *ℤ lo.den)
  pub below : (f.num *ℤ hi.den) <ℤ (hi.num *ℤ f.den)
  pub num_small : unsigned_abs f.num ≤ unsigned_abs lo.num + unsigned_abs hi.num
  pub den_small : unsigned_abs f.den ≤ unsigned_abs lo.den + unsigned_abs hi.den
