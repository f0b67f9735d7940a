-- How far a step leads in raster order.
-- Said of sides and steps alone; which steps lead to neighbours belongs elsewhere.
use Rattle.std.specs.Prelude.{ℕ, ◌≤◌, List, ◌∷◌, ℤ, pos, ◌+ℤ◌, ◌*ℤ◌, nat_abs}
use Rattle.shape_terms.specs.Points.{Point, coordinate}

-- no coordinate of the step is longer than 1
abbrev pub IsShort : Point → Type 0
IsShort v = (k : ℕ) → nat_abs (coordinate v k) ≤ 1

-- how many points a step passes in raster order: a unit of an axis stands for all points of the axes before it
abbrev pub raster_offset : List ℕ → Point → ℤ
raster_offset (n ∷ sides) (x ∷ v) = x +ℤ (pos n *ℤ raster_offset sides v)
raster_offset _ _ = pos 0
