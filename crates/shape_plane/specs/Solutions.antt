-- Slopes that meet all rows, and combinations that exclude all slopes.
-- How they are found belongs elsewhere.
use Rattle.std.specs.Prelude.{◌*◌, ◌≡◌, ◌⊎◌, ℕ, ◌≤◌, ◌<◌, List, length, ℤ, pos, ◌+ℤ◌, ◌*ℤ◌, ◌≤ℤ◌, unsigned_abs}
use Rattle.shape_terms.specs.Limits.{plane_row, plane_coefficient}
use Rattle.shape_plane.specs.declared.row.Row.{Row}
use Rattle.shape_plane.specs.declared.eliminate.Solution.{Solution}
use Rattle.shape_plane.specs.declared.eliminate.Multiple.{Multiple}
use Rattle.shape_plane.specs.declared.eliminate.Excluded.{Excluded}
use Rattle.shape_plane.specs.declared.eliminate.Elimination.{Elimination}
use Rattle.shape_plane.specs.declared.eliminate.Elimination.TheVariants.{Slopes, Clash}
use Rattle.shape_plane.specs.Rows.{row_at, IsGap, MeetsRow}
use Rattle.shape_plane.specs.Combinations.{IsCombination}
use Rattle.shape_plane.specs.Pairs.{first_axis, second_axis}
use Rattle.shape_terms.specs.Points.{coordinate}

-- slopes that meet each row
pub record IsSolution (rows : List Row) (s : Solution) : Type 0 where
  pub main : pos 1 ≤ℤ s.c
  pub met : (i : ℕ) → i < length rows → MeetsRow s.a s.b s.c (row_at rows i)
  pub a_small : unsigned_abs s.a ≤ plane_coefficient
  pub b_small : unsigned_abs s.b ≤ plane_coefficient
  pub c_small : unsigned_abs s.c ≤ plane_coefficient

-- a combination, taken a number of times that is not negative
pub record IsMultiple (rows : List Row) (m : Multiple) : Type 0 where
  pub combination : IsCombination rows m.combination
  pub low : pos 0 ≤ℤ m.times
  pub high : unsigned_abs m.times ≤ plane_row

-- a pair of points stands in the combination, and it is taken
abbrev pub IsTaken : List Row → Multiple → Type 0
IsTaken rows m = IsGap (row_at rows m.combination.second).cause × (pos 1 ≤ℤ m.times)

-- the combinations together say that a number that is not negative is below 0; a pair of points stands in them
pub record IsExcluded (rows : List Row) (k : Excluded) : Type 0 where
  pub first : IsMultiple rows k.first
  pub second : IsMultiple rows k.second
  pub gone : pos 0 ≡ k.first.times *ℤ k.first.combination.bound.x +ℤ k.second.times *ℤ k.second.combination.bound.x
  pub rest : k.rest ≡ k.first.times *ℤ k.first.combination.bound.z +ℤ k.second.times *ℤ k.second.combination.bound.z
  pub rest_low : pos 0 ≤ℤ k.rest
  pub rest_high : unsigned_abs k.rest ≤ 2 * plane_row * plane_row
  pub pair : IsTaken rows k.first ⊎ IsTaken rows k.second

abbrev pub IsElimination : List Row → Elimination → Type 0
IsElimination rows (Slopes s) = IsSolution rows s
IsElimination rows (Clash k) = IsExcluded rows k

-- the coefficients of a solution, each on its axis; none past the last axis
pub record IsSlopesOf (d t : ℕ) (s : Solution) (a : List ℤ) : Type 0 where
  pub three : length a ≡ 3
  pub first : coordinate a (first_axis t) ≡ s.a
  pub second : second_axis t < d → coordinate a (second_axis t) ≡ s.b
  pub main : coordinate a t ≡ s.c
  pub past : (k : ℕ) → d ≤ k → coordinate a k ≡ pos 0
