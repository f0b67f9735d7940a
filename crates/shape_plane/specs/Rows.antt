-- Inequalities in two slopes a/c and b/c, as rows of three coefficients.
-- Where rows come from belongs elsewhere.
use Rattle.std.specs.Prelude.{◌-◌, ◌≡◌, ◌⊎◌, ℕ, ◌≤◌, ◌<◌, List, length, slice_index_or, ℤ, pos, negsuc, ◌+ℤ◌, ◌*ℤ◌, ◌<ℤ◌, unsigned_abs, All}
use Rattle.shape_terms.specs.Limits.{most_flat, most_solid, plane_gap}
use Rattle.shape_plane.specs.declared.row.Row.{Row}
use Rattle.shape_plane.specs.declared.row.Cause.{Cause}
use Rattle.shape_plane.specs.declared.row.Cause.TheVariants.{Proper, Gap}

-- the row at a place
abbrev pub row_at : List Row → ℕ → Row
row_at rows i = slice_index_or rows i (record { x = pos 0; y = pos 0; z = pos 0; cause = Gap (record { low = 0; high = 0 }) })

-- the row is that of a pair of points
abbrev pub IsGap : Cause → Type 0
IsGap (Proper step) = ⊥
IsGap (Gap pair) = Unit {0}

-- x*p + z*q < 0
abbrev pub Meets : ℤ → ℤ → ℤ → ℤ → Type 0
Meets p q x z = (x *ℤ p +ℤ z *ℤ q) <ℤ pos 0

-- the value of a row at a first slope p/q, times q, where the second is left out
abbrev pub level : ℤ → ℤ → Row → ℤ
level p q r = r.x *ℤ p +ℤ r.z *ℤ q

-- the slopes a/c and b/c meet the row
abbrev pub MeetsRow : ℤ → ℤ → ℤ → Row → Type 0
MeetsRow a b c r = (r.x *ℤ a +ℤ r.y *ℤ b +ℤ r.z *ℤ c) <ℤ pos 0

-- the coefficients of a row in which the second slope stands
pub record IsSteep (r : Row) : Type 0 where
  pub x_small : unsigned_abs r.x ≤ plane_gap
  pub y_small : unsigned_abs r.y ≤ plane_gap
  pub z_small : unsigned_abs r.z ≤ most_solid

pub record IsSmall (r : Row) : Type 0 where
  pub x_small : unsigned_abs r.x ≤ most_flat - 1
  pub z_small : unsigned_abs r.z ≤ most_flat
  pub steep : (r.y ≡ pos 0 → ⊥) → IsSteep r

abbrev pub AreSmall : List Row → Type 0
AreSmall rows = All IsSmall rows

-- the signs are opposite
abbrev pub AreOpposite : ℤ → ℤ → Type 0
AreOpposite y w = ((y <ℤ pos 0) × (pos 0 <ℤ w)) ⊎ ((pos 0 <ℤ y) × (w <ℤ pos 0))

-- a row of these coefficients
pub record IsRow (r : Row) (a b c : ℤ) : Type 0 where
  pub x : r.x ≡ a
  pub y : r.y ≡ b
  pub z : r.z ≡ c

-- small rows, of which the first four keep both slopes between -1 and 1, and the others are those of pairs
pub record IsSystem (rows : List Row) : Type 0 where
  pub some : 4 ≤ length rows
  pub small : AreSmall rows
  pub plus_first : IsRow (row_at rows 0) (negsuc 0) (pos 0) (negsuc 0)
  pub minus_first : IsRow (row_at rows 1) (pos 1) (pos 0) (negsuc 0)
  pub plus_second : IsRow (row_at rows 2) (pos 0) (negsuc 0) (negsuc 0)
  pub minus_second : IsRow (row_at rows 3) (pos 0) (pos 1) (negsuc 0)
  pub gaps : (j : ℕ) → 4 ≤ j → j < length rows → IsGap (row_at rows j).cause
