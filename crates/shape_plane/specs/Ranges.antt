-- Bounds of the first slope among the combinations looked at, and what the slopes between them meet.
-- In which order combinations are looked at belongs elsewhere.
use Rattle.std.specs.Prelude.{◌≡◌, ℕ, ◌≤◌, ◌<◌, List, ℤ, pos, ◌*ℤ◌, ◌<ℤ◌}
use Rattle.shape_plane.specs.declared.row.Row.{Row}
use Rattle.shape_plane.specs.declared.combination.Combination.{Combination}
use Rattle.shape_plane.specs.declared.range.Range.{Range}
use Rattle.shape_plane.specs.declared.range.Narrowed.{Narrowed}
use Rattle.shape_plane.specs.declared.range.Narrowed.TheVariants.{Room, Clash}
use Rattle.shape_plane.specs.Rows.{row_at, IsGap, Meets, level}
use Rattle.shape_plane.specs.Combinations.{IsCombination, IsNever}

-- the slope p/q lies between the bounds
abbrev pub IsInside : ℤ → ℤ → Range → Type 0
IsInside p q r = Meets p q r.lower.bound.x r.lower.bound.z × Meets p q r.upper.bound.x r.upper.bound.z

-- a lower and an upper bound
pub record IsRange (rows : List Row) (r : Range) : Type 0 where
  pub lower : IsCombination rows r.lower
  pub upper : IsCombination rows r.upper
  pub falls : r.lower.bound.x <ℤ pos 0
  pub rises : pos 0 <ℤ r.upper.bound.x

-- each slope inside the one is inside the other
abbrev pub IsWithin : Range → Range → Type 0
IsWithin new old = (p q : ℤ) → pos 0 <ℤ q → IsInside p q new → IsInside p q old

-- at the first slope p/q the lower bound of the second slope that the one row gives is less than the upper bound of the other
abbrev pub LeavesRoom : ℤ → ℤ → Row → Row → Type 0
LeavesRoom p q r s = r.y <ℤ pos 0 → pos 0 <ℤ s.y → (s.y *ℤ level p q r) <ℤ (r.y *ℤ level p q s)

abbrev pub LeaveRoom : ℤ → ℤ → Row → Row → Type 0
LeaveRoom p q r s = LeavesRoom p q r s × LeavesRoom p q s r

-- a combination that nothing meets and in which a pair of points stands
pub record IsClashing (rows : List Row) (c : Combination) : Type 0 where
  pub combination : IsCombination rows c
  pub never : IsNever c
  pub pair : IsGap (row_at rows c.second).cause

-- a range within the old one, of whose slopes each is as told; or a clash was found
pub record IsNarrower (rows : List Row) (old : Range) (P : ℤ → ℤ → Type 0) (new : Range) : Type 0 where
  pub range : IsRange rows new
  pub within : IsWithin new old
  pub met : (p q : ℤ) → pos 0 <ℤ q → IsInside p q new → P p q

abbrev pub HasNarrower : List Row → Range → (ℤ → ℤ → Type 0) → Narrowed → Type 0
HasNarrower rows old P (Room new) = IsNarrower rows old P new
HasNarrower rows old P (Clash c) = IsClashing rows c

-- the row j leaves room with each row from 2 to below k
abbrev pub IsClear : List Row → ℕ → ℕ → ℤ → ℤ → Type 0
IsClear rows j k p q = (i : ℕ) → 2 ≤ i → i < k → LeaveRoom p q (row_at rows i) (row_at rows j)

-- what the row j says of the first slope, by itself or with an earlier row from 2 on
pub record IsMet (rows : List Row) (j : ℕ) (p q : ℤ) : Type 0 where
  pub flat : (row_at rows j).y ≡ pos 0 → level p q (row_at rows j) <ℤ pos 0
  pub room : IsClear rows j j p q

-- each slope inside the range meets what the first n rows say of the first slope
pub record IsWhole (rows : List Row) (n : ℕ) (r : Range) : Type 0 where
  pub range : IsRange rows r
  pub met : (j : ℕ) → j < n → (p q : ℤ) → pos 0 <ℤ q → IsInside p q r → IsMet rows j p q

abbrev pub HasWhole : List Row → ℕ → Narrowed → Type 0
HasWhole rows n (Room r) = IsWhole rows n r
HasWhole rows n (Clash c) = IsClashing rows c
