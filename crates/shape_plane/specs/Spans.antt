-- Bounds of the second slope n/m at a first slope p/q, and which row gives each.
-- In which order rows are looked at belongs elsewhere.
use Rattle.std.specs.Prelude.{◌*◌, ◌≡◌, ℕ, ◌≤◌, ◌<◌, List, length, ℤ, pos, ◌≤ℤ◌, ◌<ℤ◌, unsigned_abs}
use Rattle.shape_terms.specs.Limits.{plane_row}
use Rattle.shape_plane.specs.declared.row.Row.{Row}
use Rattle.shape_space.specs.declared.frac.Frac.{Frac}
use Rattle.shape_plane.specs.declared.span.Span.{Span}
use Rattle.shape_plane.specs.Rows.{row_at, Meets, level}

-- the second slope n/m meets the row at a place, where the first is p/q
abbrev pub MeetsAt : List Row → Frac → ℤ → ℤ → ℕ → Type 0
MeetsAt rows s n m i = Meets n m (row_at rows i).y (level s.num s.den (row_at rows i))

-- a row that bounds the second slope from below, and one that bounds it from above
pub record IsSpan (rows : List Row) (s : Span) : Type 0 where
  pub lower_place : s.lower < length rows
  pub upper_place : s.upper < length rows
  pub lower_second : 2 ≤ s.lower
  pub upper_second : 2 ≤ s.upper
  pub falls : (row_at rows s.lower).y <ℤ pos 0
  pub rises : pos 0 <ℤ (row_at rows s.upper).y

abbrev pub IsAmid : List Row → Frac → ℤ → ℤ → Span → Type 0
IsAmid rows f n m s = MeetsAt rows f n m s.lower × MeetsAt rows f n m s.upper

-- each second slope amid the one is amid the other
abbrev pub IsCloser : List Row → Frac → Span → Span → Type 0
IsCloser rows f new old = (n m : ℤ) → pos 0 <ℤ m → IsAmid rows f n m new → IsAmid rows f n m old

-- a slope of small parts
pub record IsSmallSlope (f : Frac) : Type 0 where
  pub den : pos 1 ≤ℤ f.den
  pub num_small : unsigned_abs f.num ≤ 2 * plane_row
  pub den_small : unsigned_abs f.den ≤ 2 * plane_row

-- the span without the second slopes that do not meet the row j
pub record IsTightened (rows : List Row) (f : Frac) (old : Span) (j : ℕ) (new : Span) : Type 0 where
  pub span : IsSpan rows new
  pub closer : IsCloser rows f new old
  pub met : (n m : ℤ) → pos 0 <ℤ m → IsAmid rows f n m new → ((row_at rows j).y ≡ pos 0 → ⊥) → MeetsAt rows f n m j

-- each second slope amid the span meets the first k rows in which it stands
pub record IsTight (rows : List Row) (f : Frac) (k : ℕ) (s : Span) : Type 0 where
  pub span : IsSpan rows s
  pub met : (j : ℕ) → j < k → (n m : ℤ) → pos 0 <ℤ m → IsAmid rows f n m s → ((row_at rows j).y ≡ pos 0 → ⊥) → MeetsAt rows f n m j
