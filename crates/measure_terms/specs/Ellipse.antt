-- The ellipse of the plane with the same second moments as an object whose points are unit squares, by whole numbers alone.
-- A unit square has a second moment of 1/12 about its middle: to take points without extent, leave out `n * n` in `spread`.
use Rattle.std.specs.Prelude.{◌≡◌, ◌⊎◌, ℕ, ◌+◌, ◌*◌, ◌<◌, ℤ, pos, ◌+ℤ◌, ◌-ℤ◌, ◌*ℤ◌, ◌<ℤ◌, nat_abs}
use Rattle.measure_terms.specs.Moments.{Moments}

-- ---- the covariance matrix of n points, each entry 12 * n * n times

-- the variance of a coordinate, off the sum of the coordinates and that of their squares
abbrev pub spread : (n sum squares : ℕ) → ℤ
spread n sum squares = pos (12 * (n * squares) + n * n) -ℤ pos (12 * (sum * sum))

abbrev pub spread_x : Moments → ℤ
spread_x m = spread m.count m.x m.xx

abbrev pub spread_y : Moments → ℤ
spread_y m = spread m.count m.y m.yy

-- the covariance of the two coordinates
abbrev pub mixed : Moments → ℤ
mixed m = pos (12 * (m.count * m.xy)) -ℤ pos (12 * (m.x * m.y))

abbrev pub trace : Moments → ℤ
trace m = spread_x m +ℤ spread_y m

-- ---- direction

-- the vector (double_x, double_y) makes twice the angle with the x axis that the major axis makes, from x towards y; of a circle it is (0, 0)
abbrev pub double_x : Moments → ℤ
double_x m = spread_x m -ℤ spread_y m

abbrev pub double_y : Moments → ℤ
double_y m = mixed m +ℤ mixed m

abbrev pub square : ℤ → ℕ
square z = nat_abs z * nat_abs z

-- the squared length of that vector: the discriminant of the matrix, whose eigenvalues are half of the trace plus and minus the root of it
abbrev pub discriminant : Moments → ℕ
discriminant m = square (double_x m) + square (double_y m)

-- ---- roots

-- the square root of d is less than k
pub record IsRootBelow (d : ℕ) (k : ℤ) : Type 0 where
  pub positive : pos 0 <ℤ k
  pub less : d < square k

-- minus the square root of d is less than k
abbrev pub IsNegatedRootBelow : (d : ℕ) (k : ℤ) → Type 0
IsNegatedRootBelow d k = (pos 0 <ℤ k) ⊎ (square k < d)

-- ---- axes

-- The square of an axis, from end to end, is 2 (t ± √d) / (3 n²), where n points have the trace t and the discriminant d. So the axis in
-- thousandths is less than r and a half where ± √(64 * 10^12 * d) is less than 3 n² (2 r + 1)² - 8 * 10^6 * t, which is this number.
abbrev pub room : (n : ℕ) (t : ℤ) (r : ℕ) → ℤ
room n t r = pos (3 * (n * n) * ((2 * r + 1) * (2 * r + 1))) -ℤ (pos 8000000 *ℤ t)

-- the major axis in thousandths is less than r and a half
abbrev pub IsMajorBelow : (n : ℕ) (t : ℤ) (d r : ℕ) → Type 0
IsMajorBelow n t d r = IsRootBelow (64000000000000 * d) (room n t r)

-- the minor axis in thousandths is less than r and a half
abbrev pub IsMinorBelow : (n : ℕ) (t : ℤ) (d r : ℕ) → Type 0
IsMinorBelow n t d r = IsNegatedRootBelow (64000000000000 * d) (room n t r)

-- r is a length rounded to nearest, and a half up, where it is told of which numbers and a half the length is less
pub record IsRounded (IsBelow : ℕ → Type 0) (r : ℕ) : Type 0 where
  pub low : (m : ℕ) → m < r → IsBelow m → ⊥
  pub high : IsBelow r

-- r is the major axis in thousandths
abbrev pub IsMajor : Moments → ℕ → Type 0
IsMajor m r = IsRounded (IsMajorBelow m.count (trace m) (discriminant m)) r

-- r is the minor axis in thousandths
abbrev pub IsMinor : Moments → ℕ → Type 0
IsMinor m r = IsRounded (IsMinorBelow m.count (trace m) (discriminant m)) r

-- ---- the ellipse

-- the axes in thousandths, and the vector of twice the angle of the major one
pub record Ellipse : Type 0 where
  pub major : ℕ
  pub minor : ℕ
  pub double_x : ℤ
  pub double_y : ℤ

-- the ellipse of an object with a point
pub record IsEllipse (m : Moments) (e : Ellipse) : Type 0 where
  pub major : IsMajor m e.major
  pub minor : IsMinor m e.minor
  pub double_x : e.double_x ≡ double_x m
  pub double_y : e.double_y ≡ double_y m
