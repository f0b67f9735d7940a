-- How far the major axis of an object is turned from the x axis: the cosine and the sine of its angle, rounded by whole numbers alone.
-- Another precision is a change of the numbers here and of those in `axis_turn`.
use Rattle.std.specs.Prelude.{◌≡◌, ◌⊎◌, ℕ, ◌+◌, ◌*◌, ◌<◌, ◌≤◌, ℤ, pos, ◌-ℤ◌, ◌<ℤ◌, ◌≤ℤ◌, neg_ℤ, nat_abs}
use Rattle.measure_terms.specs.Moments.{Moments}
use Rattle.measure_terms.specs.Ellipse.{double_x, double_y, discriminant, square, IsRounded}

-- a cosine is told in so many parts of 1
abbrev pub most_parts : ℕ
most_parts = 50000

-- The vector of twice the angle is (x, y), and its length is √d. So the cosine of the angle is the root of (√d + x) / (2 √d), and the size of the sine that of
-- (√d - x) / (2 √d). In
-- parts, such a root is less than r and a half where 5 * 10^9 * z is less than this number times √d, with x or -x as z.
abbrev pub excess : ℕ → ℤ
excess r = pos ((2 * r + 1) * (2 * r + 1)) -ℤ pos 5000000000

-- z is not negative there, or it is
abbrev pub IsPartBelow : (z : ℤ) (d r : ℕ) → Type 0
IsPartBelow z d r =
    ((pos 0 <ℤ excess r) × ((z <ℤ pos 0) ⊎ (25000000000000000000 * square z < square (excess r) * d)))
    ⊎ ((excess r ≤ℤ pos 0) × (z <ℤ pos 0) × (square (excess r) * d < 25000000000000000000 * square z))

-- the cosine and the sine, in parts
pub record Turn : Type 0 where
  pub cosine : ℕ
  pub sine : ℤ

-- those of the major axis of an object with these moments, which is between -90 and 90 degrees; the axis of a circle lies along x
pub record IsTurn (m : Moments) (t : Turn) : Type 0 where
  pub cosine : 1 ≤ discriminant m → IsRounded (IsPartBelow (double_x m) (discriminant m)) t.cosine
  pub sine : 1 ≤ discriminant m → IsRounded (IsPartBelow (neg_ℤ (double_x m)) (discriminant m)) (nat_abs t.sine)
  pub down : pos 0 ≤ℤ double_y m → pos 0 ≤ℤ t.sine
  pub up : double_y m <ℤ pos 0 → t.sine ≤ℤ pos 0
  pub circle : discriminant m ≡ 0 → t ≡ record { cosine = most_parts; sine = pos 0 }
