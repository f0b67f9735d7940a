-- Which share of all directions is nearest to each class of steps, where voxels need not be cubes: that of a fixed fan of directions, by whole numbers alone.
-- Another fan is a change here and of the same numbers in `measuring`.
use Rattle.std.specs.Prelude.{if◌then◌else◌, ℕ, ◌+◌, ◌*◌, ◌/◌, ◌%◌, ◌^◌, Bool, nat_lt, nat_eq, List, [], ◌∷◌, sum_by, count_by}
use Rattle.std.specs.List.{range_with_len, list_any}
use Rattle.measure_terms.specs.Rounding.{root}
use Rattle.measure_terms.specs.Spacing.{Spacing}

-- ---- directions

-- a direction of the octant in which no coordinate is below 0
pub record Direction : Type 0 where
  pub x : ℕ
  pub y : ℕ
  pub z : ℕ

abbrev pub dot : Direction → Direction → ℕ
dot u v = u.x * v.x + (u.y * v.y + u.z * v.z)

-- the step of a class, from 1 to 7, in the unit of the spacing
abbrev pub spaced_step : Spacing → ℕ → Direction
spaced_step s c = record { x = c % 2 * s.x; y = c / 2 % 2 * s.y; z = c / 4 * s.z }

-- the classes
abbrev pub classes : List ℕ
classes = range_with_len 1 7

-- ---- nearness

-- the square of the cosine between a direction and a step, but for the length of the direction: a quotient, its upper number times the lower one of another
abbrev pub crosswise : (u v w : Direction) → ℕ
crosswise u v w = dot u v * dot u v * dot w w

-- the step v is nearer to the direction u than w is
abbrev pub is_nearer : (u v w : Direction) → Bool
is_nearer u v w = nat_lt (crosswise u w v) (crosswise u v w)

-- both are as near
abbrev pub is_as_near : (u v w : Direction) → Bool
is_as_near u v w = nat_eq (crosswise u w v) (crosswise u v w)

-- the part of a direction that counts for a class, in units of which it has 420: none where another class is nearer, and where several are nearest the same
-- part for each
unfoldable pub portion : Spacing → (c : ℕ) → Direction → ℕ
portion s c u =
    if list_any (λ b. is_nearer u (spaced_step s b) (spaced_step s c)) classes then 0
    else (420 / count_by (λ b. is_as_near u (spaced_step s b) (spaced_step s c)) classes)

-- ---- the fan

-- Its directions lead to the six faces of which a cube around the origin has a half in the octant: to the points of a lattice in each, which no line of the
-- face meets in more than few.
-- The lattice has the points (2 i + 1, 2 * 6765 i + 1 modulo 2 * 10946) of a square with the side 2 * 10946, by two Fibonacci numbers next to each other.

abbrev pub fan_size : ℕ
fan_size = 10946

abbrev pub fan_side : ℕ
fan_side = 21892

abbrev pub first_of : ℕ → ℕ
first_of i = 2 * i + 1

abbrev pub second_of : ℕ → ℕ
second_of i = (13530 * i + 1) % fan_side

-- a lattice point on each face, and its mirror image
abbrev pub directions_of : (a b : ℕ) → List Direction
directions_of a b =
    record { x = fan_side; y = a; z = b } ∷ record { x = fan_side; y = b; z = a } ∷ record { x = a; y = fan_side; z = b }
    ∷ record { x = b; y = fan_side; z = a }
    ∷ record { x = a; y = b; z = fan_side } ∷ record { x = b; y = a; z = fan_side } ∷ []

-- the square of how far a lattice point is from the origin
abbrev pub reach : (a b : ℕ) → ℕ
reach a b = fan_side * fan_side + (a * a + b * b)

-- the solid angle that a lattice point stands for: one over the third power of its distance, in a unit that all have in common
unfoldable pub solid_angle : (a b : ℕ) → ℕ
solid_angle a b = 10 ^ 26 / reach a b / root (reach a b)

-- ---- shares

-- what lattice point i gives to a class
unfoldable pub given : Spacing → (c i : ℕ) → ℕ
given s c i = solid_angle (first_of i) (second_of i) * sum_by (portion s c) (directions_of (first_of i) (second_of i))

-- what a class has of the first n
unfoldable pub gathered : Spacing → (n c : ℕ) → ℕ
gathered s n c = sum_by (given s c) (range_with_len 0 n)

-- what all have of the whole fan
unfoldable pub gathered_by_all : Spacing → ℕ
gathered_by_all s = sum_by (gathered s fan_size) classes

-- the share of a class, with twelve digits
unfoldable pub share : Spacing → ℕ → ℕ
share s c = 10 ^ 12 * gathered s fan_size c / gathered_by_all s
