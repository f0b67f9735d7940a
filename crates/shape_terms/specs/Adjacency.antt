-- Steps between points, and the two adjacencies: that of object points and that of background points.
-- Every definition serves each number of axes; sets of points and their components stand in `Parts`.
use Rattle.std.specs.Prelude.{◌≡◌, ◌≢◌, ℕ, zero, suc, ◌<◌, ◌≤◌, ◌==◌, not, List, [], ◌∷◌, map, length, slice_index_or, filter, sum, ℤ, pos, negsuc, ◌+ℤ◌, ◌-ℤ◌}
use Rattle.std.specs.Prelude.{nat_abs}
use Rattle.std.specs.List.{AllZip, range_with_len, flat_map}
use Rattle.shape_terms.specs.Points.{Point, axis_distances}

-- ---- steps

-- the sum of two points, coordinate by coordinate; a coordinate that only one of them has stays as it is, so the empty list is a zero of every space
abbrev pub moved : Point → Point → Point
moved [] v = v
moved (x ∷ p) [] = x ∷ p
moved (x ∷ p) (y ∷ v) = (x +ℤ y) ∷ moved p v

-- the step of n along the axis k, as the list of its coordinates up to that axis: `moved` fits it to any point that has the axis
abbrev pub along : ℕ → ℤ → Point
along zero n = n ∷ []
along (suc k) n = pos 0 ∷ along k n

-- the point whose coordinates are all 0
abbrev pub origin : ℕ → Point
origin zero = []
origin (suc d) = pos 0 ∷ origin d

-- ---- adjacency

-- the number of unit steps from the one point to the other
abbrev pub city_distance : Point → Point → ℕ
city_distance p q = sum (axis_distances p q)

-- the points differ, and each coordinate by at most 1: adjacency 8 in the plane and 26 in space
abbrev pub Near : Point → Point → Type 0
Near p q = (p ≢ q) × AllZip (λ x y. nat_abs (x -ℤ y) ≤ 1) p q

-- one coordinate differs, by 1: adjacency 4 in the plane and 6 in space
abbrev pub Side : Point → Point → Type 0
Side p q = (length p ≡ length q) × (city_distance p q ≡ 1)

-- near points of which at most two coordinates differ: all near ones in the plane, 18 of 26 in space
abbrev pub Round : Point → Point → Type 0
Round p q = Near p q × (city_distance p q ≤ 2)

-- ---- neighbours in order

-- the steps with every coordinate -1, 0 or 1, in raster order
abbrev pub cube_steps : ℕ → List Point
cube_steps zero = [] ∷ []
cube_steps (suc d) = flat_map (λ v. (negsuc 0 ∷ v) ∷ (pos 0 ∷ v) ∷ (pos 1 ∷ v) ∷ []) (cube_steps d)

-- the number of unit steps that a step stands for
abbrev pub step_length : Point → ℕ
step_length v = sum (map nat_abs v)

-- the steps to the near neighbours, in the order of their numbers: 8 in the plane, 26 in space
abbrev pub near_steps : ℕ → List Point
near_steps d = filter (λ v. not (step_length v == 0)) (cube_steps d)

-- the steps to the side neighbours, in the order of their numbers: -x, +x, -y, +y, -z, +z
abbrev pub side_steps : ℕ → List Point
side_steps d = flat_map (λ k. moved (origin d) (along k (negsuc 0)) ∷ moved (origin d) (along k (pos 1)) ∷ []) (range_with_len 0 d)

-- the near and the side step with the number k
abbrev pub near_step : ℕ → ℕ → Point
near_step d k = slice_index_or (near_steps d) k []

abbrev pub side_step : ℕ → ℕ → Point
side_step d k = slice_index_or (side_steps d) k []

-- the near and the side neighbour of a point with the number k
abbrev pub near_point : Point → ℕ → Point
near_point p k = moved p (near_step (length p) k)

abbrev pub side_point : Point → ℕ → Point
side_point p k = moved p (side_step (length p) k)

-- the near and the side neighbours of a point, in the order of their numbers
abbrev pub near_points : Point → List Point
near_points p = map (moved p) (near_steps (length p))

abbrev pub side_points : Point → List Point
side_points p = map (moved p) (side_steps (length p))

-- the numbers below n are those of exactly the points that R holds of from p, and each such point has one number
pub record Lists (R : Point → Point → Type 0) (neighbour : Point → ℕ → Point) (n : ℕ) (p : Point) : Type 0 where
  pub each : (q : Point) → R p q → (k : ℕ) × (k < n) × (neighbour p k ≡ q)
  pub only : (k : ℕ) → k < n → R p (neighbour p k)
  pub once : (j k : ℕ) → j < n → k < n → neighbour p j ≡ neighbour p k → j ≡ k
