-- Which near neighbours of a point are adjacent to one another, as sets of numbers.
-- Tests and lists that compute: constant tables of the program are compared with them.
use Rattle.std.specs.Prelude.{ℕ, Bool, true, false, ◌&&◌, nat_lt, ◌==◌, List, [], ◌∷◌, map, ◌-ℤ◌, nat_abs}
use Rattle.std.specs.Simd.Lanes.{mask_l}
use Rattle.shape_terms.specs.Points.{Point}
use Rattle.shape_terms.specs.Adjacency.{city_distance, origin, near_steps}

-- no two coordinates are more than 1 apart
abbrev pub close_test : Point → Point → Bool
close_test [] [] = true
close_test (x ∷ p) (y ∷ q) = nat_lt (nat_abs (x -ℤ y)) 2 && close_test p q
close_test _ _ = false

abbrev pub near_test : Point → Point → Bool
near_test p q = nat_lt 0 (city_distance p q) && close_test p q

abbrev pub side_test : Point → Point → Bool
side_test p q = city_distance p q == 1

-- for each step the set of the steps that it passes the test with; `mask_l` is the number whose bits are these truth values
abbrev pub links_of : (Point → Point → Bool) → List Point → List ℕ
links_of test steps = map (λ v. mask_l (map (test v) steps)) steps

abbrev pub near_links : ℕ → List ℕ
near_links d = links_of near_test (near_steps d)

abbrev pub side_links : ℕ → List ℕ
side_links d = links_of side_test (near_steps d)

-- the near neighbours that are side neighbours
abbrev pub side_set : ℕ → ℕ
side_set d = mask_l (map (side_test (origin d)) (near_steps d))

-- the step has at most two coordinates that are not 0
abbrev pub round_test : (d : ℕ) → Point → Bool
round_test d v = nat_lt (city_distance (origin d) v) 3

-- the near neighbours that differ in at most two coordinates
abbrev pub round_set : ℕ → ℕ
round_set d = mask_l (map (round_test d) (near_steps d))
