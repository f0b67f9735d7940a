-- The length of a contour: each step counts with its length along the lines of the runs that pass it, in the mean. All lengths are whole numbers of
-- units, and a million million units are the side of a pixel. Which runs there are belongs elsewhere.
use Rattle.std.specs.Prelude.{ℕ, ℤ, ◌+◌, ◌*◌, ◌/◌, ◌%◌, ◌^◌, ◌-ℤ◌, ◌*ℤ◌, pos, nat_abs, nat_le, nat_lt, Bool, ◌&&◌, if◌then◌else◌, List, [], ◌∷◌, ◌++◌, map}
use Rattle.std.specs.Prelude.{length, sum, flat_map}
use Rattle.std.specs.List.{range_with_len}
use Rattle.shape_terms.specs.Points.{Point, coordinate}
use Rattle.shape_terms.specs.Refutations.{point_at}
use Rattle.measure_terms.specs.Quotients.{root_quotient}
use Rattle.measure_terms.specs.Runs.{Run}

-- ---- steps

-- how a step changes x and y
pub record Step : Type 0 where
  pub x : ℤ
  pub y : ℤ

-- a step that goes no further than to a neighbour; any other counts as one that stays
abbrev pub near_step : (x y : ℤ) → Step
near_step x y = if nat_le (nat_abs x) 1 && nat_le (nat_abs y) 1 then record { x = x; y = y } else record { x = pos 0; y = pos 0 }

-- the step from p to q
abbrev pub step : (p q : Point) → Step
step p q = near_step (coordinate q 0 -ℤ coordinate p 0) (coordinate q 1 -ℤ coordinate p 1)

-- the step of a contour from a place to the next, where the first point comes again behind the last
abbrev pub step_at : List Point → ℕ → Step
step_at points i = step (point_at points i) (point_at points ((i + 1) % length points))

-- ---- a step along a line

-- the product of a step with the direction (b, - a) of the line a x + b y, in size
abbrev pub weight : Run → Step → ℕ
weight r s = nat_abs ((s.x *ℤ r.b) -ℤ (s.y *ℤ r.a))

-- the squared length of the direction
abbrev pub norm : Run → ℕ
norm r = nat_abs r.a * nat_abs r.a + nat_abs r.b * nat_abs r.b

-- the length of a step along the line, rounded down to whole units
abbrev pub share : Run → Step → ℕ
share r s = root_quotient (weight r s * 10 ^ 12) (norm r)

-- ---- the steps of a contour

-- the run passes the step from this place on: it begins there or before, and ends behind it
abbrev pub passes : Run → ℕ → Bool
passes r i = nat_le r.first i && nat_lt i r.last

-- the length of the step from place i along the run, where it passes the step at place j
abbrev pub share_at : List Point → Run → (i j : ℕ) → List ℕ
share_at points r i j = if passes r j then share r (step_at points i) ∷ [] else []

-- and the same in the first round and in the second, where the places go on behind the last
abbrev pub shares_at : List Point → ℕ → Run → List ℕ
shares_at points i r = share_at points r i i ++ share_at points r i (i + length points)

-- the lengths of the step from place i along all runs that pass it
abbrev pub shares : List Point → List Run → ℕ → List ℕ
shares points runs i = flat_map (shares_at points i) runs

-- the mean of some numbers, rounded down, and 0 of none
abbrev pub mean : List ℕ → ℕ
mean xs = sum xs / length xs

-- the length of a contour with these points and runs: each step counts with its length in the mean
abbrev pub contour_length : List Point → List Run → ℕ
contour_length points runs = sum (map (λ i. mean (shares points runs i)) (range_with_len 0 (length points)))
