-- One coordinate of the two sides of a refutation's equation.
-- Words for contracts of what adds up the weights; what a refutation is stands in `Refutations`.
use Rattle.std.specs.Prelude.{ℕ, ◌<◌, List, [], ◌∷◌, ℤ, pos, ◌+ℤ◌, ◌-ℤ◌, ◌*ℤ◌, All}
use Rattle.shape_terms.specs.Points.{Point, coordinate}
use Rattle.shape_terms.specs.Adjacency.{moved}
use Rattle.shape_terms.specs.Vectors.{unit, difference}
use Rattle.shape_terms.specs.Refutations.{Share, StepShare, Refutation, IsStepOf, step_of, point_at, weighted_points, weighted_steps}

-- the sum of the shares' numbers, each as often as its weight says
abbrev pub shares_sum : (ℕ → ℤ) → List Share → ℤ
shares_sum f [] = pos 0
shares_sum f (s ∷ shares) = pos s.weight *ℤ f s.place +ℤ shares_sum f shares

-- the coordinate on the axis k of the sum of the steps, each as often as its weight says
abbrev pub steps_sum : ℕ → ℕ → List StepShare → ℤ
steps_sum t k [] = pos 0
steps_sum t k (s ∷ shares) = pos s.weight *ℤ coordinate (step_of t s.step) k +ℤ steps_sum t k shares

-- each place is one of a list of n
abbrev pub ArePlaces : ℕ → List Share → Type 0
ArePlaces n shares = All (λ s. s.place < n) shares

-- each step is one of the axis t in a space of d axes
abbrev pub AreSteps : ℕ → ℕ → List StepShare → Type 0
AreSteps d t shares = All (λ s. IsStepOf d t s.step) shares

-- the coordinate on the axis k of the point at a place, less by some number
abbrev pub axis_value : List Point → ℕ → ℤ → ℕ → ℤ
axis_value points k less i = coordinate (point_at points i) k -ℤ less

-- the two sides of a refutation's equation: the low points with the steps, and the high points, each one step down
abbrev pub low_side : ℕ → List Point → Refutation → Point
low_side t points r = moved (weighted_points (point_at points) r.low) (weighted_steps t r.steps)

abbrev pub high_side : ℕ → List Point → Refutation → Point
high_side t points r = weighted_points (λ i. difference (point_at points i) (unit t)) r.high
