-- Weights that no naive line or plane of an axis survives (the lemma of Farkas).
-- Every definition serves each number of axes; none may name a type of the program.
use Rattle.std.specs.Prelude.{◌≡◌, ◌≢◌, ℕ, ◌<◌, ◌≤◌, List, [], ◌∷◌, length, slice_index_or, sum_by, pos, All}
use Rattle.shape_terms.specs.Points.{Point}
use Rattle.shape_terms.specs.Adjacency.{moved}
use Rattle.shape_terms.specs.Vectors.{times, unit, difference}
use Rattle.shape_terms.specs.Naive.{Naive, IsNaiveFor}

-- a place of a list, taken so many times
pub record Share : Type 0 where
  pub weight : ℕ
  pub place : ℕ

-- the steps e_t, e_t + e_u and e_t - e_u of an axis t
pub data Step : Type 0 where
  Up : Step
  Plus Minus : ℕ → Step

-- a step, taken so many times
pub record StepShare : Type 0 where
  pub weight : ℕ
  pub step : Step

pub record Refutation : Type 0 where
  pub low : List Share
  pub high : List Share
  pub steps : List StepShare

-- the step as a difference of points
abbrev pub step_of : ℕ → Step → Point
step_of t Up = unit t
step_of t (Plus u) = moved (unit t) (unit u)
step_of t (Minus u) = difference (unit t) (unit u)

-- the step is one of the axis t in a space of d axes
abbrev pub IsStepOf : ℕ → ℕ → Step → Type 0
IsStepOf d t Up = Unit {0}
IsStepOf d t (Plus u) = (u < d) × (u ≢ t)
IsStepOf d t (Minus u) = (u < d) × (u ≢ t)

-- the point at a place of the list
abbrev pub point_at : List Point → ℕ → Point
point_at points i = slice_index_or points i []

-- the sum of the shares' points, each as often as its weight says
abbrev pub weighted_points : (ℕ → Point) → List Share → Point
weighted_points f [] = []
weighted_points f (s ∷ shares) = moved (times (pos s.weight) (f s.place)) (weighted_points f shares)

-- the sum of the steps, each as often as its weight says
abbrev pub weighted_steps : ℕ → List StepShare → Point
weighted_steps t [] = []
weighted_steps t (s ∷ shares) = moved (times (pos s.weight) (step_of t s.step)) (weighted_steps t shares)

-- the sum of the weights
abbrev pub total_weight : List Share → ℕ
total_weight shares = sum_by (λ s. s.weight) shares

-- the weights refute the list: low points and steps make the high points, each one step of the axis t down, and as many low as high points are taken
pub record Refutes (d t : ℕ) (points : List Point) (r : Refutation) : Type 0 where
  pub low_places : All (λ s. s.place < length points) r.low
  pub high_places : All (λ s. s.place < length points) r.high
  pub steps_of_axis : All (λ s. IsStepOf d t s.step) r.steps
  pub same_weight : total_weight r.low ≡ total_weight r.high
  pub some_weight : 1 ≤ total_weight r.low
  pub meet : moved (weighted_points (point_at points) r.low) (weighted_steps t r.steps)
      ≡ weighted_points (λ i. difference (point_at points i) (unit t)) r.high

-- no proper naive line or plane of the axis holds a list that weights refute
abbrev pub RefutationsExclude : Type 0
RefutationsExclude = (d t : ℕ) (points : List Point) (r : Refutation) → Refutes d t points r → (n : Naive) → IsNaiveFor t points n → ⊥
