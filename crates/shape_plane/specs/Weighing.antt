-- What holds of weights while rows are added to them.
-- Which rows are added belongs elsewhere.
use Rattle.std.specs.Prelude.{◌≡◌, ℕ, ◌≤◌, ◌<◌, List, length, All}
use Rattle.shape_terms.specs.Limits.{plane_weight}
use Rattle.shape_terms.specs.Points.{Point}
use Rattle.shape_terms.specs.Refutations.{Share, StepShare, Refutation, IsStepOf, total_weight, Refutes}
use Rattle.shape_plane.specs.declared.pair.Pair.{Pair}
use Rattle.shape_plane.specs.Pairs.{IsPlaceOf, AreSmallWeights}

-- a place of a list of n points and of a pair, with a small weight
pub record IsEntry (n : ℕ) (pairs : List Pair) (s : Share) : Type 0 where
  pub place : s.place < n
  pub from : IsPlaceOf pairs s.place
  pub small : s.weight < plane_weight

pub record IsStepEntry (d t : ℕ) (s : StepShare) : Type 0 where
  pub step : IsStepOf d t s.step
  pub small : s.weight < plane_weight

-- weights of at most n pairs and m steps
pub record IsWeighed (d t : ℕ) (points : List Point) (pairs : List Pair) (n m : ℕ) (r : Refutation) : Type 0 where
  pub low : All (IsEntry (length points) pairs) r.low
  pub high : All (IsEntry (length points) pairs) r.high
  pub steps : All (IsStepEntry d t) r.steps
  pub low_few : length r.low ≤ n
  pub high_few : length r.high ≤ n
  pub steps_few : length r.steps ≤ m
  pub same : total_weight r.low ≡ total_weight r.high

-- small weights of places of the pairs that refute the points
pub record AreWeights (d t : ℕ) (points : List Point) (pairs : List Pair) (why : Refutation) : Type 0 where
  pub refutes : Refutes d t points why
  pub small : AreSmallWeights why
  pub low : All (λ s. IsPlaceOf pairs s.place) why.low
  pub high : All (λ s. IsPlaceOf pairs s.place) why.high
