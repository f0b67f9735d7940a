-- Pairs of places of a list of points, and the slopes that leave each pair within a naive line or plane.
-- How slopes are found belongs elsewhere.
use Rattle.std.specs.Prelude.{◌≡◌, ◌⊎◌, ℕ, zero, suc, ◌≤◌, ◌<◌, List, length, slice_get, Some, ℤ, pos, ◌-ℤ◌, ◌<ℤ◌, All, nat_abs}
use Rattle.shape_terms.specs.Limits.{plane_weight, plane_size}
use Rattle.shape_terms.specs.Points.{Point, coordinate}
use Rattle.shape_terms.specs.FramedBox.{IsWithin}
use Rattle.shape_terms.specs.Vectors.{difference, dot}
use Rattle.shape_terms.specs.Naive.{IsProper}
use Rattle.shape_terms.specs.Refutations.{point_at, Refutation}
use Rattle.shape_plane.specs.declared.pair.Pair.{Pair}
use Rattle.shape_plane.specs.declared.row.Row.{Row}
use Rattle.shape_plane.specs.declared.row.Cause.TheVariants.{Gap}

-- the two axes beside t; the plane has only the first of them
abbrev pub first_axis : ℕ → ℕ
first_axis zero = 1
first_axis (suc t) = 0

abbrev pub second_axis : ℕ → ℕ
second_axis zero = 2
second_axis (suc zero) = 2
second_axis (suc (suc t)) = 1

-- both places are places of a list of n points
abbrev pub IsPair : ℕ → Pair → Type 0
IsPair n pair = (pair.low < n) × (pair.high < n)

abbrev pub ArePairs : ℕ → List Pair → Type 0
ArePairs n pairs = All (IsPair n) pairs

-- each point lies in the box of the greatest sides
abbrev pub AreInside : ℤ → List Point → Type 0
AreInside greatest points = All (IsWithin (pos 0) (greatest -ℤ pos 1)) points

-- how far the high point of a pair lies from the low one on the axis k
abbrev pub gap : List Point → Pair → ℕ → ℤ
gap points pair k = coordinate (point_at points pair.high) k -ℤ coordinate (point_at points pair.low) k

-- what a pair says of the slopes for the axis t
abbrev pub pair_row : ℕ → List Point → Pair → Row
pair_row t points pair = record { x = gap points pair (first_axis t); y = gap points pair (second_axis t); z = gap points pair t -ℤ pos 1; cause = Gap pair }

-- the coefficients leave the pair within a line or plane of the axis t: a.(high - low) < a_t
abbrev pub MeetsPair : ℕ → List Point → List ℤ → Pair → Type 0
MeetsPair t points a pair = dot a (difference (point_at points pair.high) (point_at points pair.low)) <ℤ coordinate a t

-- proper coefficients for the axis t that meet each pair
pub record AreSlopes (t : ℕ) (points : List Point) (pairs : List Pair) (a : List ℤ) : Type 0 where
  pub proper : IsProper t (record { a = a; mu = pos 0 })
  pub meets : All (MeetsPair t points a) pairs

-- the place is one of a pair
abbrev pub IsPlaceOf : List Pair → ℕ → Type 0
IsPlaceOf pairs i = (j : ℕ) × (pair : Pair) × (slice_get pairs j ≡ Some pair) × ((i ≡ pair.low) ⊎ (i ≡ pair.high))

-- at most four entries in each list, and each weight below plane_weight
pub record AreSmallWeights (why : Refutation) : Type 0 where
  pub few_low : length why.low ≤ 4
  pub few_high : length why.high ≤ 4
  pub few_steps : length why.steps ≤ 4
  pub low : All (λ s. s.weight < plane_weight) why.low
  pub high : All (λ s. s.weight < plane_weight) why.high
  pub steps : All (λ s. s.weight < plane_weight) why.steps

-- three coefficients, each below plane_size in size, those past the axes 0
pub record AreSmallCoefficients (d : ℕ) (a : List ℤ) : Type 0 where
  pub three : length a ≡ 3
  pub past : (k : ℕ) → d ≤ k → coordinate a k ≡ pos 0
  pub small : All (λ x. nat_abs x < plane_size) a
