-- Contours as they are traced: where one starts, its points, and what holds of every closed path of pixels.
-- How the cracks of a contour are found belongs elsewhere.
use Rattle.std.specs.Prelude.{◌≡◌, ◌≢◌, ℕ, ◌+◌, ◌<◌, ◌≤◌, ◌%◌, List, [], ◌∷◌, map, length, sum_by, slice_index_or, IsTrue, All}
use Rattle.shape_terms.specs.Limits.{most_round}
use Rattle.shape_terms.specs.Points.{Point, in_box}
use Rattle.shape_terms.specs.Steps.{AreClose}
use Rattle.shape_terms.specs.Pictures.{Picture}
use Rattle.shape_terms.specs.Contours.{Crack, IsCycle, AreCycles, first_of_cycle, contour_points}

-- the first crack of a cycle, and the points of its contour in order
pub record Contour : Type 0 where
  pub start : Crack
  pub points : List Point

-- the contour of a cycle of cracks
abbrev pub contour_of : Picture → List Crack → Contour
contour_of X cracks = record { start = first_of_cycle cracks; points = contour_points X cracks }

-- the contour of the cycle that begins with the crack c
pub record IsContourFrom (X : Picture) (c : Crack) (k : Contour) : Type 0 where
  pub cracks : List Crack
  pub cycle : IsCycle X cracks
  pub first : first_of_cycle cracks ≡ c
  pub contour : k ≡ contour_of X cracks

-- the contours of the picture: one for each of its cycles, in their order
pub record AreContours (X : Picture) (contours : List Contour) : Type 0 where
  pub cycles : List (List Crack)
  pub are : AreCycles X cycles
  pub contours_are : contours ≡ map (contour_of X) cycles

-- how many points these contours have in all
abbrev pub points_in : List Contour → ℕ
points_in contours = sum_by (λ k. length k.points) contours

-- some points of a square box, each close to the next and the last to the first, and different from it where there are two or more
pub record IsClosedPath (side : ℕ) (points : List Point) : Type 0 where
  pub some : 1 ≤ length points
  pub few : length points ≤ most_round
  pub inside : All (λ p. IsTrue (in_box (side ∷ side ∷ []) p)) points
  pub close : (i : ℕ) → i < length points → AreClose (slice_index_or points i []) (slice_index_or points ((i + 1) % length points) [])
  pub apart : 2 ≤ length points → (i : ℕ) → i < length points → slice_index_or points i [] ≢ slice_index_or points ((i + 1) % length points) []
