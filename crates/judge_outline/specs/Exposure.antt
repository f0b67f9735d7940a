-- The exposed points of the six faces by number, and the points of them that are left and that touch a patch.
-- What a judge keeps of them stands in `PlaneState`.
use Rattle.std.specs.Prelude.{◌↔◌, ℕ, ◌+◌, ◌<◌, IsTrue, List, length, map, take, slice_index, Contains}
use Rattle.shape_terms.specs.Points.{Point, box_count, raster_number, raster_point}
use Rattle.shape_terms.specs.Adjacency.{Near}
use Rattle.shape_terms.specs.Pictures.{Picture, at}
use Rattle.shape_terms.specs.Patches.{exposed_points}
use Rattle.report_terms.specs.FaceFacts.{face_axis, face_sense}
use Rattle.report_terms.specs.FaceLines.{IsTouching}

-- the exposed points of the face with this number
abbrev pub exposed_at : Picture → ℕ → List Point
exposed_at X face = exposed_points X (face_axis face) (face_sense face)

-- q is exposed and not taken
pub record IsLeft (exposed taken : List Point) (q : Point) : Type 0 where
  pub there : Contains exposed q
  pub left : Contains taken q → ⊥

-- the object points of the picture are the points that are left
pub record AreLeft (exposed taken : List Point) (left : Picture) : Type 0 where
  pub each : (q : Point) → IsTrue (at left q) ↔ IsLeft exposed taken q

-- q is Near a point of the list
abbrev pub IsNearTo : List Point → Point → Type 0
IsNearTo patch q = (p : Point) × Contains patch p × Near q p

-- q is Near an object point of the picture
abbrev pub IsNearObject : Picture → Point → Type 0
IsNearObject recent q = (p : Point) × IsTrue (at recent p) × Near q p

-- the object points of the picture are the points of the list
pub record AreMarked (points : List Point) (marks : Picture) : Type 0 where
  pub each : (q : Point) → IsTrue (at marks q) ↔ Contains points q

-- each exposed point with a smaller raster number is taken
abbrev pub AreTakenBelow : Picture → (face : ℕ) → List Point → ℕ → Type 0
AreTakenBelow X face taken n = (q : Point) → Contains (exposed_at X face) q → raster_number X.sides q < n → Contains taken q

-- the numbers are those of the points that touch the patch, each once and rising
pub record AreTouching (sides : List ℕ) (exposed taken patch : List Point) (numbers : List ℕ) : Type 0 where
  pub rising : (k : ℕ) → k + 1 < length numbers → slice_index numbers k < slice_index numbers (k + 1)
  pub below : (n : ℕ) → Contains numbers n → n < box_count sides
  pub each : (q : Point) → IsTouching exposed taken patch q → Contains numbers (raster_number sides q)
  pub only : (n : ℕ) → Contains numbers n → IsTouching exposed taken patch (raster_point sides n)

-- the numbers are those of the object points that are Near a point of the patch, each once and rising
pub record AreRound (left : Picture) (patch : List Point) (numbers : List ℕ) : Type 0 where
  pub rising : (k : ℕ) → k + 1 < length numbers → slice_index numbers k < slice_index numbers (k + 1)
  pub below : (n : ℕ) → Contains numbers n → n < box_count left.sides
  pub each : (n : ℕ) → n < box_count left.sides
      → Contains numbers n ↔ (IsTrue (at left (raster_point left.sides n)) × IsNearTo patch (raster_point left.sides n))

-- the points with the first of some raster numbers
abbrev pub first_points : List ℕ → (count : ℕ) → (numbers : List ℕ) → List Point
first_points sides count numbers = map (raster_point sides) (take count numbers)
