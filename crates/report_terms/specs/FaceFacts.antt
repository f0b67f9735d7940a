-- What a report says of a face of a volume, and when it shows it: the partition of its exposed points into patches, and the points that each patch refused.
-- Geometry alone: no line, spelling or judge stands here.
use Rattle.std.specs.Prelude.{◌≡◌, ℕ, ◌/◌, ◌%◌, ◌==◌, if◌then◌else◌, List, [], ◌∷◌, ◌++◌, map, All}
use Rattle.std.specs.List.{range_with_len}
use Rattle.shape_terms.specs.Points.{Point}
use Rattle.shape_terms.specs.Pictures.{Picture}
use Rattle.shape_terms.specs.Naive.{Naive, IsNaiveFor}
use Rattle.shape_terms.specs.Patches.{Sense, Patch, IsPartition}

-- the axis and the sense of the face with this number: the six are x -, x +, y -, y +, z -, z +
abbrev pub face_axis : ℕ → ℕ
face_axis f = f / 2

abbrev pub face_sense : ℕ → Sense
face_sense f = if f % 2 == 0 then Sense.Down else Sense.Upward

-- a patch, and the points that it refused
pub record PatchFact : Type 0 where
  pub patch : Patch
  pub refused : List Point

-- a face, with its patches in order
pub record FaceFact : Type 0 where
  pub axis : ℕ
  pub sense : Sense
  pub patches : List PatchFact

abbrev pub patches_of : List PatchFact → List Patch
patches_of facts = map (λ (x : PatchFact). x.patch) facts

-- ---- what they show

-- no proper naive plane of the axis holds the patch together with a point that it refused
abbrev pub PatchShows : ℕ → PatchFact → Type 0
PatchShows t fact = All (λ q. (n : Naive) → IsNaiveFor t (fact.patch.points ++ q ∷ []) n → ⊥) fact.refused

-- the patches are a partition of the exposed points, and each shows what it refused
pub record FaceShows (X : Picture) (fact : FaceFact) : Type 0 where
  pub partition : IsPartition 3 X fact.axis fact.sense (patches_of fact.patches)
  pub refused : All (PatchShows fact.axis) fact.patches

-- the faces are the six, in their order
pub record FacesShow (X : Picture) (facts : List FaceFact) : Type 0 where
  pub axes : map (λ (f : FaceFact). f.axis) facts ≡ map face_axis (range_with_len 0 6)
  pub senses : map (λ (f : FaceFact). f.sense) facts ≡ map face_sense (range_with_len 0 6)
  pub each : All (FaceShows X) facts
