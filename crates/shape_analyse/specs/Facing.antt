-- A report of a volume while its faces are told: good lines that have come to the section of faces.
-- What was found of a face so far is handed in: its patches, each with its refused points, and the points that are left.
use Rattle.std.specs.Prelude.{◌≡◌, ◌+◌, ◌<◌, ◌^◌, ℕ, List, ◌++◌, length, map, take, IsTrue}
use Rattle.shape_terms.specs.Points.{Point}
use Rattle.shape_terms.specs.Pictures.{Picture, at}
use Rattle.shape_terms.specs.Patches.{FoundPatch, RefusedPoint, points_of}
use Rattle.report_terms.specs.Lines.{Line}
use Rattle.report_terms.specs.FaceFacts.{face_axis, face_sense}
use Rattle.report_terms.specs.FaceLines.{FaceStanding, face_standing, PatchIsFull, FacesAreFull, open_exposed}
use Rattle.report_terms.specs.Sections.{Section, lines_of, HasCome}
use Rattle.shape_plane.specs.Faces.{IsFace}
use Rattle.shape_plane.specs.Parting.{IsParted, AreRefusedOf, patches_of}
use Rattle.shape_analyse.specs.Growing.{Aim, AreGood}

-- all lines before those of faces, and good lines of faces that stand at s
pub record IsFacing (X : Aim) (s : FaceStanding) (lines : List Line) : Type 0 where
  pub solid : length X.subject.picture.sides ≡ 3
  pub lines_good : AreGood X lines
  pub come : HasCome X.subject Section.Faces lines
  pub stands : face_standing (lines_of Section.Faces lines) ≡ s

-- the first f faces have all their lines
pub record HasFaces (X : Aim) (f : ℕ) (lines : List Line) : Type 0 where
  pub stand : FaceStanding
  pub facing : IsFacing X stand lines
  pub begun : stand.begun ≡ f
  pub full : FacesAreFull X.subject.picture stand

-- these patches of the face with a number were found so far, and these of its exposed points are left
pub record AreFound (X : Aim) (f : ℕ) (found : List FoundPatch) (left : Picture) : Type 0 where
  pub few : f < 6
  pub face : Picture
  pub is_face : IsFace X.subject.picture (face_axis f) (face_sense f) face
  pub parted : IsParted 3 (face_axis f) face found left

-- the points of all patches found so far
abbrev pub points_found : List FoundPatch → List Point
points_found found = points_of (patches_of found)

-- the first faces have all their lines, the next one was begun, and the patches found of it have theirs
pub record HasPatches (X : Aim) (f : ℕ) (found : List FoundPatch) (lines : List Line) : Type 0 where
  pub stand : FaceStanding
  pub facing : IsFacing X stand lines
  pub begun : stand.begun ≡ f + 1
  pub taken : stand.taken ≡ points_found found
  pub full : PatchIsFull (open_exposed X.subject.picture stand) stand

-- the points that were refused
abbrev pub refused_points : List RefusedPoint → List Point
refused_points refused = map (λ (r : RefusedPoint). r.point) refused

-- where the face with the number f was begun, some points of it were given, and then the head of a patch, its first j points and its first m refused points
abbrev pub at_patch : (f : ℕ) → (before : List Point) → FoundPatch → (j m : ℕ) → FaceStanding
at_patch f before x j m = record {
  begun = f + 1;
  taken = before ++ take j x.patch.points;
  patch = record { declared = length x.patch.points; plane = x.patch.plane; points = take j x.patch.points; refused = take m (refused_points x.refused) };
}

-- a patch of some face of a volume, with its refused points among those that were left
pub record IsSomePatch (x : FoundPatch) : Type 0 where
  pub axis : ℕ
  pub left : Picture
  pub refused : AreRefusedOf 3 axis x.patch (λ q. IsTrue (at left q)) x.refused
  pub few : length x.patch.points < 2 ^ 32
