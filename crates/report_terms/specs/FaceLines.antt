-- The lines of faces in a report: how they stand in groups, and when one is good after those before it.
-- Only the lines of this section stand here; how sections follow each other stands in `Sections`.
use Rattle.std.specs.Prelude.{◌≡◌, ℕ, ◌+◌, ◌-◌, ◌<◌, ◌≤◌, Bool, true, false, List, [], ◌∷◌, ◌++◌, length, filter_map, slice_index_or, Option, Some, None, pos}
use Rattle.std.specs.Prelude.{Contains}
use Rattle.shape_terms.specs.Points.{Point}
use Rattle.shape_terms.specs.Steps.{Before}
use Rattle.shape_terms.specs.Adjacency.{Near}
use Rattle.shape_terms.specs.Pictures.{Picture}
use Rattle.shape_terms.specs.Naive.{Naive, IsProper, HoldsPoint}
use Rattle.shape_terms.specs.Refutations.{Refutation, Refutes}
use Rattle.shape_terms.specs.Patches.{Sense, exposed_points, IsFirstLeft}
use Rattle.report_terms.specs.Lines.{Line}
use Rattle.report_terms.specs.ContourLines.{groups}
use Rattle.report_terms.specs.FaceFacts.{face_axis, face_sense}

-- ---- groups of lines

abbrev pub is_face : Line → Bool
is_face (Line.Face _ _ _) = true
is_face _ = false

abbrev pub is_patch : Line → Bool
is_patch (Line.Patch _ _ _) = true
is_patch _ = false

-- the lines of each face, and those of each patch of a face
abbrev pub face_groups : List Line → List (List Line)
face_groups lines = groups is_face lines

abbrev pub patch_groups : List Line → List (List Line)
patch_groups lines = groups is_patch lines

-- the last of some groups, and no line where there is none
abbrev pub last_group : List (List Line) → List Line
last_group gs = slice_index_or gs (length gs - 1) []

-- the lines of the face that was begun last, and those of the patch that was begun last in it
abbrev pub open_face : List Line → List Line
open_face lines = last_group (face_groups lines)

-- ---- what the lines of a group give

-- the point that an `on` line gives, and the one that an `off` line gives
abbrev pub on_point : Line → Option Point
on_point (Line.On p) = Some p
on_point _ = None

abbrev pub off_point : Line → Option Point
off_point (Line.Off p _) = Some p
off_point _ = None

-- the number of points that the `patch` line gives, and its plane
abbrev pub count_of : List Line → ℕ
count_of (Line.Patch k _ _ ∷ _) = k
count_of _ = 0

abbrev pub plane_of : List Line → Naive
plane_of (Line.Patch _ a mu ∷ _) = record { a = a; mu = mu }
plane_of _ = record { a = []; mu = pos 0 }

-- ---- where the lines stand

-- what is given of a patch: how many points it has by its `patch` line, its plane, its points so far, and the points that it refused
pub record GivenPatch : Type 0 where
  pub declared : ℕ
  pub plane : Naive
  pub points : List Point
  pub refused : List Point

abbrev pub given_patch : List Line → GivenPatch
given_patch lines = record { declared = count_of lines; plane = plane_of lines; points = filter_map on_point lines; refused = filter_map off_point lines }

-- how many faces were begun; and of the last of them, the points that were given, and what is given of its last patch
-- A judge keeps as much, but what lines claim is not its notion: `holds_shows` says of every text that holds, in geometry alone (`FaceFacts`), that its facts
-- are those of all six faces of the picture, each cut into patches of planes that refuse what touches them.
pub record FaceStanding : Type 0 where
  pub begun : ℕ
  pub taken : List Point
  pub patch : GivenPatch

-- the same where so many faces were begun, the last with this group of lines
abbrev pub face_standing_with : ℕ → List Line → FaceStanding
face_standing_with n face = record { begun = n; taken = filter_map on_point face; patch = given_patch (last_group (patch_groups face)) }

abbrev pub face_standing : List Line → FaceStanding
face_standing lines = face_standing_with (length (face_groups lines)) (open_face lines)

-- the axis of the face that was begun last, and its exposed points
abbrev pub open_axis : FaceStanding → ℕ
open_axis s = face_axis (s.begun - 1)

abbrev pub open_exposed : Picture → FaceStanding → List Point
open_exposed X s = exposed_points X (open_axis s) (face_sense (s.begun - 1))

-- q is an exposed point that is not taken and Near a point of the patch
pub record IsTouching (exposed taken patch : List Point) (q : Point) : Type 0 where
  pub there : Contains exposed q
  pub left : Contains taken q → ⊥
  pub near : (p : Point) × Contains patch p × Near q p

-- the patch that was begun last has all its points, and refused each point that touches it
pub record PatchIsFull (exposed : List Point) (s : FaceStanding) : Type 0 where
  pub points : length s.patch.points ≡ s.patch.declared
  pub refused : (q : Point) → IsTouching exposed s.taken s.patch.points q → Contains s.patch.refused q

-- all exposed points of the face that was begun last are taken, and its last patch is full
pub record FaceIsFull (X : Picture) (s : FaceStanding) : Type 0 where
  pub all : length s.taken ≡ length (open_exposed X s)
  pub patch : PatchIsFull (open_exposed X s) s

-- no face is begun and not full
abbrev pub FacesAreFull : Picture → FaceStanding → Type 0
FacesAreFull X s = 0 < s.begun → FaceIsFull X s

-- ---- claims

-- p is the next touching point in raster order after those refused
pub record IsNextTouching (exposed taken patch refused : List Point) (p : Point) : Type 0 where
  pub touching : IsTouching exposed taken patch p
  pub new : Contains refused p → ⊥
  pub next : (q : Point) → IsTouching exposed taken patch q → Before q p → Contains refused q

-- p is the next point of a patch that has these points so far: the first point left, and later one that touches the patch
abbrev pub IsNextOn : (exposed taken patch : List Point) → Point → Type 0
IsNextOn exposed taken [] p = IsFirstLeft exposed taken p
IsNextOn exposed taken (q ∷ patch) p = IsTouching exposed taken (q ∷ patch) p

-- the claim of a `face` line: the next of the six faces has this axis and this sense, and so many exposed points
pub record IsFaceHead (X : Picture) (s : FaceStanding) (t : ℕ) (sense : Sense) (n : ℕ) : Type 0 where
  pub full : FacesAreFull X s
  pub more : s.begun < 6
  pub axis : t ≡ face_axis s.begun
  pub sense_is : sense ≡ face_sense s.begun
  pub points : n ≡ length (exposed_points X t sense)

-- the claim of a `patch` line: so many exposed points are left, at least one, and the plane is proper for the axis of the face
pub record IsPatchHead (X : Picture) (s : FaceStanding) (k : ℕ) (plane : Naive) : Type 0 where
  pub face : 0 < s.begun
  pub full : PatchIsFull (open_exposed X s) s
  pub some : 1 ≤ k
  pub left : k + length s.taken ≤ length (open_exposed X s)
  pub proper : IsProper (open_axis s) plane

-- the claim of an `on` line: it gives the next point of the patch, and the plane of the patch holds it
pub record IsOnLine (X : Picture) (s : FaceStanding) (p : Point) : Type 0 where
  pub more : length s.patch.points < s.patch.declared
  pub next : IsNextOn (open_exposed X s) s.taken s.patch.points p
  pub held : HoldsPoint (open_axis s) s.patch.plane p

-- the claim of an `off` line: once the patch has all its points, it gives the next point that touches the patch, and the weights refute the patch with that
-- point put last
pub record IsOffLine (X : Picture) (s : FaceStanding) (p : Point) (why : Refutation) : Type 0 where
  pub points : length s.patch.points ≡ s.patch.declared
  pub next : IsNextTouching (open_exposed X s) s.taken s.patch.points s.patch.refused p
  pub refuted : Refutes 3 (open_axis s) (s.patch.points ++ p ∷ []) why

-- the claim of a line of a face, where the lines before it stand so
abbrev pub SurfaceClaim : Picture → FaceStanding → Line → Type 0
SurfaceClaim X s (Line.Face t sense n) = IsFaceHead X s t sense n
SurfaceClaim X s (Line.Patch k a mu) = IsPatchHead X s k (record { a = a; mu = mu })
SurfaceClaim X s (Line.On p) = IsOnLine X s p
SurfaceClaim X s (Line.Off p why) = IsOffLine X s p why
SurfaceClaim X s _ = ⊥

-- the claim of a line of a face of the picture, after the lines of faces before it
abbrev pub FaceClaim : Picture → List Line → Line → Type 0
FaceClaim X lines l = SurfaceClaim X (face_standing lines) l

-- each of the six faces has its lines
abbrev pub FacesComplete : Picture → List Line → Type 0
FacesComplete X lines = FacesAreFull X (face_standing lines) × ((face_standing lines).begun ≡ 6)
