-- What a judge of the lines of faces is seen as, and which lines it stands for.
-- It holds no line: it stands for each list of lines that stands where it does.
use Rattle.std.specs.Prelude.{◌≡◌, ℕ, ◌+◌, ◌-◌, ◌*◌, ◌<◌, ◌≤◌, ◌==◌, if◌then◌else◌, List, [], ◌∷◌, ◌++◌, length, drop, pos, Contains}
use Rattle.shape_terms.specs.Points.{Point, box_count}
use Rattle.shape_terms.specs.Pictures.{Picture, object_points}
use Rattle.shape_terms.specs.Naive.{Naive as Plane}
use Rattle.shape_refute.specs.declared.naive.Naive.{Naive}
use Rattle.shape_refute.specs.Terms.{naive_of}
use Rattle.report_terms.specs.Lines.{Line}
use Rattle.report_terms.specs.FaceFacts.{face_axis}
use Rattle.report_terms.specs.FaceLines.{FaceStanding, given_patch, face_standing, open_exposed}
use Rattle.judge_outline.specs.Listings.{Listing}
use Rattle.judge_outline.specs.Exposure.{exposed_at, AreLeft, AreMarked, AreTakenBelow, AreTouching, first_points}

-- the picture, and where the lines stand
pub record PlaneState : Type 0 where
  pub picture : Picture
  pub standing : FaceStanding

-- the judge's own numbers: how many faces were begun; how many exposed points the last of them has, how many were taken before its last patch,
-- and how many that patch is to have; the raster number up to which all are taken; and how many touching points the patch refused
pub record Counts : Type 0 where
  pub begun : ℕ
  pub exposed : ℕ
  pub start : ℕ
  pub declared : ℕ
  pub cursor : ℕ
  pub refused : ℕ

-- the plane of a patch that is to have so many points, and none where no patch was begun
abbrev pub given_plane : ℕ → Naive → Plane
given_plane declared plane = if declared == 0 then record { a = []; mu = pos 0 } else naive_of 3 plane

-- what the judge is seen as, from its numbers, the plane of the patch, the points taken and the numbers of the touching points
abbrev pub state_of : Picture → Counts → Naive → (taken : List Point) → (numbers : List ℕ) → PlaneState
state_of X c plane taken numbers = record {
  picture = X;
  standing = record {
    begun = c.begun;
    taken = taken;
    patch = record {
      declared = c.declared;
      plane = given_plane c.declared plane;
      points = drop c.start taken;
      refused =
          first_points X.sides c.refused numbers;
    };
  };
}

-- where the lines stand after one more `face` line, `patch` line, `on` line and `off` line
abbrev pub with_face : FaceStanding → FaceStanding
with_face s = record { begun = s.begun + 1; taken = []; patch = given_patch [] }

abbrev pub with_patch : FaceStanding → (k : ℕ) → Plane → FaceStanding
with_patch s k plane = record s { patch = record { declared = k; plane = plane; points = []; refused = [] } }

abbrev pub with_on : FaceStanding → Point → FaceStanding
with_on s p = record { begun = s.begun; taken = s.taken ++ p ∷ []; patch = record s.patch { points = s.patch.points ++ p ∷ [] } }

abbrev pub with_off : FaceStanding → Point → FaceStanding
with_off s p = record s { patch = record s.patch { refused = s.patch.refused ++ p ∷ [] } }

-- a bound of the number of lines of a face that may still be taken, among n points, where so many of its points are not taken
abbrev pub face_room : (n left : ℕ) → FaceStanding → ℕ
face_room n left s = left * (n + 2) + (if length s.patch.points == s.patch.declared then 1 + (n - length s.patch.refused) else 0)

-- and of those of all faces: no point is given twice, and each patch refuses no more points than there are
abbrev pub room_of : PlaneState → ℕ
room_of s = (6 - s.standing.begun) * ((box_count s.picture.sides + 1) * (box_count s.picture.sides + 2))
    + face_room (box_count s.picture.sides) (length (open_exposed s.picture s.standing) - length s.standing.taken) s.standing

-- the judge stands for these lines of faces of the volume X
pub record StandsFor (X : Picture) (s : PlaneState) (lines : List Line) : Type 0 where
  pub solid : length X.sides ≡ 3
  pub picture : s.picture ≡ X
  pub stands : face_standing lines ≡ s.standing

-- the numbers of the judge agree with the points taken, and while a patch is to have more points it refused none
pub record AreInStep (X : Picture) (c : Counts) (taken : List Point) (numbers : List ℕ) : Type 0 where
  pub faces : c.begun ≤ 6
  pub none : c.begun ≡ 0 → c.exposed ≡ 0
  pub exposed : 0 < c.begun → c.exposed ≡ length (exposed_at X (c.begun - 1))
  pub within : (p : Point) → Contains taken p → Contains (exposed_at X (c.begun - 1)) p
  pub below : AreTakenBelow X (c.begun - 1) taken c.cursor
  pub start : c.start ≤ length taken
  pub given : length taken ≤ c.start + c.declared
  pub declared : c.start + c.declared ≤ c.exposed
  pub early : length taken < c.start + c.declared → c.refused ≡ 0
  pub touching : length taken ≡ c.start + c.declared → AreTouching X.sides (exposed_at X (c.begun - 1)) taken (drop c.start taken) numbers
  pub refused : c.refused ≤ length numbers
  pub few : length numbers ≤ box_count X.sides

-- what the judge keeps: its points are of the picture's box, its plane is of the axis of the face, the picture `left` has the points of the face that are not
-- taken, `recent` those that were taken of the last patch, `marks` none, there is room for as many points as are object and one more, and for as many numbers,
-- and its numbers agree with those taken
pub record IsKept (X : Picture) (c : Counts) (plane : Naive) (near : List ℕ) (left recent : Picture) (taken : Listing) (marks : Picture) (numbers : List ℕ)
    (room : ℕ) : Type 0 where
  pub solid : length X.sides ≡ 3
  pub near_box : near ≡ X.sides
  pub left_box : left.sides ≡ X.sides
  pub are_left : 0 < c.begun → AreLeft (exposed_at X (c.begun - 1)) taken.points left
  pub recent_box : recent.sides ≡ X.sides
  pub are_recent : AreMarked (drop c.start taken.points) recent
  pub taken_box : taken.sides ≡ X.sides
  pub marks_box : marks.sides ≡ X.sides
  pub unmarked : AreMarked [] marks
  pub taken_fits : length (object_points X) < taken.room
  pub fits : length (object_points X) ≤ room
  pub axis : 0 < c.begun → plane.axis ≡ face_axis (c.begun - 1)
  pub step : AreInStep X c taken.points numbers
