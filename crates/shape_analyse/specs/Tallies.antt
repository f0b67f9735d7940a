-- The numbers of a picture and of its thinning by a rule, each by its definition.
-- No line or spelling of a report stands here.
use Rattle.std.specs.Prelude.{◌≡◌, ℕ, List, length, sum_by}
use Rattle.std.specs.List.{AllZip, range_with_len}
use Rattle.shape_terms.specs.Pictures.{Picture, object_points}
use Rattle.shape_terms.specs.Parts.{Counts}
use Rattle.shape_terms.specs.Traces.{Contour, AreContours}
use Rattle.shape_terms.specs.Covers.{Stretch, IsCover}
use Rattle.shape_terms.specs.Patches.{exposed_points}
use Rattle.shape_terms.specs.Thinning.{Rule, Event, Stage, IsThinning}
use Rattle.report_terms.specs.FaceFacts.{face_axis, face_sense}
use Rattle.shape_analyse.specs.declared.tally.Extent.{Extent}
use Rattle.shape_analyse.specs.declared.tally.Extent.TheVariants as extent
use Rattle.shape_analyse.specs.declared.tally.Tally.{Tally}

-- the contour has so many maximal segments
abbrev pub HasSegments : Contour → ℕ → Type 0
HasSegments c n = (cover : List Stretch) × IsCover c.points cover × (n ≡ length cover)

-- these are the covers of the contours, and they have so many segments in all
pub record HaveCovers (contours : List Contour) (segments : ℕ) : Type 0 where
  pub covers : List (List Stretch)
  pub each : AllZip (λ (c : Contour) cover. IsCover c.points cover) contours covers
  pub segments_are : segments ≡ sum_by length covers

-- the picture has so many contours, with so many maximal segments in all
pub record HasContours (X : Picture) (n segments : ℕ) : Type 0 where
  pub contours : List Contour
  pub are : AreContours X contours
  pub n_is : n ≡ length contours
  pub covers : HaveCovers contours segments

-- how many points are exposed in the face with a number
abbrev pub exposed_in : Picture → ℕ → ℕ
exposed_in X f = length (exposed_points X (face_axis f) (face_sense f))

-- the exposed points of the first k faces; there are six
abbrev pub exposed_count : Picture → ℕ → ℕ
exposed_count X k = sum_by (exposed_in X) (range_with_len 0 k)

-- the extent of the outline of a flat picture, or of a volume
abbrev pub IsExtentOf : Picture → Extent → Type 0
IsExtentOf X (extent.Contours n segments) = (length X.sides ≡ 2) × HasContours X n segments
IsExtentOf X (extent.Faces exposed) = (length X.sides ≡ 3) × (exposed ≡ exposed_count X 6)

-- the thinning of the picture by the rule has so many events, and leaves so many points
pub record HasThinning (rule : Rule) (X : Picture) (n kept : ℕ) : Type 0 where
  pub events : List Event
  pub stage : Stage
  pub thinning : IsThinning rule X events stage
  pub n_is : n ≡ length events
  pub kept_are : kept ≡ length (object_points stage.left)

-- the numbers are those of the picture and of its thinning by the rule
pub record IsTallyOf (X : Picture) (rule : Rule) (t : Tally) : Type 0 where
  pub counts : Counts X t.points t.parts.object t.parts.background
  pub extent : IsExtentOf X t.extent
  pub thinning : HasThinning rule X t.events t.kept
