-- The segments of the contours of a report, as strokes from the one end to the other.
-- A stroke with an end outside the box of the heading is not drawn; which segments are right does not matter here.
use Rattle.std.specs.Prelude.{ℕ, ◌%◌, Bool, true, not, ◌&&◌, if◌then◌else◌, List, [], ◌∷◌, ◌++◌, length, filter, filter_map, flat_map, slice_get, Option}
use Rattle.std.specs.Option.{option_map, option_and_then, option_to_list}
use Rattle.shape_terms.specs.Points.{Point, in_box}
use Rattle.shape_terms.specs.Covers.{Stretch}
use Rattle.report_terms.specs.Lines.{Line}
use Rattle.report_terms.specs.ContourFacts.{stretches_of}
use Rattle.report_terms.specs.ContourLines.{contour_groups, point_of, segment_of}

-- a stroke from point to point. Of the strokes along a contour every second one is even, the first of them
pub record Stroke : Type 0 where
  pub from : Point
  pub to : Point
  pub even : Bool

-- the point at a place of a contour, whose points come round again behind the last; none where it has none
abbrev pub point_at : List Point → ℕ → Option Point
point_at points i = slice_get points (i % length points)

-- the stroke from the first to the last place of a stretch
abbrev pub stroke_of : List Point → Bool → Stretch → Option Stroke
stroke_of points even s = option_and_then (λ a. option_map (λ b. record { from = a; to = b; even = even }) (point_at points s.last)) (point_at points s.first)

-- the strokes of the stretches of a contour in turn
abbrev pub strokes_along : List Point → Bool → List Stretch → List Stroke
strokes_along points even [] = []
strokes_along points even (s ∷ ss) = option_to_list (stroke_of points even s) ++ strokes_along points (not even) ss

-- the strokes of a contour with these lines
abbrev pub contour_strokes : List Line → List Stroke
contour_strokes group = strokes_along (filter_map point_of group) true (stretches_of (filter_map segment_of group))

-- both ends of the stroke are in the box
abbrev pub is_inside : List ℕ → Stroke → Bool
is_inside sides s = in_box sides s.from && in_box sides s.to

-- the strokes of all contours
abbrev pub strokes : List ℕ → List Line → List Stroke
strokes sides lines = filter (is_inside sides) (flat_map contour_strokes (contour_groups lines))

-- ---- while the lines come

-- the strokes so far, whether a contour was begun, and the points and stretches of the one that was begun last
pub record Kept : Type 0 where
  pub strokes : List Stroke
  pub begun : Bool
  pub points : List Point
  pub stretches : List Stretch

-- the same where the strokes of the last contour stand with the others, and nothing else is kept of it
abbrev pub closed : List ℕ → Kept → Kept
closed sides k = record {
  strokes = k.strokes ++ filter (is_inside sides) (strokes_along k.points true k.stretches);
  begun = k.begun;
  points = [];
  stretches =
      [];
}

-- the same with one more point of the last contour, where one was begun
abbrev pub with_point : Kept → Point → Kept
with_point k p = if k.begun then record k { points = k.points ++ p ∷ [] } else k

-- the same with one more stretch of the last contour, where one was begun
abbrev pub with_stretch : Kept → Stretch → Kept
with_stretch k s = if k.begun then record k { stretches = k.stretches ++ s ∷ [] } else k
