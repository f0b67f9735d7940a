-- The lines of the segments of a flat picture's contours, where they are shown to be least: none of either axis has a lesser main coefficient.
-- How least lines of one run stand to each other is told in `LeastOfAxes`.
use Rattle.std.proofs.Common.{◌≡◌, ℕ, zero, suc, ◌<◌, List, [], ◌∷◌, length, get_or, map, refl, ◌∙◌, arith}
use Rattle.std.specs.Prelude.{All, Contains}
use Rattle.std.proofs.lemmas.List.Elements.{All-nil, All-cons, All-head, All-tail}
use Rattle.shape_terms.specs.Points.{Point}
use Rattle.shape_terms.specs.Pictures.{Picture}
use Rattle.shape_terms.specs.Refutations.{point_at}
use Rattle.shape_terms.specs.Traces.{Contour}
use Rattle.shape_terms.specs.Covers.{arc}
use Rattle.shape_terms.proofs.Boxes.{in_box_length}
use Rattle.shape_terms.proofs.SameCycles.{head_in, later_in}
use Rattle.report_terms.specs.ContourFacts.{Segment, stretches_of, ContourFact, SegmentIsLeastOfBoth, ContourShows, ContoursShow}
use Rattle.report_terms.proofs.ContourPoints.{IsInside, contours_inside, arc_at}
use Rattle.report_terms.proofs.LeastOfAxes.{least_of_all}

unmapped : (P : Contour → Type 0) (facts : List ContourFact) → All P (map (λ (f : ContourFact). f.outline) facts) → All (λ (f : ContourFact). P f.outline) facts
unmapped P [] h = All-nil (λ (f : ContourFact). P f.outline)
unmapped P (f ∷ facts) h = All-cons (λ (f : ContourFact). P f.outline) f facts (All-head P f.outline (map (λ (f : ContourFact). f.outline) facts) h)
    (unmapped P facts (All-tail P f.outline (map (λ (f : ContourFact). f.outline) facts) h))

-- the points of the contours lie in the box
pub facts_inside : (number : ℕ) (X : Picture) (facts : List ContourFact) → ContoursShow number X facts
    → All (λ (f : ContourFact). All (IsInside X) f.outline.points) facts
facts_inside number X facts c = unmapped (λ (k : Contour). All (IsInside X) k.points) facts
    (contours_inside X (map (λ (f : ContourFact). f.outline) facts) c.outlines)

in_stretches : (segments : List Segment) (k : ℕ) (d : Segment) → k < length segments → Contains (stretches_of segments) (get_or segments k d).stretch
in_stretches [] k d l = absurd (omega arith)
in_stretches (s ∷ segments) zero d l = head_in s.stretch (stretches_of segments)
in_stretches (s ∷ segments) (suc k) d l = later_in s.stretch (stretches_of segments) (get_or segments k d).stretch (in_stretches segments k d (omega arith))

-- a segment begins among the places of its contour
pub segment_begins : (number : ℕ) (f : ContourFact) → ContourShows number f → (k : ℕ) (d : Segment) → k < length f.segments
    → (get_or f.segments k d).stretch.first < length f.outline.points
segment_begins number f c k d l = ((c.cover.exact (get_or f.segments k d).stretch).0 (in_stretches f.segments k d l)).0

-- and its points have two coordinates in a flat picture
pub arc_flat : (X : Picture) → length X.sides ≡ 2 → (points : List Point) (b e : ℕ) → All (IsInside X) points → b < length points → (i : ℕ)
    → i < length (arc points b e) → length (point_at (arc points b e) i) ≡ 2
arc_flat X two points b e inside some i l = in_box_length X.sides (point_at (arc points b e) i) (arc_at (IsInside X) points b e i inside some l) ∙ two

pub least_of_both : (X : Picture) (facts : List ContourFact) → length X.sides ≡ 2 → ContoursShow 2 X facts
    → All (λ (f : ContourFact). All (SegmentIsLeastOfBoth f.outline.points) f.segments) facts
least_of_both X facts two c = λ k d l. each (get_or facts k d) (facts_inside 2 X facts c k d l) (c.each k d l)
  where
    each : (f : ContourFact) → All (IsInside X) f.outline.points → ContourShows 2 f → All (SegmentIsLeastOfBoth f.outline.points) f.segments
    each f inside shows = λ j e m.
        let s = get_or f.segments j e in
        let line = shows.lines j e m in
        λ u n below held. least_of_all (arc f.outline.points s.stretch.first s.stretch.last)
        (arc_flat X two f.outline.points s.stretch.first s.stretch.last inside (segment_begins 2 f shows j e m))
        s.axis u line.axis below line.sense s.line n (shows.least refl j e m) held
