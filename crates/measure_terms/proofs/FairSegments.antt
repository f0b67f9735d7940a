-- The runs of segments that are shown to have least lines are within the limits, so none is left out of a length.
-- How long a run is, and how great its coefficients are, is told in `ShortRuns`.
use Rattle.std.proofs.Common.{◌≡◌, ℕ, zero, suc, ◌+◌, ◌*◌, ◌<◌, ◌≤◌, refl, sym, ap, ◌∙◌, subst, arith, List, [], ◌∷◌, length, get_or, map}
use Rattle.std.specs.Prelude.{ℤ, pos, nat_abs, ◌≤ℤ◌, ◌<ℤ◌, Option, Some, None, All, filter_map, IsTrue}
use Rattle.std.specs.List.{cons_option}
use Rattle.std.specs.Cmp.Derive.{both_true}
use Rattle.std.proofs.lemmas.Int.{ints}
use Rattle.std.proofs.lemmas.Bool.{le-leb, cond-true}
use Rattle.std.proofs.lemmas.List.{length-map}
use Rattle.shape_terms.specs.Limits.{most_flat, line_gap}
use Rattle.shape_terms.specs.Points.{Point, coordinate, in_box, sides_of}
use Rattle.shape_terms.specs.Pictures.{Picture}
use Rattle.shape_terms.specs.Turns.{other_axis}
use Rattle.shape_terms.specs.Refutations.{point_at}
use Rattle.shape_terms.specs.Covers.{arc}
use Rattle.shape_terms.specs.Least.{Pairs}
use Rattle.shape_terms.proofs.ArcRuns.{length-arc}
use Rattle.shape_terms.proofs.Boxes.{in_box_coordinate}
use Rattle.report_terms.specs.ContourFacts.{Segment, SegmentShows, SegmentHasEvidence, ContourFact, ContourShows}
use Rattle.report_terms.proofs.Zips.{zip_at}
use Rattle.report_terms.proofs.ContourPoints.{IsInside, arc_at}
use Rattle.report_terms.proofs.LeastShown.{segment_begins, arc_flat}
use Rattle.measure_terms.specs.Runs.{Run, most_coefficient, is_fair, fair}
use Rattle.measure_terms.specs.Shown.{IsFlat, run_shown}
use Rattle.measure_terms.proofs.ShortRuns.{IsWithinSide, few_points, small_coefficients}

-- the run of a segment, where it is within the limits
abbrev pub run_of_segment : Segment → Option Run
run_of_segment s = fair (run_shown s)

-- ---- coordinates

naturals_kept : (ns : List ℕ) → sides_of (map pos ns) ≡ ns
naturals_kept [] = refl
naturals_kept (n ∷ ns) = ap (λ ms. n ∷ ms) (naturals_kept ns)

-- the coordinates of a point of the box
in_side : (X : Picture) (p : Point) (k : ℕ) → IsFlat X → k < 2 → IsInside X p → (pos 0 ≤ℤ coordinate p k) × (coordinate p k <ℤ pos most_flat)
in_side X p k flat l inside =
    let n = map pos X.sides in
    let two : length n ≡ 2 = length-map X.sides pos ∙ flat.axes in
    let a = in_box_coordinate n p (pos most_flat) flat.box (subst (λ ss. IsTrue (in_box ss p)) (sym (naturals_kept X.sides)) inside) k (omega arith) in
    let b = flat.box k (omega arith) in
    (a.0, within (coordinate p k) (coordinate n k) a.1 b.1)
  where
    within : (x n : ℤ) → x <ℤ n → n ≤ℤ pos most_flat → x <ℤ pos most_flat
    within x n h k = omega (arith, ints, h, k)

-- ---- one segment

small_both : (t : ℕ) (a : List ℤ) → t < 2 → nat_abs (coordinate a t) ≤ 2 * line_gap → nat_abs (coordinate a (other_axis t)) ≤ 2 * line_gap
    → (nat_abs (coordinate a 0) ≤ 2 * line_gap) × (nat_abs (coordinate a 1) ≤ 2 * line_gap)
small_both zero a l h k = (h, k)
small_both (suc zero) a l h k = (k, h)
small_both (suc (suc t)) a l h k = absurd (omega arith)

module _ (X : Picture) (points : List Point) (s : Segment) (flat : IsFlat X) (inside : All (IsInside X) points) (begins : s.stretch.first < length points)
    (line : SegmentShows points s) where
  abbrev own : List Point
  own = arc points s.stretch.first s.stretch.last

  within : (k : ℕ) → k < 2 → IsWithinSide most_flat k own
  within k l = λ i m. in_side X (point_at own i) k flat l (arc_at (IsInside X) points s.stretch.first s.stretch.last i inside begins m)

  short : s.stretch.last ≤ s.stretch.first + most_flat
  short =
      let few = few_points s.axis most_flat own line.sense (within (other_axis s.axis) (omega arith)) in
      let n = length-arc points s.stretch.first s.stretch.last in
      omega arith

  fair_segment : (pairs : Pairs) → SegmentHasEvidence points s pairs → IsTrue (is_fair (run_shown s))
  fair_segment pairs shown =
      let small = small_coefficients s.axis own line.axis (arc_flat X flat.axes points s.stretch.first s.stretch.last inside begins) most_flat s.line pairs
      (within (other_axis s.axis) (omega arith)) (omega arith) line.line shown in
      let both = small_both s.axis s.line.a line.axis small.0 small.1 in
      both_true (both_true (le-leb s.stretch.last (s.stretch.first + most_flat) short)
      (le-leb (nat_abs (coordinate s.line.a 0)) most_coefficient (omega (arith, both))))
      (le-leb (nat_abs (coordinate s.line.a 1)) most_coefficient (omega (arith, both)))

-- ---- all segments

all_fair : (segments : List Segment) → ((k : ℕ) (d : Segment) → k < length segments → IsTrue (is_fair (run_shown (get_or segments k d))))
    → filter_map run_of_segment segments ≡ map run_shown segments
all_fair [] h = refl
all_fair (s ∷ segments) h =
    let e : run_of_segment s ≡ Some (run_shown s) = cond-true (is_fair (run_shown s)) (Some (run_shown s)) None (h 0 s (omega arith)) in
    let more = all_fair segments (λ k d l. h (suc k) d (omega arith)) in
    λ i. cons_option (e i) (more i)

-- of a contour that is shown by least lines no run is left out
pub runs_fair : (X : Picture) (f : ContourFact) → IsFlat X → ContourShows 2 f → All (IsInside X) f.outline.points
    → filter_map run_of_segment f.segments ≡ map run_shown f.segments
runs_fair X f flat shows inside = all_fair f.segments (λ k d l.
    let pairs = zip_at (SegmentHasEvidence f.outline.points) f.segments f.evidence k d (shows.evidence refl) l in
    fair_segment X f.outline.points (get_or f.segments k d) flat inside (segment_begins 2 f shows k d l) (shows.lines k d l) pairs.0 pairs.1)
