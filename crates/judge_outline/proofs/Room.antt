-- The points of contours are few, so contours have few lines.
-- How few points they have stands in `ContourRoom` of the terms; how lines are counted down stands in `CoverStandings`.
use Rattle.std.proofs.Common.{ℕ, ◌<◌, ◌≤◌, ◌^◌, List, [], ◌∷◌, length, arith}
use Rattle.std.specs.Prelude.{None, slice_index_or}
use Rattle.std.proofs.lemmas.List.Sums.{sum_by-cons}
use Rattle.shape_terms.specs.Limits.{most_pixels}
use Rattle.shape_terms.specs.Points.{box_count}
use Rattle.shape_terms.specs.Pictures.{Picture}
use Rattle.shape_terms.specs.Traces.{Contour, AreContours, points_in}
use Rattle.shape_terms.proofs.ContourRoom.{few_in_all}
use Rattle.report_terms.specs.ContourLines.{no_contour}
use Rattle.judge_outline.specs.CoverState.{room_of}

first_few : (contours : List Contour) → length (slice_index_or contours 0 no_contour).points ≤ points_in contours
first_few [] = omega arith
first_few (k ∷ contours) = omega (arith, sum_by-cons (λ (k : Contour). length k.points) k contours)

-- the lines of all contours
pub few_lines : (number : ℕ) (X : Picture) (contours : List Contour) → AreContours X contours → box_count X.sides ≤ most_pixels
    → room_of (record {
      number = number;
      contours = contours;
      standing = record { begun = 0; points = 0; declared = 0; stretches = []; last = None; gaps = 0 };
    }) < 2 ^ 60
few_lines number X contours are few =
    let all = few_in_all X contours are in
    let f = first_few contours in
    omega (arith, all.0, all.1, f, few)
