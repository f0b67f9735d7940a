-- A walk that came round the contour is its cover.
-- What follows for any notion of straight runs stands in `WalkEnds`.
use Rattle.std.proofs.Common.{ℕ, ◌<◌, ◌≤◌, List, length, take, subst, arith}
use Rattle.std.proofs.lemmas.List.{get_or-map}
use Rattle.shape_terms.specs.Points.{Point}
use Rattle.shape_terms.specs.Straight.{IsStraight}
use Rattle.shape_terms.specs.Covers.{Stretch, IsSegment, arc}
use Rattle.shape_terms.specs.GapCover.{AreGapped}
use Rattle.shape_terms.specs.RunCovers.{AreRunsWithGaps}
use Rattle.shape_terms.specs.RunWalks.{IsWalk}
use Rattle.shape_terms.proofs.RunArcs.{IsWalkKind}
use Rattle.shape_terms.proofs.PlacedRuns.{IsPlaced, placed, few}
use Rattle.shape_terms.proofs.WalkSteps.{length-stretches}
use Rattle.shape_terms.proofs.WalkEnds.{some_found, runs_with_gaps, gap_bent}
use Rattle.shape_terms.proofs.ContourCovers.{covers, straightness}
use Rattle.shape_line.specs.Found.{Found, stretches_of, found_at, IsCoverOf}
use Rattle.shape_line.specs.Walking.{contour_walk}
use Rattle.shape_line.proofs.ShortArcs.{short_arc}
use Rattle.shape_line.proofs.Senses.{keeps_sense}
use Rattle.shape_line.proofs.Verdicts.{arc_straight, bent_shows}

pub contour_walks : IsWalkKind contour_walk
contour_walks = record { straightness = straightness; short = short_arc; bent = λ f run h. bent_shows run f.x f.y h }

module _ (points : List Point) (found : List Found) (now : Stretch) (round : ℕ) (w : IsWalk contour_walk points found now round) (over : round ≤ now.first)
    (some : 1 ≤ length points) where
  gaps : AreRunsWithGaps IsStraight points (stretches_of found)
  gaps = runs_with_gaps contour_walk contour_walks points found now round w over some

  are_gapped : AreGapped points (stretches_of found)
  are_gapped =
      let n = length-stretches contour_walk found in
      let bent = gap_bent contour_walk contour_walks points found now round w over some in
      record {
        some = gaps.some;
        begins = gaps.begins;
        first_rises = gaps.first_rises;
        last_rises = gaps.last_rises;
        closes = gaps.closes;
        straight = gaps.straight;
        evidence_x = λ k h. ((found_at found k).x, (bent k _ (omega arith)).x.shows);
        evidence_y = λ k h. ((found_at found k).y, (bent k _ (omega arith)).y.shows);
      }

  segment : (k : ℕ) → k < length found
      → IsSegment points (length found) (take k (stretches_of found)) (found_at found k).stretch.first (found_at found k).stretch.last (found_at found k).axis
      (found_at found k).line
  segment k l =
      let n = length-stretches contour_walk found in
      let f = found_at found k in
      let p = subst (IsPlaced points (length (stretches_of found)) (take k (stretches_of found))) (get_or-map (λ (f : Found). f.stretch) found k _ _ l)
      (placed IsStraight straightness points (stretches_of found) gaps k (omega arith)) in
      let h = (w.held k _ l).held in
      record {
        begins = p.begins;
        rises = p.rises;
        short = short_arc points some f.stretch.first f.stretch.last (arc_straight points f.stretch.first f.stretch.last f.axis f.line p.rises h);
        after = p.after;
        closes = λ e. p.closes (omega arith);
        naive = h.naive;
        sense = keeps_sense f.axis (arc points f.stretch.first f.stretch.last) h.no_turn;
      }

  pub walk_is_cover : IsCoverOf points found
  walk_is_cover =
      let n = length-stretches contour_walk found in
      let bent = gap_bent contour_walk contour_walks points found now round w over some in
      record {
        some = some_found contour_walk contour_walks points found now round w over some;
        few = (let f = few IsStraight straightness points (stretches_of found) gaps in omega arith);
        cover = covers points (stretches_of found) are_gapped;
        gapped = are_gapped;
        segment = segment;
        axis = λ k l. (w.held k _ l).held.axis;
        line = λ k l. (w.held k _ l).held.short;
        least = λ k l. (w.held k _ l).held.least;
        grown = λ k l. (w.held k _ l).grown;
        gap_x = λ k l. (bent k _ l).x.shows;
        gap_y = λ k l. (bent k _ l).y.shows;
        short_x = λ k l. (bent k _ l).x.short;
        short_y = λ k l. (bent k _ l).y.short;
      }
