-- A walk that came round a corner path is its cover.
-- What follows for any notion of straight runs stands in `WalkEnds`.
use Rattle.std.proofs.Common.{ℕ, ◌<◌, ◌≤◌, List, length, take, subst, arith}
use Rattle.std.proofs.lemmas.List.{get_or-map}
use Rattle.shape_terms.specs.Points.{Point}
use Rattle.shape_terms.specs.Covers.{Stretch}
use Rattle.shape_terms.proofs.ArcRuns.{length-arc}
use Rattle.shape_terms.specs.RunWalks.{IsWalk}
use Rattle.shape_terms.proofs.RunArcs.{IsWalkKind}
use Rattle.shape_terms.proofs.PlacedRuns.{IsPlaced, placed, few}
use Rattle.shape_terms.proofs.WalkSteps.{length-stretches}
use Rattle.shape_terms.proofs.WalkEnds.{some_found, runs_with_gaps, gap_bent, walk_finds_all}
use Rattle.edge_terms.specs.EdgeStraight.{IsEdgeStraight}
use Rattle.edge_terms.specs.EdgeCovers.{Arc, stretches_of, arc_in, IsArc, IsEdgeCover}
use Rattle.edge_terms.specs.EdgeWalks.{edge_walk}
use Rattle.edge_terms.proofs.EdgeCoverOf.{edge_straightness}
use Rattle.edge_terms.proofs.EdgeExcludes.{evidence_excludes}
use Rattle.edge_terms.proofs.ShortEdges.{short_edge}

pub edge_walks : IsWalkKind edge_walk
edge_walks = record { straightness = edge_straightness; short = short_edge; bent = λ a run h. evidence_excludes run a.gap h.shows }

module _ (path : List Point) (found : List Arc) (now : Stretch) (round : ℕ) (w : IsWalk edge_walk path found now round) (over : round ≤ now.first)
    (some : 1 ≤ length path) where
  one_arc : (k : ℕ) → k < length found → IsArc path (length found) (take k (stretches_of found)) (arc_in found k).stretch.first (arc_in found k).stretch.last
      (arc_in found k).line
  one_arc k l =
      let n = length-stretches edge_walk found in
      let gaps = runs_with_gaps edge_walk edge_walks path found now round w over some in
      let p = subst (IsPlaced path (length (stretches_of found)) (take k (stretches_of found))) (get_or-map (λ (a : Arc). a.stretch) found k _ _ l)
      (placed IsEdgeStraight edge_straightness path (stretches_of found) gaps k (omega (arith, n))) in
      let s = (arc_in found k).stretch in
      let h = w.held k _ l in
      let rises = p.rises in
      record {
        begins = p.begins;
        rises = rises;
        short = short_edge path some s.first s.last (record { some = omega (arith, length-arc path s.first s.last); line = ((arc_in found k).line, h.holds) });
        after = p.after;
        closes = λ e. p.closes (omega arith);
        held = h.holds;
      }

  pub walk_is_cover : IsEdgeCover path found
  walk_is_cover =
      let n = length-stretches edge_walk found in
      let gaps = runs_with_gaps edge_walk edge_walks path found now round w over some in
      let gap = gap_bent edge_walk edge_walks path found now round w over some in
      record {
        claims = record {
          some = some_found edge_walk edge_walks path found now round w over some;
          few = (let f = few IsEdgeStraight edge_straightness path (stretches_of found) gaps in omega arith);
          arc = one_arc;
          gap = λ k l. (gap k _ l).shows;
        };
        cover = walk_finds_all edge_walk edge_walks path found now round w over some;
        lines = λ k l. (w.held k _ l).short;
        gaps = λ k l. (gap k _ l).short;
      }
