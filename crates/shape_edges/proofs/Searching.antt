-- Arcs that were grown: they are straight, shorter than the path, and go no further.
-- Stated of the path's corners; how they grow belongs elsewhere.
use Rattle.std.proofs.Common.{◌≡◌, ℕ, ◌+◌, ◌-◌, ◌≤◌, List, sym, subst, arith}
use native.Mathlib.Decide.{dec_lt}
use Rattle.shape_terms.specs.Points.{Point}
use Rattle.shape_terms.specs.Covers.{arc}
use Rattle.shape_terms.proofs.ArcRuns.{length-arc}
use Rattle.edge_terms.specs.Corners.{IsCornerPath}
use Rattle.edge_terms.specs.EdgeStraight.{IsEdgeStraight}
use Rattle.edge_terms.specs.EdgeCovers.{IsHeld, IsGap}
use Rattle.shape_terms.specs.RunWalks.{IsLongest}
use Rattle.shape_terms.proofs.RunArcs.{run_arcs}
use Rattle.edge_terms.proofs.EdgeCoverOf.{edge_straightness}
use Rattle.edge_terms.proofs.EdgeExcludes.{evidence_excludes}
use Rattle.edge_terms.proofs.ShortEdges.{short_edge}
use Rattle.judge_edges.specs.Lines.{standard_of}
use Rattle.judge_edges.specs.Gaps.{gap_of}
use Rattle.shape_edges.specs.declared.grow.Grown.{Grown}
use Rattle.judge_edges.specs.declared.arc.Arc.{Arc}
use Rattle.judge_edges.specs.Arcs.{stretch_of}
use Rattle.shape_edges.specs.Searches.{IsForward, IsBack, IsReach}
use Rattle.shape_edges.proofs.PathSteps.{taken_straight}

-- a part of a straight run is straight
pub part_arc : (path : List Point) (a b c d : ℕ) → IsEdgeStraight (arc path a b) → a ≤ c → c ≤ d → d ≤ b → IsEdgeStraight (arc path c d)
part_arc path a b c d s h k l = (run_arcs IsEdgeStraight edge_straightness path).part a b c d s h k l

pub reach_straight : (path : List Point) (a : Arc) → IsReach path a → IsEdgeStraight (arc path a.first a.last)
reach_straight path a h = record { some = (let r = h.rises in omega (arith, length-arc path a.first a.last)); line = (standard_of a.line, h.held.holds) }

pub reach_longest : (path : List Point) (a : Arc) → IsReach path a → IsLongest IsEdgeStraight path (stretch_of a)
reach_longest path a h = record { straight = reach_straight path a h; longest = h.longest }

module _ (path : List Point) (is : IsCornerPath path) where
  -- a run that was grown makes the reach
  pub reaches : (first : ℕ) (g : Grown) (a : Arc) → IsForward path first g → a.first ≡ first → a.last ≡ g.place
      → IsHeld (arc path first g.place) (standard_of a.line) → IsReach path a
  reaches first g a h e f held =
      let rises = h.rises in
      let short = short_edge path is.some first g.place (taken_straight path is first g.place g.edge h.taken) in
      record {
        rises = omega arith;
        short = omega arith;
        held = subst (λ (r : List Point). IsHeld r (standard_of a.line)) (λ i. arc path (sym e i) (sym f i)) held;
        longest = λ s. evidence_excludes (arc path first (g.place + 1)) (gap_of g.gap) h.gap.shows (subst IsEdgeStraight (λ i. arc path (e i) (f i + 1)) s);
      }

  -- what is grown on from the place before the next start ends with the arc, and shows that the gap is not straight
  pub gap_from : (a : Arc) (b : ℕ) (g : Grown) → IsReach path a → IsBack path a.first (a.last + 1) b → IsForward path (b - 1) g
      → IsGap (arc path (b - 1) (a.last + 1)) (gap_of g.gap)
  gap_from a b g r k h = subst (λ e. IsGap (arc path (b - 1) (e + 1)) (gap_of g.gap)) ends h.gap
    where
      ends : g.place ≡ a.last
      ends =
          let later = k.later in
          let near = k.near in
          let rises = h.rises in
          let low : a.last ≤ g.place = elim (dec_lt g.place a.last) [
            | yes l ↦ absurd (evidence_excludes (arc path (b - 1) (g.place + 1)) (gap_of g.gap) h.gap.shows
                (part_arc path a.first a.last (b - 1) (g.place + 1) (reach_straight path a r) (omega arith) (omega arith) (omega arith)))
            | no l ↦ omega arith
          ] in
          let high : g.place ≤ a.last = elim (dec_lt a.last g.place) [
            | yes l ↦ absurd (k.bent
                (part_arc path (b - 1) g.place (b - 1) (a.last + 1) (taken_straight path is (b - 1) g.place g.edge h.taken) (omega arith) (omega arith)
                (omega arith)))
            | no l ↦ omega arith
          ] in
          omega arith
