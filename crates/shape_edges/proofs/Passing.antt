-- The walk goes on by one arc, and comes round: of the program's entries.
-- Stated of the values alone; the terms' side stands in `WalkSteps` and `EdgeWalks`.
use Rattle.std.proofs.Common.{ℕ, ◌<◌, ◌≤◌, List, [], ◌∷◌, ◌++◌, length, map, arith, ap, sym, subst}
use Rattle.std.proofs.lemmas.List.{length-map}
use Rattle.shape_terms.specs.Points.{Point}
use Rattle.shape_terms.specs.Covers.{arc}
use Rattle.edge_terms.specs.Corners.{IsCornerPath}
use Rattle.edge_terms.specs.EdgeCovers.{IsHeld, IsEdgeCover}
use Rattle.shape_terms.specs.RunWalks.{IsWalk}
use Rattle.shape_terms.proofs.WalkSteps.{walk_goes_on}
use Rattle.edge_terms.specs.EdgeWalks.{edge_walk}
use Rattle.edge_terms.proofs.EdgeWalks.{walk_is_cover}
use Rattle.judge_edges.specs.Lines.{standard_of}
use Rattle.judge_edges.specs.declared.arc.Arc.{Arc}
use Rattle.shape_edges.specs.declared.entry.Entry.{Entry}
use Rattle.shape_edges.specs.declared.walk.Passed.{Passed}
use Rattle.judge_edges.specs.Arcs.{stretch_of}
use Rattle.shape_edges.specs.Entries.{found_of}
use Rattle.shape_edges.specs.Searches.{IsReach, IsPassed}
use Rattle.shape_edges.proofs.Searching.{reach_longest}

-- the walk over the entries to an arc, which is to end at the place `round`
pub record IsGoing (path : List Point) (entries : List Entry) (g : Arc) (round : ℕ) : Type 0 where
  pub walk : IsWalk edge_walk path (map found_of entries) (stretch_of g) round
  pub reach : IsReach path g

module _ (path : List Point) (entries : List Entry) (g : Arc) (round : ℕ) (w : IsGoing path entries g round) where
  pub goes_on : g.first < round → (p : Passed) → IsPassed path g p → IsGoing path (entries ++ p.entry ∷ []) p.next round
  goes_on low p f = record {
    walk = walk_goes_on edge_walk found_of path entries p.entry (stretch_of g) (stretch_of p.next) round w.walk (ap stretch_of f.same) low w.reach.short
        (subst (λ (a : Arc). IsHeld (arc path g.first g.last) (standard_of a.line)) (sym f.same) w.reach.held) f.followed (reach_longest path p.next f.next);
    reach = f.next;
  }

  pub comes_round : IsCornerPath path → round ≤ g.first → IsEdgeCover path (map found_of entries)
  comes_round is l = walk_is_cover path (map found_of entries) (stretch_of g) round w.walk l is.some

  pub few_entries : IsCornerPath path → round ≤ g.first → length entries < 4294967296
  few_entries is l =
      let few = (comes_round is l).claims.few in
      let corners_few = is.few in
      let n = length-map entries found_of in
      omega arith
