-- The walk goes on by one stretch, and comes round: of the program's entries.
-- Stated of the values alone; the terms' side stands in `WalkSteps` and `ContourWalks`.
use Rattle.std.proofs.Common.{◌≡◌, ℕ, ◌+◌, ◌-◌, ◌<◌, ◌≤◌, List, [], ◌∷◌, ◌++◌, length, map, arith, ap, sym, subst, ◌∙◌}
use Rattle.std.proofs.lemmas.List.{length-map}
use Rattle.shape_terms.specs.Points.{Point}
use Rattle.shape_terms.specs.Covers.{arc}
use Rattle.shape_terms.specs.Traces.{IsClosedPath}
use Rattle.shape_terms.specs.RunWalks.{IsWalk, IsFollowedBy}
use Rattle.shape_terms.specs.Naive.{Naive}
use Rattle.shape_terms.specs.Straight.{IsStraight}
use Rattle.shape_terms.proofs.RunArcs.{goes_as_far}
use Rattle.shape_terms.proofs.ContourCovers.{straightness}
use Rattle.shape_terms.proofs.WalkSteps.{walk_goes_on}
use Rattle.shape_refute.specs.Terms.{naive_of}
use Rattle.shape_line.specs.declared.stretch.Stretch.{Stretch}
use Rattle.shape_line.specs.declared.entry.Entry.{Entry}
use Rattle.shape_line.specs.declared.reach.Reach.{Reach}
use Rattle.shape_line.specs.declared.start.NextStart.{NextStart}
use Rattle.shape_line.specs.Found.{Found, IsCoverOf}
use Rattle.shape_line.specs.Evidence.{evidence_behind}
use Rattle.shape_line.specs.SegmentTerms.{points_of}
use Rattle.shape_line.specs.Arcs.{IsHeld, IsBent}
use Rattle.shape_line.specs.Entries.{stretch_of, found_of}
use Rattle.shape_line.specs.Searches.{IsReach, IsNextStart, IsPassed}
use Rattle.shape_line.specs.Walking.{contour_walk}
use Rattle.shape_line.proofs.Searching.{reach_longest}
use Rattle.shape_line.proofs.ContourWalks.{walk_is_cover}

module _ (points : List Point) (g next : Reach) (s : NextStart) (axis : ℕ) (line : Naive) (grown : List Point) where
  -- the stretch that is left, with the evidence for the gap after it
  abbrev pub left_by : Found
  left_by = record {
    stretch = stretch_of g.stretch;
    axis = axis;
    line = line;
    grown = grown;
    x = evidence_behind s.bend.x s.bend.last;
    y = evidence_behind s.bend.y s.bend.last;
  }

  -- the longest arc from the next start follows it
  pub follows : IsNextStart points g s → IsReach points next → next.stretch.first ≡ s.first
      → IsFollowedBy contour_walk points left_by (stretch_of next.stretch)
  follows h n e =
      let later = h.later in
      let near = h.near in
      let far = goes_as_far IsStraight straightness points (stretch_of next.stretch) (reach_longest points next n) s.first (g.stretch.last + 1) e h.straight in
      record {
        first = omega arith;
        last = omega arith;
        near = omega arith;
        gap = subst (λ (b : ℕ). IsBent (arc points (b - 1) (g.stretch.last + 1)) left_by.x left_by.y) (sym e) h.bent;
      }

-- the walk over the entries to a stretch, which is to end at the place `round`
pub record IsGoing (points : List Point) (entries : List Entry) (g : Reach) (round : ℕ) : Type 0 where
  pub walk : IsWalk contour_walk points (map found_of entries) (stretch_of g.stretch) round
  pub reach : IsReach points g

module _ (points : List Point) (entries : List Entry) (g : Reach) (round : ℕ) (w : IsGoing points entries g round) where
  pub goes_on : g.stretch.first < round → (entry : Entry) (next : Reach) → IsPassed points g entry next
      → IsGoing points (entries ++ entry ∷ []) next round
  goes_on low entry next f = record {
    walk = walk_goes_on contour_walk found_of points entries entry (stretch_of g.stretch) (stretch_of next.stretch) round w.walk (ap stretch_of f.same) low
        w.reach.short
        (record {
          held = subst (λ (s : Stretch). IsHeld s.line.axis (arc points g.stretch.first g.stretch.last) (naive_of 2 s.line)) (sym f.same) w.reach.stretch.held;
          grown = ap points_of f.grown ∙ w.reach.taken;
        }) f.followed (reach_longest points next f.reach);
    reach = f.reach;
  }

  pub comes_round : (side : ℕ) → IsClosedPath side points → round ≤ g.stretch.first → IsCoverOf points (map found_of entries)
  comes_round side path l = walk_is_cover points (map found_of entries) (stretch_of g.stretch) round w.walk l path.some

  pub few_entries : (side : ℕ) → IsClosedPath side points → round ≤ g.stretch.first → length entries < 4294967296
  few_entries side path l =
      let few = (comes_round side path l).few in
      let points_few = path.few in
      let n = length-map entries found_of in
      omega arith
