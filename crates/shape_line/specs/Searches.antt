-- What the program's searches find: segments that were grown, stretches, how far one reaches and where the next one begins.
-- The terms of walks stand in `RunWalks`; how a search goes belongs elsewhere.
use Rattle.std.specs.Prelude.{◌≡◌, ℕ, ◌+◌, ◌-◌, ◌<◌, ◌≤◌, List, [], ◌∷◌, ◌++◌, length, pos}
use Rattle.shape_terms.specs.Points.{Point, coordinate}
use Rattle.shape_terms.specs.Straight.{IsStraight}
use Rattle.shape_terms.specs.Covers.{arc}
use Rattle.shape_terms.specs.BackArcs.{back_arc}
use Rattle.shape_terms.specs.RunWalks.{IsFollowedBy}
use Rattle.shape_refute.specs.Terms.{naive_of}
use Rattle.shape_terms.specs.Least.{IsLeastLine}
use Rattle.shape_line.specs.Clashes.{IsClash}
use Rattle.shape_line.specs.SegmentTerms.{points_of}
use Rattle.shape_line.specs.declared.grow.Grown.{Grown}
use Rattle.shape_line.specs.declared.stretch.Stretch.{Stretch}
use Rattle.shape_line.specs.declared.reach.Reach.{Reach}
use Rattle.shape_line.specs.declared.start.NextStart.{NextStart}
use Rattle.shape_line.specs.declared.entry.Entry.{Entry}
use Rattle.shape_line.specs.Arcs.{IsHeld, IsBent}
use Rattle.shape_line.specs.Evidence.{evidence_behind}
use Rattle.shape_line.specs.Entries.{stretch_of, found_of}
use Rattle.shape_line.specs.Walking.{contour_walk}

-- a segment from a place on, which is not straight for the axis with one place more
pub record IsForward (points : List Point) (first t : ℕ) (g : Grown) : Type 0 where
  pub rises : first ≤ g.place
  pub axis : g.segment.axis ≡ t
  pub taken : points_of g.segment ≡ arc points first g.place
  pub clash : IsClash t (arc points first (g.place + 1)) g.clash

-- a segment from a place back to a later one than the first, which is not straight for the axis with one place more
pub record IsBack (points : List Point) (first last t : ℕ) (g : Grown) : Type 0 where
  pub later : first < g.place
  pub near : g.place ≤ last
  pub axis : g.segment.axis ≡ t
  pub taken : points_of g.segment ≡ back_arc points g.place last
  pub clash : IsClash t (back_arc points (g.place - 1) last) g.clash

-- an arc of the contour with a line that holds it, whose third coefficient is 0
pub record IsStretch (points : List Point) (s : Stretch) : Type 0 where
  pub rises : s.first ≤ s.last
  pub held : IsHeld s.line.axis (arc points s.first s.last) (naive_of 2 s.line)
  pub flat : coordinate s.line.a 2 ≡ pos 0

-- a stretch, the segment that has its points, and the arc with one place more is not straight
pub record IsReach (points : List Point) (g : Reach) : Type 0 where
  pub stretch : IsStretch points g.stretch
  pub short : g.stretch.last < g.stretch.first + length points
  pub axis : g.grown.axis ≡ g.stretch.line.axis
  pub taken : points_of g.grown ≡ arc points g.stretch.first g.stretch.last
  pub least : IsLeastLine g.stretch.line.axis (points_of g.grown) (naive_of 2 g.stretch.line)
  pub longest : IsStraight (arc points g.stretch.first (g.stretch.last + 1)) → ⊥

-- after a stretch: a later place from which the arc to the place after the stretch is straight, and the evidence that it is not from the place before
pub record IsNextStart (points : List Point) (g : Reach) (s : NextStart) : Type 0 where
  pub later : g.stretch.first < s.first
  pub near : s.first ≤ g.stretch.last + 1
  pub straight : IsStraight (arc points s.first (g.stretch.last + 1))
  pub bent : IsBent (arc points (s.first - 1) (g.stretch.last + 1)) (evidence_behind s.bend.x s.bend.last) (evidence_behind s.bend.y s.bend.last)

-- the walk has left the stretch, and goes on from the next one
pub record IsPassed (points : List Point) (g : Reach) (entry : Entry) (next : Reach) : Type 0 where
  pub same : entry.stretch ≡ g.stretch
  pub grown : entry.grown ≡ g.grown
  pub followed : IsFollowedBy contour_walk points (found_of entry) (stretch_of next.stretch)
  pub reach : IsReach points next

-- the stretch that was left was put last, and the next one was reached
pub record HasPassed (points : List Point) (g : Reach) (old new : List Entry) (next : Reach) : Type 0 where
  pub entry : Entry
  pub items : new ≡ old ++ entry ∷ []
  pub passed : IsPassed points g entry next
