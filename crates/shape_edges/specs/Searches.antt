-- What the program's searches find: straight runs that were grown, how far one reaches and where the next one begins.
-- The terms of walks stand in `RunWalks`; how a search goes belongs elsewhere.
use Rattle.std.specs.Prelude.{◌≡◌, ℕ, ◌+◌, ◌-◌, ◌<◌, ◌≤◌, List, [], ◌∷◌, ◌++◌, length}
use Rattle.shape_terms.specs.Points.{Point}
use Rattle.shape_terms.specs.Covers.{arc}
use Rattle.shape_terms.specs.RunWalks.{IsFollowedBy}
use Rattle.edge_terms.specs.EdgeStraight.{IsEdgeStraight}
use Rattle.edge_terms.specs.EdgeCovers.{IsHeld, IsGap}
use Rattle.edge_terms.specs.EdgeWalks.{edge_walk}
use Rattle.judge_edges.specs.Lines.{standard_of}
use Rattle.judge_edges.specs.Gaps.{gap_of}
use Rattle.shape_edges.specs.declared.grow.Grown.{Grown}
use Rattle.judge_edges.specs.declared.arc.Arc.{Arc}
use Rattle.shape_edges.specs.declared.start.NextStart.{NextStart}
use Rattle.shape_edges.specs.declared.walk.Passed.{Passed}
use Rattle.shape_edges.specs.declared.entry.Entry.{Entry}
use Rattle.shape_edges.specs.Edges.{Takes}
use Rattle.judge_edges.specs.Arcs.{stretch_of}
use Rattle.shape_edges.specs.Entries.{found_of}

-- a straight run from a place on, and why it is not straight with one place more
pub record IsForward (path : List Point) (first : ℕ) (g : Grown) : Type 0 where
  pub rises : first ≤ g.place
  pub taken : Takes (arc path first g.place) g.edge
  pub gap : IsGap (arc path first (g.place + 1)) (gap_of g.gap)

-- the least place from which the run to the last place is straight, later than the first
pub record IsBack (path : List Point) (first last b : ℕ) : Type 0 where
  pub later : first < b
  pub near : b ≤ last
  pub straight : IsEdgeStraight (arc path b last)
  pub bent : IsEdgeStraight (arc path (b - 1) last) → ⊥

-- an arc with a line that holds it, and it is not straight with one place more
pub record IsReach (path : List Point) (a : Arc) : Type 0 where
  pub rises : a.first ≤ a.last
  pub short : a.last < a.first + length path
  pub held : IsHeld (arc path a.first a.last) (standard_of a.line)
  pub longest : IsEdgeStraight (arc path a.first (a.last + 1)) → ⊥

-- after an arc: a later place from which the run to the place after the arc is straight, and the evidence that it is not from the place before
pub record IsNextStart (path : List Point) (a : Arc) (s : NextStart) : Type 0 where
  pub later : a.first < s.first
  pub near : s.first ≤ a.last + 1
  pub straight : IsEdgeStraight (arc path s.first (a.last + 1))
  pub gap : IsGap (arc path (s.first - 1) (a.last + 1)) (gap_of s.gap)

-- the walk has left the arc, and goes on from the next one
pub record IsPassed (path : List Point) (a : Arc) (p : Passed) : Type 0 where
  pub same : p.entry.arc ≡ a
  pub followed : IsFollowedBy edge_walk path (found_of p.entry) (stretch_of p.next)
  pub next : IsReach path p.next

-- the arc that was left was put last, and the next one was reached
pub record HasPassed (path : List Point) (a : Arc) (old new : List Entry) (next : Arc) : Type 0 where
  pub entry : Entry
  pub items : new ≡ old ++ entry ∷ []
  pub passed : IsPassed path a (record { entry = entry; next = next })
