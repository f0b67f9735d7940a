-- Where the lines of the cycles of a picture stand, and which line comes next: a cycle, an arc of it, or the evidence for a gap.
-- Only the lines of cycles stand here; how a whole report goes stands in `EdgeReports`.
use Rattle.std.specs.Prelude.{◌≡◌, ℕ, ◌+◌, ◌-◌, ◌<◌, ◌≤◌, List, [], ◌∷◌, ◌++◌, length, slice_get, slice_index_or, Some}
use Rattle.shape_terms.specs.Points.{Point}
use Rattle.shape_terms.specs.Contours.{Crack}
use Rattle.shape_terms.specs.Covers.{Stretch, gap_run}
use Rattle.edge_terms.specs.EdgeStraight.{Standard}
use Rattle.edge_terms.specs.EdgeEvidence.{EdgeEvidence, IsEdgeEvidence}
use Rattle.edge_terms.specs.EdgeCovers.{IsArc}
use Rattle.edge_terms.specs.EdgeCycles.{EdgeCycle, no_cycle}

-- how many cycles were begun; and of the last of them, how many arcs its line gives, the stretches of those it was given, and how many gap lines it has
pub record Standing : Type 0 where
  pub begun : ℕ
  pub declared : ℕ
  pub stretches : List Stretch
  pub gaps : ℕ

-- the corner path of the cycle that was begun last
abbrev pub open_path : List EdgeCycle → Standing → List Point
open_path cycles s = (slice_index_or cycles (s.begun - 1) no_cycle).path

-- the cycle that was begun last has all its arcs and a gap line for each of them
pub record HasAllLines (s : Standing) : Type 0 where
  pub arcs : length s.stretches ≡ s.declared
  pub gaps : s.gaps ≡ s.declared

-- no cycle is begun and without all its lines
abbrev pub IsFull : Standing → Type 0
IsFull s = 0 < s.begun → HasAllLines s

-- each cycle has all its lines
pub record AreAllTold (cycles : List EdgeCycle) (s : Standing) : Type 0 where
  pub all : s.begun ≡ length cycles
  pub full : IsFull s

-- ---- claims

-- the claim of a `cycle` line: the next cycle begins with this crack and has so many cracks; it has at least one arc, and no more than cracks
pub record IsCycleHead (cycles : List EdgeCycle) (s : Standing) (c : Crack) (n m : ℕ) : Type 0 where
  pub full : IsFull s
  pub path : List Point
  pub next : slice_get cycles s.begun ≡ Some (record { start = c; path = path })
  pub count : n ≡ length path
  pub arcs : (1 ≤ m) × (m ≤ n)

-- the claim of an `arc` line: an arc is wanted, no gap line came yet, and the arc is good after those before it
pub record IsNextArc (cycles : List EdgeCycle) (s : Standing) (b e : ℕ) (line : Standard) : Type 0 where
  pub more : length s.stretches < s.declared
  pub early : s.gaps ≡ 0
  pub arc : IsArc (open_path cycles s) s.declared s.stretches b e line

-- the claim of a gap line: all arcs are given, a gap line is wanted, and its evidence is good for the run of its gap
pub record IsNextGap (cycles : List EdgeCycle) (s : Standing) (evidence : EdgeEvidence) : Type 0 where
  pub arcs : length s.stretches ≡ s.declared
  pub more : s.gaps < s.declared
  pub shows : IsEdgeEvidence (gap_run (open_path cycles s) s.stretches s.gaps) evidence

-- ---- one line more

-- a cycle of m arcs is begun
abbrev pub with_cycle : Standing → (m : ℕ) → Standing
with_cycle s m = record { begun = s.begun + 1; declared = m; stretches = []; gaps = 0 }

abbrev pub with_arc : Standing → Stretch → Standing
with_arc s k = record s { stretches = s.stretches ++ k ∷ [] }

abbrev pub with_gap : Standing → Standing
with_gap s = record s { gaps = s.gaps + 1 }

-- no line was taken
abbrev pub nothing_taken : Standing
nothing_taken = record { begun = 0; declared = 0; stretches = []; gaps = 0 }
