-- An edge report as it grows: the text of good lines, and the state that they lead to.
-- What is found of a cycle comes from the walk; how lines are spelled does not matter here.
use Rattle.std.specs.Prelude.{◌≡◌, ℕ, ◌+◌, ◌≤◌, List, length, take, slice_get, Some, All}
use Rattle.shape_terms.specs.Points.{Point}
use Rattle.shape_terms.specs.Pictures.{Picture}
use Rattle.shape_terms.specs.Contours.{Crack}
use Rattle.text_terms.specs.Spellings.{text_of}
use Rattle.text_terms.specs.Reports.{GoodSoFar}
use Rattle.text_terms.specs.Courses.{reached}
use Rattle.edge_terms.specs.EdgeCovers.{stretches_of, EdgeFound, IsEdgeCover}
use Rattle.edge_terms.specs.EdgeCycles.{EdgeCycle, AreEdgeCycles}
use Rattle.edge_terms.specs.CycleLines.{Standing, IsFull}
use Rattle.edge_terms.specs.Lines.{Line, spelled}
use Rattle.edge_terms.specs.EdgeReports.{State, course, edge_report}

-- the text is that of short lines, each good after those before it, that lead to the state
pub record Tells (X : Picture) (s : State) (text : List ℕ) : Type 0 where
  pub lines : List Line
  pub text_is : text ≡ text_of spelled lines
  pub fields : All spelled.IsLine lines
  pub short : All (λ l. length (spelled.spelling l) ≤ 1024) lines
  pub good : GoodSoFar (edge_report X) lines
  pub state : reached (course X) lines ≡ s

-- the first k cycles of the picture are told whole
pub record HasTold (X : Picture) (k : ℕ) (text : List ℕ) : Type 0 where
  pub standing : Standing
  pub begun : standing.begun ≡ k
  pub full : IsFull standing
  pub tells : Tells X (State.Open standing) text

-- this was found of the picture's cycle k, which begins with the crack
pub record IsFoundAt (X : Picture) (k : ℕ) (start : Crack) (f : EdgeFound) : Type 0 where
  pub cycles : List EdgeCycle
  pub are : AreEdgeCycles X cycles
  pub path : List Point
  pub there : slice_get cycles k ≡ Some (record { start = start; path = path })
  pub steps : f.steps ≡ length path
  pub cover : IsEdgeCover path f.arcs

-- it was found of some corner path
abbrev pub IsSomeCover : EdgeFound → Type 0
IsSomeCover f = (path : List Point) × IsEdgeCover path f.arcs

-- cycle k was begun, and the first n of its arcs were told
abbrev pub with_arcs : (k : ℕ) → EdgeFound → (n : ℕ) → Standing
with_arcs k f n = record { begun = k + 1; declared = length f.arcs; stretches = take n (stretches_of f.arcs); gaps = 0 }

-- all its arcs, and the evidence for its first n gaps
abbrev pub with_gaps : (k : ℕ) → EdgeFound → (n : ℕ) → Standing
with_gaps k f n = record { begun = k + 1; declared = length f.arcs; stretches = stretches_of f.arcs; gaps = n }
