-- What an edge report shows of a picture, in geometry alone: the maximal straight runs of each of its corner paths.
-- No claim of a line and no judge stands here, only how the lines tell the facts.
use Rattle.std.specs.Prelude.{◌≡◌, ℕ, List, [], ◌∷◌, ◌++◌, length, map, flat_map, All}
use Rattle.std.specs.List.{AllZip}
use Rattle.shape_terms.specs.Pictures.{Picture}
use Rattle.shape_terms.specs.Contours.{Crack}
use Rattle.text_terms.specs.Spellings.{text_of}
use Rattle.edge_terms.specs.EdgeStraight.{IsEdgeStraight}
use Rattle.shape_terms.specs.RunCovers.{IsRunCover}
use Rattle.edge_terms.specs.EdgeCovers.{Arc, stretches_of, AreArcs}
use Rattle.edge_terms.specs.EdgeCycles.{EdgeCycle, AreEdgeCycles}
use Rattle.edge_terms.specs.Lines.{Line, spelled}

-- what is told of one cycle: its first crack, the number of its cracks, and its arcs in order, each with the evidence for the gap after it
pub record CycleFact : Type 0 where
  pub start : Crack
  pub steps : ℕ
  pub arcs : List Arc

-- the line of an arc, and that of the gap after it
abbrev pub arc_line : Arc → Line
arc_line a = Line.Arc a.stretch a.line

abbrev pub gap_line : Arc → Line
gap_line a = Line.Gap a.gap

-- the lines that tell of a cycle: its own, those of its arcs, and those of its gaps
abbrev pub cycle_lines : CycleFact → List Line
cycle_lines f = Line.Cycle f.start f.steps (length f.arcs) ∷ (map arc_line f.arcs ++ map gap_line f.arcs)

-- the lines of a report that tells these facts of a picture with these sides
abbrev pub edge_lines : (width height : ℕ) → List CycleFact → List Line
edge_lines w h facts = Line.Edges w h ∷ (flat_map cycle_lines facts ++ Line.End ∷ [])

-- the arcs are exactly the maximal straight runs of the cycle's corner path, each with a standard line that holds it, and each gap has good evidence
pub record CycleShows (c : EdgeCycle) (f : CycleFact) : Type 0 where
  pub start : f.start ≡ c.start
  pub steps : f.steps ≡ length c.path
  pub arcs : AreArcs c.path f.arcs
  pub cover : IsRunCover IsEdgeStraight c.path (stretches_of f.arcs)

-- the text tells of each cycle of cracks of the picture, in the order of their least cracks, exactly its maximal straight runs
pub record EdgesShow (X : Picture) (text : List ℕ) : Type 0 where
  pub width : ℕ
  pub height : ℕ
  pub sides : X.sides ≡ width ∷ height ∷ []
  pub cycles : List EdgeCycle
  pub are : AreEdgeCycles X cycles
  pub facts : List CycleFact
  pub each : AllZip CycleShows cycles facts
  pub fields : All spelled.IsLine (edge_lines width height facts)
  pub text_is : text ≡ text_of spelled (edge_lines width height facts)
