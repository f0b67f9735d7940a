-- The corner paths that the arcs of an edge report run along.
-- How a border runs along a path stands in `Borders`.
use Rattle.std.specs.Prelude.{◌≡◌, List, map}
use Rattle.shape_terms.specs.Points.{Point}
use Rattle.shape_terms.specs.Pictures.{Picture}
use Rattle.edge_terms.specs.EdgeCycles.{EdgeCycle, AreEdgeCycles}

-- the corner path of each of some cycles
abbrev pub paths_of : List EdgeCycle → List (List Point)
paths_of cycles = map (λ (c : EdgeCycle). c.path) cycles

-- the corner paths of the cycles of cracks of the picture, in their order
pub record AreCornerPaths (X : Picture) (paths : List (List Point)) : Type 0 where
  pub cycles : List EdgeCycle
  pub are : AreEdgeCycles X cycles
  pub paths_are : paths ≡ paths_of cycles
