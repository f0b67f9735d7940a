-- The corner paths of the cycles of a picture, each from its least crack, in the order of these.
-- How cycles are found belongs elsewhere.
use Rattle.std.specs.Prelude.{◌≡◌, List, [], map}
use Rattle.shape_terms.specs.Points.{Point}
use Rattle.shape_terms.specs.Pictures.{Picture}
use Rattle.shape_terms.specs.Contours.{Crack, AreCycles, first_of_cycle}
use Rattle.edge_terms.specs.Corners.{corner_path}

-- the first crack of a cycle, and its corner path
pub record EdgeCycle : Type 0 where
  pub start : Crack
  pub path : List Point

-- that of a cycle of cracks
abbrev pub edge_cycle_of : List Crack → EdgeCycle
edge_cycle_of cracks = record { start = first_of_cycle cracks; path = corner_path cracks }

-- those of the picture's cycles, in their order
pub record AreEdgeCycles (X : Picture) (cycles : List EdgeCycle) : Type 0 where
  pub cracks : List (List Crack)
  pub are : AreCycles X cracks
  pub cycles_are : cycles ≡ map edge_cycle_of cracks

-- a cycle without corners, which no picture has
abbrev pub no_cycle : EdgeCycle
no_cycle = record { start = record { pixel = []; side = 0 }; path = [] }
