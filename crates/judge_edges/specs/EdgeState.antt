-- What a judge of the lines of corner paths is seen as.
-- It holds no line: it stands for each list of lines that stands where it does.
use Rattle.std.specs.Prelude.{ℕ, ◌*◌, ◌<◌, ◌≤◌, List, map, length, All}
use Rattle.shape_terms.specs.Limits.{most_round}
use Rattle.shape_refute.specs.declared.places.Places.{Places}
use Rattle.shape_refute.specs.Places.{stretch_of, IsAround}
use Rattle.edge_terms.specs.EdgeCycles.{EdgeCycle}
use Rattle.edge_terms.specs.CycleLines.{Standing, open_path}

-- the cycles of the picture, and where the lines stand
pub record EdgeState : Type 0 where
  pub cycles : List EdgeCycle
  pub standing : Standing

-- the same from the judge's own numbers and the places of its arcs
abbrev pub state_of : List EdgeCycle → (begun declared : ℕ) → List Places → (gaps : ℕ) → EdgeState
state_of cycles begun declared arcs gaps =
    record { cycles = cycles; standing = record { begun = begun; declared = declared; stretches = map stretch_of arcs; gaps = gaps } }

-- no more cycles were begun than there are, and of the last of them no more lines taken than it has
pub record IsInStep (cycles : List EdgeCycle) (s : Standing) : Type 0 where
  pub few : s.begun ≤ length cycles
  pub begun : 0 < s.declared → 0 < s.begun
  pub declared_within : s.declared ≤ length (open_path cycles s)
  pub declared_few : s.declared ≤ most_round
  pub listed_within : length s.stretches ≤ s.declared
  pub gaps_within : s.gaps ≤ s.declared
  pub around : All (IsAround (length (open_path cycles s))) s.stretches

-- buffers of these sizes have room for the runs and the stretches of each cycle
pub record HasRoom (cycles : List EdgeCycle) (run_room stretch_room : ℕ) : Type 0 where
  pub runs_fit : All (λ k. 2 * length k.path ≤ run_room) cycles
  pub stretches_fit : All (λ k. length k.path ≤ stretch_room) cycles
