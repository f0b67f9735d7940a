use Rattle.std.proofs.Common.{◌≤◌, ℕ, Bool, List, length}
use Rattle.shape_space.specs.declared.point.P2.{P2}
use Rattle.measure_terms.specs.Hulls.{vertex}
use Rattle.measuring.specs.Corners.{corners, IsAmong}
use Rattle.measuring.specs.Chains.{IsOpen}
use Rattle.measuring.proofs.chain.kept.Given as goal

-- the places that are left, which all that follow hold of
pub record IsLeft (points chain : List P2) (at count : ℕ) : Type 0 where
  pub within : count ≤ length chain
  pub until : (up : Bool) → IsOpen up (IsAmong (corners points) at) (vertex (corners chain)) (vertex (corners points) at) (length chain)
      → IsOpen up (IsAmong (corners points) at) (vertex (corners chain)) (vertex (corners points) at) count

abbrev pub invariant-loop-q : goal.invariant-loop-q
invariant-loop-q l = IsLeft l.points l.chain l.at l.count

abbrev pub decreases-loop-q : goal.decreases-loop-q
decreases-loop-q l = l.count
