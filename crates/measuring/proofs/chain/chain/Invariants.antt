use Rattle.std.proofs.Common.{◌≤◌, ℕ, Bool, List, length}
use Rattle.shape_space.specs.declared.point.P2.{P2}
use Rattle.measuring.specs.Corners.{corners}
use Rattle.measuring.specs.Chains.{IsSide}
use Rattle.measuring.proofs.chain.chain.Given as goal

-- the chain of the corners before a place
pub record IsBefore (points chain : List P2) (at : ℕ) : Type 0 where
  pub some : 1 ≤ length chain
  pub few : length chain ≤ at
  pub side : (up : Bool) → IsSide up (corners points) at (corners chain)

abbrev pub invariant-loop-at : goal.invariant-loop-at
invariant-loop-at l = IsBefore l.points l.chain.items l.at
