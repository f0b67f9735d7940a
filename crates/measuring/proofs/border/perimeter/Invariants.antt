use Rattle.std.proofs.Common.{◌≡◌, ◌≤◌, ◌*◌, ◌^◌, ℕ, List, pos}
use Rattle.measure_terms.specs.Hulls.{Corner, vertex, end}
use Rattle.measure_terms.specs.Polygons.{side_length, sum_below}
use Rattle.measuring.specs.Corners.{corners}
use Rattle.measuring.proofs.border.perimeter.Given as goal

-- the sum over the sides before a place
pub record IsSum (h : List Corner) (i sum : ℕ) : Type 0 where
  pub value : pos sum ≡ sum_below (λ k. side_length (vertex h k) (end h k)) i
  pub small : sum ≤ i * 2 ^ 40

abbrev pub invariant-loop-i : goal.invariant-loop-i
invariant-loop-i l = IsSum (corners l.round) l.i l.sum
