use Rattle.std.proofs.Common.{◌≡◌, ◌≤◌, ◌*◌, ◌^◌, ℕ, List, ℤ, unsigned_abs}
use Rattle.measure_terms.specs.Hulls.{Corner, vertex, end}
use Rattle.measure_terms.specs.Polygons.{side_area, sum_below}
use Rattle.measuring.specs.Corners.{corners}
use Rattle.measuring.proofs.area.double_area.Given as goal

-- the sum over the sides before a place
pub record IsSum (h : List Corner) (i : ℕ) (area : ℤ) : Type 0 where
  pub value : area ≡ sum_below (λ k. side_area (vertex h k) (end h k)) i
  pub small : unsigned_abs area ≤ i * 2 ^ 33

abbrev pub invariant-loop-i : goal.invariant-loop-i
invariant-loop-i l = IsSum (corners l.round) l.i l.area
