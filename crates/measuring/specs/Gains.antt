-- What one point more adds to the numbers of its object.
-- Which of its near neighbours were seen before is told by the caller.
use Rattle.std.specs.Prelude.{◌≡◌, ℕ, ◌+◌, ◌≤◌, List, ◌+ℤ◌, nat_abs}
use Rattle.shape_adj.specs.NearMasks.{In, near_total}
use Rattle.measure_terms.specs.Cells.{sign}
use Rattle.measure_terms.specs.Gains.{gained}
use Rattle.measure_terms.specs.Crossings.{IsSizeOf}
use Rattle.measuring.specs.declared.cell.Cell.{Cell}
use Rattle.measuring.specs.declared.direction.Directions.{Directions}
use Rattle.measuring.specs.declared.gain.Gain.{Gain}
use Rattle.measuring.specs.declared.numbers.Minkowski.{Minkowski}
use Rattle.measuring.specs.Tables.{is_new}

-- a direction of the mask whose neighbour was not seen
pub record IsUnseen (mask seen k : ℕ) : Type 0 where
  pub direction : In mask k
  pub new : In seen k → ⊥

-- no sum of such gains over the points of a box overflows
pub record IsSmallGain (g : Gain) : Type 0 where
  pub euler : nat_abs g.euler ≤ 27
  pub x : g.x ≤ 32
  pub y : g.y ≤ 32
  pub z : g.z ≤ 32
  pub xy : g.xy ≤ 32
  pub xz : g.xz ≤ 32
  pub yz : g.yz ≤ 32
  pub xyz : g.xyz ≤ 32

-- what a point adds whose near neighbours seen before are these: the cells that no cube has yet, and the directions that lead to none of them
pub record IsGain (d : ℕ) (cells : List Cell) (t : Directions) (seen : ℕ) (g : Gain) : Type 0 where
  pub euler : g.euler ≡ sign d +ℤ gained d (is_new cells seen) (near_total d)
  pub x : IsSizeOf (IsUnseen t.x seen) g.x
  pub y : IsSizeOf (IsUnseen t.y seen) g.y
  pub z : IsSizeOf (IsUnseen t.z seen) g.z
  pub xy : IsSizeOf (IsUnseen t.xy seen) g.xy
  pub xz : IsSizeOf (IsUnseen t.xz seen) g.xz
  pub yz : IsSizeOf (IsUnseen t.yz seen) g.yz
  pub xyz : IsSizeOf (IsUnseen t.xyz seen) g.xyz
  pub small : IsSmallGain g

-- numbers with what a point adds
abbrev pub plus : Minkowski → Gain → Minkowski
plus m g = record {
  euler = m.euler +ℤ g.euler;
  x = m.x + g.x;
  y = m.y + g.y;
  z = m.z + g.z;
  xy = m.xy + g.xy;
  xz = m.xz + g.xz;
  yz = m.yz + g.yz;
  xyz = m.xyz + g.xyz;
}
