-- What the tables tell: which near cubes share a cell, and its sign; and along which axes the directions move.
-- A set of near neighbours is a number with a bit for each.
use Rattle.std.specs.Prelude.{◌≡◌, ℕ, ◌<◌, ◌↔◌, ◌==◌, Bool, List, length, slice_index_or, pos}
use Rattle.std.specs.Int.Bits.{bit_and}
use Rattle.shape_terms.specs.Adjacency.{near_step}
use Rattle.shape_adj.specs.NearMasks.{In, near_total}
use Rattle.measure_terms.specs.Cells.{IsCellOf, dimension, sign}
use Rattle.measure_terms.specs.Crossings.{half_total, step_class}
use Rattle.measuring.specs.declared.cell.Cell.{Cell}
use Rattle.measuring.specs.declared.direction.Directions.{Directions}

-- a cell that no cube shares, which stands past the end of a list
abbrev pub no_cell : Cell
no_cell = record { shared = 0; sign = pos 0 }

abbrev pub cell_in : List Cell → ℕ → Cell
cell_in cells k = slice_index_or cells k no_cell

-- the cell is that of near step k
pub record IsCellAt (d k : ℕ) (c : Cell) : Type 0 where
  pub shared : (j : ℕ) → In c.shared j ↔ ((j < near_total d) × IsCellOf (near_step d j) (near_step d k))
  pub sign : c.sign ≡ sign (dimension (near_step d k))

-- the cells of the near steps of d axes, in the order of their numbers
pub record AreCells (d : ℕ) (cells : List Cell) : Type 0 where
  pub count : length cells ≡ near_total d
  pub each : (k : ℕ) → k < near_total d → IsCellAt d k (cell_in cells k)

-- the cell with a number is shared by none of the near neighbours that were seen
abbrev pub is_new : List Cell → (seen : ℕ) → ℕ → Bool
is_new cells seen k = bit_and seen (cell_in cells k).shared == 0

-- ---- directions

-- the set has the numbers of the directions of a class
abbrev pub HasDirections : (d m mask : ℕ) → Type 0
HasDirections d m mask = (k : ℕ) → In mask k ↔ ((k < half_total d) × (step_class (near_step d k) ≡ m))

-- the directions of d axes
pub record AreDirections (d : ℕ) (t : Directions) : Type 0 where
  pub x : HasDirections d 1 t.x
  pub y : HasDirections d 2 t.y
  pub z : HasDirections d 4 t.z
  pub xy : HasDirections d 3 t.xy
  pub xz : HasDirections d 5 t.xz
  pub yz : HasDirections d 6 t.yz
  pub xyz : HasDirections d 7 t.xyz
