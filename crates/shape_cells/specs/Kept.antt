-- Numbers of four or of eight bytes, as one list.
use Rattle.std.specs.Prelude.{ℕ, List}
use Rattle.shape_cells.specs.declared.squares.Kept.{Kept}
use Rattle.shape_cells.specs.declared.squares.Kept.TheVariants.{Short, Long}

-- the numbers
abbrev pub numbers_of : Kept → List ℕ
numbers_of (Short v) = v.items
numbers_of (Long v) = v.items
