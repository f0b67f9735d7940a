-- What the cube of one point more adds to an Euler number: the cells of it that are of no cube before.
-- Which of its cells are new is told by the caller.
use Rattle.std.specs.Prelude.{ℕ, zero, suc, Bool, length, cond, ℤ, pos, ◌+ℤ◌}
use Rattle.shape_terms.specs.Points.{Point}
use Rattle.shape_terms.specs.Adjacency.{moved, near_step}
use Rattle.measure_terms.specs.Cells.{doubled, dimension, sign}

-- the cell of the cube around a point that near step k leads to from its middle
abbrev pub cell_at : Point → ℕ → Point
cell_at p k = moved (doubled p) (near_step (length p) k)

-- what the first k of these cells add, in a space of d axes, where some of them are new
abbrev pub gained : (d : ℕ) (is_new : ℕ → Bool) → ℕ → ℤ
gained d is_new zero = pos 0
gained d is_new (suc k) = gained d is_new k +ℤ cond (is_new k) (sign (dimension (near_step d k))) (pos 0)
