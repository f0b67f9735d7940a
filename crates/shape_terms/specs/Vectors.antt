-- Sums, multiples and products of points, which are lists of coordinates.
-- Every definition serves each number of axes; none may name a type of the program.
use Rattle.std.specs.Prelude.{ℕ, List, [], ◌∷◌, map, ℤ, pos, negsuc, ◌+ℤ◌, ◌*ℤ◌}
use Rattle.shape_terms.specs.Points.{Point}
use Rattle.shape_terms.specs.Adjacency.{moved, along}

-- n times the step v
abbrev pub times : ℤ → Point → Point
times n v = map (λ x. n *ℤ x) v

-- the unit step along the axis k, as the list of its coordinates up to that axis: `moved` fits it to any point that has the axis
abbrev pub unit : ℕ → Point
unit k = along k (pos 1)

-- the difference: the step from q to p
abbrev pub difference : Point → Point → Point
difference p q = moved p (times (negsuc 0) q)

-- the scalar product, the sum of the products of the coordinates
abbrev pub dot : List ℤ → Point → ℤ
dot [] p = pos 0
dot (a ∷ row) [] = pos 0
dot (a ∷ row) (x ∷ p) = a *ℤ x +ℤ dot row p
