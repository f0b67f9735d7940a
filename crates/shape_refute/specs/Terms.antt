-- The program's values as the terms of digital geometry.
use Rattle.std.specs.Prelude.{ℕ, [], ◌∷◌, take}
use Rattle.shape_terms.specs.Points.{Point}
use Rattle.shape_space.specs.declared.point.P2.{P2}
use Rattle.shape_terms.specs.Naive.{Naive as Term}
use Rattle.shape_refute.specs.declared.naive.Naive.{Naive}

-- what the program's parameters mean in a space of d axes: the coefficients past the last axis do not count
abbrev pub naive_of : ℕ → Naive → Term
naive_of d n = record { a = take d n.a; mu = n.mu }

-- a point of the plane as the list of its coordinates
abbrev pub flat_point : P2 → Point
flat_point p = p.x ∷ p.y ∷ []
