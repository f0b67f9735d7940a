-- Both adjacencies are symmetric.
-- Laws for any number of axes.
use Rattle.std.proofs.Common.{◌≡◌, ◌≤◌, refl, sym, arith, [], ◌∷◌}
use Rattle.std.specs.Prelude.{◌-ℤ◌, nat_abs}
use Rattle.std.specs.List.{AllZip}
use Rattle.std.proofs.lemmas.Int.{ints}
use Rattle.shape_terms.specs.Points.{Point, axis_distances}
use Rattle.shape_terms.specs.Adjacency.{Near, Side}

close_sym : (p q : Point) → AllZip (λ x y. nat_abs (x -ℤ y) ≤ 1) p q → AllZip (λ x y. nat_abs (x -ℤ y) ≤ 1) q p
close_sym [] [] h = tt
close_sym [] (y ∷ q) h = absurd h
close_sym (x ∷ p) [] h = absurd h
close_sym (x ∷ p) (y ∷ q) h = (omega (arith, ints, h.0), close_sym p q h.1)

pub near_sym : (p q : Point) → Near p q → Near q p
near_sym p q h = (λ e. h.0 (sym e), close_sym p q h.1)

axis_distances_sym : (p q : Point) → axis_distances p q ≡ axis_distances q p
axis_distances_sym [] [] = refl
axis_distances_sym [] (y ∷ q) = refl
axis_distances_sym (x ∷ p) [] = refl
axis_distances_sym (x ∷ p) (y ∷ q) =
    let e : nat_abs (x -ℤ y) ≡ nat_abs (y -ℤ x) = omega (arith, ints) in
    λ i. e i ∷ axis_distances_sym p q i

pub side_sym : (p q : Point) → Side p q → Side q p
side_sym p q h = (sym h.0, rw (axis_distances_sym q p) h.1)
