-- When two points that are written out are close.
use Rattle.std.proofs.Common.{zero, suc, ◌≤◌, [], ◌∷◌, arith}
use Rattle.std.specs.Prelude.{ℤ, ◌-ℤ◌, nat_abs}
use Rattle.std.proofs.lemmas.Int.{ints}
use Rattle.shape_terms.specs.Steps.{AreClose}

pub close_flat : (x y v w : ℤ) → nat_abs (x -ℤ v) ≤ 1 → nat_abs (y -ℤ w) ≤ 1 → AreClose (x ∷ y ∷ []) (v ∷ w ∷ [])
close_flat x y v w h k zero = h
close_flat x y v w h k (suc zero) = k
close_flat x y v w h k (suc (suc i)) = omega (arith, ints)
