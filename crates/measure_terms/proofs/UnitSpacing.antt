-- Where voxels are cubes whose sides are the unit, distances are those of points.
-- Lists of whole numbers alone.
use Rattle.std.proofs.Common.{◌≡◌, ℕ, ◌≤◌, [], ◌∷◌, length, refl, arith}
use Rattle.shape_terms.specs.Points.{Point, squared_distance}
use Rattle.measure_terms.specs.Spacing.{spaced_distance, unit_spacing}

pub unit_distance : (p q : Point) → length p ≤ 3 → spaced_distance unit_spacing p q ≡ squared_distance p q
unit_distance [] q l = refl
unit_distance (x ∷ p) [] l = refl
unit_distance (x ∷ []) (y ∷ q) l = omega arith
unit_distance (x ∷ y ∷ []) (a ∷ []) l = omega arith
unit_distance (x ∷ y ∷ []) (a ∷ b ∷ q) l = omega arith
unit_distance (x ∷ y ∷ z ∷ []) (a ∷ []) l = omega arith
unit_distance (x ∷ y ∷ z ∷ []) (a ∷ b ∷ []) l = omega arith
unit_distance (x ∷ y ∷ z ∷ []) (a ∷ b ∷ c ∷ q) l = omega arith
unit_distance (x ∷ y ∷ z ∷ w ∷ p) (a ∷ q) l = absurd (omega (arith, l))
