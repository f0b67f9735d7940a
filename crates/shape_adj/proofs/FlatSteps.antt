-- A step in the plane, coordinate by coordinate.
use Rattle.std.proofs.Common.{◌≡◌, ℤ, ◌+ℤ◌, [], ◌∷◌, ap}
use Rattle.shape_terms.specs.Points.{Point}
use Rattle.shape_terms.specs.Adjacency.{moved}

pub flat_moved : (x y a b u w : ℤ) (v : Point) → u ≡ x +ℤ a → w ≡ y +ℤ b → a ∷ b ∷ [] ≡ v → u ∷ w ∷ [] ≡ moved (x ∷ y ∷ []) v
flat_moved x y a b u w v e f h = rw (e, f) (ap (moved (x ∷ y ∷ [])) h)
