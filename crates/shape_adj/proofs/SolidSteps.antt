-- A step in space, coordinate by coordinate.
use Rattle.std.proofs.Common.{◌≡◌, ℤ, ◌+ℤ◌, [], ◌∷◌, ap}
use Rattle.shape_terms.specs.Points.{Point}
use Rattle.shape_terms.specs.Adjacency.{moved}

pub solid_moved : (x y z a b c u v w : ℤ) (s : Point) → u ≡ x +ℤ a → v ≡ y +ℤ b → w ≡ z +ℤ c → a ∷ b ∷ c ∷ [] ≡ s → u ∷ v ∷ w ∷ [] ≡ moved (x ∷ y ∷ z ∷ []) s
solid_moved x y z a b c u v w s e f g h = rw (e, f, g) (ap (moved (x ∷ y ∷ z ∷ [])) h)
