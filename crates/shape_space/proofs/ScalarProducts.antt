-- The scalar product in the plane and in space, as the sum of two or three products.
-- Plain variables alone stand here.
use Rattle.std.proofs.Common.{◌≡◌, ℕ, List, [], ◌∷◌, length, take, sym, ◌∙◌, arith}
use Rattle.std.specs.Prelude.{ℤ, ◌+ℤ◌, ◌*ℤ◌}
use Rattle.std.proofs.lemmas.Int.{ints}
use Rattle.shape_terms.specs.Points.{coordinate}
use Rattle.shape_terms.specs.Vectors.{dot}

pub dot_flat : (a p : List ℤ) → length a ≡ 3 → length p ≡ 2 → dot (take 2 a) p ≡ coordinate a 0 *ℤ coordinate p 0 +ℤ coordinate a 1 *ℤ coordinate p 1
dot_flat (a ∷ b ∷ c ∷ []) (x ∷ y ∷ []) h k = omega (arith, ints)
dot_flat [] p h k = absurd (omega arith)
dot_flat (a ∷ []) p h k = absurd (omega arith)
dot_flat (a ∷ b ∷ []) p h k = absurd (omega arith)
dot_flat (a ∷ b ∷ c ∷ d ∷ r) p h k = absurd (omega arith)
dot_flat (a ∷ b ∷ c ∷ []) [] h k = absurd (omega arith)
dot_flat (a ∷ b ∷ c ∷ []) (x ∷ []) h k = absurd (omega arith)
dot_flat (a ∷ b ∷ c ∷ []) (x ∷ y ∷ z ∷ p) h k = absurd (omega arith)

pub dot_solid : (a p : List ℤ) → length a ≡ 3 → length p ≡ 3
    → dot (take 3 a) p ≡ (coordinate a 0 *ℤ coordinate p 0 +ℤ coordinate a 1 *ℤ coordinate p 1) +ℤ coordinate a 2 *ℤ coordinate p 2
dot_solid (a ∷ b ∷ c ∷ []) (x ∷ y ∷ z ∷ []) h k = omega (arith, ints)
dot_solid [] p h k = absurd (omega arith)
dot_solid (a ∷ []) p h k = absurd (omega arith)
dot_solid (a ∷ b ∷ []) p h k = absurd (omega arith)
dot_solid (a ∷ b ∷ c ∷ d ∷ r) p h k = absurd (omega arith)
dot_solid (a ∷ b ∷ c ∷ []) [] h k = absurd (omega arith)
dot_solid (a ∷ b ∷ c ∷ []) (x ∷ []) h k = absurd (omega arith)
dot_solid (a ∷ b ∷ c ∷ []) (x ∷ y ∷ []) h k = absurd (omega arith)
dot_solid (a ∷ b ∷ c ∷ []) (x ∷ y ∷ z ∷ w ∷ p) h k = absurd (omega arith)

-- the value of a sum of two products of what was read
pub flat_value : (a p : List ℤ) (d : ℕ) (s x y u v : ℤ) → length a ≡ 3 → length p ≡ d → d ≡ 2 → u ≡ coordinate p 0 → v ≡ coordinate p 1
    → x ≡ coordinate a 0 *ℤ u → y ≡ coordinate a 1 *ℤ v → s ≡ x +ℤ y → s ≡ dot (take d a) p
flat_value a p d s x y u v la lp two eu ev ex ey es =
    rw two (rw (es, ex, ey, eu, ev) (sym (dot_flat a p la (lp ∙ two))))

pub solid_value : (a p : List ℤ) (d : ℕ) (r s x y z u v w : ℤ) → length a ≡ 3 → length p ≡ d → d ≡ 3 → u ≡ coordinate p 0 → v ≡ coordinate p 1
    → w ≡ coordinate p 2
    → x ≡ coordinate a 0 *ℤ u → y ≡ coordinate a 1 *ℤ v → z ≡ coordinate a 2 *ℤ w → s ≡ x +ℤ y → r ≡ s +ℤ z → r ≡ dot (take d a) p
solid_value a p d r s x y z u v w la lp three eu ev ew ex ey ez es er =
    rw three (rw (er, es, ex, ey, ez, eu, ev, ew) (sym (dot_solid a p la (lp ∙ three))))
