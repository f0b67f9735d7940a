-- What the laws of flat and of solid points rest on.
-- A point's fields and its list of coordinates say the same; a further dimension brings two lemmas of this kind.
use Rattle.std.specs.Prelude.{◌≡◌, ◌&&◌, true, [], ◌∷◌}
use Rattle.std.specs.Ordering.{int_eq}
use Rattle.std.proofs.lemmas.Bool.Decides.{Decides-int_eq, Decides-and}
use Rattle.shape_space.specs.declared.point.P2.{P2}
use Rattle.shape_space.specs.declared.solid.P3.{P3}

pub same_flat : (p q : P2) → p.x ∷ p.y ∷ [] ≡ q.x ∷ q.y ∷ [] → p ≡ q
same_flat p q e =
    let ex : p.x ≡ q.x = cc in
    let ey : p.y ≡ q.y = cc in
    λ i. record { y = ey i; x = ex i }

pub equal_flat : (p q : P2) → (int_eq p.y q.y && int_eq p.x q.x) ≡ true → p ≡ q
equal_flat p q e =
    let d = (Decides-and _ _ (Decides-int_eq p.y q.y) (Decides-int_eq p.x q.x)).0 e in
    λ i. record { y = d.0 i; x = d.1 i }

pub same_solid : (p q : P3) → p.x ∷ p.y ∷ p.z ∷ [] ≡ q.x ∷ q.y ∷ q.z ∷ [] → p ≡ q
same_solid p q e =
    let ex : p.x ≡ q.x = cc in
    let ey : p.y ≡ q.y = cc in
    let ez : p.z ≡ q.z = cc in
    λ i. record { z = ez i; y = ey i; x = ex i }

pub equal_solid : (p q : P3) → (int_eq p.z q.z && (int_eq p.y q.y && int_eq p.x q.x)) ≡ true → p ≡ q
equal_solid p q e =
    let d = (Decides-and _ _ (Decides-int_eq p.z q.z) (Decides-and _ _ (Decides-int_eq p.y q.y) (Decides-int_eq p.x q.x))).0 e in
    λ i. record { z = d.0 i; y = d.1.0 i; x = d.1.1 i }
