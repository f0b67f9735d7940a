-- The order of points and of cracks: no two of them stand before each other.
-- Stated of single points and cracks; lists of them belong elsewhere.
use Rattle.std.proofs.Common.{◌≡◌, refl, sym, ◌∙◌, subst, arith, [], ◌∷◌, inl, inr}
use Rattle.std.specs.Ordering.{ordering_then, ordering_reverse, int_cmp}
use Rattle.std.specs.declared.cmp.Ordering.{Ordering}
use Rattle.std.specs.declared.cmp.Ordering.TheVariants.{Less, Equal, Greater}
use Rattle.std.proofs.lemmas.Cmp.{int_cmp_total}
use Rattle.shape_terms.specs.Points.{Point, raster_cmp}
use Rattle.shape_terms.specs.Steps.{Before}
use Rattle.shape_terms.specs.Contours.{Crack, CrackBefore}

then_reverse : (a b : Ordering) → ordering_then (ordering_reverse a) (ordering_reverse b) ≡ ordering_reverse (ordering_then a b)
then_reverse Less b = refl
then_reverse Equal b = refl
then_reverse Greater b = refl

pub raster_flip : (p q : Point) → raster_cmp p q ≡ ordering_reverse (raster_cmp q p)
raster_flip [] [] = refl
raster_flip [] (y ∷ q) = refl
raster_flip (x ∷ p) [] = refl
raster_flip (x ∷ p) (y ∷ q) = rw (raster_flip p q, int_cmp_total.antisymm x y) (then_reverse (raster_cmp q p) (int_cmp y x))

less_flips : (o : Ordering) → o ≡ Less → ordering_reverse o ≡ Less → ⊥
less_flips Less h k = let e : Greater ≡ Less = k in cc
less_flips Equal h k = let e : Equal ≡ Less = k in cc
less_flips Greater h k = let e : Greater ≡ Less = h in cc

pub before_once : (p q : Point) → Before p q → Before q p → ⊥
before_once p q h k = less_flips (raster_cmp q p) k (sym (raster_flip p q) ∙ h)

pub before_itself : (p q : Point) → p ≡ q → Before p q → ⊥
before_itself p q e h = let k : Before p p = subst (Before p) (sym e) h in before_once p p k k

pub crack_before_once : (c d : Crack) → CrackBefore c d → CrackBefore d c → ⊥
crack_before_once c d (inl h) (inl k) = before_once c.pixel d.pixel h k
crack_before_once c d (inl h) (inr k) = before_itself c.pixel d.pixel (sym k.0) h
crack_before_once c d (inr h) (inl k) = before_itself d.pixel c.pixel (sym h.0) k
crack_before_once c d (inr h) (inr k) = let a = h.1 in let b = k.1 in absurd (omega arith)

pub crack_not_before_itself : (c d : Crack) → c ≡ d → CrackBefore c d → ⊥
crack_not_before_itself c d e h = let k : CrackBefore c c = subst (CrackBefore c) (sym e) h in crack_before_once c c k k
