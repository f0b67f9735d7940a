-- The scalar product with a row is linear, for each number of axes.
-- A further operation on points brings one law here.
use Rattle.std.proofs.Common.{◌≡◌, ℕ, zero, suc, refl, ap, sym, ◌∙◌, arith, List, [], ◌∷◌}
use Rattle.std.specs.Prelude.{ℤ, pos, negsuc, ◌+ℤ◌, ◌-ℤ◌, ◌*ℤ◌}
use Rattle.std.proofs.lemmas.Int.{ints}
use Rattle.shape_terms.proofs.Ring.{*ℤ-+ℤ, *ℤ_assoc}
use Rattle.std.proofs.Math.IntN.{*ℤ_comm, *ℤ-zero}
use Rattle.shape_terms.specs.Points.{Point, coordinate}
use Rattle.shape_terms.specs.Adjacency.{moved, along}
use Rattle.shape_terms.specs.Vectors.{times, unit, difference, dot}

pub dot_none : (a : List ℤ) → dot a [] ≡ pos 0
dot_none [] = refl
dot_none (a ∷ row) = refl

-- at a point of the plane
pub dot-flat : (a : List ℤ) (x y : ℤ) → dot a (x ∷ y ∷ []) ≡ coordinate a 0 *ℤ x +ℤ coordinate a 1 *ℤ y
dot-flat [] x y = omega (arith, ints)
dot-flat (a ∷ []) x y = omega (arith, ints)
dot-flat (a ∷ b ∷ row) x y = let e = dot_none row in omega (arith, ints)

pub dot-moved : (a : List ℤ) (p v : Point) → dot a (moved p v) ≡ dot a p +ℤ dot a v
dot-moved [] p v = refl
dot-moved (a ∷ row) [] v = omega (arith, ints)
dot-moved (a ∷ row) (x ∷ p) [] = omega (arith, ints)
dot-moved (a ∷ row) (x ∷ p) (y ∷ v) =
    let e = dot-moved row p v in
    let d = *ℤ-+ℤ a x y in
    omega (arith, ints)

pub dot-times : (a : List ℤ) (n : ℤ) (v : Point) → dot a (times n v) ≡ n *ℤ dot a v
dot-times [] n v = sym (*ℤ-zero n)
dot-times (a ∷ row) n [] = sym (*ℤ-zero n)
dot-times (a ∷ row) n (x ∷ v) =
    let e = dot-times row n v in
    let d = *ℤ-+ℤ n (a *ℤ x) (dot row v) in
    let s : a *ℤ (n *ℤ x) ≡ n *ℤ (a *ℤ x) = sym (*ℤ_assoc a n x) ∙ ap (λ z. z *ℤ x) (*ℤ_comm a n) ∙ *ℤ_assoc n a x in
    omega (arith, ints)

pub dot-along : (a : List ℤ) (k : ℕ) (n : ℤ) → dot a (along k n) ≡ coordinate a k *ℤ n
dot-along [] zero n = omega (arith, ints)
dot-along [] (suc k) n = omega (arith, ints)
dot-along (a ∷ row) zero n = let e = dot_none row in omega (arith, ints)
dot-along (a ∷ row) (suc k) n = let e = dot-along row k n in omega (arith, ints)

pub dot-unit : (a : List ℤ) (k : ℕ) → dot a (unit k) ≡ coordinate a k
dot-unit a k = let e = dot-along a k (pos 1) in omega (arith, ints)

pub dot-difference : (a : List ℤ) (p q : Point) → dot a (difference p q) ≡ dot a p -ℤ dot a q
dot-difference a p q =
    let e = dot-moved a p (times (negsuc 0) q) in
    let f = dot-times a (negsuc 0) q in
    omega (arith, ints)
