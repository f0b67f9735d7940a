-- Two sums of points are equal where each coordinate is, and what the coordinates of such sums are.
-- Plain variables alone stand here.
use Rattle.std.proofs.Common.{◌≡◌, ℕ, zero, suc, ◌<◌, ◌≤◌, List, [], ◌∷◌, length, refl, ap, ◌∙◌, arith}
use Rattle.std.specs.Prelude.{ℤ, pos, negsuc, ◌+ℤ◌, ◌-ℤ◌, ◌*ℤ◌}
use Rattle.std.specs.List.{AllByRecursion}
use Rattle.std.proofs.lemmas.Int.{ints}
use Rattle.shape_terms.specs.Points.{Point, coordinate}
use Rattle.shape_terms.specs.Adjacency.{moved, along}
use Rattle.shape_terms.specs.Vectors.{times, unit, difference}
use Rattle.shape_terms.specs.Refutations.{Share, StepShare, Step, step_of, IsStepOf, weighted_points, weighted_steps, total_weight}
use Rattle.shape_terms.proofs.Coordinates.{coordinate-moved, coordinate-times}
use Rattle.shape_refute.specs.Sums.{shares_sum, steps_sum}

-- ---- coordinates

pub coordinate-difference : (p q : Point) (k : ℕ) → coordinate (difference p q) k ≡ coordinate p k -ℤ coordinate q k
coordinate-difference p q k =
    let e = coordinate-moved p (times (negsuc 0) q) k in
    let f = coordinate-times (negsuc 0) q k in
    omega (arith, ints)

pub unit_same : (t : ℕ) → coordinate (unit t) t ≡ pos 1
unit_same zero = refl
unit_same (suc t) = unit_same t

pub unit_other : (t k : ℕ) → (k ≡ t → ⊥) → coordinate (unit t) k ≡ pos 0
unit_other zero zero h = absurd (h refl)
unit_other zero (suc k) h = refl
unit_other (suc t) zero h = refl
unit_other (suc t) (suc k) h = unit_other t k (λ e. h (ap suc e))

-- the coordinates of the two sums
pub coordinate-points : (f : ℕ → Point) (g : ℕ → ℤ) (k : ℕ) → ((i : ℕ) → coordinate (f i) k ≡ g i) → (shares : List Share)
    → coordinate (weighted_points f shares) k ≡ shares_sum g shares
coordinate-points f g k h [] = refl
coordinate-points f g k h (s ∷ shares) =
    coordinate-moved (times (pos s.weight) (f s.place)) (weighted_points f shares) k
    ∙ ap (λ z. z +ℤ coordinate (weighted_points f shares) k) (coordinate-times (pos s.weight) (f s.place) k ∙ ap (λ z. pos s.weight *ℤ z) (h s.place))
    ∙ ap (λ z. pos s.weight *ℤ g s.place +ℤ z) (coordinate-points f g k h shares)

pub coordinate-steps : (t k : ℕ) (shares : List StepShare) → coordinate (weighted_steps t shares) k ≡ steps_sum t k shares
coordinate-steps t k [] = refl
coordinate-steps t k (s ∷ shares) =
    coordinate-moved (times (pos s.weight) (step_of t s.step)) (weighted_steps t shares) k
    ∙ ap (λ z. z +ℤ coordinate (weighted_steps t shares) k) (coordinate-times (pos s.weight) (step_of t s.step) k)
    ∙ ap (λ z. pos s.weight *ℤ coordinate (step_of t s.step) k +ℤ z) (coordinate-steps t k shares)

-- ---- lengths

pub length-times : (n : ℤ) (v : Point) → length (times n v) ≡ length v
length-times n [] = refl
length-times n (x ∷ v) = ap suc (length-times n v)

pub length-along : (k : ℕ) (n : ℤ) → length (along k n) ≡ suc k
length-along zero n = refl
length-along (suc k) n = ap suc (length-along k n)

pub length-moved : (d : ℕ) (p v : Point) → length p ≡ d → length v ≤ d → length (moved p v) ≡ d
length-moved d [] [] h l = h
length-moved d [] (y ∷ v) h l = absurd (omega arith)
length-moved d (x ∷ p) [] h l = h
length-moved (suc d) (x ∷ p) (y ∷ v) h l = ap suc (length-moved d p v (omega arith) (omega arith))
length-moved zero (x ∷ p) (y ∷ v) h l = absurd (omega arith)

pub length-moved-most : (d : ℕ) (p v : Point) → length p ≤ d → length v ≤ d → length (moved p v) ≤ d
length-moved-most d [] v h l = l
length-moved-most d (x ∷ p) [] h l = h
length-moved-most (suc d) (x ∷ p) (y ∷ v) h l = omega (arith, length-moved-most d p v (omega arith) (omega arith))
length-moved-most zero (x ∷ p) (y ∷ v) h l = absurd (omega arith)

pub length-points-most : (d : ℕ) (f : ℕ → Point) (shares : List Share) → AllByRecursion (λ s. length (f s.place) ≡ d) shares
    → length (weighted_points f shares) ≤ d
length-points-most d f [] h = omega arith
length-points-most d f (s ∷ shares) h =
    length-moved-most d (times (pos s.weight) (f s.place)) (weighted_points f shares) (omega (arith, length-times (pos s.weight) (f s.place), h.0))
    (length-points-most d f shares h.1)

pub length-points : (d : ℕ) (f : ℕ → Point) (shares : List Share) → 1 ≤ total_weight shares → AllByRecursion (λ s. length (f s.place) ≡ d) shares
    → length (weighted_points f shares) ≡ d
length-points d f [] o h = absurd (omega arith)
length-points d f (s ∷ shares) o h =
    length-moved d (times (pos s.weight) (f s.place)) (weighted_points f shares) (length-times (pos s.weight) (f s.place) ∙ h.0)
    (length-points-most d f shares h.1)

length-step : (d t : ℕ) (s : Step) → t < d → IsStepOf d t s → length (step_of t s) ≤ d
length-step d t Step.Up l h = omega (arith, length-along t (pos 1))
length-step d t (Step.Plus u) l h = length-moved-most d (unit t) (unit u) (omega (arith, length-along t (pos 1))) (omega (arith, length-along u (pos 1), h.0))
length-step d t (Step.Minus u) l h =
    length-moved-most d (unit t) (times (negsuc 0) (unit u)) (omega (arith, length-along t (pos 1)))
    (omega (arith, length-times (negsuc 0) (unit u), length-along u (pos 1), h.0))

pub length-steps : (d t : ℕ) → t < d → (shares : List StepShare) → AllByRecursion (λ s. IsStepOf d t s.step) shares → length (weighted_steps t shares) ≤ d
length-steps d t l [] h = omega arith
length-steps d t l (s ∷ shares) h =
    length-moved-most d (times (pos s.weight) (step_of t s.step)) (weighted_steps t shares)
    (omega (arith, length-times (pos s.weight) (step_of t s.step), length-step d t s.step l h.0)) (length-steps d t l shares h.1)

-- points of d axes are equal where their coordinates are
pub same_point : (d : ℕ) (p q : Point) → length p ≡ d → length q ≡ d → ((k : ℕ) → k < d → coordinate p k ≡ coordinate q k) → p ≡ q
same_point d [] [] h l e = refl
same_point d [] (y ∷ q) h l e = absurd (omega arith)
same_point d (x ∷ p) [] h l e = absurd (omega arith)
same_point zero (x ∷ p) (y ∷ q) h l e = absurd (omega arith)
same_point (suc d) (x ∷ p) (y ∷ q) h l e =
    let a : x ≡ y = e 0 (omega arith) in
    let b : p ≡ q = same_point d p q (omega arith) (omega arith) (λ k m. e (suc k) (omega arith)) in
    λ i. a i ∷ b i
