-- The cells of the cube around one point: its own, and those that near steps lead to from the double of the point.
-- One cube and its neighbours; sets of points stand elsewhere.
use Rattle.std.proofs.Common.{◌≡◌, ◌⊎◌, inl, inr, ◌+◌, ◌≤◌, ◌%◌, [], ◌∷◌, length, sym, ap, ◌∙◌, arith, refl, true}
use Rattle.std.specs.Prelude.{ℤ, ◌+ℤ◌, ◌-ℤ◌, nat_abs, ◌==◌, cond}
use Rattle.std.specs.List.{AllZip}
use Rattle.std.proofs.lemmas.Int.{ints}
use Rattle.std.proofs.lemmas.List.Sums.{sum_by-cons}
use Rattle.std.proofs.Math.IntN.{ℤ_discrete}
use mathlib.Core.List.{List-discrete}
use Rattle.shape_terms.specs.Points.{Point}
use Rattle.shape_terms.specs.Adjacency.{moved, Near}
use Rattle.measure_terms.specs.Cells.{IsCellOf, dimension, is_even, doubled}

-- ---- a cell and the double of its point

near_double : (p c : Point) → IsCellOf p c → AllZip (λ x y. nat_abs (x -ℤ y) ≤ 1) (doubled p) c
near_double [] [] h = tt
near_double [] (y ∷ c) h = absurd h
near_double (x ∷ p) [] h = absurd h
near_double (x ∷ p) (y ∷ c) h = (h.0, near_double p c h.1)

pub cell_by_double : (p c : Point) → AllZip (λ x y. nat_abs (x -ℤ y) ≤ 1) (doubled p) c → IsCellOf p c
cell_by_double [] [] h = tt
cell_by_double [] (y ∷ c) h = absurd h
cell_by_double (x ∷ p) [] h = absurd h
cell_by_double (x ∷ p) (y ∷ c) h = (h.0, cell_by_double p c h.1)

pub own_cell : (p : Point) → IsCellOf p (doubled p)
own_cell [] = tt
own_cell (x ∷ p) = (omega (arith, ints), own_cell p)

pub cell_cases : (p c : Point) → IsCellOf p c → (doubled p ≡ c) ⊎ Near (doubled p) c
cell_cases p c h = elim (List-discrete ℤ_discrete (doubled p) c) [ yes e ↦ inl e | no n ↦ inr (n, near_double p c h) ]

-- ---- dimensions

even_first : (x y : ℤ) → is_even ((x +ℤ x) +ℤ y) ≡ is_even y
even_first x y = let e : nat_abs ((x +ℤ x) +ℤ y) % 2 ≡ nat_abs y % 2 = omega (arith, ints) in ap (λ n. n == 0) e

dimension-cons : (x : ℤ) (c : Point) → dimension (x ∷ c) ≡ cond (is_even x) 1 0 + dimension c
dimension-cons x c = sum_by-cons (λ y. cond (is_even y) 1 0) x c

pub dimension_moved : (p v : Point) → length v ≡ length p → dimension (moved (doubled p) v) ≡ dimension v
dimension_moved [] [] l = refl
dimension_moved [] (y ∷ v) l = absurd (omega (arith, l))
dimension_moved (x ∷ p) [] l = absurd (omega (arith, l))
dimension_moved (x ∷ p) (y ∷ v) l =
    let r = dimension_moved p v (omega (arith, l)) in
    dimension-cons ((x +ℤ x) +ℤ y) (moved (doubled p) v) ∙ (λ i. cond (even_first x y i) 1 0 + r i) ∙ sym (dimension-cons y v)

even_double : (x : ℤ) → is_even (x +ℤ x) ≡ true
even_double x = let e : nat_abs (x +ℤ x) % 2 ≡ 0 = omega (arith, ints) in ap (λ n. n == 0) e

pub dimension_doubled : (p : Point) → dimension (doubled p) ≡ length p
dimension_doubled [] = refl
dimension_doubled (x ∷ p) =
    let r = dimension_doubled p in
    dimension-cons (x +ℤ x) (doubled p) ∙ (λ i. cond (even_double x i) 1 0 + r i) ∙ omega arith

-- ---- cells of a near cube

-- a near cube has the cell that a step leads to, where it has it of the cube at the origin
pub cell_moved : (p w v : Point) → length w ≡ length p → length v ≡ length p → IsCellOf w v → IsCellOf (moved p w) (moved (doubled p) v)
cell_moved [] [] [] a b h = tt
cell_moved [] [] (y ∷ v) a b h = absurd (omega (arith, b))
cell_moved [] (z ∷ w) v a b h = absurd (omega (arith, a))
cell_moved (x ∷ p) [] v a b h = absurd (omega (arith, a))
cell_moved (x ∷ p) (z ∷ w) [] a b h = absurd (omega (arith, b))
cell_moved (x ∷ p) (z ∷ w) (y ∷ v) a b h = (omega (arith, ints, h.0), cell_moved p w v (omega (arith, a)) (omega (arith, b)) h.1)

-- and only there
pub cell_back : (p w v : Point) → length w ≡ length p → length v ≡ length p → IsCellOf (moved p w) (moved (doubled p) v) → IsCellOf w v
cell_back [] [] [] a b h = tt
cell_back [] [] (y ∷ v) a b h = absurd (omega (arith, b))
cell_back [] (z ∷ w) v a b h = absurd (omega (arith, a))
cell_back (x ∷ p) [] v a b h = absurd (omega (arith, a))
cell_back (x ∷ p) (z ∷ w) [] a b h = absurd (omega (arith, b))
cell_back (x ∷ p) (z ∷ w) (y ∷ v) a b h = (omega (arith, ints, h.0), cell_back p w v (omega (arith, a)) (omega (arith, b)) h.1)

-- two points whose cubes share a cell are near, or the same
pub shared_close : (p q c : Point) → IsCellOf p c → IsCellOf q c → AllZip (λ x y. nat_abs (x -ℤ y) ≤ 1) p q
shared_close [] [] [] a b = tt
shared_close [] [] (y ∷ c) a b = absurd a
shared_close [] (z ∷ q) [] a b = absurd b
shared_close [] (z ∷ q) (y ∷ c) a b = absurd a
shared_close (x ∷ p) [] [] a b = absurd a
shared_close (x ∷ p) [] (y ∷ c) a b = absurd b
shared_close (x ∷ p) (z ∷ q) [] a b = absurd a
shared_close (x ∷ p) (z ∷ q) (y ∷ c) a b = (let l = a.0 in let m = b.0 in omega (arith, ints, l, m), shared_close p q c a.1 b.1)

-- the middle of a cube is a cell of no other cube
pub own_alone : (p q : Point) → IsCellOf q (doubled p) → q ≡ p
own_alone [] [] h = refl
own_alone [] (z ∷ q) h = absurd h
own_alone (x ∷ p) [] h = absurd h
own_alone (x ∷ p) (z ∷ q) h =
    let l = h.0 in
    let f : z ≡ x = omega (arith, ints, l) in
    let r = own_alone p q h.1 in
    λ i. f i ∷ r i
