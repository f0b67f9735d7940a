-- One axis more in the loops over the sides of a box.
-- Counts and raster numbers are built from the last axis to the first, points from the first to the last.
use Rattle.std.proofs.Common.{◌≡◌, ◌⊎◌, inl, inr, ◌+◌, ◌*◌, ◌<◌, ◌≤◌, ℕ, zero, suc, false, ℤ, pos, ◌≤ℤ◌, ◌<ℤ◌, [], ◌∷◌, ◌++◌, length, take, drop, refl, sym}
use Rattle.std.proofs.Common.{◌∙◌, arith, mul_comm}
use Rattle.std.specs.Prelude.{nat_abs, IsTrue}
use Rattle.std.proofs.lemmas.Int.{ints}
use Rattle.std.proofs.lemmas.Bool.{false_from_ne_true}
use Rattle.std.proofs.lemmas.Nat.{mul-le}
use Rattle.std.proofs.lemmas.List.{drop_more, append-nil, take_all, drop_all}
use Rattle.shape_terms.specs.Points.{Point, coordinate, AreSides, sides_of, in_box, raster_number, raster_point, box_count}
use Rattle.shape_terms.proofs.Boxes.{in_box_first, in_box_coordinate, raster_below, abs_low}

-- ---- counts

pub box_count_step : (ns : Point) (k j n : ℕ) (r : ℤ) → k ≡ j + 1 → j < length ns → n ≡ box_count (sides_of (drop k ns)) → r ≡ coordinate ns j
    → n * nat_abs r ≡ box_count (sides_of (drop j ns))
box_count_step ns k j n r e l h a =
    rw (h, a, e, drop_more ns j (pos 0) l) (mul_comm (box_count (sides_of (drop (j + 1) ns))) (nat_abs (coordinate ns j)))

pub fewer_points : (greatest : ℤ) (ns : Point) (k : ℕ) → AreSides greatest ns → box_count (sides_of (drop k ns)) ≤ box_count (sides_of ns)
fewer_points g ns zero h = omega arith
fewer_points g [] (suc k) h = omega arith
fewer_points g (n ∷ ns) (suc k) h =
    let one : 1 ≤ nat_abs n = abs_low n 1 (h 0 (omega arith)).0 in
    let r : 1 * box_count (sides_of ns) ≤ nat_abs n * box_count (sides_of ns) = mul-le 1 (box_count (sides_of ns)) (nat_abs n) (box_count (sides_of ns)) one
    (omega arith) in
    omega (arith, fewer_points g ns k (λ i l. h (suc i) (omega arith)))

-- ---- raster numbers

pub raster_step : (ns p : Point) (k j i : ℕ) (r x : ℤ) → k ≡ j + 1 → j < length ns → length p ≡ length ns → i ≡ raster_number (sides_of (drop k ns)) (drop k p)
    → r ≡ coordinate ns j → x ≡ coordinate p j
    → i * nat_abs r + nat_abs x ≡ raster_number (sides_of (drop j ns)) (drop j p)
raster_step ns p k j i r x e l m h a b =
    rw (h, a, b, e, drop_more ns j (pos 0) l, drop_more p j (pos 0) (omega arith))
    (turned (raster_number (sides_of (drop (j + 1) ns)) (drop (j + 1) p)) (nat_abs (coordinate ns j)) (nat_abs (coordinate p j)))
  where
    turned : (m n y : ℕ) → m * n + y ≡ y + n * m
    turned m n y = omega (arith, mul_comm m n)

in_box_drop : (ns p : Point) (j : ℕ) → IsTrue (in_box (sides_of ns) p) → IsTrue (in_box (sides_of (drop j ns)) (drop j p))
in_box_drop ns p zero h = h
in_box_drop [] [] (suc j) h = refl
in_box_drop [] (x ∷ p) (suc j) h = cc
in_box_drop (n ∷ ns) [] (suc j) h = cc
in_box_drop (n ∷ ns) (x ∷ p) (suc j) h = in_box_drop ns p j (in_box_first (nat_abs n) (sides_of ns) x p h).2

pub raster_part : (greatest : ℤ) (ns p : Point) (k j i : ℕ) (r x : ℤ) → k ≡ j + 1 → j < length ns → length p ≡ length ns
    → i ≡ raster_number (sides_of (drop k ns)) (drop k p) → r ≡ coordinate ns j → x ≡ coordinate p j
    → IsTrue (in_box (sides_of ns) p) → AreSides greatest ns → i * nat_abs r + nat_abs x < box_count (sides_of ns)
raster_part g ns p k j i r x e l m h a b ins sides =
    let s = raster_step ns p k j i r x e l m h a b in
    let t = raster_below (sides_of (drop j ns)) (drop j p) (in_box_drop ns p j ins) in
    omega (arith, s, t, fewer_points g ns j sides)

-- ---- points

pub raster_point_done : (ns p : Point) (k left i : ℕ) → length p ≡ length ns → length ns ≤ k
    → take k p ++ raster_point (sides_of (drop k ns)) left ≡ raster_point (sides_of ns) i → p ≡ raster_point (sides_of ns) i
raster_point_done ns p k left i e l h =
    sym (append-nil p) ∙ rw (take_all k p (omega arith), drop_all k ns l) at h

-- ---- the test of a point

pub out_of_box : (greatest : ℤ) (ns p : Point) (k : ℕ) → AreSides greatest ns → k < length ns → (coordinate p k <ℤ pos 0) ⊎ (coordinate ns k ≤ℤ coordinate p k)
    → in_box (sides_of ns) p ≡ false
out_of_box g ns p k sides l out = false_from_ne_true (in_box (sides_of ns) p) (λ h.
    let c = in_box_coordinate ns p g sides h k l in
    elim out [ inl a ↦ omega (arith, ints) | inr a ↦ omega (arith, ints) ])
