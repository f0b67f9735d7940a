-- The area of a hull is not below 0: it is that of the triangles of its first vertex and each side, and none of them turns right.
-- Sums over places alone.
use Rattle.std.proofs.Common.{◌≡◌, ℕ, zero, suc, ◌+◌, ◌-◌, ◌<◌, ◌≤◌, List, length, ap, subst, add-one, arith}
use Rattle.std.proofs.Math.IntN.{ℤ, pos, ◌+ℤ◌, ◌-ℤ◌, ◌*ℤ◌}
use lib.Signed.{◌<ℤ◌, ◌≤ℤ◌}
use Rattle.std.proofs.lemmas.Int.{ints}
use Rattle.std.proofs.lemmas.Bool.Decides.{nat_tests}
use Rattle.shape_terms.proofs.Products.{rings}
use Rattle.measure_terms.specs.Hulls.{Corner, IsHull, end, next, turn, vertex}
use Rattle.measure_terms.specs.Polygons.{double_area, side_area, sum_below}
use Rattle.measure_terms.proofs.Turns.{det, swap, less_left, less_right}

-- the triangle of a corner and a side
triangle : (o p q : Corner) → turn p q o ≡ side_area p q -ℤ (side_area o q -ℤ side_area o p)
triangle o p q = split p.x p.y q.x q.y o.x o.y
  where
    split : (px py qx qy ox oy : ℤ) → det (qx -ℤ px) (qy -ℤ py) (ox -ℤ px) (oy -ℤ py) ≡ det px py qx qy -ℤ (det ox oy qx qy -ℤ det ox oy px py)
    split px py qx qy ox oy =
        let a = less_left qx qy px py (ox -ℤ px) (oy -ℤ py) in
        let b = less_right ox oy px py qx qy in
        let c = less_right ox oy px py px py in
        let d = swap qx qy ox oy in
        let e = swap qx qy px py in
        let f = swap px py ox oy in
        let g = swap px py px py in
        omega (arith, ints, a, b, c, d, e, f, g)

no_area : (p : Corner) → side_area p p ≡ pos 0
no_area p = omega (arith, ints, rings)

more : (s a b d t : ℤ) → pos 0 ≤ℤ (s -ℤ a) → t ≡ d -ℤ (b -ℤ a) → pos 0 ≤ℤ t → pos 0 ≤ℤ ((s +ℤ d) -ℤ b)
more s a b d t h e l = omega (arith, ints, h, e, l)

none : (z : ℤ) → z ≡ pos 0 → pos 0 ≤ℤ (pos 0 -ℤ z)
none z e = omega (arith, ints, e)

within : (n i : ℕ) → i + 1 < n → next n i ≡ i + 1
within n i l = grind (arith, nat_tests)

back : (n i : ℕ) → i + 1 ≡ n → next n i ≡ 0
back n i e = grind (arith, nat_tests)

module _ (S : Corner → Type 0) (h : List Corner) (is : IsHull S h) where
  abbrev o : Corner
  o = vertex h 0

  abbrev side : ℕ → ℤ
  side i = side_area (vertex h i) (end h i)

  some : 1 ≤ length h
  some = let w = is.once.within in omega (arith, w)

  -- one triangle more
  step : (i : ℕ) → i < length h → pos 0 ≤ℤ (sum_below side i -ℤ side_area o (vertex h i)) → pos 0 ≤ℤ (sum_below side (suc i) -ℤ side_area o (end h i))
  step i l k = more (sum_below side i) (side_area o (vertex h i)) (side_area o (end h i)) (side i) (turn (vertex h i) (end h i) o) k
      (triangle o (vertex h i) (end h i)) (is.left i o l (is.of 0 some))

  -- the triangles before a place
  up_to : (i : ℕ) → i < length h → pos 0 ≤ℤ (sum_below side i -ℤ side_area o (vertex h i))
  up_to zero l = none (side_area o o) (no_area o)
  up_to (suc i) l = (let m : i + 1 < length h = omega (arith, l) in
      let e : next (length h) i ≡ suc i = (let f = within (length h) i m in omega (arith, f)) in
      subst (λ k. pos 0 ≤ℤ (sum_below side (suc i) -ℤ side_area o (vertex h k))) e (step i (omega (arith, l)) (up_to i (omega (arith, l)))))

  pub area_sign : pos 0 ≤ℤ double_area h
  area_sign =
      let n = length h - 1 in
      let l : n < length h = omega (arith, some) in
      let m : suc n ≡ length h = omega (arith, some) in
      let e : next (length h) n ≡ 0 = back (length h) n (omega (arith, m)) in
      let a = subst (λ k. pos 0 ≤ℤ (sum_below side (suc n) -ℤ side_area o (vertex h k))) e (step n l (up_to n l)) in
      let b = subst (λ k. pos 0 ≤ℤ (sum_below side k -ℤ side_area o o)) m a in
      let z = no_area o in
      omega (arith, ints, b, z)
