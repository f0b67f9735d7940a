-- Coordinates of points of the greatest box, the row of a pair of them, and the rows of a list of pairs.
-- The loop over the pairs stands elsewhere.
use Rattle.std.proofs.Common.{◌≡◌, ℕ, zero, suc, ◌<◌, ◌≤◌, ◌⊎◌, inl, inr, List, [], ◌∷◌, length, map, get_or, ap, sym, subst, arith}
use Rattle.std.specs.Prelude.{ℤ, pos, ◌-ℤ◌, ◌≤ℤ◌, unsigned_abs, All}
use Rattle.std.proofs.lemmas.Int.{ints}
use Rattle.std.proofs.lemmas.List.{length-map, get_or_past}
use Rattle.shape_terms.specs.Limits.{most_flat, most_solid}
use Rattle.shape_terms.specs.Points.{Point, coordinate}
use Rattle.shape_terms.specs.Refutations.{point_at}
use Rattle.shape_plane.specs.declared.pair.Pair.{Pair}
use Rattle.shape_plane.specs.declared.row.Cause.{Cause}
use Rattle.shape_plane.specs.Rows.{IsSmall, IsSteep}
use Rattle.shape_plane.specs.Pairs.{AreInside, IsPair, ArePairs, second_axis, gap}

pub point_long : {Q : Type 0} (f : Q → Point) (d : ℕ) → ((q : Q) → length (f q) ≡ d) → (points : List Q) (i : ℕ) → i < length points
    → length (point_at (map f points) i) ≡ d
point_long f d a [] i h = absurd (omega arith)
point_long f d a (p ∷ points) zero h = a p
point_long f d a (p ∷ points) (suc i) h = point_long f d a points i (omega arith)

-- a coordinate of a point of the greatest box
pub within : {Q : Type 0} (f : Q → Point) (d : ℕ) (greatest : ℤ) (points : List Q) (i k : ℕ) → ((q : Q) → length (f q) ≡ d) → i < length points → k < d
    → AreInside greatest (map f points)
    → (pos 0 ≤ℤ coordinate (point_at (map f points) i) k) × (coordinate (point_at (map f points) i) k ≤ℤ (greatest -ℤ pos 1))
within f d greatest points i k a h l inside = inside i [] (omega (arith, h, length-map points f)) k (omega (arith, l, point_long f d a points i h))

-- there is none past the last axis
pub past : {Q : Type 0} (f : Q → Point) (d : ℕ) (points : List Q) (i k : ℕ) → ((q : Q) → length (f q) ≡ d) → i < length points → d ≤ k
    → coordinate (point_at (map f points) i) k ≡ pos 0
past f d points i k a h l = get_or_past (point_at (map f points) i) k (pos 0) (omega (arith, l, point_long f d a points i h))

pub no_gap : {Q : Type 0} (f : Q → Point) (d t : ℕ) (points : List Q) (pair : Pair) → ((q : Q) → length (f q) ≡ d) → IsPair (length points) pair → d ≡ 2 → t < d
    → gap (map f points) pair (second_axis t) ≡ pos 0
no_gap f d t points pair a p e l =
    let k : d ≤ second_axis t = above t (omega (arith, e, l)) in
    let x = past f d points pair.high (second_axis t) a p.1 k in
    let y = past f d points pair.low (second_axis t) a p.0 k in
    omega (arith, ints, x, y)
  where
    above : (t : ℕ) → t < 2 → d ≤ second_axis t
    above zero h = omega (arith, e)
    above (suc zero) h = omega (arith, e)
    above (suc (suc t)) h = absurd (omega arith)

pub small_row : (d : ℕ) (greatest x y z w : ℤ) (c : Cause) → (d ≡ 2) ⊎ (d ≡ 3) → greatest ≤ℤ pos most_flat → (d ≡ 3 → greatest ≤ℤ pos most_solid)
    → (d ≡ 2 → y ≡ pos 0)
    → pos (unsigned_abs x) ≤ℤ (greatest -ℤ pos 1) → pos (unsigned_abs y) ≤ℤ (greatest -ℤ pos 1) → pos (unsigned_abs z) ≤ℤ (greatest -ℤ pos 1) → w ≡ z -ℤ pos 1
    → IsSmall (record { x = x; y = y; z = w; cause = c })
small_row d greatest x y z w c two g3 solid flat hx hy hz e = record {
  x_small = omega (arith, ints, hx, g3);
  z_small = omega (arith, ints, hz, g3, e);
  steep = λ n. by_axes two n;
}
  where
    by_axes : (d ≡ 2) ⊎ (d ≡ 3) → (y ≡ pos 0 → ⊥) → IsSteep (record { x = x; y = y; z = w; cause = c })
    by_axes (inl h) n = absurd (n (flat h))
    by_axes (inr h) n = let s = solid h in
        record { x_small = omega (arith, ints, hx, s); y_small = omega (arith, ints, hy, s); z_small = omega (arith, ints, hz, s, e) }

-- the point at a place, as it was read
pub point_read : {Q : Type 0} (f : Q → Point) (points : List Q) (i : ℕ) (q : Q) → q ≡ get_or points i q → i < length points → point_at (map f points) i ≡ f q
point_read f [] i q e h = absurd (omega arith)
point_read f (p ∷ points) zero q e h = ap f (sym e)
point_read f (p ∷ points) (suc i) q e h = point_read f points i q e (omega arith)

pub no_gap_at : {Q : Type 0} (f : Q → Point) (d t v : ℕ) (points : List Q) (pair : Pair) → ((q : Q) → length (f q) ≡ d) → IsPair (length points) pair → d ≡ 2
    → t < d → v ≡ second_axis t → gap (map f points) pair v ≡ pos 0
no_gap_at f d t v points pair a p e l s = subst (λ (k : ℕ). gap (map f points) pair k ≡ pos 0) (sym s) (no_gap f d t points pair a p e l)

-- the points of each pair have a coordinate on each axis
pub long_pairs : {Q : Type 0} (f : Q → Point) (d : ℕ) (points : List Q) (pairs : List Pair) → ((q : Q) → length (f q) ≡ d) → ArePairs (length points) pairs
    → All (λ (pair : Pair). (length (point_at (map f points) pair.low) ≡ d) × (length (point_at (map f points) pair.high) ≡ d)) pairs
long_pairs f d points pairs a h k e l =
    (point_long f d a points (get_or pairs k e).low (h k e l).0, point_long f d a points (get_or pairs k e).high (h k e l).1)

-- ---- the rows of a list of pairs
