-- What is counted round a point, and where it lies in the box: one neighbour more, one axis more.
-- Plain points and pictures alone stand here.
use Rattle.std.proofs.Common.{◌≡◌, ◌+◌, ◌<◌, ℕ, Bool, true, false, ℤ, pos, ◌≤ℤ◌, [], ◌∷◌, ◌++◌, length, get_or, take, refl, sym, ap, ◌∙◌, arith}
use Rattle.std.specs.Prelude.{not, IsTrue, nat_abs, count_by, ◌||◌}
use Rattle.std.specs.List.{range_with_len, list_any}
use Rattle.std.proofs.Math.ListN as ListN
use Rattle.std.proofs.lemmas.Int.{ints}
use Rattle.std.proofs.lemmas.List.{get_or-map, map-id, length-map}
use Rattle.std.proofs.lemmas.List.Sums.{count_by_more_yes, count_by_more_no}
use Rattle.std.proofs.lemmas.List.Folds.{list_any-append}
use Rattle.std.proofs.lemmas.List.FromFn.{map-range_with_len_more}
use Rattle.shape_terms.specs.Limits.{most_flat, most_coordinate}
use Rattle.shape_terms.specs.Points.{Point, coordinate, AreSides, sides_of, in_box}
use Rattle.shape_terms.specs.Pictures.{Picture, at}
use Rattle.shape_terms.specs.Adjacency.{moved, near_steps, near_point, near_points, side_steps, side_point, side_points}
use Rattle.shape_terms.proofs.Boxes.{in_box_coordinate, abs_is}

-- a coordinate of a point of the box is a small natural
pub place_small : (greatest : ℤ) (ns p : Point) (k : ℕ) (r : ℤ) → AreSides greatest ns → greatest ≤ℤ pos most_flat → IsTrue (in_box (sides_of ns) p)
    → k < length ns → r ≡ coordinate p k → (pos 0 ≤ℤ r) × (nat_abs r < most_coordinate)
place_small g ns p k r a most h l e =
    let c = in_box_coordinate ns p g a h k l in
    let low : pos 0 ≤ℤ r = rw e c.0 in
    let high = (a k l).1 in
    let is = abs_is r low in
    (low, omega (arith, ints, c.1, high, is))

-- ---- neighbours

neighbour_is : (p : Point) (k : ℕ) → k < length (near_steps (length p)) → get_or (near_points p) k [] ≡ near_point p k
neighbour_is p k l = get_or-map (moved p) (near_steps (length p)) k [] [] l

pub one_neighbour_more : (X : Picture) (p q : Point) (k n : ℕ) → k < length (near_steps (length p)) → q ≡ near_point p k → at X q ≡ true
    → n ≡ count_by (at X) (take k (near_points p)) → n + 1 ≡ count_by (at X) (take (k + 1) (near_points p))
one_neighbour_more X p q k n l e t h =
    let m : k < length (near_points p) = omega (arith, length-map (near_steps (length p)) (moved p)) in
    let u : at X (get_or (near_points p) k []) ≡ true = ap (at X) (neighbour_is p k l ∙ sym e) ∙ t in
    omega (arith, h, count_by_more_yes (at X) (near_points p) k [] m u)

pub no_neighbour_more : (X : Picture) (p q : Point) (k n : ℕ) → k < length (near_steps (length p)) → q ≡ near_point p k → at X q ≡ false
    → n ≡ count_by (at X) (take k (near_points p)) → n ≡ count_by (at X) (take (k + 1) (near_points p))
no_neighbour_more X p q k n l e t h =
    let m : k < length (near_points p) = omega (arith, length-map (near_steps (length p)) (moved p)) in
    let u : at X (get_or (near_points p) k []) ≡ false = ap (at X) (neighbour_is p k l ∙ sym e) ∙ t in
    omega (arith, h, count_by_more_no (at X) (near_points p) k [] m u)

beside_is : (p : Point) (k : ℕ) → k < length (side_steps (length p)) → get_or (side_points p) k [] ≡ side_point p k
beside_is p k l = get_or-map (moved p) (side_steps (length p)) k [] [] l

-- one side neighbour more, which counts where it is not object
pub one_side_more : (X : Picture) (p q : Point) (k n : ℕ) → k < length (side_steps (length p)) → q ≡ side_point p k → at X q ≡ false
    → n ≡ count_by (λ r. not (at X r)) (take k (side_points p)) → n + 1 ≡ count_by (λ r. not (at X r)) (take (k + 1) (side_points p))
one_side_more X p q k n l e t h =
    let m : k < length (side_points p) = omega (arith, length-map (side_steps (length p)) (moved p)) in
    let u : not (at X (get_or (side_points p) k [])) ≡ true = ap (λ r. not (at X r)) (beside_is p k l ∙ sym e) ∙ ap not t in
    omega (arith, h, count_by_more_yes (λ r. not (at X r)) (side_points p) k [] m u)

pub no_side_more : (X : Picture) (p q : Point) (k n : ℕ) → k < length (side_steps (length p)) → q ≡ side_point p k → at X q ≡ true
    → n ≡ count_by (λ r. not (at X r)) (take k (side_points p)) → n ≡ count_by (λ r. not (at X r)) (take (k + 1) (side_points p))
no_side_more X p q k n l e t h =
    let m : k < length (side_points p) = omega (arith, length-map (side_steps (length p)) (moved p)) in
    let u : not (at X (get_or (side_points p) k [])) ≡ false = ap (λ r. not (at X r)) (beside_is p k l ∙ sym e) ∙ ap not t in
    omega (arith, h, count_by_more_no (λ r. not (at X r)) (side_points p) k [] m u)

-- ---- the border of the box

-- the side of a box on an axis
pub side_is : (ns : Point) (k : ℕ) → get_or (sides_of ns) k 0 ≡ nat_abs (coordinate ns k)
side_is ns k = ListN.get_or-map nat_abs ns k (pos 0)

range_more : (k : ℕ) → range_with_len 0 (k + 1) ≡ range_with_len 0 k ++ k ∷ []
range_more k = sym (map-id (range_with_len 0 (k + 1))) ∙ map-range_with_len_more (λ x. x) 0 k k (omega arith)
    ∙ ap (λ t. t ++ k ∷ []) (map-id (range_with_len 0 k))

-- one axis more
pub axis_more : (f : ℕ → Bool) (k : ℕ) → list_any f (range_with_len 0 (k + 1)) ≡ (list_any f (range_with_len 0 k) || f k)
axis_more f k = ap (list_any f) (range_more k) ∙ list_any-append f (range_with_len 0 k) (k ∷ [])
    ∙ ap (λ b. list_any f (range_with_len 0 k) || b) (or_false (f k))
  where
    or_false : (b : Bool) → (b || false) ≡ b
    or_false true = refl
    or_false false = refl
