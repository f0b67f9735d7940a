-- The framed box by coordinates and by numbers: the numbers of its points are those below its count, each once.
-- Laws over sides and points alone.
use Rattle.std.proofs.Common.{◌≡◌, ◌⊎◌, inl, inr, ◌+◌, ◌*◌, ◌<◌, ℕ, zero, suc, false, ℤ, pos, negsuc, ◌+ℤ◌, ◌-ℤ◌, ◌≤ℤ◌, ◌<ℤ◌, List, [], ◌∷◌, length, map, drop}
use Rattle.std.proofs.Common.{refl, arith, mul_comm}
use Rattle.std.specs.Prelude.{nat_abs, IsTrue}
use Rattle.std.proofs.lemmas.Int.{ints}
use Rattle.std.proofs.lemmas.Bool.{false_from_ne_true}
use Rattle.std.proofs.lemmas.List.{drop_more}
use Rattle.shape_terms.specs.Points.{Point, coordinate, AreSides, sides_of, box_count, raster_point}
use Rattle.shape_terms.specs.FramedBox.{framed_sides, framed_point}
use Rattle.shape_terms.specs.Parts.{InFrame}
use Rattle.shape_terms.proofs.Boxes.{abs_is, in_box_first, in_box_more, raster_below, raster_point_in, raster_number-raster_point, raster_point-raster_number}
use Rattle.shape_terms.proofs.FramedBoxes.{fewer_framed}
use Rattle.shape_terms.specs.Places.{raised, in_frame, framed_number}

-- ---- the box by coordinates

pub in_frame_first : (n : ℕ) (sides : List ℕ) (x : ℤ) (p : Point) → IsTrue (in_frame (n ∷ sides) (x ∷ p))
    → (negsuc 0 ≤ℤ x) × (x ≤ℤ pos n) × IsTrue (in_frame sides p)
in_frame_first n sides x p h =
    let f = in_box_first (n + 2) (framed_sides sides) (x +ℤ pos 1) (raised p) h in
    let is = abs_is (x +ℤ pos 1) f.0 in
    let l = f.1 in
    (omega (arith, ints, f.0), omega (arith, ints), f.2)

pub in_frame_more : (n : ℕ) (sides : List ℕ) (x : ℤ) (p : Point) → negsuc 0 ≤ℤ x → x ≤ℤ pos n → IsTrue (in_frame sides p)
    → IsTrue (in_frame (n ∷ sides) (x ∷ p))
in_frame_more n sides x p l h r =
    let is = abs_is (x +ℤ pos 1) (omega (arith, ints)) in
    in_box_more (n + 2) (framed_sides sides) (x +ℤ pos 1) (raised p) (omega (arith, ints)) (omega (arith, ints)) r

-- the point is in the framed box where each coordinate is from -1 up to the side
pub in_frame_by : (ns p : Point) → length p ≡ length ns → ((k : ℕ) → k < length ns → (negsuc 0 ≤ℤ coordinate p k) × (coordinate p k ≤ℤ coordinate ns k))
    → IsTrue (in_frame (sides_of ns) p)
in_frame_by [] [] e h = refl
in_frame_by [] (x ∷ p) e h = absurd (omega arith)
in_frame_by (n ∷ ns) [] e h = absurd (omega arith)
in_frame_by (n ∷ ns) (x ∷ p) e h =
    let f = h 0 (omega arith) in
    in_frame_more (nat_abs n) (sides_of ns) x p f.0 (at_most n x f.1) (in_frame_by ns p (omega arith) (λ k l. h (suc k) (omega arith)))
  where
    at_most : (n x : ℤ) → x ≤ℤ n → x ≤ℤ pos (nat_abs n)
    at_most (pos n) x h = h
    at_most (negsuc n) x h = omega (arith, ints)

-- and only there
pub in_frame_coordinate : (greatest : ℤ) (ns p : Point) (k : ℕ) → AreSides greatest ns → k < length ns → IsTrue (in_frame (sides_of ns) p)
    → (negsuc 0 ≤ℤ coordinate p k) × (coordinate p k ≤ℤ coordinate ns k)
in_frame_coordinate g [] p k a l h = absurd (omega arith)
in_frame_coordinate g (n ∷ ns) [] k a l h = cc
in_frame_coordinate g (n ∷ ns) (x ∷ p) zero a l h =
    let f = in_frame_first (nat_abs n) (sides_of ns) x p h in
    let one = (a 0 (omega arith)).0 in
    let is = abs_is n (omega (arith, ints)) in
    (f.0, omega (arith, ints, f.1))
in_frame_coordinate g (n ∷ ns) (x ∷ p) (suc k) a l h =
    in_frame_coordinate g ns p k (λ j m. a (suc j) (omega arith)) (omega arith) (in_frame_first (nat_abs n) (sides_of ns) x p h).2

pub out_of_frame : (greatest : ℤ) (ns p : Point) (k : ℕ) → AreSides greatest ns → k < length ns
    → (coordinate p k <ℤ negsuc 0) ⊎ (coordinate ns k <ℤ coordinate p k) → in_frame (sides_of ns) p ≡ false
out_of_frame g ns p k sides l out = false_from_ne_true (in_frame (sides_of ns) p) (λ h.
    let c = in_frame_coordinate g ns p k sides l h in
    elim out [ inl a ↦ omega (arith, ints, c.0) | inr a ↦ omega (arith, ints, c.1) ])

-- the test says what the set of points is
pub frame_tested : (sides : List ℕ) (p : Point) → InFrame sides p → IsTrue (in_frame sides p)
frame_tested [] [] h = refl
frame_tested [] (x ∷ p) h = absurd h
frame_tested (n ∷ sides) [] h = absurd h
frame_tested (n ∷ sides) (x ∷ p) h = in_frame_more n sides x p h.0.0 h.0.1 (frame_tested sides p h.1)

pub frame_is : (sides : List ℕ) (p : Point) → IsTrue (in_frame sides p) → InFrame sides p
frame_is [] [] h = tt
frame_is [] (x ∷ p) h = cc
frame_is (n ∷ sides) [] h = cc
frame_is (n ∷ sides) (x ∷ p) h = let f = in_frame_first n sides x p h in ((f.0, f.1), frame_is sides p f.2)

-- ---- numbers

lowered-raised : (p : Point) → map (λ x. x -ℤ pos 1) (raised p) ≡ p
lowered-raised [] = refl
lowered-raised (x ∷ p) =
    let e : (x +ℤ pos 1) -ℤ pos 1 ≡ x = omega (arith, ints) in
    rw (e, lowered-raised p) refl

raised-lowered : (p : Point) → raised (map (λ x. x -ℤ pos 1) p) ≡ p
raised-lowered [] = refl
raised-lowered (x ∷ p) =
    let e : (x -ℤ pos 1) +ℤ pos 1 ≡ x = omega (arith, ints) in
    rw (e, raised-lowered p) refl

pub framed_number_below : (sides : List ℕ) (p : Point) → IsTrue (in_frame sides p) → framed_number sides p < box_count (framed_sides sides)
framed_number_below sides p h = raster_below (framed_sides sides) (raised p) h

pub framed_point-framed_number : (sides : List ℕ) (p : Point) → IsTrue (in_frame sides p) → framed_point sides (framed_number sides p) ≡ p
framed_point-framed_number sides p h = rw (raster_point-raster_number (framed_sides sides) (raised p) h) (lowered-raised p)

pub framed_point_in : (sides : List ℕ) (i : ℕ) → i < box_count (framed_sides sides) → IsTrue (in_frame sides (framed_point sides i))
framed_point_in sides i l = rw (raised-lowered (raster_point (framed_sides sides) i)) (raster_point_in (framed_sides sides) i l)

pub framed_number-framed_point : (sides : List ℕ) (i : ℕ) → i < box_count (framed_sides sides) → framed_number sides (framed_point sides i) ≡ i
framed_number-framed_point sides i l = rw (raised-lowered (raster_point (framed_sides sides) i)) (raster_number-raster_point (framed_sides sides) i l)

-- ---- one axis more in the loop over the axes, from the last to the first

pub framed_number_step : (ns p : Point) (k j i w : ℕ) (x : ℤ) → k ≡ j + 1 → j < length ns → length p ≡ length ns
    → i ≡ framed_number (sides_of (drop k ns)) (drop k p) → w ≡ nat_abs (coordinate ns j) + 2 → x ≡ coordinate p j
    → i * w + nat_abs (x +ℤ pos 1) ≡ framed_number (sides_of (drop j ns)) (drop j p)
framed_number_step ns p k j i w x e l m h a b =
    rw (h, a, b, e, drop_more ns j (pos 0) l, drop_more p j (pos 0) (omega arith))
    (turned (framed_number (sides_of (drop (j + 1) ns)) (drop (j + 1) p)) (nat_abs (coordinate ns j) + 2) (nat_abs (coordinate p j +ℤ pos 1)))
  where
    turned : (m n y : ℕ) → m * n + y ≡ y + n * m
    turned m n y = omega (arith, mul_comm m n)

in_frame_drop : (ns p : Point) (j : ℕ) → IsTrue (in_frame (sides_of ns) p) → IsTrue (in_frame (sides_of (drop j ns)) (drop j p))
in_frame_drop ns p zero h = h
in_frame_drop [] [] (suc j) h = refl
in_frame_drop [] (x ∷ p) (suc j) h = cc
in_frame_drop (n ∷ ns) [] (suc j) h = cc
in_frame_drop (n ∷ ns) (x ∷ p) (suc j) h = in_frame_drop ns p j (in_frame_first (nat_abs n) (sides_of ns) x p h).2

pub framed_number_part : (ns p : Point) (k j i w : ℕ) (x : ℤ) → k ≡ j + 1 → j < length ns → length p ≡ length ns
    → i ≡ framed_number (sides_of (drop k ns)) (drop k p) → w ≡ nat_abs (coordinate ns j) + 2 → x ≡ coordinate p j
    → IsTrue (in_frame (sides_of ns) p) → i * w + nat_abs (x +ℤ pos 1) < box_count (framed_sides (sides_of ns))
framed_number_part ns p k j i w x e l m h a b ins =
    let s = framed_number_step ns p k j i w x e l m h a b in
    let t = framed_number_below (sides_of (drop j ns)) (drop j p) (in_frame_drop ns p j ins) in
    omega (arith, s, t, fewer_framed ns j)
