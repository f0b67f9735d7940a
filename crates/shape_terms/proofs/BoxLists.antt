-- The list of the points of a box, in raster order, and the object points among them.
use Rattle.std.proofs.Common.{◌≡◌, ◌+◌, ◌*◌, ◌<◌, ◌≤◌, ℕ, zero, suc, Bool, true, false, pos, List, [], ◌∷◌, ◌++◌, length, get_or, drop, drop-cons, map, inl}
use Rattle.std.proofs.Common.{inr, refl, sym, ap, ◌∙◌, arith, mul_comm}
use Rattle.std.specs.Prelude.{filter, count_by, IsTrue, All}
use Rattle.std.specs.List.{range_with_len, flat_map}
use Rattle.std.proofs.lemmas.Bool.{cond-true, cond-false, cases_Bool}
use Rattle.std.proofs.lemmas.List.{map-append, get_or_default, same_lists, length-map, get_or-map}
use Rattle.std.proofs.lemmas.List.FromFn.{length-map-range_with_len, get_or-map-range_with_len}
use Rattle.std.proofs.lemmas.List.Sums.{length-filter, count_by-le-length}
use Rattle.std.proofs.lemmas.List.Elements.{filter_passes}
use Rattle.shape_terms.specs.Points.{Point, raster_point, box_points, box_count}
use Rattle.shape_terms.specs.Pictures.{Picture, at, object_points, objects_from}
use Rattle.shape_terms.proofs.Boxes.{raster_point_in, raster_number-raster_point, mod_of, div_of}

-- ---- the list of the points

range-append : (a j k : ℕ) → range_with_len a (j + k) ≡ range_with_len a j ++ range_with_len (a + j) k
range-append a zero k = let e : 0 + k ≡ k = omega arith in let f : a + 0 ≡ a = omega arith in rw (e, f) refl
range-append a (suc j) k =
    let e : suc j + k ≡ suc (j + k) = omega arith in
    let f : a + suc j ≡ a + 1 + j = omega arith in
    rw (e, f) (ap (λ l. a ∷ l) (range-append (a + 1) j k))

-- a part of a row of the box
row : (n : ℕ) (sides : List ℕ) (a j k : ℕ) → j + k ≤ n
    → map (λ x. pos x ∷ raster_point sides a) (range_with_len j k) ≡ map (raster_point (n ∷ sides)) (range_with_len (j + n * a) k)
row n sides a j zero h = refl
row n sides a j (suc k) h =
    let r = row n sides a (j + 1) k (omega arith) in
    let e : j + 1 + n * a ≡ j + n * a + 1 = omega arith in
    let r2 : map (λ x. pos x ∷ raster_point sides a) (range_with_len (j + 1) k) ≡ map (raster_point (n ∷ sides)) (range_with_len (j + n * a + 1) k) =
    rw e at r in
    rw (mod_of n j a (omega arith), div_of n j a (omega arith)) (ap (λ l. (pos j ∷ raster_point sides a) ∷ l) r2)

rows : (n : ℕ) (sides : List ℕ) (a m : ℕ) → flat_map (λ p. map (λ x. pos x ∷ p) (range_with_len 0 n)) (map (raster_point sides) (range_with_len a m))
    ≡ map (raster_point (n ∷ sides)) (range_with_len (n * a) (n * m))
rows n sides a zero = let e : n * 0 ≡ 0 = omega arith in rw e refl
rows n sides a (suc m) =
    let e : n * suc m ≡ n + n * m = omega (arith, mul_comm n (suc m), mul_comm n m) in
    let f : n * (a + 1) ≡ n * a + n = omega (arith, mul_comm n (a + 1), mul_comm n a) in
    let g : 0 + n * a ≡ n * a = omega arith in
    let first : map (λ x. pos x ∷ raster_point sides a) (range_with_len 0 n) ≡ map (raster_point (n ∷ sides)) (range_with_len (n * a) n) =
    rw g at (row n sides a 0 n (omega arith)) in
    let rest : flat_map (λ p. map (λ x. pos x ∷ p) (range_with_len 0 n)) (map (raster_point sides) (range_with_len (a + 1) m)) ≡ map (raster_point (n ∷ sides))
    (range_with_len (n * a + n) (n * m)) = rw f at (rows n sides (a + 1) m) in
    rw (e, range-append (n * a) n (n * m), map-append (raster_point (n ∷ sides)) (range_with_len (n * a) n) (range_with_len (n * a + n) (n * m)))
    (rw (first, rest) refl)

-- the points of the box are those with the numbers from 0 on
pub box_points_are : (sides : List ℕ) → box_points sides ≡ map (raster_point sides) (range_with_len 0 (box_count sides))
box_points_are [] = refl
box_points_are (n ∷ sides) =
    let e : n * 0 ≡ 0 = omega arith in
    rw (box_points_are sides) (rows n sides 0 (box_count sides) ∙ rw e refl)

pub length-box_points : (sides : List ℕ) → length (box_points sides) ≡ box_count sides
length-box_points sides = rw (box_points_are sides) (length-map-range_with_len (raster_point sides) 0 (box_count sides))

pub get_or-box_points : (sides : List ℕ) (i : ℕ) (d : Point) → i < box_count sides → get_or (box_points sides) i d ≡ raster_point sides i
get_or-box_points sides i d l = rw (box_points_are sides) (get_or-map-range_with_len (raster_point sides) 0 (box_count sides) i i d l (omega arith))

drop_box_points : (sides : List ℕ) (i : ℕ) → i < box_count sides → drop i (box_points sides) ≡ raster_point sides i ∷ drop (suc i) (box_points sides)
drop_box_points sides i l =
    let m : i < length (box_points sides) = omega (arith, length-box_points sides) in
    drop-cons (box_points sides) i [] m ∙ ap (λ p. p ∷ drop (suc i) (box_points sides)) (get_or-box_points sides i [] l)

-- ---- the values

pub at_raster_point : (X : Picture) (i : ℕ) → i < box_count X.sides → at X (raster_point X.sides i) ≡ get_or X.values i false
at_raster_point X i l = rw (raster_point_in X.sides i l, raster_number-raster_point X.sides i l) refl

-- the values of a picture are those of its box's points in raster order
pub values_are : (X : Picture) → length X.values ≡ box_count X.sides → map (at X) (box_points X.sides) ≡ X.values
values_are X e = same_lists (map (at X) (box_points X.sides)) X.values (length-map (box_points X.sides) (at X) ∙ length-box_points X.sides ∙ sym e) (λ k d l.
    let m : k < box_count X.sides = omega (arith, length-map (box_points X.sides) (at X), length-box_points X.sides) in
    get_or-map (at X) (box_points X.sides) k [] d (omega (arith, length-box_points X.sides))
    ∙ ap (at X) (get_or-box_points X.sides k [] m) ∙ at_raster_point X k m ∙ get_or_default X.values k false d (omega arith))

-- ---- the object points

pub objects_next : (X : Picture) (i : ℕ) → i < box_count X.sides → get_or X.values i false ≡ true
    → objects_from X i ≡ raster_point X.sides i ∷ objects_from X (i + 1)
objects_next X i l t =
    let e : i + 1 ≡ suc i = omega arith in
    rw (e, drop_box_points X.sides i l) (cond-true (at X (raster_point X.sides i)) _ _ (at_raster_point X i l ∙ t))

pub objects_skip : (X : Picture) (i : ℕ) → i < box_count X.sides → get_or X.values i false ≡ false → objects_from X i ≡ objects_from X (i + 1)
objects_skip X i l t =
    let e : i + 1 ≡ suc i = omega arith in
    rw (e, drop_box_points X.sides i l) (cond-false (at X (raster_point X.sides i)) _ _ (at_raster_point X i l ∙ t))

count_map : {A : Type 0} (p : A → Bool) (xs : List A) → length (filter p xs) ≡ length (filter (λ b. b) (map p xs))
count_map p [] = refl
count_map p (x ∷ xs) =
    let r = count_map p xs in
    elim (cases_Bool (p x)) [
      | inl t ↦ ap length (cond-true (p x) (x ∷ filter p xs) (filter p xs) t) ∙ ap suc r
          ∙ sym (ap length (cond-true (p x) (p x ∷ filter (λ b. b) (map p xs)) (filter (λ b. b) (map p xs)) t))
      | inr f ↦ ap length (cond-false (p x) (x ∷ filter p xs) (filter p xs) f) ∙ r
          ∙ sym (ap length (cond-false (p x) (p x ∷ filter (λ b. b) (map p xs)) (filter (λ b. b) (map p xs)) f))
    ]

-- as many points are object as values are true
pub object_count : (X : Picture) → length X.values ≡ box_count X.sides → length (object_points X) ≡ count_by (λ b. b) X.values
object_count X e = count_map (at X) (box_points X.sides) ∙ length-filter (λ b. b) (map (at X) (box_points X.sides)) ∙ ap (count_by (λ b. b)) (values_are X e)

pub objects_are : (X : Picture) → All (λ p. IsTrue (at X p)) (object_points X)
objects_are X = filter_passes (at X) (box_points X.sides)

-- no more points are object than the box has
pub few_objects : (X : Picture) → length (object_points X) ≤ box_count X.sides
few_objects X = omega (arith, length-filter (at X) (box_points X.sides), count_by-le-length (at X) (box_points X.sides), length-box_points X.sides)
