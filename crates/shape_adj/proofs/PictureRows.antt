-- The object and the background of a picture as nets of places in rows.
use Rattle.std.proofs.Common.{◌≡◌, ◌≢◌, ℕ, suc, ◌+◌, ◌*◌, ◌^◌, ◌<◌, ◌≤◌, Bool, List, [], ◌∷◌, length, slice_index, arith, refl, sym, ◌∙◌, ap, subst, inl, inr}
use Rattle.std.specs.Prelude.{ℤ, pos, ◌-ℤ◌, nat_abs}
use Rattle.std.specs.List.{AllZip}
use Rattle.std.proofs.lemmas.Int.{ints}
use Rattle.std.proofs.Math.IntN.{ℤ_discrete}
use mathlib.Core.List.{List-discrete}
use native.Mathlib.Decide.{dec_lt, ℕ_discrete}
use Rattle.std.proofs.Math.Nat.{mul-le-mul_left}
use Rattle.shape_terms.specs.Points.{Point, in_box, box_count, raster_number, raster_point}
use Rattle.shape_terms.specs.Pictures.{Picture}
use Rattle.shape_terms.specs.FramedBox.{framed_sides, framed_point}
use Rattle.shape_terms.specs.Adjacency.{Near, Side, city_distance, near_steps, side_steps, near_point, side_point}
use Rattle.shape_terms.specs.Places.{ObjectPlace, NearPlaces, BackgroundPlace, SidePlaces, in_frame, framed_number}
use Rattle.shape_terms.proofs.Boxes.{raster_below, raster_point_in, raster_number-raster_point, raster_point-raster_number}
use Rattle.shape_terms.proofs.AdjacencySymmetric.{near_sym, side_sym}
use Rattle.shape_terms.proofs.SideNeighbours.{city-cons}
use Rattle.shape_terms.proofs.NeighbourNumbers.{near_number, near_of_number, side_number, side_of_number}
use Rattle.shape_terms.proofs.ObjectPlaces.{length-raster_point}
use Rattle.shape_terms.proofs.FramedBoxes.{length-framed_point}
use Rattle.shape_terms.proofs.FramedNumbers.{framed_number_below, framed_point-framed_number, framed_point_in, framed_number-framed_point}
use Rattle.shape_adj.specs.RowNets.{IsRowNet}
use Rattle.shape_adj.specs.Beside.{object_beside, background_beside}
use Rattle.shape_adj.proofs.RowPlaces.{IsRowed, rows_net}

-- ---- the two adjacencies

close_itself : (p : Point) → AllZip (λ x y. nat_abs (x -ℤ y) ≤ 1) p p
close_itself [] = tt
close_itself (x ∷ p) = (itself x, close_itself p)
  where
    itself : (x : ℤ) → nat_abs (x -ℤ x) ≤ 1
    itself x = omega (arith, ints)

apart : (x y : ℤ) → nat_abs (x -ℤ y) ≡ 1 → x ≢ y
apart x y one e = let z : nat_abs (y -ℤ y) ≡ 1 = ap (λ v. nat_abs (v -ℤ y)) (sym e) ∙ one in omega (arith, ints)

near_rowed : IsRowed Near 1
near_rowed = record {
  along = λ x y p one. ((λ e. apart x y one (first e)), (let t : nat_abs (x -ℤ y) ≤ 1 = omega arith in t, close_itself p));
  across = λ x y z p q r l. ((λ e. r.0 (let f : p ≡ q = rest e in ap (λ t. z ∷ t) f)), (l, r.1.1));
  split = λ x y z p q r. elim (List-discrete ℤ_discrete p q) [
    | yes e ↦ inl (e, one x y r.1.0 (λ f. r.0 (λ i. f i ∷ e i)))
    | no n ↦ inr (((λ e. n (rest e)), (none z, r.1.1)), r.1.0)
  ];
}
  where
    first : {x y : ℤ} {p q : Point} → x ∷ p ≡ y ∷ q → x ≡ y
    first e = cc

    rest : {x y : ℤ} {p q : Point} → x ∷ p ≡ y ∷ q → p ≡ q
    rest e = cc

    none : (z : ℤ) → nat_abs (z -ℤ z) ≤ 1
    none z = omega (arith, ints)

    one : (x y : ℤ) → nat_abs (x -ℤ y) ≤ 1 → x ≢ y → nat_abs (x -ℤ y) ≡ 1
    one x y l n = elim (ℕ_discrete (nat_abs (x -ℤ y)) 1) [ yes e ↦ e | no m ↦ absurd (n (omega (arith, ints))) ]

no_distance : (p q : Point) → length p ≡ length q → city_distance p q ≡ 0 → p ≡ q
no_distance [] [] l e = refl
no_distance [] (y ∷ q) l e = absurd (omega arith)
no_distance (x ∷ p) [] l e = absurd (omega arith)
no_distance (x ∷ p) (y ∷ q) l e =
    let h : nat_abs (x -ℤ y) + city_distance p q ≡ 0 = sym (city-cons x y p q) ∙ e in
    let a : x ≡ y = no_gap x y (omega arith) in
    let b : p ≡ q = no_distance p q (omega arith) (omega arith) in
    λ i. a i ∷ b i
  where
    no_gap : (x y : ℤ) → nat_abs (x -ℤ y) ≡ 0 → x ≡ y
    no_gap x y e = omega (arith, ints)

itself_none : (p : Point) → city_distance p p ≡ 0
itself_none [] = refl
itself_none (x ∷ p) = let e : nat_abs (x -ℤ x) ≡ 0 = none x in let f = itself_none p in let s = city-cons x x p p in omega arith
  where
    none : (x : ℤ) → nat_abs (x -ℤ x) ≡ 0
    none x = omega (arith, ints)

side_rowed : IsRowed Side 0
side_rowed = record {
  along = λ x y p one. (refl, (let e = itself_none p in let s = city-cons x y p p in omega arith));
  across = λ x y z p q r l. (
    r.0,
    (let h : nat_abs (z -ℤ z) + city_distance p q ≡ 1 = sym (city-cons z z p q) ∙ r.1 in let e = none z in let s = city-cons x y p q in omega arith),
  );
  split = λ x y z p q r. (
      let h : nat_abs (x -ℤ y) + city_distance p q ≡ 1 = sym (city-cons x y p q) ∙ r.1 in
      let m : length p ≡ length q = (let l : suc (length p) ≡ suc (length q) = r.0 in omega arith) in
      elim (ℕ_discrete (city_distance p q) 0) [
        | yes e ↦ inl (no_distance p q m e, omega arith)
        | no n ↦ inr ((r.0, (let e = none z in let s = city-cons z z p q in omega arith)), omega arith)
      ]);
}
  where
    none : (x : ℤ) → nat_abs (x -ℤ x) ≡ 0
    none x = omega (arith, ints)

-- ---- the two sets

some_row : (n m : ℕ) → 1 ≤ n * m → 1 ≤ n
some_row n m l = elim (dec_lt 0 n) [ yes h ↦ omega arith | no h ↦ absurd (let e : n ≡ 0 = omega arith in let z = ap (λ v. v * m) e in omega arith) ]

pub object_rows : (X : Picture) → 1 ≤ length X.sides → 1 ≤ box_count X.sides → box_count X.sides < 2 ^ 32
    → IsRowNet (box_count X.sides) (slice_index X.sides 0) 1 (ObjectPlace X) (NearPlaces X) (length (near_steps (length X.sides))) (object_beside X)
object_rows X l some few = by_sides X.sides X.values l some few
  where
    by_sides : (sides : List ℕ) (values : List Bool) → 1 ≤ length sides → 1 ≤ box_count sides → box_count sides < 2 ^ 32
        → IsRowNet (box_count sides) (slice_index sides 0) 1 (ObjectPlace (record { sides = sides; values = values }))
        (NearPlaces (record { sides = sides; values = values })) (length (near_steps (length sides))) (object_beside (record {
          sides = sides;
          values = values;
        }))
    by_sides [] values l some few = absurd (omega arith)
    by_sides (n ∷ sides) values l some few =
        let d = length (near_steps (length (n ∷ sides))) in
        rows_net Near 1 near_rowed near_sym n (box_count sides) (some_row n (box_count sides) some) (λ x. pos x) (raster_point sides) (λ x y. refl)
        (raster_point (n ∷ sides)) (λ i. refl) near_point d
        (λ i j r. let k = near_number (raster_point (n ∷ sides) i) (raster_point (n ∷ sides) j) r in (
          k.0,
          subst (λ m. k.0 < length (near_steps m)) (length-raster_point (n ∷ sides) i) k.1,
          k.2,
        ))
        (λ i k m. near_of_number (raster_point (n ∷ sides) i) k
        (subst (λ m. k < length (near_steps m)) (sym (length-raster_point (n ∷ sides) i)) m))
        (in_box (n ∷ sides)) (raster_number (n ∷ sides)) (raster_point_in (n ∷ sides)) (raster_number-raster_point (n ∷ sides))
        (λ q t. (raster_below (n ∷ sides) q t, raster_point-raster_number (n ∷ sides) q t)) (ObjectPlace (record { sides = n ∷ sides; values = values }))
        (λ i o. o.0) few

pub background_rows : (X : Picture) → 1 ≤ length X.sides → 1 ≤ box_count (framed_sides X.sides) → box_count (framed_sides X.sides) < 2 ^ 32
    → IsRowNet (box_count (framed_sides X.sides)) (slice_index (framed_sides X.sides) 0) 0 (BackgroundPlace X) (SidePlaces X)
    (length (side_steps (length X.sides))) (background_beside X)
background_rows X l some few = by_sides X.sides X.values l some few
  where
    by_sides : (sides : List ℕ) (values : List Bool) → 1 ≤ length sides → 1 ≤ box_count (framed_sides sides) → box_count (framed_sides sides) < 2 ^ 32
        → IsRowNet (box_count (framed_sides sides)) (slice_index (framed_sides sides) 0) 0 (BackgroundPlace (record { sides = sides; values = values }))
        (SidePlaces (record { sides = sides; values = values })) (length (side_steps (length sides)))
        (background_beside (record { sides = sides; values = values }))
    by_sides [] values l some few = absurd (omega arith)
    by_sides (n ∷ sides) values l some few =
        let d = length (side_steps (length (n ∷ sides))) in
        rows_net Side 0 side_rowed side_sym (n + 2) (box_count (framed_sides sides)) (omega arith) (λ x. pos x -ℤ pos 1) (framed_point sides) less_one
        (framed_point (n ∷ sides)) (λ i. refl) side_point d
        (λ i j r. let k = side_number (framed_point (n ∷ sides) i) (framed_point (n ∷ sides) j) r in (
          k.0,
          subst (λ m. k.0 < length (side_steps m)) (length-framed_point (n ∷ sides) i) k.1,
          k.2,
        ))
        (λ i k m. side_of_number (framed_point (n ∷ sides) i) k
        (subst (λ m. k < length (side_steps m)) (sym (length-framed_point (n ∷ sides) i)) m))
        (in_frame (n ∷ sides)) (framed_number (n ∷ sides)) (framed_point_in (n ∷ sides)) (framed_number-framed_point (n ∷ sides))
        (λ q t. (framed_number_below (n ∷ sides) q t, framed_point-framed_number (n ∷ sides) q t))
        (BackgroundPlace (record { sides = n ∷ sides; values = values })) (λ i o. o.0) few
      where
        less_one : (x y : ℕ) → (pos x -ℤ pos 1) -ℤ (pos y -ℤ pos 1) ≡ pos x -ℤ pos y
        less_one x y = omega (arith, ints)

-- a framed box has a point
pub some_framed : (sides : List ℕ) → 1 ≤ box_count (framed_sides sides)
some_framed [] = omega arith
some_framed (n ∷ sides) = let h = mul-le-mul_left (n + 2) (some_framed sides) in omega arith
