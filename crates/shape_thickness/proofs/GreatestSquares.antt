-- The greatest squares of balls as a function of the picture and the squares.
-- Laws over pictures and lists alone.
use Rattle.std.proofs.Common.{◌≡◌, ◌⊎◌, inl, inr, ℕ, ◌+◌, ◌<◌, ◌≤◌, Bool, zero, suc, [], ◌∷◌, true, false, refl, ap, sym, ◌∙◌, subst, arith, List, length, map}
use Rattle.std.proofs.Common.{get_or, max}
use Rattle.std.specs.Prelude.{slice_index, nat_lt, ◌&&◌, if◌then◌else◌}
use Rattle.std.proofs.lemmas.Bool.{ltb-true, lt-ltb}
use Rattle.std.proofs.lemmas.List.{ext_get_or, length-map, get_or-map}
use native.Mathlib.Decide.{dec_lt}
use Rattle.shape_terms.specs.Points.{Point, raster_number, raster_point, box_count, box_points, squared_distance}
use Rattle.shape_terms.specs.Pictures.{Picture, at}
use Rattle.shape_terms.proofs.Boxes.{raster_below, raster_point-raster_number}
use Rattle.shape_terms.proofs.BoxLists.{length-box_points, get_or-box_points}
use Rattle.shape_terms.proofs.ObjectPlaces.{object_in_box}
use Rattle.shape_thickness.specs.Greatest.{square_at, IsHeld, AreGreatest, greatest_of, ball_square, greatest_squares}

-- ---- the greatest of some numbers

most_of : (ns : List ℕ) (t : ℕ) → ((k : ℕ) → k < length ns → get_or ns k 0 ≤ t) → greatest_of ns ≤ t
most_of [] t h = omega arith
most_of (n ∷ ns) t h =
    let a : n ≤ t = h 0 (omega arith) in
    let b = most_of ns t (λ k l. h (suc k) (omega (arith, l))) in
    omega (arith, a, b)

one_of : (ns : List ℕ) (k : ℕ) → k < length ns → get_or ns k 0 ≤ greatest_of ns
one_of [] k l = absurd (omega (arith, l))
one_of (n ∷ ns) zero l = omega arith
one_of (n ∷ ns) (suc k) l = let b = one_of ns k (omega (arith, l)) in omega (arith, b)

reached : (ns : List ℕ) → 0 < greatest_of ns → (k : ℕ) × (k < length ns) × (get_or ns k 0 ≡ greatest_of ns)
reached [] h = absurd (omega (arith, h))
reached (n ∷ ns) h = elim (dec_lt n (greatest_of ns)) [
  | yes l ↦ (let r = reached ns (omega (arith, l)) in let b = r.1 in let e = r.2 in (suc r.0, omega (arith, b), omega (arith, e, l)))
  | no m ↦ (0, omega arith, omega (arith, m))
]

-- ---- one ball

tested : (a b : Bool) (s : ℕ) → a ≡ true → b ≡ true → (if a && b then s else 0) ≡ s
tested true true s e f = refl
tested true false s e f = cc
tested false b s e f = cc

passes : (a b : Bool) (s : ℕ) → 0 < (if a && b then s else 0) → (a ≡ true) × (b ≡ true)
passes true true s h = (refl, refl)
passes true false s h = absurd (omega (arith, h))
passes false b s h = absurd (omega (arith, h))

module _ (X : Picture) (ds : List ℕ) (p c : Point) where
  held_ball : IsHeld X ds c p → ball_square X ds p c ≡ square_at X ds c
  held_ball h = tested (at X c) (nat_lt (squared_distance c p) (square_at X ds c)) (square_at X ds c) h.object
      (lt-ltb (squared_distance c p) (square_at X ds c) h.nearer)

  some_ball : 0 < ball_square X ds p c → IsHeld X ds c p
  some_ball l =
      let t = passes (at X c) (nat_lt (squared_distance c p) (square_at X ds c)) (square_at X ds c) l in
      record { object = t.0; nearer = ltb-true (squared_distance c p) (square_at X ds c) t.1 }

-- ---- all balls, at one place

module _ (X : Picture) (ds : List ℕ) (i : ℕ) where
  balls : List ℕ
  balls = map (ball_square X ds (raster_point X.sides i)) (box_points X.sides)

  long : length balls ≡ box_count X.sides
  unfolding balls
  long = length-map (box_points X.sides) (ball_square X ds (raster_point X.sides i)) ∙ length-box_points X.sides

  ball_at : (k : ℕ) → k < box_count X.sides → get_or balls k 0 ≡ ball_square X ds (raster_point X.sides i) (raster_point X.sides k)
  unfolding balls
  ball_at k m =
      get_or-map (ball_square X ds (raster_point X.sides i)) (box_points X.sides) k [] 0 (omega (arith, m, length-box_points X.sides))
      ∙ ap (ball_square X ds (raster_point X.sides i)) (get_or-box_points X.sides k [] m)

  -- a ball that holds the place is one of them
  held_most : (c : Point) → IsHeld X ds c (raster_point X.sides i) → square_at X ds c ≤ greatest_of balls
  held_most c h =
      let inside = object_in_box X c h.object in
      let k = raster_number X.sides c in
      let b : k < box_count X.sides = raster_below X.sides c inside in
      let e = ball_at k b ∙ (ap (ball_square X ds (raster_point X.sides i)) (raster_point-raster_number X.sides c inside)
      ∙ held_ball X ds (raster_point X.sides i) c h) in
      let o = one_of balls k (let z = long in omega (arith, b, z)) in
      omega (arith, e, o)

  -- and the greatest is one that holds it
  most_held : 0 < greatest_of balls → (c : Point) × IsHeld X ds c (raster_point X.sides i) × (greatest_of balls ≡ square_at X ds c)
  most_held o =
      let r = reached balls o in
      let k = r.0 in
      let c = raster_point X.sides k in
      let m = r.1 in
      let v = r.2 in
      let z = long in
      let e = ball_at k (omega (arith, m, z)) in
      let h = some_ball X ds (raster_point X.sides i) c (omega (arith, o, v, e)) in
      (c, h, sym v ∙ (e ∙ held_ball X ds (raster_point X.sides i) c h))

  greatest_balls : greatest_of balls ≡ greatest_of (map (ball_square X ds (raster_point X.sides i)) (box_points X.sides))
  unfolding balls
  greatest_balls = refl

-- ---- all places

module _ (X : Picture) (ds : List ℕ) where
  square : Point → ℕ
  square p = greatest_of (map (ball_square X ds p) (box_points X.sides))

  places : length (map square (box_points X.sides)) ≡ box_count X.sides
  places = length-map (box_points X.sides) square ∙ length-box_points X.sides

  place_at : (i : ℕ) → i < box_count X.sides → slice_index (map square (box_points X.sides)) i ≡ greatest_of (balls X ds i)
  unfolding square
  place_at i b = get_or-map square (box_points X.sides) i [] 0 (omega (arith, b, length-box_points X.sides))
      ∙ (ap square (get_or-box_points X.sides i [] b) ∙ sym (greatest_balls X ds i))

  are : AreGreatest X ds (map square (box_points X.sides))
  are = record {
    filled = places;
    some = λ i l o. (let e = place_at i l in let h = most_held X ds i (omega (arith, o, e)) in (h.0, h.1, e ∙ h.2));
    most = λ i c l h. (let e = place_at i l in let m = held_most X ds i c h in omega (arith, e, m));
  }

  one : (ts us : List ℕ) → AreGreatest X ds ts → AreGreatest X ds us → (i : ℕ) → i < box_count X.sides → slice_index ts i ≤ slice_index us i
  one ts us a b i l = elim (dec_lt 0 (slice_index ts i)) [
    | no n ↦ omega arith
    | yes m ↦ (let f = a.some i l m in let e = f.2 in let o = b.most i f.0 l f.1 in omega (arith, e, o))
  ]

  -- the function tells greatest squares
  pub are_greatest : AreGreatest X ds (greatest_squares X ds)
  unfolding square
  are_greatest = are

  -- and none but those are
  pub greatest_squares_are : (ts : List ℕ) → AreGreatest X ds ts → ts ≡ greatest_squares X ds
  greatest_squares_are ts g =
      let h = are_greatest in
      let m = g.filled in
      let n = h.filled in
      ext_get_or 0 ts (greatest_squares X ds) (m ∙ sym n) (λ i l.
      let b : i < box_count X.sides = omega (arith, l, m) in
      let v = one ts (greatest_squares X ds) g h i b in
      let w = one (greatest_squares X ds) ts h g i b in
      omega (arith, v, w))
