-- The pixels over and under one: their raster numbers are a whole row before its own and behind it.
-- Stated of flat boxes and pictures alone.
use Rattle.std.proofs.Common.{◌≡◌, ℕ, zero, suc, ◌+◌, ◌*◌, ◌/◌, ◌%◌, ◌-◌, ◌<◌, ◌≤◌, Bool, true, false, refl, ap, sym, ◌∙◌, subst, arith, List, [], ◌∷◌, ◌⊎◌}
use Rattle.std.proofs.Common.{inl, inr, mul_comm}
use Rattle.std.specs.Prelude.{ℤ, pos, negsuc, ◌+ℤ◌, nat_abs, not, ◌&&◌, ◌↔◌, IsTrue}
use Rattle.std.proofs.lemmas.Int.{ints}
use Rattle.std.proofs.lemmas.Nat.{mul-le}
use native.Mathlib.Decide.{dec_lt}
use Rattle.shape_terms.specs.Points.{Point, in_box, box_count, raster_number, raster_point}
use Rattle.shape_terms.specs.Adjacency.{moved}
use Rattle.shape_terms.specs.Pictures.{Picture, at}
use Rattle.shape_terms.specs.Contours.{Crack, normal, IsCrack}
use Rattle.shape_terms.proofs.Boxes.{in_box_first, in_box_more, raster_point_in, raster_below, raster_number-raster_point, raster_point-raster_number}
use Rattle.shape_terms.proofs.Numbered.{object_in_box}

-- what a test of two pixels says of a crack
pub crack_test : (X : Picture) (c : Crack) (r : Bool) → c.side < 4 → r ≡ (at X c.pixel && not (at X (moved c.pixel (normal c.side)))) → IsTrue r ↔ IsCrack X c
crack_test X c r s e = go (at X c.pixel) (at X (moved c.pixel (normal c.side))) refl refl
  where
    go : (a b : Bool) → at X c.pixel ≡ a → at X (moved c.pixel (normal c.side)) ≡ b → IsTrue r ↔ IsCrack X c
    go true true p q = ((λ t. let f : r ≡ false = rw (e, p, q) refl in cc), (λ k. let n = k.neighbour in cc))
    go true false p q = ((λ t. record { side = s; pixel = p; neighbour = q }), (λ k. rw (e, p, q) refl))
    go false b p q = ((λ t. let f : r ≡ false = rw (e, p) refl in cc), (λ k. let n = k.pixel in cc))

-- and where the pixel is object
pub crack_when : (X : Picture) (c : Crack) (r : Bool) → c.side < 4 → at X c.pixel ≡ true → r ≡ not (at X (moved c.pixel (normal c.side)))
    → IsTrue r ↔ IsCrack X c
crack_when X c r s p e = crack_test X c r s (rw p e)

pub crack_or_not : (X : Picture) (c : Crack) → c.side < 4 → IsCrack X c ⊎ (IsCrack X c → ⊥)
crack_or_not X c s = go (at X c.pixel && not (at X (moved c.pixel (normal c.side)))) refl
  where
    go : (r : Bool) → r ≡ (at X c.pixel && not (at X (moved c.pixel (normal c.side)))) → IsCrack X c ⊎ (IsCrack X c → ⊥)
    go true e = inl ((crack_test X c true s e).0 refl)
    go false e = inr (λ k. let t = (crack_test X c false s e).1 k in cc)

not_so : (b : Bool) → (b ≡ true → ⊥) → b ≡ false
not_so true h = absurd (h refl)
not_so false h = refl

-- ---- numbers of a flat box

pub flat_number : (w h : ℕ) (x y : ℤ) → raster_number (w ∷ h ∷ []) (x ∷ y ∷ []) ≡ nat_abs x + w * nat_abs y
flat_number w h x y =
    let e : nat_abs y + h * 0 ≡ nat_abs y = omega (arith, mul_comm h 0) in
    ap (λ z. nat_abs x + w * z) e

flat_count : (w h : ℕ) → box_count (w ∷ h ∷ []) ≡ w * h
flat_count w h =
    let e : h * 1 ≡ h = omega (arith, mul_comm h 1) in
    ap (λ z. w * z) e

-- the coordinates of the pixel with a number
record Column (w h i : ℕ) (x y : ℕ) : Type 0 where
  pub x_below : x < w
  pub y_below : y < h
  pub number : x + w * y ≡ i

column : (w h i : ℕ) → i < box_count (w ∷ h ∷ []) → Column w h i (i % w) ((i / w) % h)
column w h i l =
    let f = in_box_first w (h ∷ []) (pos (i % w)) (pos ((i / w) % h) ∷ []) (raster_point_in (w ∷ h ∷ []) i l) in
    let g = in_box_first h [] (pos ((i / w) % h)) [] f.2 in
    record {
      x_below = f.1;
      y_below = g.1;
      number = sym (flat_number w h (pos (i % w)) (pos ((i / w) % h))) ∙ raster_number-raster_point (w ∷ h ∷ []) i l;
    }

-- the point with these coordinates has this number alone
placed_at : (w h x y n : ℕ) → x < w → y < h → x + w * y ≡ n → pos x ∷ pos y ∷ [] ≡ raster_point (w ∷ h ∷ []) n
placed_at w h x y n a b e =
    let inside : IsTrue (in_box (w ∷ h ∷ []) (pos x ∷ pos y ∷ [])) = in_box_more w (h ∷ []) (pos x) (pos y ∷ []) (omega (arith, ints)) a
    (in_box_more h [] (pos y) [] (omega (arith, ints)) b refl) in
    sym (raster_point-raster_number (w ∷ h ∷ []) (pos x ∷ pos y ∷ []) inside) ∙ ap (raster_point (w ∷ h ∷ [])) (flat_number w h (pos x) (pos y) ∙ e)

some_row : (w x y i : ℕ) → x < w → x + w * y ≡ i → w ≤ i → (z : ℕ) × (y ≡ z + 1) × (x + w * z ≡ i - w)
some_row w x zero i a e l = absurd (omega (arith, mul_comm w 0))
some_row w x (suc z) i a e l = (z, omega arith, omega (arith, mul_comm w (suc z), mul_comm w z))

first_row : (w x y i : ℕ) → x + w * y ≡ i → i < w → y ≡ 0
first_row w x zero i e l = refl
first_row w x (suc z) i e l = absurd (omega (arith, mul_comm w (suc z)))

pair : (x y u v : ℤ) → x ≡ u → y ≡ v → ◌≡◌ {A = Point} (x ∷ y ∷ []) (u ∷ v ∷ [])
pair x y u v e f = λ i. e i ∷ f i ∷ []

module _ (w h i : ℕ) (l : i < box_count (w ∷ h ∷ [])) where
  over_in : w ≤ i → moved (raster_point (w ∷ h ∷ []) i) (normal 0) ≡ raster_point (w ∷ h ∷ []) (i - w)
  over_in m = go (column w h i l)
    where
      go : Column w h i (i % w) ((i / w) % h) → moved (raster_point (w ∷ h ∷ []) i) (normal 0) ≡ raster_point (w ∷ h ∷ []) (i - w)
      go c =
          let (z, e, n) = some_row w (i % w) ((i / w) % h) i c.x_below c.number m in
          let b = c.y_below in
          pair _ _ _ _ (omega (arith, ints)) (omega (arith, ints)) ∙ placed_at w h (i % w) z (i - w) c.x_below (omega arith) n

  over_out : (values : List Bool) → i < w → at (record { sides = w ∷ h ∷ []; values = values }) (moved (raster_point (w ∷ h ∷ []) i) (normal 0)) ≡ false
  over_out values m = not_so _ (λ t.
      let c = column w h i l in
      let y = first_row w (i % w) ((i / w) % h) i c.number m in
      let f = in_box_first w (h ∷ []) (pos (i % w) +ℤ pos 0) ((pos ((i / w) % h) +ℤ negsuc 0) ∷ [])
      (object_in_box (record { sides = w ∷ h ∷ []; values = values }) (moved (raster_point (w ∷ h ∷ []) i) (normal 0)) t) in
      let g = in_box_first h [] (pos ((i / w) % h) +ℤ negsuc 0) [] f.2 in
      omega (arith, ints, g.0, y))

  under_in : i + w < box_count (w ∷ h ∷ []) → moved (raster_point (w ∷ h ∷ []) i) (normal 2) ≡ raster_point (w ∷ h ∷ []) (i + w)
  under_in m =
      let c = column w h i l in
      let n = flat_count w h in
      let next : (i % w) + w * ((i / w) % h + 1) ≡ i + w = omega (arith, c.number, mul_comm w ((i / w) % h + 1), mul_comm w ((i / w) % h)) in
      let b : (i / w) % h + 1 < h = below w h ((i / w) % h + 1) (i % w) (omega arith) in
      pair _ _ _ _ (omega (arith, ints)) (omega (arith, ints)) ∙ placed_at w h (i % w) ((i / w) % h + 1) (i + w) c.x_below b next
    where
      below : (w h y x : ℕ) → x + w * y < w * h → y < h
      below w h y x l = elim (dec_lt y h) [ yes a ↦ a | no a ↦ (let m : w * h ≤ w * y = mul-le w h w y (omega arith) (omega arith) in absurd (omega arith)) ]

  under_out : (values : List Bool) → box_count (w ∷ h ∷ []) ≤ i + w
      → at (record { sides = w ∷ h ∷ []; values = values }) (moved (raster_point (w ∷ h ∷ []) i) (normal 2)) ≡ false
  under_out values m = not_so _ (λ t.
      let c = column w h i l in
      let q = moved (raster_point (w ∷ h ∷ []) i) (normal 2) in
      let b = raster_below (w ∷ h ∷ []) q (object_in_box (record { sides = w ∷ h ∷ []; values = values }) q t) in
      let n = flat_number w h (pos (i % w) +ℤ pos 0) (pos ((i / w) % h) +ℤ pos 1) in
      let x : nat_abs (pos (i % w) +ℤ pos 0) ≡ i % w = omega (arith, ints) in
      let y : nat_abs (pos ((i / w) % h) +ℤ pos 1) ≡ (i / w) % h + 1 = omega (arith, ints) in
      let z = ap (λ k. w * k) y in
      omega (arith, b, n, x, z, m, c.number, mul_comm w ((i / w) % h + 1), mul_comm w ((i / w) % h)))

-- ---- the same of a picture with these sides

module _ (X : Picture) (w h : ℕ) (e : w ∷ h ∷ [] ≡ X.sides) (i : ℕ) (l : i < box_count X.sides) where
  pub over_number : w ≤ i → moved (raster_point X.sides i) (normal 0) ≡ raster_point X.sides (i - w)
  over_number m = subst (λ (s : List ℕ). i < box_count s → moved (raster_point s i) (normal 0) ≡ raster_point s (i - w)) e (λ l. over_in w h i l m) l

  pub over_none : i < w → at X (moved (raster_point X.sides i) (normal 0)) ≡ false
  over_none m = subst (λ (s : List ℕ). i < box_count s → at (record { sides = s; values = X.values }) (moved (raster_point s i) (normal 0)) ≡ false) e
      (λ l. over_out w h i l X.values m) l

  pub under_number : i + w < box_count X.sides → moved (raster_point X.sides i) (normal 2) ≡ raster_point X.sides (i + w)
  under_number m = subst (λ (s : List ℕ). i < box_count s → i + w < box_count s → moved (raster_point s i) (normal 2) ≡ raster_point s (i + w)) e
      (λ l m. under_in w h i l m) l m

  pub under_none : box_count X.sides ≤ i + w → at X (moved (raster_point X.sides i) (normal 2)) ≡ false
  under_none m = subst (λ (s : List ℕ). i < box_count s → box_count s ≤ i + w
      → at (record { sides = s; values = X.values }) (moved (raster_point s i) (normal 2)) ≡ false) e (λ l m. under_out w h i l X.values m) l m
