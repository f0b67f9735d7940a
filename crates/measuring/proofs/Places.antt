-- Spots of a box as points of the plane: raster order, distances, and which points are spots.
-- One box; objects stand elsewhere.
use Rattle.std.proofs.Common.{◌≡◌, ◌⊎◌, inl, inr, ℕ, ◌+◌, ◌*◌, ◌<◌, ◌≤◌, pos, negsuc, [], ◌∷◌, ap, refl, arith}
use Rattle.std.specs.Prelude.{IsTrue}
use Rattle.std.proofs.Math.Nat.{mul-le-mul_left}
use Rattle.shape_terms.specs.Points.{Point, in_box, raster_number}
use Rattle.shape_terms.proofs.Boxes.{in_box_first}
use Rattle.measuring.specs.declared.spot.Spot.{Spot}
use Rattle.measuring.specs.FeretsTold.{spot_point}
use Rattle.measuring.specs.Rows.{IsUpTo}

pub number_is : (w h : ℕ) (p : Spot) → raster_number (w ∷ h ∷ []) (spot_point p) ≡ p.x + w * p.y
number_is w h p = grind arith

pub inside_x : (w h : ℕ) (p : Spot) → IsTrue (in_box (w ∷ h ∷ []) (spot_point p)) → p.x < w
inside_x w h p i = (in_box_first w (h ∷ []) (pos p.x) (pos p.y ∷ []) i).1

-- a point of the box is a spot
pub spot_is : (w h : ℕ) (p : Point) → IsTrue (in_box (w ∷ h ∷ []) p) → (s : Spot) × (spot_point s ≡ p)
spot_is w h [] i = absurd (let f = i in cc)
spot_is w h (pos x ∷ []) i = absurd (let f = (in_box_first w (h ∷ []) (pos x) [] i).2 in cc)
spot_is w h (pos x ∷ pos y ∷ []) i = (record { x = x; y = y }, refl)
spot_is w h (pos x ∷ pos y ∷ z ∷ p) i = absurd (let f = (in_box_first h [] (pos y) (z ∷ p) (in_box_first w (h ∷ []) (pos x) (pos y ∷ z ∷ p) i).2).2 in cc)
spot_is w h (pos x ∷ negsuc y ∷ p) i = absurd (let f = (in_box_first w (h ∷ []) (pos x) (negsuc y ∷ p) i).2 in cc)
spot_is w h (negsuc x ∷ p) i = absurd (let f = i in cc)

-- spots in raster order
pub up_to_by_number : (w h : ℕ) (p q : Spot) → p.x < w → q.x < w → raster_number (w ∷ h ∷ []) (spot_point p) ≤ raster_number (w ∷ h ∷ []) (spot_point q)
    → IsUpTo p q
up_to_by_number w h p q a b l =
    let m = number_is w h p in
    let n = number_is w h q in
    let split : (p.y ≤ q.y) ⊎ (q.y + 1 ≤ p.y) = grind arith in
    elim split [
      | inl s ↦ record { row = s; column = λ e. (let f = ap (λ t. w * t) e in omega (arith, m, n, l, f)) }
      | inr s ↦ absurd (let f = mul-le-mul_left w s in omega (arith, m, n, l, f, a, b))
    ]

pub number_by_up_to : (w h : ℕ) (p q : Spot) → p.x < w → IsUpTo p q → raster_number (w ∷ h ∷ []) (spot_point p) ≤ raster_number (w ∷ h ∷ []) (spot_point q)
number_by_up_to w h p q a u =
    let m = number_is w h p in
    let n = number_is w h q in
    let split : (p.y ≡ q.y) ⊎ (p.y + 1 ≤ q.y) = (let r = u.row in grind arith) in
    elim split [
      | inl e ↦ (let f = ap (λ t. w * t) e in let c = u.column e in omega (arith, m, n, f, c))
      | inr s ↦ (let f = mul-le-mul_left w s in omega (arith, m, n, f, a))
    ]
