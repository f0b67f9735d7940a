-- The whole plane and the framed box have all that the law asks of a set of points: what stands round an object, and the way from one point to another.
-- Both have the corner of the frame, which is in no component.
use Rattle.std.proofs.Common.{◌≡◌, ℕ, zero, suc, ◌+◌, ◌<◌, ◌%◌, Bool, true, false, refl, sym, ◌∙◌, ap, subst, arith, List, [], ◌∷◌, length}
use Rattle.std.specs.Prelude.{pos, negsuc, ◌+ℤ◌, ◌≤ℤ◌, nat_abs, IsTrue}
use Rattle.std.proofs.lemmas.Int.{ints}
use Rattle.shape_terms.specs.Points.{Point, IsPoint, in_box}
use Rattle.shape_terms.specs.Pictures.{Picture, at}
use Rattle.shape_terms.specs.Parts.{InFrame}
use Rattle.shape_terms.proofs.Boxes.{in_box_first}
use Rattle.shape_terms.proofs.Numbered.{object_in_box}
use Rattle.shape_terms.proofs.Successor.{Place, point, step, held, object_axes, two_axes}
use Rattle.measure_terms.specs.ComponentContours.{IsComponent, Complement}
use Rattle.measure_terms.specs.Holes.{corner}
use Rattle.measure_terms.proofs.Around.{HasAround}
use Rattle.measure_terms.proofs.Reaching.{IsWide, way}
use Rattle.measure_terms.proofs.OneContour.{none_left, bare_is_none}

-- what the law asks of a set of points in which paths go
pub record Suits (F : Point → Type 0) (X : Picture) (K : Point → Bool) (part : IsComponent X K) : Type 0 where
  pub flat : (p : Point) → F p → length p ≡ 2
  pub around : HasAround (λ (p : Place). F (point p)) (held X)
  pub wide : IsWide (λ (p : Place). F (point p))
  pub some : F part.some.0
  pub far : Complement F K corner

pub corner_free : (X : Picture) (axes : length X.sides ≡ 2) (K : Point → Bool) (part : IsComponent X K) → K corner ≡ false
corner_free X axes K part = bare_is_none X axes K part (negsuc 0, negsuc 0) (none_left X 0 (negsuc 0))

pub plane_suits : (X : Picture) → length X.sides ≡ 2 → (K : Point → Bool) (part : IsComponent X K) → Suits (IsPoint 2) X K part
plane_suits X axes K part = record {
  flat = λ p h. h;
  around = λ p d l t. (refl, refl);
  wide = λ q k d l a b w. refl;
  some = object_axes X part.some.0 (part.object part.some.0 part.some.1) ∙ axes;
  far = (refl, corner_free X axes K part);
}

-- ---- the framed box

-- each coordinate of the place is from -1 up to the side
pub record Framed (w h : ℕ) (p : Place) : Type 0 where
  pub left : negsuc 0 ≤ℤ p.0
  pub right : p.0 ≤ℤ pos w
  pub upper : negsuc 0 ≤ℤ p.1
  pub lower : p.1 ≤ℤ pos h

-- and from 0 to below the side
pub record Boxed (w h : ℕ) (p : Place) : Type 0 where
  pub left : pos 0 ≤ℤ p.0
  pub right : (p.0 +ℤ pos 1) ≤ℤ pos w
  pub upper : pos 0 ≤ℤ p.1
  pub lower : (p.1 +ℤ pos 1) ≤ℤ pos h

framed_of : (w h : ℕ) (p : Place) → InFrame (w ∷ h ∷ []) (point p) → Framed w h p
framed_of w h p f = record { left = f.0.0; right = f.0.1; upper = f.1.0.0; lower = f.1.0.1 }

of_framed : (w h : ℕ) (p : Place) → Framed w h p → InFrame (w ∷ h ∷ []) (point p)
of_framed w h p f = ((f.left, f.right), ((f.upper, f.lower), tt))

frame_flat : (s : List ℕ) (p : Point) → InFrame s p → length p ≡ length s
frame_flat [] [] f = refl
frame_flat (n ∷ s) [] f = absurd f
frame_flat [] (x ∷ p) f = absurd f
frame_flat (n ∷ s) (x ∷ p) f = ap suc (frame_flat s p f.1)

boxed : (w h : ℕ) (p : Place) → IsTrue (in_box (w ∷ h ∷ []) (point p)) → Boxed w h p
boxed w h p k =
    let a = in_box_first w (h ∷ []) p.0 (p.1 ∷ []) k in
    let b = in_box_first h [] p.1 [] a.2 in
    let m : pos 0 ≤ℤ p.0 = a.0 in
    let n : nat_abs p.0 < w = a.1 in
    let i : pos 0 ≤ℤ p.1 = b.0 in
    let j : nat_abs p.1 < h = b.1 in
    record { left = m; right = omega (arith, ints); upper = i; lower = omega (arith, ints) }

over_side : (w h : ℕ) (p : Place) (d : ℕ) → d < 4 → Boxed w h p → Framed w h (step d p)
over_side w h p zero l b =
    record {
      left = omega (arith, ints, b.left);
      right = omega (arith, ints, b.right);
      upper = omega (arith, ints, b.upper);
      lower = omega (arith, ints, b.lower);
    }
over_side w h p (suc zero) l b =
    record {
      left = omega (arith, ints, b.left);
      right = omega (arith, ints, b.right);
      upper = omega (arith, ints, b.upper);
      lower = omega (arith, ints, b.lower);
    }
over_side w h p (suc (suc zero)) l b =
    record {
      left = omega (arith, ints, b.left);
      right = omega (arith, ints, b.right);
      upper = omega (arith, ints, b.upper);
      lower = omega (arith, ints, b.lower);
    }
over_side w h p (suc (suc (suc zero))) l b =
    record {
      left = omega (arith, ints, b.left);
      right = omega (arith, ints, b.right);
      upper = omega (arith, ints, b.upper);
      lower = omega (arith, ints, b.lower);
    }
over_side w h p (suc (suc (suc (suc d)))) l b = absurd (omega arith)

over_corner : (w h : ℕ) (p : Place) (d : ℕ) → d < 4 → Boxed w h p → Framed w h (step ((d + 1) % 4) (step d p))
over_corner w h p zero l b =
    record {
      left = omega (arith, ints, b.left);
      right = omega (arith, ints, b.right);
      upper = omega (arith, ints, b.upper);
      lower = omega (arith, ints, b.lower);
    }
over_corner w h p (suc zero) l b =
    record {
      left = omega (arith, ints, b.left);
      right = omega (arith, ints, b.right);
      upper = omega (arith, ints, b.upper);
      lower = omega (arith, ints, b.lower);
    }
over_corner w h p (suc (suc zero)) l b =
    record {
      left = omega (arith, ints, b.left);
      right = omega (arith, ints, b.right);
      upper = omega (arith, ints, b.upper);
      lower = omega (arith, ints, b.lower);
    }
over_corner w h p (suc (suc (suc zero))) l b =
    record {
      left = omega (arith, ints, b.left);
      right = omega (arith, ints, b.right);
      upper = omega (arith, ints, b.upper);
      lower = omega (arith, ints, b.lower);
    }
over_corner w h p (suc (suc (suc (suc d)))) l b = absurd (omega arith)

towards : (w h : ℕ) (q k : Place) (d : ℕ) → d < 4 → Framed w h q → Framed w h k → way (step d q) k < way q k → Framed w h (step d q)
towards w h q k zero l a b n =
    record {
      left = omega (arith, ints, a.left);
      right = omega (arith, ints, a.right);
      upper = omega (arith, ints, b.upper);
      lower = omega (arith, ints, a.lower);
    }
towards w h q k (suc zero) l a b n =
    record {
      left = omega (arith, ints, a.left);
      right = omega (arith, ints, b.right);
      upper = omega (arith, ints, a.upper);
      lower = omega (arith, ints, a.lower);
    }
towards w h q k (suc (suc zero)) l a b n =
    record {
      left = omega (arith, ints, a.left);
      right = omega (arith, ints, a.right);
      upper = omega (arith, ints, a.upper);
      lower = omega (arith, ints, b.lower);
    }
towards w h q k (suc (suc (suc zero))) l a b n =
    record {
      left = omega (arith, ints, b.left);
      right = omega (arith, ints, a.right);
      upper = omega (arith, ints, a.upper);
      lower = omega (arith, ints, a.lower);
    }
towards w h q k (suc (suc (suc (suc d)))) l a b n = absurd (omega arith)

module _ (X : Picture) (w h : ℕ) (sides : X.sides ≡ w ∷ h ∷ []) where
  pub boxed_object : (p : Place) → held X p ≡ true → Boxed w h p
  boxed_object p t = boxed w h p (subst (λ (s : List ℕ). IsTrue (in_box s (point p))) sides (object_in_box X (point p) t))

  frame_around : HasAround (λ (p : Place). InFrame (w ∷ h ∷ []) (point p)) (held X)
  frame_around p d l t =
      (of_framed w h (step d p) (over_side w h p d l (boxed_object p t)), of_framed w h _ (over_corner w h p d l (boxed_object p t)))

  frame_wide : IsWide (λ (p : Place). InFrame (w ∷ h ∷ []) (point p))
  frame_wide q k d l a b n = of_framed w h (step d q) (towards w h q k d l (framed_of w h q a) (framed_of w h k b) n)

  object_framed : (p : Place) → held X p ≡ true → InFrame (w ∷ h ∷ []) (point p)
  object_framed p t =
      let b = boxed_object p t in
      of_framed w h p (record {
        left = omega (arith, ints, b.left);
        right = omega (arith, ints, b.right);
        upper = omega (arith, ints, b.upper);
        lower = omega (arith, ints, b.lower);
      })

  corner_framed : Framed w h (negsuc 0, negsuc 0)
  corner_framed = record { left = omega (arith, ints); right = omega (arith, ints); upper = omega (arith, ints); lower = omega (arith, ints) }

  frame_suits_by : (K : Point → Bool) (part : IsComponent X K) → Suits (InFrame (w ∷ h ∷ [])) X K part
  frame_suits_by K part =
      let o = part.object part.some.0 part.some.1 in
      let axes = ap length sides in
      let t = two_axes part.some.0 (object_axes X part.some.0 o ∙ axes) in
      record {
        flat = λ p f. frame_flat (w ∷ h ∷ []) p f;
        around = frame_around;
        wide = frame_wide;
        some = subst (InFrame (w ∷ h ∷ [])) (sym t.1) (object_framed t.0 (subst (λ (p : Point). at X p ≡ true) t.1 o));
        far = (of_framed w h (negsuc 0, negsuc 0) corner_framed, corner_free X axes K part);
      }

pub two_sides : (s : List ℕ) → length s ≡ 2 → (w : ℕ) × (h : ℕ) × (s ≡ w ∷ h ∷ [])
two_sides [] a = absurd (omega arith)
two_sides (w ∷ []) a = absurd (omega arith)
two_sides (w ∷ h ∷ []) a = (w, h, refl)
two_sides (w ∷ h ∷ d ∷ s) a = absurd (omega arith)

pub frame_suits : (X : Picture) → length X.sides ≡ 2 → (K : Point → Bool) (part : IsComponent X K) → Suits (InFrame X.sides) X K part
frame_suits X axes K part =
    let (w, h, e) = two_sides X.sides axes in
    subst (λ (s : List ℕ). Suits (InFrame s) X K part) (sym e) (frame_suits_by X w h e K part)
