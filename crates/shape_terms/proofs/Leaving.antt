-- A crack's successor has its pixel exactly where the crack stays, and a pixel close to it in any case.
-- The steps over the sides are looked at one by one here, and nowhere else.
use Rattle.std.proofs.Common.{◌≡◌, ◌≢◌, ℕ, zero, suc, ◌+◌, ◌%◌, ◌<◌, Bool, true, false, cond, refl, ap, sym, ◌∙◌, subst, arith, length}
use Rattle.std.specs.Prelude.{◌&&◌, not}
use Rattle.std.proofs.lemmas.Int.{ints}
use Rattle.shape_terms.specs.Points.{Point, coordinate}
use Rattle.shape_terms.specs.Adjacency.{moved}
use Rattle.shape_terms.specs.Steps.{AreClose}
use Rattle.shape_terms.specs.Pictures.{Picture, at}
use Rattle.shape_terms.specs.Contours.{Crack, normal, forward, ahead, across, successor, IsCrack, stays}
use Rattle.shape_terms.proofs.Successor.{Place, point, step, moved_step, two_axes, object_axes}

same_pixel : (b a : Bool) (B A c : Crack) → (not b && not a) ≡ true → (cond b B (cond a A c)).pixel ≡ c.pixel
same_pixel true a B A c h = let f : false ≡ true = h in cc
same_pixel false true B A c h = let f : false ≡ true = h in cc
same_pixel false false B A c h = refl

pub stays_pixel : (X : Picture) (c : Crack) → stays X c ≡ true → (successor X c).pixel ≡ c.pixel
stays_pixel X c h = same_pixel (at X (across c)) (at X (ahead c)) (record { pixel = across c; side = (c.side + 3) % 4 })
    (record { pixel = ahead c; side = c.side }) (record { pixel = c.pixel; side = (c.side + 1) % 4 }) h

other_pixel : (b a : Bool) (B A c : Crack) → B.pixel ≢ c.pixel → A.pixel ≢ c.pixel → (not b && not a) ≡ false → (cond b B (cond a A c)).pixel ≢ c.pixel
other_pixel true a B A c m n h = m
other_pixel false true B A c m n h = n
other_pixel false false B A c m n h = let f : true ≡ false = h in cc

along_x : (p q : Place) → point p ≡ point q → p.0 ≡ q.0
along_x p q e = ap (λ (l : Point). coordinate l 0) e

along_y : (p q : Place) → point p ≡ point q → p.1 ≡ q.1
along_y p q e = ap (λ (l : Point). coordinate l 1) e

step_away : (d : ℕ) (p : Place) → point (step d p) ≢ point p
step_away zero p e = let f = along_y (step 0 p) p e in absurd (omega (arith, ints))
step_away (suc zero) p e = let f = along_x (step 1 p) p e in absurd (omega (arith, ints))
step_away (suc (suc zero)) p e = let f = along_y (step 2 p) p e in absurd (omega (arith, ints))
step_away (suc (suc (suc d))) p e = let f = along_x (step (suc (suc (suc d))) p) p e in absurd (omega (arith, ints))

corner_away : (d : ℕ) (p : Place) → d < 4 → point (step ((d + 1) % 4) (step d p)) ≢ point p
corner_away zero p l e = let f = along_y (step 1 (step 0 p)) p e in absurd (omega (arith, ints))
corner_away (suc zero) p l e = let f = along_x (step 2 (step 1 p)) p e in absurd (omega (arith, ints))
corner_away (suc (suc zero)) p l e = let f = along_y (step 3 (step 2 p)) p e in absurd (omega (arith, ints))
corner_away (suc (suc (suc zero))) p l e = let f = along_x (step 0 (step 3 p)) p e in absurd (omega (arith, ints))
corner_away (suc (suc (suc (suc d)))) p l e = absurd (omega arith)

pub leaves_pixel : (X : Picture) → length X.sides ≡ 2 → (c : Crack) → IsCrack X c → stays X c ≡ false → (successor X c).pixel ≢ c.pixel
leaves_pixel X axes c k h =
    let t = two_axes c.pixel (object_axes X c.pixel k.pixel ∙ axes) in
    let e = t.1 in
    let a : ahead c ≢ c.pixel = subst (λ (p : Point). moved p (forward c.side) ≢ p) (sym e)
    (subst (λ (p : Point). p ≢ point t.0) (sym (moved_step ((c.side + 1) % 4) t.0)) (step_away ((c.side + 1) % 4) t.0)) in
    let b : across c ≢ c.pixel = subst (λ (p : Point). moved (moved p (normal c.side)) (forward c.side) ≢ p) (sym e)
    (subst (λ (p : Point). moved p (forward c.side) ≢ point t.0) (sym (moved_step c.side t.0))
    (subst (λ (p : Point). p ≢ point t.0) (sym (moved_step ((c.side + 1) % 4) (step c.side t.0))) (corner_away c.side t.0 k.side))) in
    other_pixel (at X (across c)) (at X (ahead c)) (record { pixel = across c; side = (c.side + 3) % 4 }) (record { pixel = ahead c; side = c.side })
    (record { pixel = c.pixel; side = (c.side + 1) % 4 }) b a h

-- ---- how far the next pixel is
any_close : (b a : Bool) (p : Point) (B A c : Crack) → AreClose p B.pixel → AreClose p A.pixel → AreClose p c.pixel → AreClose p (cond b B (cond a A c)).pixel
any_close true a p B A c l m n = l
any_close false true p B A c l m n = m
any_close false false p B A c l m n = n

pub close_itself : (p : Point) → AreClose p p
close_itself p k = omega (arith, ints)

step_close : (d : ℕ) (p : Place) → AreClose (point p) (point (step d p))
step_close zero p zero = omega (arith, ints)
step_close zero p (suc zero) = omega (arith, ints)
step_close zero p (suc (suc k)) = omega (arith, ints)
step_close (suc zero) p zero = omega (arith, ints)
step_close (suc zero) p (suc zero) = omega (arith, ints)
step_close (suc zero) p (suc (suc k)) = omega (arith, ints)
step_close (suc (suc zero)) p zero = omega (arith, ints)
step_close (suc (suc zero)) p (suc zero) = omega (arith, ints)
step_close (suc (suc zero)) p (suc (suc k)) = omega (arith, ints)
step_close (suc (suc (suc d))) p zero = omega (arith, ints)
step_close (suc (suc (suc d))) p (suc zero) = omega (arith, ints)
step_close (suc (suc (suc d))) p (suc (suc k)) = omega (arith, ints)

corner_close : (d : ℕ) (p : Place) → d < 4 → AreClose (point p) (point (step ((d + 1) % 4) (step d p)))
corner_close zero p l zero = omega (arith, ints)
corner_close zero p l (suc zero) = omega (arith, ints)
corner_close zero p l (suc (suc k)) = omega (arith, ints)
corner_close (suc zero) p l zero = omega (arith, ints)
corner_close (suc zero) p l (suc zero) = omega (arith, ints)
corner_close (suc zero) p l (suc (suc k)) = omega (arith, ints)
corner_close (suc (suc zero)) p l zero = omega (arith, ints)
corner_close (suc (suc zero)) p l (suc zero) = omega (arith, ints)
corner_close (suc (suc zero)) p l (suc (suc k)) = omega (arith, ints)
corner_close (suc (suc (suc zero))) p l zero = omega (arith, ints)
corner_close (suc (suc (suc zero))) p l (suc zero) = omega (arith, ints)
corner_close (suc (suc (suc zero))) p l (suc (suc k)) = omega (arith, ints)
corner_close (suc (suc (suc (suc d)))) p l k = absurd (omega arith)

pub successor_close : (X : Picture) → length X.sides ≡ 2 → (c : Crack) → IsCrack X c → AreClose c.pixel (successor X c).pixel
successor_close X axes c k =
    let t = two_axes c.pixel (object_axes X c.pixel k.pixel ∙ axes) in
    let e = t.1 in
    let a : AreClose c.pixel (ahead c) = subst (λ (p : Point). AreClose p (moved p (forward c.side))) (sym e)
    (subst (AreClose (point t.0)) (sym (moved_step ((c.side + 1) % 4) t.0)) (step_close ((c.side + 1) % 4) t.0)) in
    let b : AreClose c.pixel (across c) = subst (λ (p : Point). AreClose p (moved (moved p (normal c.side)) (forward c.side))) (sym e)
    (subst (λ (p : Point). AreClose (point t.0) (moved p (forward c.side))) (sym (moved_step c.side t.0))
    (subst (AreClose (point t.0)) (sym (moved_step ((c.side + 1) % 4) (step c.side t.0))) (corner_close c.side t.0 k.side))) in
    any_close (at X (across c)) (at X (ahead c)) c.pixel (record { pixel = across c; side = (c.side + 3) % 4 }) (record { pixel = ahead c; side = c.side })
    (record { pixel = c.pixel; side = (c.side + 1) % 4 }) b a (close_itself c.pixel)
