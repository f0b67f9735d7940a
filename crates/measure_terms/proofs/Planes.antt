-- Flat points as places: near points are close, side neighbours are one step over a side, and paths are paths.
-- A flat point is its two coordinates, and nothing else is used of it.
use Rattle.std.proofs.Common.{◌≡◌, ◌≢◌, ℕ, zero, suc, ◌<◌, refl, sym, ◌∙◌, ap, subst, arith, length}
use Rattle.std.specs.Prelude.{ℤ, pos, negsuc, ◌-ℤ◌}
use Rattle.std.proofs.lemmas.Int.{ints}
use Rattle.shape_terms.specs.Points.{Point, coordinate}
use Rattle.shape_terms.specs.Adjacency.{Near, Side}
use Rattle.shape_terms.specs.Parts.{Connected}
use Rattle.shape_terms.proofs.Successor.{Place, point, step, two_axes}
use Rattle.measure_terms.proofs.OverSteps.{Close, place_is}
use Rattle.measure_terms.proofs.Parted.{Beside}

abbrev pub place_of : Point → Place
place_of p = (coordinate p 0, coordinate p 1)

pub point_of_place : (p : Point) → length p ≡ 2 → point (place_of p) ≡ p
point_of_place p h = let t = two_axes p h in subst (λ (q : Point). point (place_of q) ≡ q) (sym t.1) refl

pub near_close : (p q : Place) → Near (point p) (point q) → Close p q
near_close p q h = (h.1.0, h.1.1.0)

pub close_near : (p q : Place) → p ≢ q → Close p q → Near (point p) (point q)
close_near p q n c = ((λ e. n (ap place_of e)), (c.0, (c.1, tt)))

step_side : (p : Place) (d : ℕ) → d < 4 → Side (point p) (point (step d p))
step_side p zero l = (refl, omega (arith, ints))
step_side p (suc zero) l = (refl, omega (arith, ints))
step_side p (suc (suc zero)) l = (refl, omega (arith, ints))
step_side p (suc (suc (suc zero))) l = (refl, omega (arith, ints))
step_side p (suc (suc (suc (suc d)))) l = absurd (omega arith)

pub beside_side : (p q : Place) → Beside p q → Side (point p) (point q)
beside_side p q (d, l, e) = subst (λ (r : Place). Side (point p) (point r)) e (step_side p d l)

pub side_beside : (p q : Place) → Side (point p) (point q) → Beside p q
side_beside p q h = by (p.0 -ℤ q.0) (p.1 -ℤ q.1) refl refl
  where
    by : (x y : ℤ) → x ≡ p.0 -ℤ q.0 → y ≡ p.1 -ℤ q.1 → Beside p q
    by (pos (suc x)) y e f = (3, omega arith, place_is _ _ q.0 q.1 (omega (arith, ints, h.1)) (omega (arith, ints, h.1)))
    by (negsuc x) y e f = (1, omega arith, place_is _ _ q.0 q.1 (omega (arith, ints, h.1)) (omega (arith, ints, h.1)))
    by (pos zero) (pos zero) e f = absurd (omega (arith, ints, h.1))
    by (pos zero) (pos (suc y)) e f = (0, omega arith, place_is _ _ q.0 q.1 (omega (arith, ints, h.1)) (omega (arith, ints, h.1)))
    by (pos zero) (negsuc y) e f = (2, omega arith, place_is _ _ q.0 q.1 (omega (arith, ints, h.1)) (omega (arith, ints, h.1)))

-- ---- paths

pub path_of_points : (Y : Point → Type 0) {p q : Place} → Connected Beside (λ (r : Place). Y (point r)) p q → Connected Side Y (point p) (point q)
path_of_points Y (Connected.here y) = Connected.here y
path_of_points Y (Connected.onward {p = p} {q = q} y b c) = Connected.onward y (beside_side p q b) (path_of_points Y c)

-- each point of the set is flat
module _ (Y : Point → Type 0) (flat : (p : Point) → Y p → length p ≡ 2) where
  there : (p : Point) → Y p → Y (point (place_of p))
  there p y = subst Y (sym (point_of_place p (flat p y))) y

  pub path_of_places : {p q : Point} → Connected Side Y p q → Connected Beside (λ (r : Place). Y (point r)) (place_of p) (place_of q)
  path_of_places (Connected.here {p = p} y) = Connected.here (there p y)
  path_of_places (Connected.onward {p = p} {q = q} y b c) =
      Connected.onward (there p y) (side_beside (place_of p) (place_of q) (side_there p q (flat p y) (sym b.0 ∙ flat p y) b)) (path_of_places c)
    where
      side_there : (p q : Point) → length p ≡ 2 → length q ≡ 2 → Side p q → Side (point (place_of p)) (point (place_of q))
      side_there p q k l s = subst (λ (r : Point). Side r (point (place_of q))) (sym (point_of_place p k))
          (subst (λ (r : Point). Side p r) (sym (point_of_place q l)) s)

  pub close_path : {p q : Point} → Connected Near Y p q → Connected Close (λ (r : Place). Y (point r)) (place_of p) (place_of q)
  close_path (Connected.here {p = p} y) = Connected.here (there p y)
  close_path (Connected.onward {p = p} {q = q} y b c) =
      Connected.onward (there p y) (near_close (place_of p) (place_of q) (near_there p q (flat p y) (ends c) b)) (close_path c)
    where
      ends : {q r : Point} → Connected Near Y q r → length q ≡ 2
      ends (Connected.here {p = q} y) = flat q y
      ends (Connected.onward {p = q} y b c) = flat q y

      near_there : (p q : Point) → length p ≡ 2 → length q ≡ 2 → Near p q → Near (point (place_of p)) (point (place_of q))
      near_there p q k l s = subst (λ (r : Point). Near r (point (place_of q))) (sym (point_of_place p k))
          (subst (λ (r : Point). Near p r) (sym (point_of_place q l)) s)
