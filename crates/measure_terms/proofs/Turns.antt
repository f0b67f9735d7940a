-- Turns of corners as those of steps, and which way they change when a step is taken from another of its ends.
-- Plain numbers first; no order of corners is spoken of.
use Rattle.std.proofs.Common.{◌≡◌, arith}
use Rattle.std.proofs.Math.IntN.{ℤ, ◌-ℤ◌, ◌*ℤ◌, neg_ℤ}
use Rattle.std.proofs.lemmas.Int.{ints}
use Rattle.shape_terms.proofs.Products.{rings}
use Rattle.shape_terms.proofs.Triples.{rings3}
use Rattle.measure_terms.specs.Hulls.{Corner, turn}

-- ---- steps

-- the turn from the step a to the step b
abbrev pub det : (ax ay bx by : ℤ) → ℤ
det ax ay bx by = ax *ℤ by -ℤ ay *ℤ bx

pub turned : (ax ay bx by : ℤ) → det (neg_ℤ ax) (neg_ℤ ay) (neg_ℤ bx) (neg_ℤ by) ≡ det ax ay bx by
turned ax ay bx by = omega (arith, ints, rings)

shear : (ax ay ex ey : ℤ) → det ax ay (ex -ℤ ax) (ey -ℤ ay) ≡ det ax ay ex ey
shear ax ay ex ey = omega (arith, ints, rings)

back : (bx by cx cy : ℤ) → det (bx -ℤ cx) (by -ℤ cy) bx by ≡ det bx by cx cy
back bx by cx cy = omega (arith, ints, rings)

opposite : (ax ay cx cy : ℤ) → det cx cy (neg_ℤ ax) (neg_ℤ ay) ≡ det ax ay cx cy
opposite ax ay cx cy = omega (arith, ints, rings)

away : (ax ay ex ey : ℤ) → det ax ay (ax -ℤ ex) (ay -ℤ ey) ≡ neg_ℤ (det ax ay ex ey)
away ax ay ex ey = omega (arith, ints, rings)

pub swap : (ax ay bx by : ℤ) → det ax ay bx by ≡ neg_ℤ (det bx by ax ay)
swap ax ay bx by = omega (arith, ints, rings)

-- a turn from, or to, a difference of steps
pub less_left : (ax ay bx by cx cy : ℤ) → det (ax -ℤ bx) (ay -ℤ by) cx cy ≡ det ax ay cx cy -ℤ det bx by cx cy
less_left ax ay bx by cx cy = omega (arith, ints, rings)

pub less_right : (ax ay bx by cx cy : ℤ) → det cx cy (ax -ℤ bx) (ay -ℤ by) ≡ det cx cy ax ay -ℤ det cx cy bx by
less_right ax ay bx by cx cy = omega (arith, ints, rings)

pub between : (u t q : ℤ) → (q -ℤ u) -ℤ (t -ℤ u) ≡ q -ℤ t
between u t q = omega (arith, ints)

pub other : (p t : ℤ) → neg_ℤ (t -ℤ p) ≡ p -ℤ t
other p t = omega (arith, ints)

-- a step as the sum of shares of two others
pub share_x : (ex ey fx fy zx zy : ℤ) → det ex ey fx fy *ℤ zx ≡ det ex ey zx zy *ℤ fx -ℤ det fx fy zx zy *ℤ ex
share_x ex ey fx fy zx zy = omega (arith, ints, rings3)

pub share_y : (ex ey fx fy zx zy : ℤ) → det ex ey fx fy *ℤ zy ≡ det ex ey zx zy *ℤ fy -ℤ det fx fy zx zy *ℤ ey
share_y ex ey fx fy zx zy = omega (arith, ints, rings3)

-- ---- corners

-- a turn as that of two steps in a row
pub along : (u t q : Corner) → det (t.x -ℤ u.x) (t.y -ℤ u.y) (q.x -ℤ t.x) (q.y -ℤ t.y) ≡ turn u t q
along u t q = let e = between u.x t.x q.x in let f = between u.y t.y q.y in let g = shear (t.x -ℤ u.x) (t.y -ℤ u.y) (q.x -ℤ u.x) (q.y -ℤ u.y) in cc

-- a turn as that from the step that ends at its second corner to the first step
pub around : (u t p : Corner) → det (t.x -ℤ p.x) (t.y -ℤ p.y) (t.x -ℤ u.x) (t.y -ℤ u.y) ≡ turn u t p
around u t p = let e = between u.x p.x t.x in let f = between u.y p.y t.y in let g = back (t.x -ℤ u.x) (t.y -ℤ u.y) (p.x -ℤ u.x) (p.y -ℤ u.y) in cc

-- a turn as that from the step to its first corner
pub across : (t q p : Corner) → det (t.x -ℤ p.x) (t.y -ℤ p.y) (q.x -ℤ t.x) (q.y -ℤ t.y) ≡ turn t q p
across t q p = let e = other p.x t.x in let f = other p.y t.y in let g = opposite (t.x -ℤ p.x) (t.y -ℤ p.y) (q.x -ℤ t.x) (q.y -ℤ t.y) in cc

-- a turn as that of two steps that end at its second corner, the other way round
pub toward : (l m u : Corner) → det (m.x -ℤ l.x) (m.y -ℤ l.y) (m.x -ℤ u.x) (m.y -ℤ u.y) ≡ neg_ℤ (turn l m u)
toward l m u = let e = between l.x u.x m.x in let f = between l.y u.y m.y in let g = away (m.x -ℤ l.x) (m.y -ℤ l.y) (u.x -ℤ l.x) (u.y -ℤ l.y) in cc

-- a turn as that of two steps that end at its first corner
pub apart : (m u p : Corner) → det (m.x -ℤ u.x) (m.y -ℤ u.y) (m.x -ℤ p.x) (m.y -ℤ p.y) ≡ turn m u p
apart m u p =
    let e = other m.x u.x in let f = other m.y u.y in let g = other m.x p.x in let h = other m.y p.y in
    let t = turned (u.x -ℤ m.x) (u.y -ℤ m.y) (p.x -ℤ m.x) (p.y -ℤ m.y) in cc

-- the same triangle
pub round : (a b c : Corner) → turn a b c ≡ turn b c a
round a b c = let e = toward a b c in let f = apart b c a in let g = swap (b.x -ℤ a.x) (b.y -ℤ a.y) (b.x -ℤ c.x) (b.y -ℤ c.y) in omega (arith, ints, e, f, g)
