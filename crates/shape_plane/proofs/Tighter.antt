-- Bounds of a slope p/q by inequalities x*p + z*q < 0: the tighter of two of one sign, and a slope between two of either.
-- Plain variables alone stand here.
use Rattle.std.proofs.Common.{◌≡◌, ap, arith}
use Rattle.std.specs.Prelude.{ℤ, pos, ◌+ℤ◌, ◌*ℤ◌, ◌≤ℤ◌, ◌<ℤ◌, unsigned_abs, neg_ℤ}
use Rattle.std.proofs.lemmas.Int.{ints}
use Rattle.shape_plane.specs.Rows.{Meets}
use Rattle.shape_terms.proofs.Products.{rings}
use Rattle.shape_terms.proofs.Order.{mul-le_ℤ, mul-lt_ℤ, cancel-lt_ℤ}

-- what meets the tighter of two inequalities meets the other: u and v are the sizes of their coefficients
follows : (p q s x z y w u v : ℤ) → pos 0 <ℤ q → pos 0 <ℤ u → pos 0 <ℤ v → x ≡ s *ℤ u → y ≡ s *ℤ v → (w *ℤ u) ≤ℤ (z *ℤ v) → (x *ℤ p +ℤ z *ℤ q) <ℤ pos 0
    → (y *ℤ p +ℤ w *ℤ q) <ℤ pos 0
follows p q s x z y w u v hq hu hv ex ey h m =
    let a = mul-lt_ℤ v (x *ℤ p +ℤ z *ℤ q) (pos 0) hv m in
    let b = mul-le_ℤ q (w *ℤ u) (z *ℤ v) (omega (arith, ints, hq)) h in
    let c : u *ℤ y ≡ v *ℤ x = rw (ex, ey) (turn s u v) in
    let d = ap (λ (t : ℤ). t *ℤ p) c in
    cancel-lt_ℤ u (y *ℤ p +ℤ w *ℤ q) (pos 0) hu (omega (arith, ints, rings, a, b, d))
  where
    turn : (s u v : ℤ) → u *ℤ (s *ℤ v) ≡ v *ℤ (s *ℤ u)
    turn s u v = omega (arith, ints, rings)

pub follows_upper : (p q x z y w : ℤ) → pos 0 <ℤ q → pos 0 <ℤ x → pos 0 <ℤ y → (w *ℤ pos (unsigned_abs x)) ≤ℤ (z *ℤ pos (unsigned_abs y)) → Meets p q x z
    → Meets p q y w
follows_upper p q x z y w hq hx hy h m =
    follows p q (pos 1) x z y w (pos (unsigned_abs x)) (pos (unsigned_abs y)) hq (omega (arith, ints, hx)) (omega (arith, ints, hy)) (omega (arith, ints, hx))
    (omega (arith, ints, hy)) h m

pub follows_lower : (p q x z y w : ℤ) → pos 0 <ℤ q → x <ℤ pos 0 → y <ℤ pos 0 → (w *ℤ pos (unsigned_abs x)) ≤ℤ (z *ℤ pos (unsigned_abs y)) → Meets p q x z
    → Meets p q y w
follows_lower p q x z y w hq hx hy h m =
    follows p q (neg_ℤ (pos 1)) x z y w (pos (unsigned_abs x)) (pos (unsigned_abs y)) hq (omega (arith, ints, hx)) (omega (arith, ints, hy))
    (omega (arith, ints, rings, hx)) (omega (arith, ints, rings, hy)) h m

-- ---- a fraction between two bounds

pub meets_lower : (p q x z d : ℤ) → d ≡ neg_ℤ x → (z *ℤ q) <ℤ (p *ℤ d) → Meets p q x z
meets_lower p q x z d e h = let a = ap (λ (t : ℤ). p *ℤ t) e in omega (arith, ints, rings, a, h)

pub meets_upper : (p q x z n : ℤ) → n ≡ neg_ℤ z → (p *ℤ x) <ℤ (n *ℤ q) → Meets p q x z
meets_upper p q x z n e h = let a = ap (λ (t : ℤ). t *ℤ q) e in omega (arith, ints, rings, a, h)
