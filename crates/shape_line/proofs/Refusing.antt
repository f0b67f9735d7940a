-- Why a point is refused: two pairs of points whose bounds of the slope leave no room.
-- And how a run goes on below, and begins with two points.
use Rattle.std.proofs.Common.{◌≡◌, refl, ap, subst, arith}
use Rattle.std.proofs.Math.IntN.{ℤ, pos, ◌+ℤ◌, ◌-ℤ◌, ◌*ℤ◌, neg_ℤ, neg_ℤ-neg_ℤ}
use lib.Signed.{◌<ℤ◌, ◌≤ℤ◌}
use Rattle.std.proofs.lemmas.Int.{ints, by_lt_z}
use Rattle.shape_terms.proofs.Products.{rings}
use Rattle.shape_terms.proofs.Order.{mul-le_ℤ, mul-nonneg, cancel-le_ℤ}
use Rattle.shape_terms.proofs.Triples.{rings3}
use Rattle.shape_line.proofs.Growing.{divides, least_multiple, bezout, flip, flip_rest, flip_is, flip_taken, raises}
use Rattle.shape_line.specs.Segments.{Seg, rest, IsTaken, IsSegment, raised, lowered, paired, IsLonger}

-- ---- the point has the remainder mu + b: by the mirror

less_twice : (y z : ℤ) → neg_ℤ (neg_ℤ y -ℤ neg_ℤ z) ≡ y -ℤ z
less_twice y z = omega (arith, ints)

mirrored_mu : (my ly b lx : ℤ) → pos 1 -ℤ rest (neg_ℤ my -ℤ neg_ℤ ly) b lx (neg_ℤ ly) -ℤ b ≡ rest (my -ℤ ly) b lx ly -ℤ b +ℤ pos 1
mirrored_mu my ly b lx = omega (arith, ints, rings)

mirrored : (s : Seg) (mx my : ℤ) → flip (raised (flip s) mx (neg_ℤ my)) ≡ lowered s mx my
mirrored s mx my = λ i. record {
  a = less_twice my s.ly i;
  b = mx -ℤ s.lx;
  mu = mirrored_mu my s.ly (mx -ℤ s.lx) s.lx i;
  x0 = s.x0;
  x1 = mx;
  ux = s.vx;
  uy =
      neg_ℤ-neg_ℤ s.vy i;
  vx = s.vx;
  vy = neg_ℤ-neg_ℤ s.vy i;
  lx = s.lx;
  ly = neg_ℤ-neg_ℤ s.ly i;
  kx = mx;
  ky = neg_ℤ-neg_ℤ my i;
}

to_flip : (r : Seg) (x y : ℤ) → IsTaken r x (neg_ℤ y) → IsTaken (flip r) x y
to_flip r x y h = subst (λ (z : ℤ). IsTaken (flip r) x z) (neg_ℤ-neg_ℤ y) (flip_taken r x (neg_ℤ y) h)

pub lowers : (s : Seg) → IsSegment s → (y1 mx my : ℤ) → IsTaken s s.x1 y1 → mx ≡ s.x1 +ℤ pos 1 → y1 ≤ℤ (my +ℤ pos 1) → rest s.a s.b mx my ≡ s.mu +ℤ s.b
    → IsLonger s mx my (lowered s mx my)
lowers s is y1 mx my t next step hm =
    let e = flip_rest s.a s.b mx my in
    let f = raises (flip s) (flip_is s is) (neg_ℤ y1) mx (neg_ℤ my) (flip_taken s s.x1 y1 t) next (omega (arith, ints, step)) (omega (arith, ints, e, hm)) in
    subst (IsLonger s mx my) (mirrored s mx my) (record {
      is = flip_is (raised (flip s) mx (neg_ℤ my)) f.is;
      same_start = f.same_start;
      ends = f.ends;
      old = λ x y h. to_flip (raised (flip s) mx (neg_ℤ my)) x y (f.old x (neg_ℤ y) (flip_taken s x y h));
      new = to_flip (raised (flip s) mx (neg_ℤ my)) mx my f.new;
    })

-- ---- two points
pub pairs : (x y mx my : ℤ) → mx ≡ x +ℤ pos 1 → my ≤ℤ (y +ℤ pos 1) → y ≤ℤ (my +ℤ pos 1) → IsSegment (paired x y mx my)
pairs x y mx my next up down =
    let one : mx -ℤ x ≡ pos 1 = omega (arith, ints, next) in
    let same : rest (my -ℤ y) (mx -ℤ x) mx my ≡ rest (my -ℤ y) (mx -ℤ x) x y = leans x y mx my in
    record {
      b_pos = omega (arith, ints, one);
      a_low = omega (arith, ints, one, down);
      a_high = omega (arith, ints, one, up);
      b_short = omega (arith, ints);
      u_is = refl;
      v_is = same;
      l_is = omega (arith, ints, one);
      k_is = omega (arith, ints, one, same);
      u_from = omega (arith, ints);
      u_first = omega (arith, ints, one);
      v_to = omega (arith, ints);
      v_last = omega (arith, ints, one);
      l_from = omega (arith, ints);
      l_first = omega (arith, ints, one);
      k_to = omega (arith, ints);
      k_last = omega (arith, ints, one);
      u_k = omega (arith, ints, one);
      l_v = omega (arith, ints, one);
    }
  where
    leans : (x y mx my : ℤ) → rest (my -ℤ y) (mx -ℤ x) mx my ≡ rest (my -ℤ y) (mx -ℤ x) x y
    leans x y mx my = omega (arith, ints, rings)

-- ---- refusals: U leans above, d further a lower point, and D after the last lower one the point refused, whose remainder is mu - 1 - k

-- D is at most k * d
distance : (a b d D k p q : ℤ) → pos 0 <ℤ b → pos 0 ≤ℤ k → pos 0 ≤ℤ d → D <ℤ b → a *ℤ d +ℤ pos 1 ≡ b *ℤ p → a *ℤ D +ℤ k ≡ b *ℤ q → D ≤ℤ (k *ℤ d)
distance a b d D k p q hb hk hd small hu hr =
    by_lt_z (k *ℤ d) D
    (λ (l : (k *ℤ d) <ℤ D).
    let x : a *ℤ (D -ℤ k *ℤ d) ≡ b *ℤ (q -ℤ k *ℤ p) = first a b d D k p q hu hr in
    let y = divides a b d p (D -ℤ k *ℤ d) (q -ℤ k *ℤ p) hu x in
    let z = least_multiple b (D -ℤ k *ℤ d) (p *ℤ (D -ℤ k *ℤ d) -ℤ d *ℤ (q -ℤ k *ℤ p)) hb y (omega (arith, ints)) in
    let w = mul-nonneg k d hk hd in absurd (omega (arith, ints, z, w)))
    (λ l. l)
  where
    first : (a b d D k p q : ℤ) → a *ℤ d +ℤ pos 1 ≡ b *ℤ p → a *ℤ D +ℤ k ≡ b *ℤ q → a *ℤ (D -ℤ k *ℤ d) ≡ b *ℤ (q -ℤ k *ℤ p)
    first a b d D k p q hu hr = let x = ap (λ (z : ℤ). k *ℤ z) hu in omega (arith, ints, rings3, x, hr)

-- also where D is b
far : (a b d D k p q : ℤ) → pos 0 <ℤ b → pos 0 <ℤ k → pos 0 <ℤ d → D ≤ℤ b → a *ℤ d +ℤ pos 1 ≡ b *ℤ p → a *ℤ D +ℤ k ≡ b *ℤ q → D ≤ℤ (k *ℤ d)
far a b d D k p q hb hk hd near hu hr = by_lt_z D b
    (λ (l : D <ℤ b). distance a b d D k p q hb (omega (arith, ints, hk)) (omega (arith, ints, hd)) l hu hr)
    (λ (l : b ≤ℤ D).
    let e : D ≡ b = omega (arith, ints, l, near) in
    let m = least_multiple b k (q -ℤ a) hb (whole a b D k q e hr) hk in
    let n = mul-le_ℤ k (pos 1) d (omega (arith, ints, hk)) (omega (arith, ints, hd)) in
    omega (arith, ints, near, m, n))
  where
    whole : (a b D k q : ℤ) → D ≡ b → a *ℤ D +ℤ k ≡ b *ℤ q → k ≡ b *ℤ (q -ℤ a)
    whole a b D k q e h = let f = ap (λ (z : ℤ). a *ℤ z) e in omega (arith, ints, rings, h, f)

-- so the one bound of the slope is no less than the other
crossed : (a b d D k p q : ℤ) → pos 0 <ℤ b → D ≤ℤ (k *ℤ d) → a *ℤ d +ℤ pos 1 ≡ b *ℤ p → a *ℤ D +ℤ k ≡ b *ℤ q → (p *ℤ D) ≤ℤ (q *ℤ d)
crossed a b d D k p q hb h hu hr =
    let x = ap (λ (z : ℤ). z *ℤ D) hu in
    let y = ap (λ (z : ℤ). z *ℤ d) hr in
    cancel-le_ℤ b (p *ℤ D) (q *ℤ d) hb (omega (arith, ints, rings3, x, y, h))

clash : (a b d D k p q : ℤ) → pos 0 <ℤ b → pos 0 <ℤ k → pos 0 <ℤ d → D ≤ℤ b → a *ℤ d +ℤ pos 1 ≡ b *ℤ p → a *ℤ D +ℤ k ≡ b *ℤ q → (p *ℤ D) ≤ℤ (q *ℤ d)
clash a b d D k p q hb hk hd near hu hr = crossed a b d D k p q hb (far a b d D k p q hb hk hd near hu hr) hu hr

after : (a b r k kx ky mx my : ℤ) → rest a b kx ky ≡ r → rest a b mx my ≡ r -ℤ b -ℤ k → a *ℤ (mx -ℤ kx) +ℤ k ≡ b *ℤ ((my -ℤ ky) -ℤ pos 1)
after a b r k kx ky mx my h g = omega (arith, ints, rings, h, g)

-- the remainder is too small: the first upper leaning point with the last lower one, and that one with the point
pub clash_low : (s : Seg) → IsSegment s → (mx my : ℤ) → mx ≡ s.x1 +ℤ pos 1 → rest s.a s.b mx my <ℤ (s.mu -ℤ pos 1)
    → (((s.ky -ℤ s.uy) +ℤ pos 1) *ℤ (mx -ℤ s.kx)) ≤ℤ (((my -ℤ s.ky) -ℤ pos 1) *ℤ (s.kx -ℤ s.ux))
clash_low s is mx my next low =
    let u_k = is.u_k in
    let k_last = is.k_last in
    let k = (s.mu -ℤ pos 1) -ℤ rest s.a s.b mx my in
    clash s.a s.b (s.kx -ℤ s.ux) (mx -ℤ s.kx) k ((s.ky -ℤ s.uy) +ℤ pos 1) ((my -ℤ s.ky) -ℤ pos 1) is.b_pos (omega (arith, ints, low)) (omega (arith, ints, u_k))
    (omega (arith, ints, k_last, next))
    (bezout s.a s.b s.mu s.ux s.uy s.kx s.ky is.u_is is.k_is) (after s.a s.b (s.mu +ℤ s.b -ℤ pos 1) k s.kx s.ky mx my is.k_is (omega (arith, ints)))

turned : (a b c d e f : ℤ) → ((neg_ℤ a -ℤ neg_ℤ b +ℤ pos 1) *ℤ e) ≤ℤ ((neg_ℤ c -ℤ neg_ℤ d -ℤ pos 1) *ℤ f) → ((c -ℤ d +ℤ pos 1) *ℤ f) ≤ℤ ((a -ℤ b -ℤ pos 1) *ℤ e)
turned a b c d e f h = omega (arith, ints, rings, h)

-- too great: the first lower leaning point with the last upper one, and that one with the point
pub clash_high : (s : Seg) → IsSegment s → (mx my : ℤ) → mx ≡ s.x1 +ℤ pos 1 → (s.mu +ℤ s.b) <ℤ rest s.a s.b mx my
    → (((my -ℤ s.vy) +ℤ pos 1) *ℤ (s.vx -ℤ s.lx)) ≤ℤ (((s.vy -ℤ s.ly) -ℤ pos 1) *ℤ (mx -ℤ s.vx))
clash_high s is mx my next high =
    let e = flip_rest s.a s.b mx my in
    turned s.vy s.ly my s.vy (mx -ℤ s.vx) (s.vx -ℤ s.lx) (clash_low (flip s) (flip_is s is) mx (neg_ℤ my) next (omega (arith, ints, e, high)))
