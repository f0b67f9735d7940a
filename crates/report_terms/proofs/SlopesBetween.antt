-- Between two slopes with one denominator lies a slope with the denominator before it, and what holds of both holds of that one.
-- Plain variables alone stand here.
use Rattle.std.proofs.Common.{◌≡◌, ◌⊎◌, inl, inr, sym, subst, arith}
use Rattle.std.proofs.Math.IntN.{ℤ, pos, negsuc, ◌+ℤ◌, ◌*ℤ◌, neg_ℤ}
use lib.Signed.{◌<ℤ◌, ◌≤ℤ◌}
use Rattle.std.proofs.lemmas.Int.{ints, by_lt_z}
use Rattle.shape_terms.proofs.Products.{rings}
use Rattle.shape_terms.proofs.Order.{mul-le_ℤ, cancel-lt_ℤ}
use Rattle.shape_terms.proofs.Triples.{rings3}

-- k/g lies between c/(g + 1) and e/(g + 1), and is a slope from -1 to 1
pub record IsBetween (c e g k : ℤ) : Type 0 where
  pub low : neg_ℤ g ≤ℤ k
  pub high : k ≤ℤ g
  pub above : (g *ℤ c) ≤ℤ (k *ℤ g +ℤ k)
  pub below : (k *ℤ g +ℤ k) ≤ℤ (g *ℤ e)

rising : (c e g : ℤ) → pos 0 ≤ℤ c → c <ℤ e → e ≤ℤ (g +ℤ pos 1) → pos 1 ≤ℤ g → IsBetween c e g c
rising c e g h k l some =
    let m = mul-le_ℤ g (c +ℤ pos 1) e (omega (arith, ints, some)) (omega (arith, ints, k)) in
    record {
      low = omega (arith, ints, h, some);
      high = omega (arith, ints, k, l);
      above = omega (arith, ints, rings, h);
      below =
          omega (arith, ints, rings, m, k, l);
    }

falling : (c e g : ℤ) → c <ℤ pos 0 → c <ℤ e → neg_ℤ (g +ℤ pos 1) ≤ℤ c → pos 1 ≤ℤ g → IsBetween c e g (c +ℤ pos 1)
falling c e g h k l some =
    let m = mul-le_ℤ g (c +ℤ pos 1) e (omega (arith, ints, some)) (omega (arith, ints, k)) in
    record {
      low = omega (arith, ints, l);
      high = omega (arith, ints, h, some);
      above = omega (arith, ints, rings, l);
      below =
          omega (arith, ints, rings, m, h);
    }

-- there is one
pub some_between : (c e g : ℤ) → c <ℤ e → neg_ℤ (g +ℤ pos 1) ≤ℤ c → e ≤ℤ (g +ℤ pos 1) → pos 1 ≤ℤ g → (k : ℤ) × IsBetween c e g k
some_between c e g less low high some = by_lt_z c (pos 0) (λ (h : c <ℤ pos 0). (c +ℤ pos 1, falling c e g h less low some))
    (λ (h : pos 0 ≤ℤ c). (c, rising c e g h less high some))

-- the one product is at most the other, one factor more
scaled : (k e g s d : ℤ) → (s *ℤ (k *ℤ g +ℤ k)) ≤ℤ (s *ℤ (g *ℤ e)) → (g *ℤ (e *ℤ s +ℤ (g +ℤ pos 1) *ℤ d)) ≤ℤ (g *ℤ g) → pos 1 ≤ℤ g
    → ((g +ℤ pos 1) *ℤ (k *ℤ s +ℤ g *ℤ d)) <ℤ ((g +ℤ pos 1) *ℤ g)
scaled k e g s d m n some = omega (arith, ints, rings3, m, n, some)

-- what a pair of places asks of both slopes, it asks of the one between
pub asks_between : (c e g k s d : ℤ) → pos 1 ≤ℤ g → IsBetween c e g k → (c *ℤ s +ℤ (g +ℤ pos 1) *ℤ d) <ℤ (g +ℤ pos 1)
    → (e *ℤ s +ℤ (g +ℤ pos 1) *ℤ d) <ℤ (g +ℤ pos 1) → (k *ℤ s +ℤ g *ℤ d) <ℤ g
asks_between c e g k s d some is first second = by_lt_z s (pos 0)
    (λ (l : s <ℤ pos 0).
    let a = is.above in
    let m = mul-le_ℤ (neg_ℤ s) (g *ℤ c) (k *ℤ g +ℤ k) (omega (arith, ints, l)) a in
    let n = mul-le_ℤ g (c *ℤ s +ℤ (g +ℤ pos 1) *ℤ d) g (omega (arith, ints, some)) (omega (arith, ints, first)) in
    cancel-lt_ℤ (g +ℤ pos 1) (k *ℤ s +ℤ g *ℤ d) g (omega (arith, ints, some)) (scaled k c g s d (turned s (g *ℤ c) (k *ℤ g +ℤ k) m) n some))
    (λ (l : pos 0 ≤ℤ s).
    let m = mul-le_ℤ s (k *ℤ g +ℤ k) (g *ℤ e) l is.below in
    let n = mul-le_ℤ g (e *ℤ s +ℤ (g +ℤ pos 1) *ℤ d) g (omega (arith, ints, some)) (omega (arith, ints, second)) in
    cancel-lt_ℤ (g +ℤ pos 1) (k *ℤ s +ℤ g *ℤ d) g (omega (arith, ints, some)) (scaled k e g s d m n some))
  where
    turned : (s x y : ℤ) → (neg_ℤ s *ℤ x) ≤ℤ (neg_ℤ s *ℤ y) → (s *ℤ y) ≤ℤ (s *ℤ x)
    turned s x y h = omega (arith, ints, rings, h)

-- ---- steps of 1 or -1

-- where a slope with the denominator 1 follows such a step, it is told by the step
pub slope_up : (c s d : ℤ) → s ≡ pos 1 → (c *ℤ s +ℤ pos 1 *ℤ d) <ℤ pos 1 → neg_ℤ (pos 1) <ℤ (c *ℤ s +ℤ pos 1 *ℤ d) → c ≡ neg_ℤ d
slope_up c s d e h k = by (subst (λ (z : ℤ). (c *ℤ z +ℤ pos 1 *ℤ d) <ℤ pos 1) e h) (subst (λ (z : ℤ). neg_ℤ (pos 1) <ℤ (c *ℤ z +ℤ pos 1 *ℤ d)) e k)
  where
    by : (c *ℤ pos 1 +ℤ pos 1 *ℤ d) <ℤ pos 1 → neg_ℤ (pos 1) <ℤ (c *ℤ pos 1 +ℤ pos 1 *ℤ d) → c ≡ neg_ℤ d
    by h k = omega (arith, ints, rings, h, k)

pub slope_down : (c s d : ℤ) → s ≡ negsuc 0 → (c *ℤ s +ℤ pos 1 *ℤ d) <ℤ pos 1 → neg_ℤ (pos 1) <ℤ (c *ℤ s +ℤ pos 1 *ℤ d) → c ≡ d
slope_down c s d e h k = by (subst (λ (z : ℤ). (c *ℤ z +ℤ pos 1 *ℤ d) <ℤ pos 1) e h) (subst (λ (z : ℤ). neg_ℤ (pos 1) <ℤ (c *ℤ z +ℤ pos 1 *ℤ d)) e k)
  where
    by : (c *ℤ negsuc 0 +ℤ pos 1 *ℤ d) <ℤ pos 1 → neg_ℤ (pos 1) <ℤ (c *ℤ negsuc 0 +ℤ pos 1 *ℤ d) → c ≡ d
    by h k = omega (arith, ints, rings, h, k)

-- a step of 1 or -1 along which a slope c/b of the one axis and one a/q of the other axis go, both by less than their denominators: it is a diagonal one, told
-- by the sign of a
pub record Goes (c b a q s d : ℤ) : Type 0 where
  pub low : neg_ℤ b ≤ℤ c
  pub high : c ≤ℤ b
  pub some : pos 1 ≤ℤ b
  pub above : (c *ℤ s +ℤ b *ℤ d) <ℤ b
  pub below : neg_ℤ b <ℤ (c *ℤ s +ℤ b *ℤ d)
  pub over : (a *ℤ d +ℤ q *ℤ s) <ℤ q
  pub under : neg_ℤ q <ℤ (a *ℤ d +ℤ q *ℤ s)

-- the other coordinate changes by at most 1
small : (c b d : ℤ) → neg_ℤ b ≤ℤ c → c ≤ℤ b → pos 1 ≤ℤ b → (c +ℤ b *ℤ d) <ℤ b → neg_ℤ b <ℤ (c +ℤ b *ℤ d) → (d ≤ℤ pos 1) × (negsuc 0 ≤ℤ d)
small c b d low high some above below =
    let x = cancel-lt_ℤ b d (pos 2) (omega (arith, ints, some)) (omega (arith, ints, rings, above, low)) in
    let y = cancel-lt_ℤ b (negsuc 1) d (omega (arith, ints, some)) (omega (arith, ints, rings, below, high)) in
    (omega (arith, ints, x), omega (arith, ints, y))

up_step : (c b a q d : ℤ) → Goes c b a q (pos 1) d → (pos 0 <ℤ a → pos 1 *ℤ pos 1 +ℤ pos 1 *ℤ d ≡ pos 0)
    × (a ≤ℤ pos 0 → negsuc 0 *ℤ pos 1 +ℤ pos 1 *ℤ d ≡ pos 0)
up_step c b a q d g =
    let m = small c b d g.low g.high g.some (let h = g.above in omega (arith, ints, rings, h)) (let h = g.below in omega (arith, ints, rings, h)) in
    let o = g.over in
    let neg : (a *ℤ d) <ℤ pos 0 = omega (arith, ints, rings, o) in (
      λ p. (let n = cancel-lt_ℤ a d (pos 0) p (omega (arith, ints, rings, neg)) in omega (arith, ints, rings, n, m)),
      λ p. by_lt_z a (pos 0)
          (λ (l : a <ℤ pos 0). (let n = cancel-lt_ℤ (neg_ℤ a) (pos 0) d (omega (arith, ints, l)) (omega (arith, ints, rings, neg)) in
          omega (arith, ints, rings, n, m)))
          (λ (l : pos 0 ≤ℤ a). absurd (none a d (omega (arith, ints, p, l)) neg)),
    )
  where
    none : (a d : ℤ) → a ≡ pos 0 → (a *ℤ d) <ℤ pos 0 → ⊥
    none a d e h = let k = subst (λ (z : ℤ). (z *ℤ d) <ℤ pos 0) e h in omega (arith, ints, k)

-- the same the other way
turned : (c b a q d : ℤ) → Goes c b a q (negsuc 0) d → Goes c b a q (pos 1) (neg_ℤ d)
turned c b a q d g = record {
  low = g.low;
  high = g.high;
  some = g.some;
  above = (let h = g.below in omega (arith, ints, rings, h));
  below = (let h = g.above in omega (arith, ints, rings, h));
  over = (let h = g.under in omega (arith, ints, rings, h));
  under = (let h = g.over in omega (arith, ints, rings, h));
}

down_step : (c b a q d : ℤ) → Goes c b a q (negsuc 0) d → (pos 0 <ℤ a → pos 1 *ℤ negsuc 0 +ℤ pos 1 *ℤ d ≡ pos 0)
    × (a ≤ℤ pos 0 → negsuc 0 *ℤ negsuc 0 +ℤ pos 1 *ℤ d ≡ pos 0)
down_step c b a q d g =
    let h = up_step c b a q (neg_ℤ d) (turned c b a q d g) in
    (λ p. (let e = h.0 p in omega (arith, ints, rings, e)), λ p. (let e = h.1 p in omega (arith, ints, rings, e)))

pub diagonal : (c b a q s d : ℤ) → (s ≡ pos 1) ⊎ (s ≡ negsuc 0) → Goes c b a q s d → (pos 0 <ℤ a → pos 1 *ℤ s +ℤ pos 1 *ℤ d ≡ pos 0)
    × (a ≤ℤ pos 0 → negsuc 0 *ℤ s +ℤ pos 1 *ℤ d ≡ pos 0)
diagonal c b a q s d (inl e) g = subst (λ (z : ℤ). (pos 0 <ℤ a → pos 1 *ℤ z +ℤ pos 1 *ℤ d ≡ pos 0) × (a ≤ℤ pos 0 → negsuc 0 *ℤ z +ℤ pos 1 *ℤ d ≡ pos 0)) (sym e)
    (up_step c b a q d (subst (λ (z : ℤ). Goes c b a q z d) e g))
diagonal c b a q s d (inr e) g = subst (λ (z : ℤ). (pos 0 <ℤ a → pos 1 *ℤ z +ℤ pos 1 *ℤ d ≡ pos 0) × (a ≤ℤ pos 0 → negsuc 0 *ℤ z +ℤ pos 1 *ℤ d ≡ pos 0)) (sym e)
    (down_step c b a q d (subst (λ (z : ℤ). Goes c b a q z d) e g))
