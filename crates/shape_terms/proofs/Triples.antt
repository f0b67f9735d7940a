-- Products of three factors with sums inside, for `omega`: by `omega (arith, ints, rings3)` what follows linearly once they are multiplied out.
-- Plain variables alone stand here; products of two stand in `Products`.
use Rattle.std.proofs.Common.{◌≡◌, ℕ, ◌+◌, ◌*◌, ap, arith}
use Rattle.std.proofs.Math.IntN.{ℤ, ◌+ℤ◌, ◌*ℤ◌, neg_ℤ}
use borrow.Author.Differences.{up, down, sum_is_lem, neg_is}
use Rattle.shape_terms.proofs.Products.{dist_r, dist_l, neg_r, neg_l, thrice_l, thrice_r}

-- for sums inside products of three: the product is grouped to the right, and the sum comes out
pub group : (a b c : ℤ) → (up ((a *ℤ b) *ℤ c) ≡ up (a *ℤ (b *ℤ c))) × (down ((a *ℤ b) *ℤ c) ≡ down (a *ℤ (b *ℤ c)))
group a b c = omega (arith, thrice_l a b c, thrice_r a b c)

pub dist_rr : (a b c d : ℤ) → up (a *ℤ (b *ℤ (c +ℤ d))) + down (a *ℤ (b *ℤ c)) + down (a *ℤ (b *ℤ d)) ≡ down (a *ℤ (b *ℤ (c +ℤ d))) + up (a *ℤ (b *ℤ c))
    + up (a *ℤ (b *ℤ d))
dist_rr a b c d = omega (
  arith,
  thrice_r a b (c +ℤ d),
  thrice_r a b c,
  thrice_r a b d,
  ap (λ (w : ℕ). up a * up b * w) (sum_is_lem c d),
  ap (λ (w : ℕ). up a * down b * w) (sum_is_lem c d),
  ap (λ (w : ℕ). down a * up b * w) (sum_is_lem c d),
  ap (λ (w : ℕ). down a * down b * w) (sum_is_lem c d),
)

pub dist_rl : (a c d b : ℤ) → up (a *ℤ ((c +ℤ d) *ℤ b)) + down (a *ℤ (c *ℤ b)) + down (a *ℤ (d *ℤ b)) ≡ down (a *ℤ ((c +ℤ d) *ℤ b)) + up (a *ℤ (c *ℤ b))
    + up (a *ℤ (d *ℤ b))
dist_rl a c d b = omega (
  arith,
  thrice_r a (c +ℤ d) b,
  thrice_r a c b,
  thrice_r a d b,
  ap (λ (w : ℕ). up a * up b * w) (sum_is_lem c d),
  ap (λ (w : ℕ). up a * down b * w) (sum_is_lem c d),
  ap (λ (w : ℕ). down a * up b * w) (sum_is_lem c d),
  ap (λ (w : ℕ). down a * down b * w) (sum_is_lem c d),
)

pub neg_rr : (a b c : ℤ) → (up (a *ℤ (b *ℤ neg_ℤ c)) ≡ down (a *ℤ (b *ℤ c))) × (down (a *ℤ (b *ℤ neg_ℤ c)) ≡ up (a *ℤ (b *ℤ c)))
neg_rr a b c = omega (
  arith,
  thrice_r a b (neg_ℤ c),
  thrice_r a b c,
  ap (λ (w : ℕ). up a * up b * w) (neg_is c).0,
  ap (λ (w : ℕ). up a * down b * w) (neg_is c).0,
  ap (λ (w : ℕ). down a * up b * w) (neg_is c).0,
  ap (λ (w : ℕ). down a * down b * w) (neg_is c).0,
  ap (λ (w : ℕ). up a * up b * w) (neg_is c).1,
  ap (λ (w : ℕ). up a * down b * w) (neg_is c).1,
  ap (λ (w : ℕ). down a * up b * w) (neg_is c).1,
  ap (λ (w : ℕ). down a * down b * w) (neg_is c).1,
)

pub neg_rl : (a c b : ℤ) → (up (a *ℤ (neg_ℤ c *ℤ b)) ≡ down (a *ℤ (c *ℤ b))) × (down (a *ℤ (neg_ℤ c *ℤ b)) ≡ up (a *ℤ (c *ℤ b)))
neg_rl a c b = omega (
  arith,
  thrice_r a (neg_ℤ c) b,
  thrice_r a c b,
  ap (λ (w : ℕ). up a * up b * w) (neg_is c).0,
  ap (λ (w : ℕ). up a * down b * w) (neg_is c).0,
  ap (λ (w : ℕ). down a * up b * w) (neg_is c).0,
  ap (λ (w : ℕ). down a * down b * w) (neg_is c).0,
  ap (λ (w : ℕ). up a * up b * w) (neg_is c).1,
  ap (λ (w : ℕ). up a * down b * w) (neg_is c).1,
  ap (λ (w : ℕ). down a * up b * w) (neg_is c).1,
  ap (λ (w : ℕ). down a * down b * w) (neg_is c).1,
)

pub ruleset rings3 = (dist_r, dist_l, neg_r, neg_l, thrice_l, thrice_r, group, dist_rr, dist_rl, neg_rr, neg_rl)
