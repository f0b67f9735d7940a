-- Slopes a/b strictly between two bounds Q/E and P/D: the least b where bounds are neighbours of a slope, and a slope with b at most E + D.
-- Plain variables alone stand here.
use Rattle.std.proofs.Common.{◌≡◌, arith}
use Rattle.std.proofs.Math.IntN.{ℤ, pos, ◌+ℤ◌, ◌-ℤ◌, ◌*ℤ◌}
use lib.Signed.{◌<ℤ◌, ◌≤ℤ◌}
use Rattle.std.proofs.lemmas.Int.{ints}
use Rattle.shape_terms.proofs.Products.{rings}
use Rattle.shape_terms.proofs.Order.{mul-le_ℤ, cancel-le_ℤ, cancel-lt_ℤ}
use Rattle.shape_terms.proofs.Triples.{rings3}

-- b (P*E - Q*D) is made of what a/b falls short of the one bound and exceeds the other by
between : (P D Q E a b : ℤ) → b *ℤ (P *ℤ E -ℤ Q *ℤ D) ≡ E *ℤ (b *ℤ P -ℤ a *ℤ D) +ℤ D *ℤ (a *ℤ E -ℤ b *ℤ Q)
between P D Q E a b = omega (arith, ints, rings3)

-- a slope between the bounds leaves room between them
pub room : (P D Q E a b : ℤ) → pos 0 <ℤ b → pos 0 <ℤ D → pos 0 <ℤ E → (a *ℤ D) <ℤ (b *ℤ P) → (b *ℤ Q) <ℤ (a *ℤ E) → pos 0 <ℤ (P *ℤ E -ℤ Q *ℤ D)
room P D Q E a b hb hd he h k =
    let e = between P D Q E a b in
    let x = mul-le_ℤ E (pos 1) (b *ℤ P -ℤ a *ℤ D) (omega (arith, ints)) (omega (arith, ints)) in
    let y = mul-le_ℤ D (pos 1) (a *ℤ E -ℤ b *ℤ Q) (omega (arith, ints)) (omega (arith, ints)) in
    cancel-lt_ℤ b (pos 0) (P *ℤ E -ℤ Q *ℤ D) hb (omega (arith, ints, e, x, y, hd, he))

-- where a/b is a neighbour of both bounds, no slope between them has a smaller denominator
pub least : (P D Q E a b c d : ℤ) → pos 0 <ℤ b → pos 0 <ℤ D → pos 0 <ℤ E → b *ℤ P ≡ a *ℤ D +ℤ pos 1 → a *ℤ E ≡ b *ℤ Q +ℤ pos 1 → (c *ℤ D) <ℤ (d *ℤ P)
    → (d *ℤ Q) <ℤ (c *ℤ E) → b ≤ℤ d
least P D Q E a b c d hb hd he h k l m =
    let r = room P D Q E a b hb hd he (omega (arith, ints, h)) (omega (arith, ints, k)) in
    let x = mul-le_ℤ E (b *ℤ P -ℤ a *ℤ D) (d *ℤ P -ℤ c *ℤ D) (omega (arith, ints, he)) (omega (arith, ints, h, l)) in
    let y = mul-le_ℤ D (a *ℤ E -ℤ b *ℤ Q) (c *ℤ E -ℤ d *ℤ Q) (omega (arith, ints, hd)) (omega (arith, ints, k, m)) in
    cancel-le_ℤ (P *ℤ E -ℤ Q *ℤ D) b d r (last (P *ℤ E -ℤ Q *ℤ D) b d _ _ _ _ (between P D Q E a b) (between P D Q E c d) x y)
  where
    last : (n b d p q x y : ℤ) → b *ℤ n ≡ p +ℤ q → d *ℤ n ≡ x +ℤ y → p ≤ℤ x → q ≤ℤ y → (n *ℤ b) ≤ℤ (n *ℤ d)
    last n b d p q x y e f g h = omega (arith, ints, rings, e, f, g, h)
