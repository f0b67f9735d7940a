-- The mediant of two fractions lies strictly between them.
-- Plain variables alone stand here.
use Rattle.std.proofs.Common.{◌≡◌, ap, arith}
use Rattle.std.proofs.Math.IntN.{ℤ, ◌+ℤ◌, ◌*ℤ◌}
use lib.Signed.{◌<ℤ◌}
use Rattle.std.proofs.lemmas.Int.{ints}
use Rattle.shape_terms.proofs.Products.{rings}

pub above : (n q p d m e : ℤ) → p ≡ n +ℤ m → q ≡ d +ℤ e → (n *ℤ e) <ℤ (m *ℤ d) → (n *ℤ q) <ℤ (p *ℤ d)
above n q p d m e h k l = let x = ap (λ (z : ℤ). n *ℤ z) k in let y = ap (λ (z : ℤ). z *ℤ d) h in omega (arith, ints, rings, x, y, l)

pub below : (p e m q n d : ℤ) → p ≡ n +ℤ m → q ≡ d +ℤ e → (n *ℤ e) <ℤ (m *ℤ d) → (p *ℤ e) <ℤ (m *ℤ q)
below p e m q n d h k l = let x = ap (λ (z : ℤ). m *ℤ z) k in let y = ap (λ (z : ℤ). z *ℤ e) h in omega (arith, ints, rings, x, y, l)
