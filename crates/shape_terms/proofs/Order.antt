-- Products and the order of whole numbers.
-- Plain variables alone stand here.
use Rattle.std.proofs.Common.{arith}
use Rattle.std.proofs.Math.IntN.{ℤ, pos, negsuc, ◌-ℤ◌, ◌*ℤ◌}
use lib.Signed.{◌<ℤ◌, ◌≤ℤ◌}
use Rattle.std.proofs.lemmas.Int.{ints, by_lt_z}
use Rattle.shape_terms.proofs.Products.{rings}

pub mul-nonneg : (a b : ℤ) → pos 0 ≤ℤ a → pos 0 ≤ℤ b → pos 0 ≤ℤ (a *ℤ b)
mul-nonneg (pos a) (pos b) h k = omega (arith, ints)
mul-nonneg (pos a) (negsuc b) h k = absurd (omega (arith, ints))
mul-nonneg (negsuc a) b h k = absurd (omega (arith, ints))

-- w ≥ 0, x ≤ y
pub mul-le_ℤ : (w x y : ℤ) → pos 0 ≤ℤ w → x ≤ℤ y → (w *ℤ x) ≤ℤ (w *ℤ y)
mul-le_ℤ w x y h k = let e : pos 0 ≤ℤ (w *ℤ (y -ℤ x)) = mul-nonneg w (y -ℤ x) h (omega (arith, ints)) in omega (arith, ints, rings)

-- w ≥ 1, x < y
pub mul-lt_ℤ : (w x y : ℤ) → pos 0 <ℤ w → x <ℤ y → (w *ℤ x) <ℤ (w *ℤ y)
mul-lt_ℤ w x y h k =
    let e : pos 0 ≤ℤ ((w -ℤ pos 1) *ℤ (y -ℤ x)) = mul-nonneg (w -ℤ pos 1) (y -ℤ x) (omega (arith, ints)) (omega (arith, ints)) in
    omega (arith, ints, rings)

-- a factor w ≥ 1 goes
pub cancel-le_ℤ : (w x y : ℤ) → pos 0 <ℤ w → (w *ℤ x) ≤ℤ (w *ℤ y) → x ≤ℤ y
cancel-le_ℤ w x y h k = by_lt_z y x (λ l. let e = mul-lt_ℤ w y x h l in omega (arith, ints, e)) (λ l. l)

pub cancel-lt_ℤ : (w x y : ℤ) → pos 0 <ℤ w → (w *ℤ x) <ℤ (w *ℤ y) → x <ℤ y
cancel-lt_ℤ w x y h k = by_lt_z x y (λ l. l) (λ l. let e = mul-le_ℤ w y x (omega (arith, ints)) l in omega (arith, ints, e))
