-- Turns of steps that all go forth in raster order: left of left is left.
-- Plain numbers alone, one way or the other.
use Rattle.std.proofs.Common.{◌≡◌, ap, Bool, true, false, subst, sym, arith}
use Rattle.std.proofs.Math.IntN.{ℤ, pos, ◌*ℤ◌, neg_ℤ}
use lib.Signed.{◌<ℤ◌, ◌≤ℤ◌}
use Rattle.std.proofs.lemmas.Int.{ints, by_lt_z}
use Rattle.shape_terms.proofs.Products.{rings}
use Rattle.shape_terms.proofs.Order.{mul-nonneg, cancel-le_ℤ}
use Rattle.shape_terms.proofs.Triples.{rings3}
use Rattle.measure_terms.proofs.Turns.{det, turned}

-- the step goes forth in raster order, or stays
pub record IsForth (x y : ℤ) : Type 0 where
  pub row : pos 0 ≤ℤ y
  pub column : y ≡ pos 0 → pos 0 ≤ℤ x

-- the step goes forth
pub record IsOn (x y : ℤ) : Type 0 where
  pub row : pos 0 ≤ℤ y
  pub column : y ≡ pos 0 → pos 0 <ℤ x

-- b goes on in its row
flat : (ax ay bx by cx cy : ℤ) → IsForth ax ay → pos 0 <ℤ bx → by ≡ pos 0 → pos 0 ≤ℤ cy → pos 0 ≤ℤ det ax ay bx by → pos 0 ≤ℤ det ax ay cx cy
flat ax ay bx by cx cy a b e c h =
    let f = ap (λ (z : ℤ). ax *ℤ z) e in
    let low = a.row in
    let high : ay ≤ℤ pos 0 = cancel-le_ℤ bx ay (pos 0) b (omega (arith, ints, rings, f, h)) in
    let g : ay ≡ pos 0 = omega (arith, ints, low, high) in
    let k = mul-nonneg ax cy (a.column g) c in
    let m = ap (λ (z : ℤ). z *ℤ cx) g in
    omega (arith, ints, rings, k, m)

-- b goes on to a further row
steep : (ax ay bx by cx cy : ℤ) → pos 0 ≤ℤ ay → pos 0 <ℤ by → pos 0 ≤ℤ cy → pos 0 ≤ℤ det ax ay bx by → pos 0 ≤ℤ det bx by cx cy → pos 0 ≤ℤ det ax ay cx cy
steep ax ay bx by cx cy a b c h k =
    let m = mul-nonneg cy (det ax ay bx by) c h in
    let n = mul-nonneg ay (det bx by cx cy) a k in
    cancel-le_ℤ by (pos 0) (det ax ay cx cy) b (omega (arith, ints, rings3, m, n))

pub left_of_left : (ax ay bx by cx cy : ℤ) → IsForth ax ay → IsOn bx by → IsForth cx cy → pos 0 ≤ℤ det ax ay bx by → pos 0 ≤ℤ det bx by cx cy
    → pos 0 ≤ℤ det ax ay cx cy
left_of_left ax ay bx by cx cy a b c h k =
    by_lt_z (pos 0) by
    (λ (l : pos 0 <ℤ by). steep ax ay bx by cx cy a.row l c.row h k)
    (λ (l : by ≤ℤ pos 0). let low = b.row in let e : by ≡ pos 0 = omega (arith, ints, low, l) in flat ax ay bx by cx cy a (b.column e) e c.row h)

-- ---- one way or the other

-- the step goes forth in raster order, or stays, or all that backwards
abbrev pub StepsForth : Bool → ℤ → ℤ → Type 0
StepsForth true x y = IsForth x y
StepsForth false x y = IsForth (neg_ℤ x) (neg_ℤ y)

abbrev pub StepsOn : Bool → ℤ → ℤ → Type 0
StepsOn true x y = IsOn x y
StepsOn false x y = IsOn (neg_ℤ x) (neg_ℤ y)

pub left_of_left_either : (up : Bool) (ax ay bx by cx cy : ℤ) → StepsForth up ax ay → StepsOn up bx by → StepsForth up cx cy
    → pos 0 ≤ℤ det ax ay bx by → pos 0 ≤ℤ det bx by cx cy → pos 0 ≤ℤ det ax ay cx cy
left_of_left_either true ax ay bx by cx cy a b c h k = left_of_left ax ay bx by cx cy a b c h k
left_of_left_either false ax ay bx by cx cy a b c h k =
    subst (λ (z : ℤ). pos 0 ≤ℤ z) (turned ax ay cx cy)
    (left_of_left (neg_ℤ ax) (neg_ℤ ay) (neg_ℤ bx) (neg_ℤ by) (neg_ℤ cx) (neg_ℤ cy) a b c
    (subst (λ (z : ℤ). pos 0 ≤ℤ z) (sym (turned ax ay bx by)) h) (subst (λ (z : ℤ). pos 0 ≤ℤ z) (sym (turned bx by cx cy)) k))
