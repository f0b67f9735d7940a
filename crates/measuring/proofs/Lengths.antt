-- Every axis is less than the greatest length that is searched, and what is less than a length is less than a greater one.
-- Matrices as plain numbers.
use Rattle.std.proofs.Common.{◌≡◌, inl, inr, ℕ, ◌+◌, ◌*◌, ◌<◌, ◌≤◌, subst, ap, ◌∙◌, arith}
use Rattle.std.specs.Prelude.{ℤ, pos, ◌-ℤ◌, ◌*ℤ◌, ◌<ℤ◌, ◌≤ℤ◌, nat_abs}
use Rattle.std.proofs.lemmas.Int.{ints, unsigned_abs-mul}
use Rattle.std.proofs.lemmas.Nat.{mul-le}
use Rattle.measure_terms.specs.Ellipse.{IsMajorBelow, IsMinorBelow, IsRootBelow, room, square}
use Rattle.measure_terms.proofs.EllipseOnce.{major_rises, minor_rises}
use Rattle.measuring.specs.declared.matrix.Matrix.{Matrix}
use Rattle.measuring.specs.declared.below.Axis.{Axis}
use Rattle.measuring.specs.declared.below.Axis.TheVariants.{Major, Minor}
use Rattle.measuring.specs.MomentsFitting.{most_entry, most_axis, AreSmall}
use Rattle.measuring.specs.Matrices.{IsBelow}
use Rattle.measuring.proofs.Squares.{scaled_squares}

-- ---- tests

-- what the program compares, where the room is more than 0
pub major_test : (n r x y c : ℕ) (t p q k : ℤ) → k ≡ room n t r → pos 0 <ℤ k → x ≡ 8000000 * nat_abs p → y ≡ 8000000 * nat_abs q → c ≡ nat_abs k
    → (x * x + y * y < c * c → IsMajorBelow n t (square p + square q) r) × (IsMajorBelow n t (square p + square q) r → x * x + y * y < c * c)
major_test n r x y c t p q k e some a b s =
    let d : x * x + y * y ≡ 64000000000000 * (square p + square q) = (λ i. a i * a i + b i * b i) ∙ scaled_squares (nat_abs p) (nat_abs q) in
    let w : c * c ≡ square (room n t r) = (λ i. s i * s i) ∙ ap square e in (
      (λ l. record { positive = subst (λ z. pos 0 <ℤ z) e some; less = omega (arith, d, w, l) }),
      λ h. (let l = h.less in omega (arith, d, w, l)),
    )

-- and where it is not
pub minor_test : (n r x y c : ℕ) (t p q k : ℤ) → k ≡ room n t r → k ≤ℤ pos 0 → x ≡ 8000000 * nat_abs p → y ≡ 8000000 * nat_abs q → c ≡ nat_abs k
    → (c * c < x * x + y * y → IsMinorBelow n t (square p + square q) r) × (IsMinorBelow n t (square p + square q) r → c * c < x * x + y * y)
minor_test n r x y c t p q k e none a b s =
    let d : x * x + y * y ≡ 64000000000000 * (square p + square q) = (λ i. a i * a i + b i * b i) ∙ scaled_squares (nat_abs p) (nat_abs q) in
    let w : c * c ≡ square (room n t r) = (λ i. s i * s i) ∙ ap square e in
    let f : room n t r ≤ℤ pos 0 = subst (λ z. z ≤ℤ pos 0) e none in (
      (λ l. inr (omega (arith, d, w, l))),
      λ h. elim h [ inl o ↦ absurd (not_both (room n t r) o f) | inr l ↦ omega (arith, d, w, l) ],
    )
  where
    not_both : (z : ℤ) → pos 0 <ℤ z → z ≤ℤ pos 0 → ⊥
    not_both z o f = omega (arith, ints, o, f)

-- ---- the greatest length

much_room : (w : ℕ) (u : ℤ) → nat_abs u ≤ 16000000 * most_entry * w → pos (700000000000000000 * w) ≤ℤ (pos (864691131676360707 * w) -ℤ u)
much_room w u h = omega (arith, ints)

room_at_most : (n : ℕ) (t : ℤ) → nat_abs t ≤ 2 * most_entry * (n * n) → pos (700000000000000000 * (n * n)) ≤ℤ room n t most_axis
room_at_most n t h =
    let e = unsigned_abs-mul (pos 8000000) t in
    let m : nat_abs (pos 8000000 *ℤ t) ≤ 16000000 * most_entry * (n * n) = omega (arith, e, h) in
    let a = much_room (n * n) (pos 8000000 *ℤ t) m in
    omega (arith, ints, a)

small_square : (w : ℕ) (z : ℤ) → nat_abs z ≤ 2 * most_entry * w → square z ≤ 92160000038400000004 * (w * w)
small_square w z h = let e = mul-le (nat_abs z) (nat_abs z) (2 * most_entry * w) (2 * most_entry * w) h h in omega (arith, e)

large_square : (w : ℕ) (k : ℤ) → pos (700000000000000000 * w) ≤ℤ k → 490000000000000000000000000000000000 * (w * w) ≤ square k
large_square w k h =
    let l : 700000000000000000 * w ≤ nat_abs k = omega (arith, ints) in
    let e = mul-le (700000000000000000 * w) (700000000000000000 * w) (nat_abs k) (nat_abs k) l l in
    omega (arith, e)

less_square : (v x y k : ℕ) → 1 ≤ v → x ≤ 92160000038400000004 * v → y ≤ 92160000038400000004 * v → 490000000000000000000000000000000000 * v ≤ k
    → 64000000000000 * (x + y) < k
less_square v x y k some a b c = omega arith

root_at_most : (n : ℕ) (t x y : ℤ) → 1 ≤ n → AreSmall n t x y → IsRootBelow (64000000000000 * (square x + square y)) (room n t most_axis)
root_at_most n t x y some h =
    let w = n * n in
    let one : 1 * 1 ≤ n * n = mul-le 1 1 n n some some in
    let one_pair : 1 * 1 ≤ w * w = mul-le 1 1 w w (omega (arith, one)) (omega (arith, one)) in
    let k = room_at_most n t h.small_trace in
    record {
      positive = omega (arith, ints, k, one);
      less = less_square (w * w) (square x) (square y) (square (room n t most_axis)) (omega (arith, one_pair)) (small_square w x h.small_x)
          (small_square w y h.small_y) (large_square w (room n t most_axis) k);
    }

pub below_at_most : (axis : Axis) (a : Matrix) → 1 ≤ a.count → AreSmall a.count a.trace a.double_x a.double_y → IsBelow axis a most_axis
below_at_most Major a some h = root_at_most a.count a.trace a.double_x a.double_y some h
below_at_most Minor a some h = inl (root_at_most a.count a.trace a.double_x a.double_y some h).positive

-- ---- longer

pub below_rises : (axis : Axis) (a : Matrix) (r s : ℕ) → r ≤ s → IsBelow axis a r → IsBelow axis a s
below_rises Major a = major_rises a.count a.trace (square a.double_x + square a.double_y)
below_rises Minor a = minor_rises a.count a.trace (square a.double_x + square a.double_y)
