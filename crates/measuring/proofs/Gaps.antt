-- Squares of lengths between coordinates.
-- No site stands here.
use Rattle.std.proofs.Common.{◌≡◌, ◌⊎◌, inl, inr, ℕ, ◌+◌, ◌*◌, ◌<◌, ◌≤◌, ◌∙◌, arith}
use Rattle.std.specs.Int.{abs_diff}
use Rattle.std.proofs.Math.Nat.{mul-le-mul, mul-le-mul_left}
use Rattle.shape_terms.specs.Limits.{most_spacing}
use Rattle.measuring.specs.Sites.{squared_length}

pub square_le : (a b : ℕ) → a ≤ b → a * a ≤ b * b
square_le a b l = mul-le-mul l l

pub square_lt : (a b : ℕ) → a < b → a * a < b * b
square_lt a b l =
    let more : a + 1 ≤ b = omega arith in
    let m = square_le (a + 1) b more in
    omega (arith, m)

pub length_le : (side a b c d : ℕ) → abs_diff a b ≤ abs_diff c d → squared_length side a b ≤ squared_length side c d
length_le side a b c d l = square_le (side * abs_diff a b) (side * abs_diff c d) (mul-le-mul_left side l)

times_lt : (side a b : ℕ) → 1 ≤ side → a < b → side * a < side * b
times_lt side a b some l =
    let more : a + 1 ≤ b = omega arith in
    let m = mul-le-mul_left side more in
    omega (arith, m, some)

pub length_lt : (side a b c d : ℕ) → 1 ≤ side → abs_diff a b < abs_diff c d → squared_length side a b < squared_length side c d
length_lt side a b c d some l = square_lt (side * abs_diff a b) (side * abs_diff c d) (times_lt side (abs_diff a b) (abs_diff c d) some l)

pub length_turned : (side a b : ℕ) → squared_length side a b ≡ squared_length side b a
length_turned side a b =
    let e : abs_diff a b ≡ abs_diff b a = omega arith in
    λ i. (side * e i) * (side * e i)

-- of three numbers in order, the middle one is an end, or less far from a number than one of the ends
pub record IsLess (side l x r c : ℕ) : Type 0 where
  pub one : (x ≡ l) ⊎ (x ≡ r) ⊎ (squared_length side x c < squared_length side l c) ⊎ (squared_length side x c < squared_length side r c)

pub between : (side l x r c : ℕ) → 1 ≤ side → l ≤ x → x ≤ r → IsLess side l x r c
between side l x r c some low high =
    let split : (x ≡ l) ⊎ (x ≡ r) ⊎ (abs_diff x c < abs_diff l c) ⊎ (abs_diff x c < abs_diff r c) = grind arith in
    record {
      one = elim split [
        | inl e ↦ inl e
        | inr s ↦ elim s [
          | inl e ↦ inr (inl e)
          | inr t ↦ elim t [
            | inl m ↦ inr (inr (inl (length_lt side x c l c some m)))
            | inr m ↦ inr (inr (inr (length_lt side x c r c some m)))
          ]
        ]
      ];
    }

-- numbers between two others are no further apart
pub length_within : (side least greatest x z : ℕ) → least ≤ x → x ≤ greatest → least ≤ z → z ≤ greatest
    → squared_length side x z ≤ squared_length side least greatest
length_within side least greatest x z a b c d =
    let l : abs_diff x z ≤ abs_diff least greatest = omega arith in
    length_le side x z least greatest l

-- lengths of sides and gaps within their bounds
pub length_small : (side gap : ℕ) → side ≤ most_spacing → gap ≤ 65535 → (side * gap) * (side * gap) ≤ 4503599627370496
length_small side gap a b =
    let m : side * gap ≤ 65535000 = mul-le-mul a b in
    let n : (side * gap) * (side * gap) ≤ 4294836225000000 = mul-le-mul m m in
    omega (arith, n)

pub no_length : (side a : ℕ) → squared_length side a a ≡ 0
no_length side a =
    let e : abs_diff a a ≡ 0 = omega arith in
    (λ i. (side * e i) * (side * e i)) ∙ zero_square side
  where
    zero_square : (side : ℕ) → (side * 0) * (side * 0) ≡ 0
    zero_square side = omega arith
