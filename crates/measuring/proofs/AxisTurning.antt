-- Roots in parts: what the program compares, and what is less than a number of parts and a half is less than each greater one.
-- Plain numbers alone.
use Rattle.std.proofs.Common.{◌≡◌, ◌⊎◌, inl, inr, ℕ, ◌+◌, ◌*◌, ◌^◌, ◌<◌, ◌≤◌, ◌∙◌, arith}
use Rattle.std.specs.Prelude.{ℤ, pos, ◌-ℤ◌, ◌<ℤ◌, ◌≤ℤ◌, nat_abs}
use Rattle.std.proofs.lemmas.Int.{ints, by_lt_z}
use Rattle.std.proofs.lemmas.Nat.{mul-le}
use Rattle.measure_terms.specs.Ellipse.{square}
use Rattle.measuring.specs.Turns.{most_parts, excess, IsPartBelow}

-- ---- tests

pub small_product : (a b : ℕ) → a ≤ 5000200001 → b ≤ 2 ^ 94 → a * b < 2 ^ 127
small_product a b h k = let e = mul-le a b 5000200001 (2 ^ 94) h k in omega (arith, e)

scaled_sum : (e a b : ℕ) → (e * a) * (e * a) + (e * b) * (e * b) ≡ (e * e) * (a * a + b * b)
scaled_sum e a b = omega arith

scaled_square : (a : ℕ) → (5000000000 * a) * (5000000000 * a) ≡ 25000000000000000000 * (a * a)
scaled_square a = omega arith

module _ (z p q : ℤ) (r x y c : ℕ) (ex : x ≡ nat_abs (excess r) * nat_abs p) (ey : y ≡ nat_abs (excess r) * nat_abs q) (ec : c ≡ 5000000000 * nat_abs z) where
  sum_is : x * x + y * y ≡ square (excess r) * (square p + square q)
  sum_is = (λ i. ex i * ex i + ey i * ey i) ∙ scaled_sum (nat_abs (excess r)) (nat_abs p) (nat_abs q)

  most_is : c * c ≡ 25000000000000000000 * square z
  most_is = (λ i. ec i * ec i) ∙ scaled_square (nat_abs z)

  -- where the excess is more than 0, and the number is not less
  pub more_test : pos 0 <ℤ excess r → pos 0 ≤ℤ z
      → (c * c < x * x + y * y → IsPartBelow z (square p + square q) r) × (IsPartBelow z (square p + square q) r → c * c < x * x + y * y)
  more_test some up =
      let s = sum_is in
      let m = most_is in (
        (λ l. inl (some, inr (omega (arith, s, m, l)))),
        λ h. elim h [
          | inl g ↦ elim (g.1) [ inl n ↦ absurd (omega (arith, ints, n, up)) | inr l ↦ omega (arith, s, m, l) ]
          | inr g ↦ absurd (let n = g.0 in omega (arith, ints, n, some))
        ],
      )

  -- where it is not
  pub less_test : excess r ≤ℤ pos 0 → z <ℤ pos 0
      → (x * x + y * y < c * c → IsPartBelow z (square p + square q) r) × (IsPartBelow z (square p + square q) r → x * x + y * y < c * c)
  less_test none down =
      let s = sum_is in
      let m = most_is in (
        (λ l. inr (none, down, omega (arith, s, m, l))),
        λ h. elim h [
          | inl g ↦ absurd (let n = g.0 in omega (arith, ints, n, none))
          | inr g ↦ (let l = g.2 in omega (arith, s, m, l))
        ],
      )

-- nothing is less there
pub none_below : (z : ℤ) (d r : ℕ) → excess r ≤ℤ pos 0 → pos 0 ≤ℤ z → IsPartBelow z d r → ⊥
none_below z d r none up h = elim h [
  | inl g ↦ (let n = g.0 in omega (arith, ints, n, none))
  | inr g ↦ (let n = g.1 in omega (arith, ints, n, up))
]

-- ---- more parts

excess_rises : (r s : ℕ) → r ≤ s → excess r ≤ℤ excess s
excess_rises r s l =
    let odd : (2 * r + 1) * (2 * r + 1) ≤ (2 * s + 1) * (2 * s + 1) = mul-le (2 * r + 1) (2 * r + 1) (2 * s + 1) (2 * s + 1) (omega arith) (omega arith) in
    falls_less ((2 * r + 1) * (2 * r + 1)) ((2 * s + 1) * (2 * s + 1)) odd
  where
    falls_less : (a b : ℕ) → a ≤ b → (pos a -ℤ pos 5000000000) ≤ℤ (pos b -ℤ pos 5000000000)
    falls_less a b h = omega (arith, ints)

greater_square : (j k : ℤ) (d : ℕ) → pos 0 ≤ℤ j → j ≤ℤ k → square j * d ≤ square k * d
greater_square j k d some l =
    let a : nat_abs j ≤ nat_abs k = omega (arith, ints) in
    let b = mul-le (nat_abs j) (nat_abs j) (nat_abs k) (nat_abs k) a a in
    mul-le (square j) d (square k) d b (omega arith)

lesser_square : (j k : ℤ) (d : ℕ) → k ≤ℤ pos 0 → j ≤ℤ k → square k * d ≤ square j * d
lesser_square j k d none l =
    let a : nat_abs k ≤ nat_abs j = omega (arith, ints) in
    let b = mul-le (nat_abs k) (nat_abs k) (nat_abs j) (nat_abs j) a a in
    mul-le (square k) d (square j) d b (omega arith)

module _ (z : ℤ) (d r s : ℕ) (l : r ≤ s) where
  rise : excess r ≤ℤ excess s
  rise = excess_rises r s l

  still_positive : pos 0 <ℤ excess r → pos 0 <ℤ excess s
  still_positive p = let e = rise in omega (arith, ints, e, p)

  more_rises : pos 0 <ℤ excess r → (z <ℤ pos 0) ⊎ (25000000000000000000 * square z < square (excess r) * d) → IsPartBelow z d s
  more_rises p (inl n) = inl (still_positive p, inl n)
  more_rises p (inr a) =
      let b = greater_square (excess r) (excess s) d (omega (arith, ints, p)) rise in
      inl (still_positive p, inr (omega (arith, a, b)))

  less_rises : z <ℤ pos 0 → square (excess r) * d < 25000000000000000000 * square z → IsPartBelow z d s
  less_rises n a = by_lt_z (pos 0) (excess s) (λ p. inl (p, inl n)) (λ none. (
      let b = lesser_square (excess r) (excess s) d none rise in
      inr (none, n, omega (arith, a, b))))

  pub part_rises : IsPartBelow z d r → IsPartBelow z d s
  part_rises (inl h) = more_rises h.0 h.1
  part_rises (inr h) = less_rises h.1 h.2

-- ---- all parts

less_than_all : (a d : ℕ) → 1 ≤ d → a ≤ d → 25000000000000000000 * a < 25002000020000400004 * d
less_than_all a d some l = omega arith

pub part_at_most : (z : ℤ) (d : ℕ) → 1 ≤ d → square z ≤ d → IsPartBelow z d most_parts
part_at_most z d some l = inl (omega (arith, ints), inr (at_most (square z) d some l))
  where
    at_most : (a n : ℕ) → 1 ≤ n → a ≤ n → 25000000000000000000 * a < square (excess most_parts) * n
    at_most a n s m = omega arith

-- ---- the circle

own_squares : (a b : ℕ) → 1 ≤ a → 1 ≤ a * a + b
own_squares a b h = let e = mul-le 1 1 a a h h in omega (arith, e)

pub some_square : (x y : ℤ) → ((x ≡ pos 0) × (y ≡ pos 0) → ⊥) → 1 ≤ square x + square y
some_square x y none =
    let split : (1 ≤ nat_abs x) ⊎ ((1 ≤ nat_abs y) ⊎ ((nat_abs x ≡ 0) × (nat_abs y ≡ 0))) = grind arith in
    elim split [
      | inl a ↦ own_squares (nat_abs x) (square y) a
      | inr o ↦ elim o [
        | inl b ↦ (let e = own_squares (nat_abs y) (square x) b in omega (arith, e))
        | inr e ↦ (let ex = e.0 in let ey = e.1 in absurd (none (omega (arith, ints, ex), omega (arith, ints, ey))))
      ]
    ]
