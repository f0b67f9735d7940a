-- Squares of large numbers, by products of a difference and a sum.
-- Naturals alone.
use Rattle.std.proofs.Common.{◌≡◌, ℕ, ◌+◌, ◌-◌, ◌*◌, ◌<◌, ◌≤◌, subst, arith}

square_parts : (b d : ℕ) → d * (b + (b + d)) + b * b ≡ (b + d) * (b + d)
square_parts b d = omega arith

-- a difference of squares
pub squares_apart : (b c : ℕ) → b ≤ c → (c - b) * (b + c) + b * b ≡ c * c
squares_apart b c l =
    let e : b + (c - b) ≡ c = omega (arith, l) in
    subst (λ m. (c - b) * (b + m) + b * b ≡ m * m) e (square_parts b (c - b))

pub less_of_apart : (p q b c : ℕ) → q + b ≡ c → (p < q → p + b < c) × (p + b < c → p < q)
less_of_apart p q b c e = ((λ l. omega (arith, e, l)), λ l. omega (arith, e, l))

pub more_of_apart : (p q b c : ℕ) → q + b ≡ c → (q < p → c < p + b) × (c < p + b → q < p)
more_of_apart p q b c e = ((λ l. omega (arith, e, l)), λ l. omega (arith, e, l))

pub scaled_squares : (a b : ℕ) → (8000000 * a) * (8000000 * a) + (8000000 * b) * (8000000 * b) ≡ 64000000000000 * (a * a + b * b)
scaled_squares a b = omega arith
