-- How large angles, shares and weights are at most.
-- Numbers alone.
use Rattle.std.proofs.Common.{◌≡◌, ◌⊎◌, inl, inr, ℕ, ◌+◌, ◌*◌, ◌/◌, ◌<◌, ◌≤◌, ap, ◌∙◌, arith}
use Rattle.std.proofs.Math.Nat.{div-le_self, div-mul-le_self, div-zero, mul-le-mul, add-mul, one-mul}
use Rattle.measure_terms.specs.Rounding.{IsRoot}

-- a quotient is at most k where the number is less than k + 1 times the divisor
pub few_times : (n d k : ℕ) → n < (k + 1) * d → n / d ≤ k
few_times n d k l =
    let split : (n / d ≤ k) ⊎ (k + 1 ≤ n / d) = grind arith in
    elim split [
      | inl h ↦ h
      | inr h ↦ absurd (
          let a = div-mul-le_self n d in
          let b : (k + 1) * d ≤ n / d * d = mul-le-mul {m₁ = d} h (omega arith) in
          omega (arith, a, b, l))
    ]

pub few_angles : (m r0 r q k : ℕ) → r0 ≤ r → m < (k + 1) * r0 → m / r / q ≤ k
few_angles m r0 r q k far l =
    let a : (k + 1) * r0 ≤ (k + 1) * r = mul-le-mul {n₁ = k + 1} (omega arith) far in
    let b = few_times m r k (omega (arith, a, l)) in
    let c = div-le_self (m / r) q in
    omega (arith, b, c)

pub few_shares : (k part all : ℕ) → part ≤ all → k * part / all ≤ k
few_shares k part all within =
    let split : (all ≡ 0) ⊎ (1 ≤ all) = grind arith in
    elim split [
      | inl e ↦ (let z = ap (λ d. k * part / d) e ∙ div-zero (k * part) in omega (arith, z))
      | inr some ↦ few_times (k * part) all k (
          let a : k * part ≤ k * all = mul-le-mul {n₁ = k} (omega arith) within in
          let b : (k + 1) * all ≡ k * all + all = add-mul k 1 all ∙ ap (λ n. k * all + n) (one-mul all) in
          omega (arith, a, b, some))
    ]

-- what a step counts for, whose length is 0 or not below `least`
pub few_weights : (whole variants size least most k : ℕ) → whole ≤ most → (size ≡ 0) ⊎ (least ≤ size) → most < (k + 1) * least → whole / variants / size ≤ k
few_weights whole variants size least most k few (inl e) l = (let z = ap (λ d. whole / variants / d) e ∙ div-zero (whole / variants) in omega (arith, z))
few_weights whole variants size least most k few (inr long) l =
    let a : (k + 1) * least ≤ (k + 1) * size = mul-le-mul {n₁ = k + 1} (omega arith) long in
    let b = div-le_self whole variants in
    few_times (whole / variants) size k (omega (arith, a, b, few, l))

-- ---- roots

square_under : (n m : ℕ) → n ≤ m → n * n ≤ m * m
square_under n m l = mul-le-mul l l

-- the root of 0 is 0, and that of a great number is great
pub root_long : (n r : ℕ) → IsRoot (100000000 * n) r → (r ≡ 0) ⊎ (10000000 ≤ r)
root_long n r h =
    let split : (r ≡ 0) ⊎ (1 ≤ r) = grind arith in
    let long : (10000000 ≤ r) ⊎ (r ≤ 9999999) = grind arith in
    elim split [
      | inl e ↦ inl e
      | inr some ↦ elim long [
        | inl l ↦ inr l
        | inr few ↦ absurd (
            let low : 1 ≤ 4000000 * (100000000 * n) = h.low 0 some in
            let high = h.high in
            let a : (2 * r + 1) * (2 * r + 1) ≤ 19999999 * 19999999 = square_under (2 * r + 1) 19999999 (omega (arith, few)) in
            omega (arith, low, high, a))
      ]
    ]
