-- The square root in thousandths that a definition searches for, and the one that a whole root gives.
-- Numbers alone.
use Rattle.std.proofs.Common.{◌≡◌, inl, inr, ◌+◌, ◌*◌, ◌/◌, ◌<◌, ◌≤◌, ℕ, true, subst, sym, ap, arith}
use Rattle.std.specs.Option.{unwrap_or}
use Rattle.std.proofs.lemmas.Bool.{cases_lt}
use Rattle.std.proofs.lemmas.Bool.Decides.{nat_tests}
use Rattle.std.proofs.Math.Nat.{mul-div-le, lt-mul-div-succ, mul_comm}
use Rattle.std.proofs.lemmas.Nat.{mul-le}
use Rattle.shape_terms.proofs.FirstNumbers.{first_found, at_most_square}
use Rattle.measure_terms.specs.Rounding.{is_below_half, IsRoot, root, is_quotient_below_half, IsQuotientRoot, quotient_root, IsMean, mean}

-- no root has more thousandths than the number has
small_root : (s r : ℕ) → IsRoot s r → r < 1000 * s + 1
small_root s r h = elim (cases_lt r (1000 * s + 1)) [
  | inl l ↦ l
  | inr g ↦ (
      let low = h.low (1000 * s) (omega arith) in
      let q = at_most_square s in
      absurd (omega (arith, low, q)))
]

-- the number that is the root is the one that the definition finds
pub root_is : (s r : ℕ) → IsRoot s r → r ≡ root s
unfolding root
root_is s r h =
    let high = h.high in
    let pass : is_below_half s r ≡ true = grind (arith, nat_tests, high) in
    let few = small_root s r h in
    sym (ap (λ o. unwrap_or o 0)
    (first_found (is_below_half s) 0 (1000 * s + 1) r (omega arith) (omega (arith, few)) pass
    (λ m _ l. let low = h.low m l in grind (arith, nat_tests, low))))

-- half the whole root, rounded up
pub root_from_whole : (s w r : ℕ) → w * w ≤ 4000000 * s → 4000000 * s < (w + 1) * (w + 1) → r ≡ (w + 1) / 2 → IsRoot s r
root_from_whole s w r low high e = record {
  low = λ m l. let h : (2 * m + 1) * (2 * m + 1) ≤ w * w = mul-le (2 * m + 1) (2 * m + 1) w w (omega arith) (omega arith) in omega (arith, low, h);
  high = let h : (w + 1) * (w + 1) ≤ (2 * r + 1) * (2 * r + 1) = mul-le (w + 1) (w + 1) (2 * r + 1) (2 * r + 1) (omega arith) (omega arith) in
      omega (arith, high, h);
}

-- ---- of quotients

-- no root of a quotient has more thousandths than the number has
small_quotient_root : (s t r : ℕ) → 0 < t → IsQuotientRoot s t r → r < 1000 * s + 1
small_quotient_root s t r some h = elim (cases_lt r (1000 * s + 1)) [
  | inl l ↦ l
  | inr g ↦ (
      let low = h.low (1000 * s) (omega arith) in
      let m : (2 * (1000 * s) + 1) * (2 * (1000 * s) + 1) * 1 ≤ (2 * (1000 * s) + 1) * (2 * (1000 * s) + 1) * t = mul-le _ 1 _ t (omega arith) some in
      let q = at_most_square s in
      absurd (omega (arith, low, m, q)))
]

-- the number that is the root of a quotient is the one that the definition finds
pub quotient_root_is : (s t r : ℕ) → 0 < t → IsQuotientRoot s t r → r ≡ quotient_root s t
unfolding quotient_root
quotient_root_is s t r some h =
    let high = h.high in
    let pass : is_quotient_below_half s t r ≡ true = grind (arith, nat_tests, high) in
    let few = small_quotient_root s t r some h in
    sym (ap (λ o. unwrap_or o 0)
    (first_found (is_quotient_below_half s t) 0 (1000 * s + 1) r (omega arith) (omega (arith, few)) pass
    (λ m _ l. let low = h.low m l in grind (arith, nat_tests, low))))

-- half the whole root of the quotient rounded down, rounded up
pub quotient_root_from_whole : (s t q w r : ℕ) → 0 < t → q ≡ 4000000 * s / t → w * w ≤ q → q < (w + 1) * (w + 1) → r ≡ (w + 1) / 2 → IsQuotientRoot s t r
quotient_root_from_whole s t q w r some is low high e =
    let a : t * q ≤ 4000000 * s = subst (λ z. t * z ≤ 4000000 * s) (sym is) (mul-div-le (4000000 * s) t) in
    let b : 4000000 * s < t * (q + 1) = subst (λ z. 4000000 * s < t * (z + 1)) (sym is) (lt-mul-div-succ (4000000 * s) some) in
    record {
      low = λ m l.
          let h : (2 * m + 1) * (2 * m + 1) ≤ w * w = mul-le (2 * m + 1) (2 * m + 1) w w (omega arith) (omega arith) in
          let k : (2 * m + 1) * (2 * m + 1) * t ≤ q * t = mul-le ((2 * m + 1) * (2 * m + 1)) t q t (omega (arith, h, low)) (omega arith) in
          turned ((2 * m + 1) * (2 * m + 1) * t) q t (4000000 * s) k a;
      high =
          let h : (w + 1) * (w + 1) ≤ (2 * r + 1) * (2 * r + 1) = mul-le (w + 1) (w + 1) (2 * r + 1) (2 * r + 1) (omega arith) (omega arith) in
          let k : (q + 1) * t ≤ (2 * r + 1) * (2 * r + 1) * t = mul-le (q + 1) t ((2 * r + 1) * (2 * r + 1)) t (omega (arith, h, high)) (omega arith) in
          turned' (4000000 * s) (q + 1) t ((2 * r + 1) * (2 * r + 1) * t) b k;
    }
  where
    turned : (x y z n : ℕ) → x ≤ y * z → z * y ≤ n → x ≤ n
    turned x y z n h k = (let c : y * z ≡ z * y = mul_comm y z in omega (arith, h, k, c))

    turned' : (n y z x : ℕ) → n < z * y → y * z ≤ x → n < x
    turned' n y z x h k = (let c : y * z ≡ z * y = mul_comm y z in omega (arith, h, k, c))

-- the root of a quotient by 1 is that of the number
pub root_by_one : (s r : ℕ) → IsQuotientRoot s 1 r → r ≡ root s
root_by_one s r h = root_is s r (record { low = λ m l. (let k = h.low m l in omega (arith, k)); high = (let k = h.high in omega (arith, k)) })

-- a number whose square is no greater is no greater
pub no_greater : (w a : ℕ) → w * w ≤ a * a → w ≤ a
no_greater w a l = elim (cases_lt a w) [
  | inl g ↦ (let h : (a + 1) * (a + 1) ≤ w * w = mul-le (a + 1) (a + 1) w w (omega arith) (omega arith) in absurd (omega (arith, l, h)))
  | inr k ↦ k
]

-- ---- means

-- the mean that the definition divides for is rounded to nearest
pub mean_is : (sum count : ℕ) → 0 < count → IsMean sum count (mean sum count)
mean_is sum count l = record {
  low = mul-div-le (2000 * sum + count) (2 * count);
  high = lt-mul-div-succ (2000 * sum + count) (omega arith);
}
