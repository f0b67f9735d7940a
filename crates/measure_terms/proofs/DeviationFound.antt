-- The mean and the deviation that a table tells are rounded to nearest, and a whole root gives the deviation.
-- Numbers alone.
use Rattle.std.proofs.Common.{◌≡◌, inl, inr, ◌+◌, ◌*◌, ◌/◌, ◌-◌, ◌<◌, ◌≤◌, ℕ, zero, suc, Bool, true, false, refl, sym, ap, ◌∙◌, subst, arith}
use Rattle.std.specs.Prelude.{None, Some}
use Rattle.std.specs.List.{range_with_len, find}
use Rattle.std.specs.Option.{unwrap_or}
use Rattle.std.proofs.lemmas.Bool.{cases_lt, cond-false}
use Rattle.std.proofs.lemmas.Bool.Decides.{nat_tests}
use Rattle.std.proofs.Math.Nat.{mul-div-le, lt-mul-div-succ, mul-le-mul_left}
use Rattle.std.proofs.lemmas.Nat.{mul-le}
use Rattle.shape_terms.proofs.FirstNumbers.{first_found, at_most_square}
use Rattle.measure_terms.specs.ThicknessColumns.{ThicknessSum, IsMeanDiameter, mean_diameter, IsDeviation, is_deviation_below, deviation}

-- ---- means

pub mean_is : (s : ThicknessSum) → 0 < s.count → IsMeanDiameter s (mean_diameter s)
mean_is s l = record {
  low = mul-div-le (2 * s.diameters + s.count) (2 * s.count);
  high = lt-mul-div-succ (2 * s.diameters + s.count) (omega (arith, l));
}

-- ---- deviations

-- a square times the square of a count
times : (a n q : ℕ) → 0 < n → a * (n * n) ≤ 4 * (n * q) → a ≤ 4 * q
times a n q l h = elim (cases_lt (4 * q) a) [
  | inr m ↦ m
  | inl g ↦ (
      let b : suc (4 * q) * (n * n) ≤ a * (n * n) = mul-le (suc (4 * q)) (n * n) a (n * n) g (omega arith) in
      let c : q * (n * 1) ≤ q * (n * n) = mul-le-mul_left q (mul-le-mul_left n l) in
      let d : 1 * 1 ≤ n * n = mul-le 1 1 n n l l in
      absurd (omega (arith, h, b, c, d)))
]

-- no deviation is greater than the sum of squares
small : (s : ThicknessSum) (r : ℕ) → 0 < s.count → IsDeviation s r → r < s.squares + 1
small s zero l h = omega arith
small s (suc r) l h =
    let low = h.low r (omega arith) in
    let a : (2 * r + 1) * (2 * r + 1) ≤ 4 * s.squares = times ((2 * r + 1) * (2 * r + 1)) s.count s.squares l (omega (arith, low)) in
    let b = at_most_square r in
    omega (arith, a, b)

pub deviation_is : (s : ThicknessSum) (r : ℕ) → 0 < s.count → IsDeviation s r → r ≡ deviation s
unfolding deviation
deviation_is s r l h =
    let high = h.high in
    let pass : is_deviation_below s r ≡ true = grind (arith, nat_tests, high) in
    let few = small s r l h in
    sym (ap (λ o. unwrap_or o 0)
    (first_found (is_deviation_below s) 0 (s.squares + 1) r (omega arith) (omega (arith, few)) pass
    (λ m _ k. let low = h.low m k in grind (arith, nat_tests, low))))

-- half the whole root of four times the spread by the square of the count, rounded up; q is that quotient, rounded down
from_quotient : (s : ThicknessSum) (spread q w r : ℕ) → 0 < s.count → spread ≡ s.count * s.squares - s.diameters * s.diameters
    → s.count * s.count * q ≤ 4 * spread → 4 * spread < s.count * s.count * (q + 1) → w * w ≤ q → q < (w + 1) * (w + 1) → r ≡ (w + 1) / 2 → IsDeviation s r
from_quotient s spread q w r some is below above low high e = record {
  low = λ m l.
      let n = s.count in
      let a : (2 * m + 1) * (2 * m + 1) ≤ w * w = mul-le (2 * m + 1) (2 * m + 1) w w (omega arith) (omega arith) in
      let b : (2 * m + 1) * (2 * m + 1) * (n * n) ≤ q * (n * n) = mul-le ((2 * m + 1) * (2 * m + 1)) (n * n) q (n * n) (omega (arith, a, low)) (omega arith) in
      let c : 1 * 1 ≤ n * n = mul-le 1 1 n n some some in
      let d : 1 * 1 ≤ (2 * m + 1) * (2 * m + 1) = mul-le 1 1 (2 * m + 1) (2 * m + 1) (omega arith) (omega arith) in
      let f : 1 * 1 ≤ (2 * m + 1) * (2 * m + 1) * (n * n) = mul-le 1 1 ((2 * m + 1) * (2 * m + 1)) (n * n) (omega (arith, d)) (omega (arith, c)) in
      omega (arith, b, f, below, is);
  high =
      let n = s.count in
      let a : (w + 1) * (w + 1) ≤ (2 * r + 1) * (2 * r + 1) = mul-le (w + 1) (w + 1) (2 * r + 1) (2 * r + 1) (omega arith) (omega arith) in
      let b : n * n * (q + 1) ≤ n * n * ((2 * r + 1) * (2 * r + 1)) = mul-le-mul_left (n * n) (omega (arith, a, high)) in
      omega (arith, b, above, is);
}

pub from_whole : (s : ThicknessSum) (spread w r : ℕ) → 0 < s.count → spread ≡ s.count * s.squares - s.diameters * s.diameters
    → w * w ≤ 4 * spread / (s.count * s.count) → 4 * spread / (s.count * s.count) < (w + 1) * (w + 1) → r ≡ (w + 1) / 2 → IsDeviation s r
from_whole s spread w r some is low high e =
    let n = s.count in
    let c : 1 * 1 ≤ n * n = mul-le 1 1 n n some some in
    from_quotient s spread (4 * spread / (n * n)) w r some is (mul-div-le (4 * spread) (n * n)) (lt-mul-div-succ (4 * spread) (omega (arith, c))) low high e

-- a search for what no number is finds none
none_found : (p : ℕ → Bool) (a n : ℕ) → ((m : ℕ) → p m ≡ false) → find p (range_with_len a n) ≡ None
none_found p a zero fail = refl
none_found p a (suc n) fail = cond-false (p a) (Some a) (find p (range_with_len (a + 1) n)) (fail a) ∙ none_found p (a + 1) n fail

never_below : (s : ThicknessSum) (r : ℕ) → s.count ≡ 0 → s.diameters ≡ 0 → is_deviation_below s r ≡ false
never_below s r none zeros =
    let a : s.count * s.squares ≡ 0 = ap (λ n. n * s.squares) none ∙ omega arith in
    let b : (2 * r + 1) * (2 * r + 1) * (s.count * s.count) ≡ 0 = ap (λ n. (2 * r + 1) * (2 * r + 1) * (n * n)) none ∙ omega arith in
    let c : s.diameters * s.diameters ≡ 0 = ap (λ n. n * n) zeros ∙ omega arith in
    grind (arith, nat_tests, a, b, c)

-- where there is no point, the deviation is told as 0
pub no_deviation : (s : ThicknessSum) → s.count ≡ 0 → s.diameters ≡ 0 → deviation s ≡ 0
unfolding deviation
no_deviation s none zeros = ap (λ o. unwrap_or o 0) (none_found (is_deviation_below s) 0 (s.squares + 1) (λ r. never_below s r none zeros))
