-- The whole square root that a definition searches for is the one with its two bounds.
-- Numbers alone.
use Rattle.std.proofs.Common.{◌≡◌, ◌⊎◌, inl, inr, ◌+◌, ◌*◌, ◌<◌, ◌≤◌, ℕ, zero, suc, Bool, true, false, sym, ap, ◌∙◌, arith}
use Rattle.std.specs.Prelude.{Some}
use Rattle.std.specs.List.{range_with_len, find}
use Rattle.std.specs.Option.{unwrap_or}
use Rattle.std.proofs.lemmas.Bool.{cond-true, cond-false}
use Rattle.std.proofs.lemmas.Bool.Decides.{nat_tests}
use Rattle.std.proofs.Math.Nat.{mul-le-mul_left}
use Rattle.std.proofs.lemmas.Nat.{mul-le}
use Rattle.masking.specs.Roots.{IsRoot, is_past, root}

-- the first number that passes a test
first_found : (p : ℕ → Bool) (a n r : ℕ) → a ≤ r → r < a + n → p r ≡ true → ((m : ℕ) → a ≤ m → m < r → p m ≡ false) → find p (range_with_len a n) ≡ Some r
first_found p a zero r low high pass fail = absurd (omega arith)
first_found p a (suc n) r low high pass fail =
    let split : (a ≡ r) ⊎ (a < r) = grind arith in
    elim split [
      | inl e ↦ cond-true (p a) (Some a) (find p (range_with_len (a + 1) n)) (ap p e ∙ pass) ∙ ap Some e
      | inr l ↦ cond-false (p a) (Some a) (find p (range_with_len (a + 1) n)) (fail a (omega arith) l)
          ∙ first_found p (a + 1) n r (omega arith) (omega arith) pass (λ m h k. fail m (omega arith) k)
    ]

pub at_most_square : (r : ℕ) → r ≤ r * r
at_most_square zero = omega arith
at_most_square (suc r) = let h : suc r * 1 ≤ suc r * suc r = mul-le-mul_left (suc r) (omega arith) in omega (arith, h)

pub root_is : (n r : ℕ) → IsRoot n r → r ≡ root n
unfolding root
root_is n r h =
    let high = h.high in
    let low = h.low in
    let pass : is_past n r ≡ true = grind (arith, nat_tests, high) in
    let few : r < n + 1 = omega (arith, low, at_most_square r) in
    sym (ap (λ o. unwrap_or o 0) (first_found (is_past n) 0 (n + 1) r (omega arith) (omega (arith, few)) pass (λ m _ l.
    let q : (m + 1) * (m + 1) ≤ r * r = mul-le (m + 1) (m + 1) r r (omega arith) (omega arith) in
    grind (arith, nat_tests, low, q))))
