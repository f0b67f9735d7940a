-- The first number of a range that passes a test, as a search finds it, and what bounds such a search for a root.
-- Numbers alone.
use Rattle.std.proofs.Common.{◌≡◌, ◌⊎◌, inl, inr, ◌+◌, ◌*◌, ◌<◌, ◌≤◌, ℕ, zero, suc, Bool, true, false, ap, ◌∙◌, arith}
use Rattle.std.specs.Prelude.{Some}
use Rattle.std.specs.List.{range_with_len, find}
use Rattle.std.proofs.lemmas.Bool.{cond-true, cond-false}
use Rattle.std.proofs.Math.Nat.{mul-le-mul_left}

pub first_found : (p : ℕ → Bool) (a n r : ℕ) → a ≤ r → r < a + n → p r ≡ true → ((m : ℕ) → a ≤ m → m < r → p m ≡ false) → find p (range_with_len a n) ≡ Some r
first_found p a zero r low high pass fail = absurd (omega arith)
first_found p a (suc n) r low high pass fail =
    let split : (a ≡ r) ⊎ (a < r) = grind arith in
    elim split [
      | inl e ↦ cond-true (p a) (Some a) (find p (range_with_len (a + 1) n)) (ap p e ∙ pass) ∙ ap Some e
      | inr l ↦ cond-false (p a) (Some a) (find p (range_with_len (a + 1) n)) (fail a (omega arith) l)
          ∙ first_found p (a + 1) n r (omega arith) (omega arith) pass (λ m h k. fail m (omega arith) k)
    ]

pub at_most_square : (r : ℕ) → r ≤ r * r
at_most_square zero = omega arith
at_most_square (suc r) = let h : suc r * 1 ≤ suc r * suc r = mul-le-mul_left (suc r) (omega arith) in omega (arith, h)
