-- The quotient by a root that a definition searches for: it is the one number that is rounded down, and whole roots give it.
-- Numbers alone.
use Rattle.std.proofs.Common.{◌≡◌, ◌⊎◌, inl, inr, ◌+◌, ◌*◌, ◌/◌, ◌<◌, ◌≤◌, ℕ, zero, suc, Bool, true, false, refl, sym, subst, ap, ◌∙◌, arith}
use Rattle.std.specs.Prelude.{Some, None}
use Rattle.std.specs.List.{range_with_len, find}
use Rattle.std.specs.Option.{unwrap_or}
use Rattle.std.proofs.lemmas.Bool.{cond-true, cond-false, cases_Bool, cases_lt}
use Rattle.std.proofs.lemmas.Bool.Decides.{nat_tests}
use Rattle.std.proofs.Math.Nat.{mul-le-mul_left, mul-div-le, lt-mul-div-succ}
use Rattle.std.proofs.lemmas.Nat.{mul-le}
use Rattle.shape_terms.proofs.FirstNumbers.{first_found}
use Rattle.measure_terms.specs.Quotients.{is_last, IsRootQuotient, root_quotient}

-- a number whose square is no greater than another's is no greater
below_square : (a b : ℕ) → a * a ≤ b * b → a ≤ b
below_square a b h = elim (cases_lt b a) [
  | inr l ↦ l
  | inl g ↦ (let k : (b + 1) * (b + 1) ≤ a * a = mul-le (b + 1) (b + 1) a a (omega arith) (omega arith) in absurd (omega (arith, h, k)))
]

-- no quotient by the root of some number is greater than the number divided
no_greater : (v n q : ℕ) → IsRootQuotient v n q → q ≤ v
no_greater v zero q h = let l = h.high in absurd (omega (arith, l))
no_greater v (suc n) q h =
    let low = h.low in
    let k : (q * q) * 1 ≤ (q * q) * suc n = mul-le-mul_left (q * q) (omega arith) in
    below_square q v (omega (arith, low, k))

-- the number that is rounded down is the one that the definition finds
pub quotient_is : (v n q : ℕ) → IsRootQuotient v n q → q ≡ root_quotient v n
unfolding root_quotient
quotient_is v n q h =
    let high = h.high in
    let pass : is_last v n q ≡ true = grind (arith, nat_tests, high) in
    let few = no_greater v n q h in
    sym (ap (λ o. unwrap_or o 0) (first_found (is_last v n) 0 (v + 1) q (omega arith) (omega (arith, few)) pass (λ m _ l. fails m l)))
  where
    fails : (m : ℕ) → m < q → is_last v n m ≡ false
    fails m l =
        let low = h.low in
        let k : (n * ((m + 1) * (m + 1))) ≤ n * (q * q) = mul-le-mul_left n (mul-le (m + 1) (m + 1) q q (omega arith) (omega arith)) in
        grind (arith, nat_tests, low, k)

-- the whole root of a whole quotient of the square
pub quotient_from_whole : (v n q : ℕ) → 0 < n → q * q ≤ (v * v) / n → (v * v) / n < (q + 1) * (q + 1) → IsRootQuotient v n q
quotient_from_whole v n q some low high =
    let d = (v * v) / n in
    let down : n * d ≤ v * v = mul-div-le (v * v) n in
    let up : v * v < n * (d + 1) = lt-mul-div-succ (v * v) some in
    let a : n * (q * q) ≤ n * d = mul-le-mul_left n low in
    let b : n * (d + 1) ≤ n * ((q + 1) * (q + 1)) = mul-le-mul_left n (omega arith) in
    record { low = omega (arith, down, a); high = omega (arith, up, b) }

-- ---- that there is one

-- a test that some number of a range passes has a first one
first_exists : (p : ℕ → Bool) (a n r : ℕ) → a ≤ r → r < a + n → p r ≡ true → (q : ℕ) × (find p (range_with_len a n) ≡ Some q) × (p q ≡ true) × (a ≤ q)
    × ((m : ℕ) → a ≤ m → m < q → p m ≡ false)
first_exists p a zero r low high pass = absurd (omega arith)
first_exists p a (suc n) r low high pass = elim (cases_Bool (p a)) [
  | inl y ↦ (a, cond-true (p a) (Some a) (find p (range_with_len (a + 1) n)) y, y, omega arith, (λ m h k. absurd (omega arith)))
  | inr f ↦
      let ne : (a ≡ r) → ⊥ = (λ e. absurd (let g : true ≡ false = sym pass ∙ ap p (sym e) ∙ f in cc)) in
      let h = first_exists p (a + 1) n r (omega arith) (omega arith) pass in
      (h.0, cond-false (p a) (Some a) (find p (range_with_len (a + 1) n)) f ∙ h.1, h.2, (let l = h.3 in omega arith), below f h.0 h.4)
]
  where
    below : p a ≡ false → (q : ℕ) → ((m : ℕ) → a + 1 ≤ m → m < q → p m ≡ false) → (m : ℕ) → a ≤ m → m < q → p m ≡ false
    below f q h m l k =
        let split : (a ≡ m) ⊎ (a + 1 ≤ m) = grind arith in
        elim split [ inl e ↦ ap p (sym e) ∙ f | inr g ↦ h m g k ]

-- the number divided passes the test
divided_is_last : (v n : ℕ) → is_last v (suc n) v ≡ true
divided_is_last v n =
    let k : ((v + 1) * (v + 1)) * 1 ≤ ((v + 1) * (v + 1)) * suc n = mul-le-mul_left ((v + 1) * (v + 1)) (omega arith) in
    grind (arith, nat_tests, k)

-- the quotient that the definition finds is rounded down
pub quotient_holds : (v n : ℕ) → 0 < n → IsRootQuotient v n (root_quotient v n)
unfolding root_quotient
quotient_holds v zero some = absurd (omega arith)
quotient_holds v (suc n) some =
    let h = first_exists (is_last v (suc n)) 0 (v + 1) v (omega arith) (omega arith) (divided_is_last v n) in
    subst (IsRootQuotient v (suc n)) (sym (ap (λ o. unwrap_or o 0) h.1)) (record { low = low h.0 h.4; high = (let p = h.2 in grind (arith, nat_tests, p)) })
  where
    low : (q : ℕ) → ((m : ℕ) → 0 ≤ m → m < q → is_last v (suc n) m ≡ false) → q * q * suc n ≤ v * v
    low zero h = omega arith
    low (suc q) h =
        let f = h q (omega arith) (omega arith) in
        let e : suc q ≡ q + 1 = omega arith in
        let g : (q + 1) * (q + 1) * suc n ≤ v * v = grind (arith, nat_tests, f) in
        subst (λ k. k * k * suc n ≤ v * v) (sym e) g

-- ---- where it is 0

-- nothing is found over the root of 0
pub none_over_zero : (v : ℕ) → root_quotient v 0 ≡ 0
unfolding root_quotient
none_over_zero v = ap (λ o. unwrap_or o 0) (never 0 (v + 1))
  where
    never : (a n : ℕ) → find (is_last v 0) (range_with_len a n) ≡ None
    never a zero = refl
    never a (suc n) =
        let f : is_last v 0 a ≡ false = grind (arith, nat_tests) in
        cond-false (is_last v 0 a) (Some a) (find (is_last v 0) (range_with_len (a + 1) n)) f ∙ never (a + 1) n

-- and 0 is found of 0
pub zero_over : (n : ℕ) → root_quotient 0 n ≡ 0
zero_over zero = none_over_zero 0
zero_over (suc n) = sym (quotient_is 0 (suc n) 0 (record { low = omega arith; high = omega arith }))
