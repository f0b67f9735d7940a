-- The pigeonhole principle: numbers below n that are told apart by numbers below m are at most m.
-- Over functions of numbers alone.
use Rattle.std.proofs.Common.{◌≡◌, ℕ, zero, suc, ◌<◌, ◌≤◌, cond, eqb, arith}
use Rattle.std.proofs.lemmas.Bool.Decides.{nat_tests}

-- f with the value m given up for the value at n
abbrev closed : (ℕ → ℕ) → ℕ → ℕ → ℕ → ℕ
closed f n m k = cond (eqb (f k) m) (f n) (f k)

closed_below : (f : ℕ → ℕ) (n m k : ℕ) → k < n → ((i : ℕ) → i < suc n → f i < suc m) → ((i j : ℕ) → i < suc n → j < suc n → f i ≡ f j → i ≡ j)
    → closed f n m k < m
closed_below f n m k h below inj = grind (arith, nat_tests, below k, below n, inj k n)

closed_once : (f : ℕ → ℕ) (n m i j : ℕ) → i < n → j < n → ((i j : ℕ) → i < suc n → j < suc n → f i ≡ f j → i ≡ j) → closed f n m i ≡ closed f n m j → i ≡ j
closed_once f n m i j hi hj inj e = grind (arith, nat_tests, inj i n, inj j n, inj i j)

-- an injection of n numbers into m numbers
pub pigeon : (m n : ℕ) (f : ℕ → ℕ) → ((i : ℕ) → i < n → f i < m) → ((i j : ℕ) → i < n → j < n → f i ≡ f j → i ≡ j) → n ≤ m
pigeon m zero f below inj = omega arith
pigeon zero (suc n) f below inj = let h : f n < 0 = below n (omega arith) in omega arith
pigeon (suc m) (suc n) f below inj =
    let h : n ≤ m = pigeon m n (closed f n m) (λ i hi. closed_below f n m i hi below inj) (λ i j hi hj e. closed_once f n m i j hi hj inj e) in
    omega arith
