-- Two runs with the same places whose lines have one direction give each step the same lengths.
-- Which runs have one direction is told elsewhere.
use Rattle.std.proofs.Common.{◌≡◌, inl, inr, ℕ, ◌+◌, ◌*◌, ◌^◌, ◌<◌, true, ap, sym, ◌∙◌, arith, List, [], ◌∷◌, ◌++◌, length}
use Rattle.std.specs.Prelude.{ℤ, ◌-ℤ◌, ◌*ℤ◌, neg_ℤ, nat_abs, nat_le, nat_lt, ◌&&◌}
use Rattle.std.proofs.lemmas.Int.{ints}
use Rattle.std.proofs.lemmas.Bool.{cases_Bool, cond-true, cond-false, and_parts, leb-true}
use Rattle.shape_terms.specs.Points.{Point}
use Rattle.shape_terms.proofs.Products.{rings}
use Rattle.measure_terms.specs.Quotients.{root_quotient}
use Rattle.measure_terms.specs.Runs.{Run}
use Rattle.measure_terms.specs.Lengths.{Step, step_at, weight, norm, share, passes, share_at, shares_at}

-- the lines of two runs have one direction: their coefficients are equal or opposite
pub data HaveOneDirection (r q : Run) : Type 0 where
  Equal : r.a ≡ q.a → r.b ≡ q.b → HaveOneDirection r q
  Opposite : r.a ≡ neg_ℤ q.a → r.b ≡ neg_ℤ q.b → HaveOneDirection r q

turned_weight : (x y a b : ℤ) → nat_abs ((x *ℤ neg_ℤ b) -ℤ (y *ℤ neg_ℤ a)) ≡ nat_abs ((x *ℤ b) -ℤ (y *ℤ a))
turned_weight x y a b = ap nat_abs (turn x y a b) ∙ size ((x *ℤ b) -ℤ (y *ℤ a))
  where
    turn : (x y a b : ℤ) → (x *ℤ neg_ℤ b) -ℤ (y *ℤ neg_ℤ a) ≡ neg_ℤ ((x *ℤ b) -ℤ (y *ℤ a))
    turn x y a b = omega (arith, ints, rings)

    size : (z : ℤ) → nat_abs (neg_ℤ z) ≡ nat_abs z
    size z = omega (arith, ints)

turned_size : (z : ℤ) → nat_abs (neg_ℤ z) ≡ nat_abs z
turned_size z = omega (arith, ints)

same_weight : (r q : Run) (s : Step) → HaveOneDirection r q → weight r s ≡ weight q s
same_weight r q s (HaveOneDirection.Equal e f) = λ i. nat_abs ((s.x *ℤ f i) -ℤ (s.y *ℤ e i))
same_weight r q s (HaveOneDirection.Opposite e f) = (λ i. nat_abs ((s.x *ℤ f i) -ℤ (s.y *ℤ e i))) ∙ turned_weight s.x s.y q.a q.b

same_norm : (r q : Run) → HaveOneDirection r q → norm r ≡ norm q
same_norm r q (HaveOneDirection.Equal e f) = λ i. nat_abs (e i) * nat_abs (e i) + nat_abs (f i) * nat_abs (f i)
same_norm r q (HaveOneDirection.Opposite e f) =
    let a = ap nat_abs e ∙ turned_size q.a in
    let b = ap nat_abs f ∙ turned_size q.b in
    λ i. a i * a i + b i * b i

same_share : (r q : Run) (s : Step) → HaveOneDirection r q → share r s ≡ share q s
same_share r q s d =
    let w = same_weight r q s d in
    let n = same_norm r q d in
    λ i. root_quotient (w i * 10 ^ 12) (n i)

-- two runs with the same places, which have one direction where they pass a step
pub record AreAlike (r q : Run) : Type 0 where
  pub first : r.first ≡ q.first
  pub last : r.last ≡ q.last
  pub direction : r.first < r.last → HaveOneDirection r q

passed : (r : Run) (j : ℕ) → passes r j ≡ true → r.first < r.last
passed r j t =
    let p = and_parts (nat_le r.first j) (nat_lt j r.last) t in
    let a = leb-true r.first j p.0 in
    let b : j < r.last = leb-true _ _ p.1 in
    omega (arith, a, b)

same_share_at : (points : List Point) (r q : Run) (i j : ℕ) → AreAlike r q → share_at points r i j ≡ share_at points q i j
same_share_at points r q i j h =
    let same : passes r j ≡ passes q j = (let f = h.first in let l = h.last in λ k. nat_le (f k) j && nat_lt j (l k)) in
    elim (cases_Bool (passes r j)) [
      | inl t ↦ cond-true (passes r j) (share r (step_at points i) ∷ []) [] t
          ∙ ap (λ n. n ∷ []) (same_share r q (step_at points i) (h.direction (passed r j t)))
          ∙ sym (cond-true (passes q j) (share q (step_at points i) ∷ []) [] (sym same ∙ t))
      | inr f ↦ cond-false (passes r j) (share r (step_at points i) ∷ []) [] f
          ∙ sym (cond-false (passes q j) (share q (step_at points i) ∷ []) [] (sym same ∙ f))
    ]

-- such runs give each step the same lengths
pub same_shares : (points : List Point) (r q : Run) (i : ℕ) → AreAlike r q → shares_at points i r ≡ shares_at points i q
same_shares points r q i h =
    let a = same_share_at points r q i i h in
    let b = same_share_at points r q i (i + length points) h in
    λ k. a k ++ b k
