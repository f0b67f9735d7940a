-- Going on by a one-to-one map of a finite set: no place comes twice before the first one comes again.
-- Over any map and any set with numbers.
use Rattle.std.proofs.Common.{◌≡◌, ℕ, zero, suc, ◌-◌, ◌<◌, ◌≤◌, arith, sym, subst}
use native.Mathlib.Decide.{dec_lt}
use Rattle.shape_terms.proofs.Turning.{iterate, Turns}
use Rattle.shape_terms.proofs.Pigeon.{pigeon}

-- a map into K that is one to one there, and numbers below N that tell the members of K apart
module _ {C : Type 0} {f : C → C} {K : C → Type 0} {code : C → ℕ} {N : ℕ} (t : Turns f K code N) where
  -- every place of a walk from K is in K
  pub orbit : (n : ℕ) (c : C) → K c → K (iterate f n c)
  orbit zero c k = k
  orbit (suc n) c k = t.stays _ (orbit n c k)

  -- where a walk meets itself, it comes back to where it began
  cancel : (i j : ℕ) (c : C) → K c → i < j → iterate f i c ≡ iterate f j c → iterate f (j - i) c ≡ c
  cancel zero j c k h e = subst (λ x. iterate f x c ≡ c) (omega arith) (sym e)
  cancel (suc i) zero c k h e = absurd (omega arith)
  cancel (suc i) (suc j) c k h e = subst (λ x. iterate f x c ≡ c) (omega arith) (cancel i j c k (omega arith) (t.one_to_one _ _ (orbit i c k) (orbit j c k) e))

  -- before the first return the places are apart
  pub distinct : (n : ℕ) (c : C) → K c → ((j : ℕ) → 1 ≤ j → j < n → iterate f j c ≡ c → ⊥) → (i j : ℕ) → j < n → i < j → iterate f i c ≡ iterate f j c → ⊥
  distinct n c k fresh i j h l e = fresh (j - i) (omega arith) (omega arith) (cancel i j c k l e)

  same_place : (n : ℕ) (c : C) → K c → ((j : ℕ) → 1 ≤ j → j < n → iterate f j c ≡ c → ⊥) → (i j : ℕ) → i < n → j < n → iterate f i c ≡ iterate f j c → i ≡ j
  same_place n c k fresh i j hi hj e = elim (dec_lt i j) [
    | yes l ↦ absurd (distinct n c k fresh i j hj l e)
    | no l ↦ elim (dec_lt j i) [
      | yes r ↦ absurd (distinct n c k fresh j i hi r (sym e))
      | no r ↦ omega arith
    ]
  ]

  -- so a walk that has not come back took at most N places
  pub walk_bound : (n : ℕ) (c : C) → K c → ((j : ℕ) → 1 ≤ j → j < n → iterate f j c ≡ c → ⊥) → n ≤ N
  walk_bound n c k fresh =
      pigeon N n (λ i. code (iterate f i c)) (λ i h. t.below _ (orbit i c k))
      (λ i j hi hj e. same_place n c k fresh i j hi hj (t.apart _ _ (orbit i c k) (orbit j c k) e))
