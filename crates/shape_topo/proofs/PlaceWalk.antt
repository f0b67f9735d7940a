-- The places of a set that are visited one after the other, from the least on, and what is left of the set meanwhile.
-- Laws over numbers alone.
use Rattle.std.proofs.Common.{◌≡◌, ℕ, zero, suc, ◌+◌, ◌-◌, ◌*◌, ◌%◌, ◌^◌, ◌<◌, ◌≤◌, refl, ap, sym, ◌∙◌, subst, arith, w32}
use Rattle.std.specs.Int.{bit_at, bit_not}
use Rattle.std.specs.Int.Bits.{bit_and}
use Rattle.std.specs.Int.Count.{count_trailing_zeros}
use Rattle.std.proofs.lemmas.Nat.Bits.{bit_at_above, bit_at-trailing_zeros, bit_at_clear_same, bit_at_clear_other}
use Rattle.std.proofs.lemmas.Nat.{and_le_l}
use native.Mathlib.Decide.{dec_lt, ℕ_discrete}
use Rattle.shape_adj.specs.NearMasks.{In}

-- rest has the places of the set m from a place on, and no others
pub record IsRest (m from rest : ℕ) : Type 0 where
  pub same : (j : ℕ) → from ≤ j → bit_at rest j ≡ bit_at m j
  pub done : (j : ℕ) → j < from → bit_at rest j ≡ 0

pub rest_start : (m : ℕ) → IsRest m 0 m
rest_start m = record { same = λ j l. refl; done = λ j l. absurd (omega arith) }

-- no place of the set is left
pub rest_end : (m from : ℕ) → IsRest m from 0 → (j : ℕ) → from ≤ j → In m j → ⊥
rest_end m from h j l i = let s = h.same j l in let z : bit_at 0 j ≡ 0 = omega arith in omega arith

module _ (m from rest : ℕ) (h : IsRest m from rest) (small : rest < 2 ^ 32) (more : 0 < rest) where
  first : (count_trailing_zeros 32 rest < 32) × In rest (count_trailing_zeros 32 rest) × ((i : ℕ) → i < count_trailing_zeros 32 rest → bit_at rest i ≡ 0)
  first = bit_at-trailing_zeros w32 rest more small

  pub place_low : count_trailing_zeros 32 rest < 32
  place_low = first.0

  pub place_from : from ≤ count_trailing_zeros 32 rest
  place_from = elim (dec_lt (count_trailing_zeros 32 rest) from) [
    | yes l ↦ absurd (let z = h.done (count_trailing_zeros 32 rest) l in let o = first.1 in omega arith)
    | no l ↦ omega arith
  ]

  -- the least place of the rest is one of the set
  pub place_in : In m (count_trailing_zeros 32 rest)
  place_in = sym (h.same (count_trailing_zeros 32 rest) place_from) ∙ first.1

  -- and the next of it
  pub place_next : (j : ℕ) → from ≤ j → j < count_trailing_zeros 32 rest → In m j → ⊥
  place_next j l b i = let s = h.same j l in let z = first.2 j b in omega arith

  pub rest_less : bit_and rest (bit_not w32 (1 * 2 ^ count_trailing_zeros 32 rest % 2 ^ 32)) < rest
  rest_less =
      let a = and_le_l rest (bit_not w32 (1 * 2 ^ count_trailing_zeros 32 rest % 2 ^ 32)) in
      let c = bit_at_clear_same w32 rest (count_trailing_zeros 32 rest) first.0 in
      elim (ℕ_discrete (bit_and rest (bit_not w32 (1 * 2 ^ count_trailing_zeros 32 rest % 2 ^ 32))) rest) [
        | yes e ↦ absurd (let z = sym (ap (λ x. bit_at x (count_trailing_zeros 32 rest)) e) ∙ c in let o = first.1 in omega arith)
        | no n ↦ omega arith
      ]

  -- the rest without its least place
  pub rest_more : IsRest m (count_trailing_zeros 32 rest + 1) (bit_and rest (bit_not w32 (1 * 2 ^ count_trailing_zeros 32 rest % 2 ^ 32)))
  rest_more = record {
    same = λ j l. elim (dec_lt j 32) [
      | yes b ↦ bit_at_clear_other w32 rest (count_trailing_zeros 32 rest) first.0 j b (λ e. omega arith) ∙ h.same j (let f = place_from in omega arith)
      | no b ↦ (
          let f = place_from in
          let a = rest_less in
          let x = bit_at_above (bit_and rest (bit_not w32 (1 * 2 ^ count_trailing_zeros 32 rest % 2 ^ 32))) 32 j (omega arith) (omega arith) in
          let y = bit_at_above rest 32 j small (omega arith) in
          x ∙ sym y ∙ h.same j (omega arith))
    ];
    done = λ j l. elim (ℕ_discrete j (count_trailing_zeros 32 rest)) [
      | yes e ↦ subst (λ i. bit_at (bit_and rest (bit_not w32 (1 * 2 ^ count_trailing_zeros 32 rest % 2 ^ 32))) i ≡ 0) (sym e)
          (bit_at_clear_same w32 rest (count_trailing_zeros 32 rest) first.0)
      | no n ↦ (let f = first.0 in bit_at_clear_other w32 rest (count_trailing_zeros 32 rest) first.0 j (omega arith) n ∙ first.2 j (omega arith))
    ];
  }

walk : (A : ℕ → Type 0) (from n : ℕ) → ((j : ℕ) → from ≤ j → j < from + n → A j → A (j + 1)) → A from → A (from + n)
walk A from zero step a = subst A (let e : from ≡ from + 0 = omega arith in e) a
walk A from (suc n) step a = subst A (let e : from + n + 1 ≡ from + suc n = omega arith in e)
    (step (from + n) (omega arith) (omega arith) (walk A from n (λ j l b. step j l (omega arith)) a))

-- what each place hands on to the next comes to a later one
pub walk_to : (A : ℕ → Type 0) (from to : ℕ) → from ≤ to → ((j : ℕ) → from ≤ j → j < to → A j → A (j + 1)) → A from → A to
walk_to A from to l step a = subst A (let e : from + (to - from) ≡ to = omega arith in e) (walk A from (to - from) (λ j x y. step j x (omega arith)) a)
